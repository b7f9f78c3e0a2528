-- The entry that is withdrawn at a place is cut from each table.
use Rattle.std.proofs.Common.{◌≡◌, ℕ, inr, ◌<◌, false, List, [], ◌∷◌, ◌++◌, append_assoc, Some, sym, refl, ap, ◌∙◌, subst, arith}
use Rattle.std.proofs.lemmas.List.Elements.{All-append}
use Rattle.iscc_header.specs.declared.unit.Unit64.{Unit64}
use Rattle.mih_plan.specs.Buckets.{bucket_of}
use Rattle.reg_words.specs.declared.word.SweepWord.{SweepWord}
use Rattle.reg_rule.specs.declared.told.Told.TheVariants.{Nothing}
use Rattle.reg_rule.specs.declared.view.Holding.{Holding}
use Rattle.reg_rule.specs.declared.view.View.{View}
use Rattle.reg_rule.specs.Log.{IsWd, Declares}
use Rattle.reg_rule.specs.Tables.{is_in}
use Rattle.reg_rule.specs.Conditions.{MayLoadCode}
use Rattle.reg_rule.specs.Moves.{on_holding, cut_from}
use Rattle.reg_rule.specs.Steps.{SeenFits, CodeLoaded}
use Rattle.mih_chain.specs.Linking.{MayUnlink, IsUnlinking, Unlinked}
use Rattle.reg_sweep.specs.inner.Holders.{IsExamining}
use Rattle.reg_sweep.specs.inner.Turns.{UnlinkedAll, cut_from_all}
use Rattle.reg_sweep.proofs.SeenPlaces.{wd_declares}
use Rattle.reg_sweep.proofs.Givebacks.{Notes}

module _ (place id entry : ℕ) (v : View) (ex : IsExamining place id entry v.key.sizes.callers v) (seen : SeenFits v.key v.log) where
  pub entry_inside : entry < v.key.entries
  entry_inside = seen.entries place _ ex.withdraws

  -- what is withdrawn here
  wd : IsWd v.log ex.h.place id entry
  wd = subst (λ (n : ℕ). IsWd v.log n id entry) (sym ex.at) ex.withdraws

  pub may_load_code : MayLoadCode Nothing entry v
  may_load_code = record { inside = entry_inside; by = inr (ex.h, id, ex.holding, wd); telling = tt }

  abbrev declared : (unit : Unit64) × Declares v.key.carried v.log id unit entry
  declared = wd_declares v.key v.log place id entry seen ex.withdraws

  -- its code was loaded
  module _ (code : ℕ) (w : View) (told : CodeLoaded Nothing entry v code w) where
    code_is : code ≡ declared.0.body
    code_is = told.swept ex.h id declared.0 ex.holding ex.unpaid wd declared.1

    loaded : Notes v (3 ∷ []) ex.h w
    loaded = told.view.2 ∙ (λ j. record v { holding = ex.holding j; made = v.made ++ 3 ∷ [] })

    -- tables were cut so far
    may_at : (table bits : ℕ) (x : View) (steps : List ℕ) (g : Holding) → Notes v steps g x → g.word ≡ ex.h.word → g.place ≡ ex.h.place → g.stamped ≡ ex.h.stamped → g.clear ≡ ex.h.clear → is_in table g.cut ≡ false
        → table < 4 → bits ≡ v.key.sizes.bits → MayUnlink table (bucket_of code table bits) entry x
    may_at table bits x steps g n word at stamped clear uncut low bits_is = subst (MayUnlink table (bucket_of code table bits) entry) (sym n) (
      g,
      id,
      declared.0,
      record {
        seeking = record {
          holding = refl;
          unmoved = ap (λ (s : SweepWord). s.limbo) word ∙ ex.unmoved;
          stamped = stamped ∙ ex.stamped;
          uncut = uncut;
          withdraws = subst (λ (n : ℕ). IsWd v.log n id entry) (sym at) wd;
          declares = declared.1;
        };
        table_is = low;
        scanned = clear ∙ ex.clear_is;
      },
      (λ j. bucket_of (code_is j) table (bits_is j)),
    )

    more : (x y : View) (steps : List ℕ) (g : Holding) (table : ℕ) → Notes v steps g x → (u : Unlinked table x y) → Notes v (steps ++ u.steps) (cut_from table g) y
    more x y steps g table n u = u.view ∙ (ap (λ (z : View). record z { holding = on_holding (cut_from table) z.holding; made = z.made ++ u.steps }) n ∙ (λ j. record v { holding = Some (cut_from table g); made = append_assoc v.made steps u.steps j }))

    module _ (bits : ℕ) (bits_is : bits ≡ v.key.sizes.bits) where
      pub may_first : MayUnlink 0 (bucket_of code 0 bits) entry w
      may_first = may_at 0 bits w (3 ∷ []) ex.h loaded refl refl refl refl (ap (is_in 0) ex.uncut) (omega arith) bits_is

      module _ (a : View) (first : Unlinked 0 w a) where
        once : Notes v (3 ∷ first.steps) (cut_from 0 ex.h) a
        once = more w a (3 ∷ []) ex.h 0 loaded first

        cut_once : (cut_from 0 ex.h).cut ≡ 0 ∷ []
        cut_once = ap (λ (l : List ℕ). l ++ 0 ∷ []) ex.uncut

        pub may_second : MayUnlink 1 (bucket_of code 1 bits) entry a
        may_second = may_at 1 bits a (3 ∷ first.steps) (cut_from 0 ex.h) once refl refl refl refl (ap (is_in 1) cut_once) (omega arith) bits_is

        module _ (b : View) (second : Unlinked 1 a b) where
          twice : Notes v (3 ∷ (first.steps ++ second.steps)) (cut_from 1 (cut_from 0 ex.h)) b
          twice = more a b (3 ∷ first.steps) (cut_from 0 ex.h) 1 once second

          cut_twice : (cut_from 1 (cut_from 0 ex.h)).cut ≡ 0 ∷ 1 ∷ []
          cut_twice = ap (λ (l : List ℕ). l ++ 1 ∷ []) cut_once

          pub may_third : MayUnlink 2 (bucket_of code 2 bits) entry b
          may_third = may_at 2 bits b (3 ∷ (first.steps ++ second.steps)) (cut_from 1 (cut_from 0 ex.h)) twice refl refl refl refl (ap (is_in 2) cut_twice) (omega arith) bits_is

          module _ (c : View) (third : Unlinked 2 b c) where
            thrice : Notes v (3 ∷ ((first.steps ++ second.steps) ++ third.steps)) (cut_from 2 (cut_from 1 (cut_from 0 ex.h))) c
            thrice = more b c (3 ∷ (first.steps ++ second.steps)) (cut_from 1 (cut_from 0 ex.h)) 2 twice third

            cut_thrice : (cut_from 2 (cut_from 1 (cut_from 0 ex.h))).cut ≡ 0 ∷ 1 ∷ 2 ∷ []
            cut_thrice = ap (λ (l : List ℕ). l ++ 2 ∷ []) cut_twice

            pub may_fourth : MayUnlink 3 (bucket_of code 3 bits) entry c
            may_fourth = may_at 3 bits c (3 ∷ ((first.steps ++ second.steps) ++ third.steps)) (cut_from 2 (cut_from 1 (cut_from 0 ex.h))) thrice refl refl refl refl (ap (is_in 3) cut_thrice) (omega arith) bits_is

            pub all_cut : (d : View) → Unlinked 3 c d → UnlinkedAll v d
            all_cut d fourth = record {
              steps = ((first.steps ++ second.steps) ++ third.steps) ++ fourth.steps;
              kinds = All-append IsUnlinking ((first.steps ++ second.steps) ++ third.steps) fourth.steps (All-append IsUnlinking (first.steps ++ second.steps) third.steps (All-append IsUnlinking first.steps second.steps first.kinds second.kinds) third.kinds) fourth.kinds;
              view = more c d (3 ∷ ((first.steps ++ second.steps) ++ third.steps)) (cut_from 2 (cut_from 1 (cut_from 0 ex.h))) 3 thrice fourth
                  ∙ (λ j. record v { holding = ap (on_holding cut_from_all) (sym ex.holding) j; made = v.made ++ 3 ∷ (((first.steps ++ second.steps) ++ third.steps) ++ fourth.steps) });
            }
