-- What the tests show of an entry in limbo.
use Rattle.std.proofs.Common.{◌≡◌, ℕ, zero, suc, ◌+◌, ◌^◌, ◌<◌, ◌≤◌, inl, true, false, List, [], ◌∷◌, ◌++◌, Some, refl, sym, ap, ◌∙◌, subst, arith}
use Rattle.iscc_header.specs.declared.unit.Unit64.{Unit64}
use Rattle.mih_plan.specs.Buckets.{bucket_of}
use Rattle.reg_words.specs.declared.word.StampWord.TheVariants.{Dead}
use Rattle.reg_words.specs.declared.word.SweepWord.{SweepWord}
use Rattle.reg_words.specs.Packing.{stamp_word}
use Rattle.reg_words.proofs.StampWords.{one_stamp}
use Rattle.reg_rule.specs.declared.told.Told.TheVariants.{Examines}
use Rattle.reg_rule.specs.declared.view.Key.{Key}
use Rattle.reg_rule.specs.declared.view.View.{View}
use Rattle.reg_rule.specs.Fresh.{unswept}
use Rattle.reg_rule.specs.Log.{IsWd, Declares}
use Rattle.reg_rule.specs.Tables.{is_in}
use Rattle.reg_rule.specs.Conditions.{MayLoadStamp}
use Rattle.reg_rule.specs.Moves.{is_dead, seized, holding_of, on_holding, cut_from}
use Rattle.reg_rule.specs.Steps.{SeenFits, StampLoaded}
use Rattle.reg_rule.specs.inner.Trials.{tables_below}
use Rattle.mih_chain.specs.Linking.{MayUnlink, Unlinked}
use Rattle.reg_sweep.specs.inner.Holders.{IsAt, MayScan, found_free}
use Rattle.reg_sweep.specs.inner.Trials.{one_entry, HasWithdrawn, IsCutting}
use Rattle.reg_sweep.proofs.Reclaims.{may_look_at, may_scan_place, may_unlink}
use Rattle.reg_sweep.proofs.SeenPlaces.{none_here}
use Rattle.reg_sweep.proofs.Trials.{fits_of}

-- ---- the sweep was taken

dead_word : stamp_word (Dead 0 7 0) ≡ 4294967297
unfolding stamp_word
dead_word = refl

module _ (v u : View) (b : HasWithdrawn v) (is : u ≡ seized v) where
  at : IsAt 0 u
  at = record {
    h = holding_of unswept;
    holding = ap (λ (z : View). z.holding) is ∙ ap (λ (s : SweepWord). Some (holding_of s)) b.last;
    unmoved = refl;
    uncut = refl;
    unpaid = refl;
    from = omega arith;
    within = omega arith;
    between = none_here u.log 0;
  }

  key : u.key ≡ one_entry
  key = ap (λ (z : View). z.key) is ∙ b.key

  seen : SeenFits u.key u.log
  seen = subst (λ (z : View). SeenFits z.key z.log) (sym is) b.seen

  small : u.key.sizes.log ≤ 2 ^ 22
  small = subst (λ (k : Key). k.sizes.log ≤ 2 ^ 22) (sym key) (omega arith)

  wd : IsWd u.log 0 7 0
  wd = subst (λ (z : View). IsWd z.log 0 7 0) (sym is) b.withdraws

  pub may_look : MayLoadStamp (Examines 0) 0 u
  may_look = may_look_at 0 0 7 u at seen small wd

  module _ (found : ℕ) (w : View) (told : StampLoaded (Examines 0) 0 u found w) (word : found ≡ 4294967297) where
    dead : is_dead told.stamp ≡ true
    dead = ap is_dead (one_stamp told.stamp (Dead 0 7 0) (fits_of told.stamp told.bits) (omega arith, omega arith, omega arith) (sym told.word ∙ (word ∙ sym dead_word)))

    pub may_scan : MayScan 0 w
    may_scan = may_scan_place 0 0 7 u at seen small wd found w told dead

    pub cutting : (x : View) → w.key ≡ one_entry → x ≡ found_free w.key.sizes.callers w.key.sizes.callers w → IsCutting 0 x
    cutting x same free =
        let e = may_unlink 0 0 7 u at seen small wd found w told dead x free in
        let here : x.key ≡ one_entry = ap (λ (z : View). z.key) free ∙ same in
        record {
          key = here;
          withdraws = e.withdraws;
          h = e.h;
          holding = e.holding;
          unmoved = e.unmoved;
          unpaid = e.unpaid;
          at = e.at;
          stamped = e.stamped;
          clear = e.clear_is ∙ ap (λ (k : Key). k.sizes.callers) here;
          cut = e.uncut;
        }

-- ---- the entry is unlinked

not_below : (table : ℕ) → table < 4 → is_in table (tables_below table) ≡ false
not_below zero low = refl
not_below (suc zero) low = refl
not_below (suc (suc zero)) low = refl
not_below (suc (suc (suc zero))) low = refl
not_below (suc (suc (suc (suc n)))) low = absurd (omega arith)

abbrev unit : Unit64
unit = record { kind = 0; body = 1 }

module _ (table : ℕ) (v : View) (c : IsCutting table v) where
  pub may_cut : (bucket : ℕ) → table < 4 → bucket ≡ bucket_of 1 table 4 → MayUnlink table bucket 0 v
  may_cut bucket low is = (
    c.h,
    7,
    unit,
    record {
      seeking = record {
        holding = c.holding;
        unmoved = c.unmoved;
        stamped = c.stamped;
        uncut = ap (is_in table) c.cut ∙ not_below table low;
        withdraws = subst (λ (n : ℕ). IsWd v.log n 7 0) (sym c.at) c.withdraws;
        declares = subst (λ (k : Key). Declares k.carried v.log 7 unit 0) (sym c.key) (inl refl);
      };
      table_is = low;
      scanned = c.clear ∙ ap (λ (k : Key). k.sizes.callers) (sym c.key);
    },
    is ∙ ap (λ (k : Key). bucket_of 1 table k.sizes.bits) (sym c.key),
  )

  pub cut_more : (w : View) → Unlinked table v w → IsCutting (table + 1) w
  cut_more w u = record {
    key = ap (λ (z : View). z.key) u.view ∙ c.key;
    withdraws = subst (λ (z : View). IsWd z.log 0 7 0) (sym u.view) c.withdraws;
    h = cut_from table c.h;
    holding = ap (λ (z : View). z.holding) u.view ∙ ap (on_holding (cut_from table)) c.holding;
    unmoved = c.unmoved;
    unpaid = c.unpaid;
    at = c.at;
    stamped = c.stamped;
    clear = c.clear;
    cut = ap (λ (l : List ℕ). l ++ table ∷ []) c.cut ∙ ap tables_below (one_more table);
  } where
    one_more : (n : ℕ) → suc n ≡ n + 1
    one_more n = omega arith
