-- A worked example of what readers are told: two entries, and a log of one declaration, in entry 0. One session has made it; nothing is pinned.
use Rattle.std.proofs.Common.{◌≡◌, ℕ, zero, suc, ◌+◌, ◌≤◌, ◌==◌, ◌||◌, inl, inr, ⊎_elim, cond, Bool, true, false, List, [], ◌∷◌, Some, None, sym, refl, ap, ◌∙◌, subst, arith}
use mathlib.Core.Option.{some, some-injective, some-ne-none}
use lib.ListN.{get_elem?}
use Rattle.iscc_header.specs.declared.unit.Unit64.{Unit64}
use Rattle.reg_model.specs.declared.update.Update.TheVariants.{Decl}
use Rattle.reg_words.specs.Packing.{FitsLog, log_word, stamp_word}
use Rattle.reg_words.specs.Memory.{CODE, LOG}
use Rattle.reg_rule.specs.declared.view.Key.{Key}
use Rattle.reg_rule.specs.declared.view.Place.{Place}
use Rattle.reg_rule.specs.declared.view.View.{View}
use Rattle.reg_rule.specs.Log.{At, place_of, place_word, record_at, IsDecl, IsWd}
use Rattle.reg_rule.specs.Fresh.{fresh, unswept}
use Rattle.reg_rule.specs.Chains.{Member, LeadsThrough}
use Rattle.reg_rule.specs.ReadersLog.{IsLogOf, HasDeclaration, ShowsBirth, log_front, given_back}
use Rattle.reg_rule.specs.ReadersEntries.{IsInRing}
use Rattle.reg_rule.specs.ReadersChains.{IsChain, next_link}
use Rattle.reg_rule.specs.ReadersReach.{IsOutOfReach}
use Rattle.reg_words.proofs.LogWords.{no_record}
use Rattle.reg_rule.proofs.Chained.{test_apart}
use Rattle.reg_rule.proofs.Once.{decl_same, decl_not_wd}

abbrev key : Key
key = record { sizes = record { entries = 2; log = 2; bits = 4; callers = 1 }; carried = record { base = 7; list = [] }; entries = 2 }

-- a unit of kind 3, whose buckets are 0, 0, 0 and 5
abbrev unit : Unit64
unit = record { kind = 3; body = 5 }

abbrev log : List Place
log = place_of (Decl unit) 0 ∷ []

abbrev is_head : ℕ → ℕ
is_head k = cond (k == 0 || (k == 16 || (k == 32 || k == 53))) 1 0

-- the record: 1 + 4 * 3 + 64 * 0 + 2 ^ 26 * 7; the stamp: 2 ^ 25 * 3 + 2 ^ 29 * 8
abbrev m : ℕ → ℕ → ℕ
m a k = cond (a == 0) 1 (cond (a == 1) 2 (cond (a == 4) (is_head k) (cond (a == 5) (cond (k == 0) 5 0)
    (cond (a == 6) (cond (k == 0) 4395630592 0) (cond (a == 8) (cond (k == 1) 1 0) (cond (a == 9) (cond (k == 0) 469762061 0) 0))))))

the_front : log_front key m ≡ 1
the_front = refl

the_record : m LOG 0 ≡ place_word 7 0 (place_of (Decl unit) 0)
unfolding log_word
the_record = refl

only_place : (n : ℕ) (p : Place) → At log n p → (n ≡ 0) × (place_of (Decl unit) 0 ≡ p)
only_place zero p at = (refl, some-injective _ _ at)
only_place (suc n) p at = absurd (some-ne-none p (sym at))

past : (n : ℕ) → 1 ≤ n → m LOG n ≡ 0
past n h = test_apart n 0 469762061 0 (λ e. let y : ⊥ = omega arith in y)

the_log : IsLogOf key m log
the_log = record {
  room = omega arith;
  filled = λ n p at. let h = only_place n p at in subst (λ (x : ℕ × Place). (m LOG x.0 ≡ place_word 7 x.0 x.1) × FitsLog (record_at 7 x.0 x.1.update x.1.entry)) (λ j. (sym h.0 j, h.1 j)) (the_record, (omega arith, omega arith, omega arith));
  empty = past;
  noted = λ n u entry more decl. let h = only_place n _ decl in let e = h.0 in absurd (omega arith);
  -- the last place: its body is still the code of its entry
  coded = λ n u entry last decl. let h = only_place n _ decl in let d = decl_same log 0 0 entry unit u refl (subst (λ (k : ℕ). IsDecl log k u entry) h.0 decl) in ap (m CODE) (sym d.1) ∙ ap (λ (x : Unit64). x.body) d.0;
}

-- the words are of no other log
not_empty : IsLogOf key m [] → ⊥
not_empty h = no_record (record_at 7 0 (Decl unit) 0) (sym the_record ∙ h.empty 0 (omega arith))

-- in the last table the entry is in the chain of bucket 5, and bucket 4 has none
its_chain : IsChain key m 3 5 (0 ∷ [])
its_chain = record { met = (refl, refl); once = (tt, tt) }

other_chain : IsChain key m 3 4 []
other_chain = record { met = refl; once = tt }

-- entry 0 has the declaration of id 7, and shows its birth; entry 1 is in the ring, under count 1
no_wd : (d id entry : ℕ) → IsWd log d id entry → ⊥
no_wd d id entry wd = let h = only_place d _ wd in decl_not_wd log 0 id 0 entry unit refl (subst (λ (k : ℕ). IsWd log k id entry) h.0 wd)

has : HasDeclaration key log 0 0 7 unit
has = record { declared = inr (0, refl, refl); kept = λ d entry wd. absurd (no_wd d 7 entry wd) }

shows : ShowsBirth m log 0 7 unit
unfolding stamp_word
shows = inl refl

ring : IsInRing key m 1 1
ring = record { from = omega arith; below = omega arith; named = refl }

not_in_ring : IsInRing key m 0 1 → ⊥
not_in_ring r = let e : suc 0 ≡ 0 = r.named in absurd (omega arith)

-- while the session walks nothing, entry 1 is out of reach in the last table, and entry 0 is not
abbrev views : List View
views = fresh key 0 1 ∷ []

nobody_walks : (seat : ℕ) (v : View) → get_elem? views seat ≡ some v → v.cursor ≡ None
nobody_walks zero v at = ap (λ (u : View). u.cursor) (sym (some-injective _ _ at))
nobody_walks (suc seat) v at = absurd (some-ne-none v (sym at))

only_first : (word : ℕ) (chain : List ℕ) → word ≤ 1 → LeadsThrough (next_link key m 3) word chain → Member 1 chain → ⊥
only_first word [] low met there = there
only_first word (x ∷ []) low met there = let e : word ≡ x + 1 = met.0 in ⊎_elim (λ (is : 1 ≡ x). let y : ⊥ = omega arith in y) (λ (more : ⊥). more) there
only_first word (x ∷ z ∷ chain) low met there = let e : 0 ≡ z + 1 = met.1.0 in absurd (omega arith)

out_of_reach : IsOutOfReach key m views 3 1
out_of_reach = record {
  unchained = λ bucket chain low is there. only_first (is_head (48 + bucket)) chain (head_low (48 + bucket)) is.met there;
  unwalked = λ seat v c at is table entry. let e : None ≡ Some c = sym (nobody_walks seat v at) ∙ is in absurd (cc);
} where
  at_most : (b : Bool) → cond {A = ℕ} b 1 0 ≤ 1
  at_most true = omega arith
  at_most false = omega arith

  head_low : (k : ℕ) → is_head k ≤ 1
  head_low k = at_most (k == 0 || (k == 16 || (k == 32 || k == 53)))

in_reach : IsOutOfReach key m views 3 0 → ⊥
in_reach r = r.unchained 5 (0 ∷ []) (omega arith) its_chain (inl refl)

nothing_given : given_back unswept views ≡ 0
nothing_given = refl
