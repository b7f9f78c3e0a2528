-- The given units by their MainTypes.
use Rattle.std.proofs.Common.{◌≡◌, ℕ, ◌+◌, ◌<◌, ◌≤◌, List, [], ◌∷◌, ◌++◌, length, get_or, take, drop, true, false, refl, sym, ◌∙◌, ap, ap₂, arith, inl, inr, subst}
use Rattle.std.specs.Prelude.{All, Bool, nat_lt, ◌==◌, ◌||◌, count_by, if◌then◌else◌, IsPermutation}
use Rattle.std.proofs.lemmas.Bool.{cases_Bool, cases_lt, eqb-true, ltb-false, false≢true}
use Rattle.std.proofs.lemmas.List.Sorted.{IsPermutation-refl, IsPermutation-trans, IsPermutation-sym, IsPermutation-cons, IsPermutation-middle, IsPermutation-append_right}
use Rattle.iscc_header.proofs.EachBelow.{each_below}
use Rattle.std.proofs.lemmas.List.{take-append-drop, take_more, nil_from_length, get_or_past}
use Rattle.std.proofs.lemmas.List.Sums.{length-filter}
use Rattle.std.proofs.lemmas.List.Elements.{All-head, filter_passes, filter-append}
use Rattle.iscc_header.specs.Kinds.{kinds, main_of}
use Rattle.iscc_code.specs.Units.{UnitParts}
use Rattle.iscc_code.specs.Composites.{of_main, has_narrow}

pub length-of_main : (main : ℕ) (given : List UnitParts) → length (of_main main given) ≡ count_by (λ unit. main_of unit.kind == main) given
unfolding of_main
length-of_main main given = length-filter (λ (unit : UnitParts). main_of unit.kind == main) given

of_main-append : (main : ℕ) (xs ys : List UnitParts) → of_main main (xs ++ ys) ≡ of_main main xs ++ of_main main ys
unfolding of_main
of_main-append main xs ys = filter-append (λ (unit : UnitParts). main_of unit.kind == main) xs ys

pub of_main-with : (main : ℕ) (u : UnitParts) (us : List UnitParts) → (main_of u.kind == main) ≡ true → of_main main (u ∷ us) ≡ u ∷ of_main main us
unfolding of_main
of_main-with main u us e = rw e refl

pub of_main-without : (main : ℕ) (u : UnitParts) (us : List UnitParts) → (main_of u.kind == main) ≡ false → of_main main (u ∷ us) ≡ of_main main us
unfolding of_main
of_main-without main u us e = rw e refl

-- one unit more
of_main-more : (main : ℕ) (given : List UnitParts) (i : ℕ) (u : UnitParts) → i < length given → u ≡ get_or given i u
    → of_main main (take i given) ≡ [] → of_main main (take (i + 1) given) ≡ of_main main (u ∷ [])
of_main-more main given i u h is none =
    ap (of_main main) (take_more given i u h ∙ ap (λ v. take i given ++ v ∷ []) (sym is))
    ∙ of_main-append main (take i given) (u ∷ [])
    ∙ ap (λ front. front ++ of_main main (u ∷ [])) none

-- one unit more, of another MainType
pub none_more : (main : ℕ) (given : List UnitParts) (i : ℕ) (u : UnitParts) → i < length given → u ≡ get_or given i u
    → of_main main (take i given) ≡ [] → (main_of u.kind == main) ≡ false → of_main main (take (i + 1) given) ≡ []
unfolding of_main
none_more main given i u h is none other = of_main-more main given i u h is none ∙ of_main-without main u [] other

-- the one unit of a MainType
pub only_one : (main : ℕ) (given : List UnitParts) (i : ℕ) (u : UnitParts) → i < length given → u ≡ get_or given i u
    → of_main main (take i given) ≡ [] → (main_of u.kind == main) ≡ true → length (of_main main given) ≤ 1 → of_main main given ≡ u ∷ []
unfolding of_main
only_one main given i u h is none here few =
    let rest = of_main main (drop (i + 1) given) in
    let whole : of_main main given ≡ u ∷ rest =
    ap (of_main main) (sym (take-append-drop (i + 1) given))
    ∙ of_main-append main (take (i + 1) given) (drop (i + 1) given)
    ∙ ap (λ front. front ++ rest) (of_main-more main given i u h is none ∙ of_main-with main u [] here) in
    whole ∙ ap (λ others. u ∷ others) (nil_from_length rest (omega (arith, few, ap length whole)))

-- the given units by MainType, for each of some MainTypes
unfoldable pub by_main : List ℕ → List UnitParts → List UnitParts
by_main [] given = []
by_main (main ∷ mains) given = of_main main given ++ by_main mains given

-- how often a MainType is named
abbrev named : ℕ → List ℕ → ℕ
named main [] = 0
named main (other ∷ mains) = (if main == other then 1 else 0) + named main mains

by_main-without : (mains : List ℕ) (u : UnitParts) (us : List UnitParts) → named (main_of u.kind) mains ≡ 0 → by_main mains (u ∷ us) ≡ by_main mains us
unfolding by_main
by_main-without [] u us none = refl
by_main-without (main ∷ mains) u us none =
    elim (cases_Bool (main_of u.kind == main)) [
      | inl here ↦ absurd (omega (arith, rw here at none))
      | inr other ↦
          (let less : named (main_of u.kind) mains ≡ 0 = omega (arith, none) in
          ap₂ (λ front rest. front ++ rest) (of_main-without main u us other) (by_main-without mains u us less))
    ]

by_main-with : (mains : List ℕ) (u : UnitParts) (us : List UnitParts) → named (main_of u.kind) mains ≡ 1 → IsPermutation (u ∷ by_main mains us) (by_main mains (u ∷ us))
unfolding by_main
by_main-with [] u us once = absurd (omega (arith, once))
by_main-with (main ∷ mains) u us once =
    elim (cases_Bool (main_of u.kind == main)) [
      | inl here ↦
          (let less : named (main_of u.kind) mains ≡ 0 = omega (arith, rw here at once) in
          subst (λ ys. IsPermutation (u ∷ (of_main main us ++ by_main mains us)) ys)
          (sym (ap₂ (λ front rest. front ++ rest) (of_main-with main u us here) (by_main-without mains u us less)))
          (IsPermutation-refl (u ∷ (of_main main us ++ by_main mains us))))
      | inr other ↦
          (let same : named (main_of u.kind) mains ≡ 1 = omega (arith, rw other at once) in
          let front = of_main main us in
          let rest = by_main mains us in
          let moved = IsPermutation-sym (front ++ u ∷ rest) (u ∷ (front ++ rest)) (IsPermutation-middle front u rest) in
          let inner = IsPermutation-append_right front (u ∷ rest) (by_main mains (u ∷ us)) (by_main-with mains u us same) in
          subst (λ ys. IsPermutation (u ∷ (front ++ rest)) (ys ++ by_main mains (u ∷ us))) (sym (of_main-without main u us other))
          (IsPermutation-trans (u ∷ (front ++ rest)) (front ++ u ∷ rest) (front ++ by_main mains (u ∷ us)) moved inner))
    ]

-- each unit has one of the five MainTypes
once_named : (k : ℕ) → named (main_of k) (0 ∷ 1 ∷ 2 ∷ 3 ∷ 4 ∷ []) ≡ 1
once_named k =
    let all = 0 ∷ 1 ∷ 2 ∷ 3 ∷ 4 ∷ [] in
    elim (cases_lt k 13) [
      | inl kind ↦ eqb-true (named (main_of k) all) 1 (each_below 13 (λ k. named (main_of k) all == 1) refl k kind)
      | inr none ↦ ap (λ (p : ℕ × ℕ). named p.0 all) (get_or_past kinds k (0, 0) none)
    ]

pub by_main-permutation : (given : List UnitParts) → IsPermutation given (by_main (0 ∷ 1 ∷ 2 ∷ 3 ∷ 4 ∷ []) given)
unfolding by_main of_main
by_main-permutation [] = IsPermutation-refl []
by_main-permutation (u ∷ us) =
    let all = 0 ∷ 1 ∷ 2 ∷ 3 ∷ 4 ∷ [] in
    IsPermutation-trans (u ∷ us) (u ∷ by_main all us) (by_main all (u ∷ us)) (IsPermutation-cons u us (by_main all us) (by_main-permutation us)) (by_main-with all u us (once_named u.kind))

-- a unit of a MainType has it
pub main_found : (main : ℕ) (given rest : List UnitParts) (u : UnitParts) → of_main main given ≡ u ∷ rest → main_of u.kind ≡ main
unfolding of_main
main_found main given rest u e =
    let p = λ (unit : UnitParts). main_of unit.kind == main in
    eqb-true (main_of u.kind) main (All-head (λ v. p v ≡ true) u rest (subst (All (λ v. p v ≡ true)) e (filter_passes p given)))

or_false : (a b : Bool) → (a || b) ≡ false → (a ≡ false) × (b ≡ false)
or_false true b e = absurd (false≢true (sym e))
or_false false b e = (refl, e)

-- what no unit has, no unit of a MainType has
wide_of_main : (main : ℕ) (given : List UnitParts) → has_narrow given ≡ false → has_narrow (of_main main given) ≡ false
unfolding of_main
wide_of_main main [] e = refl
wide_of_main main (u ∷ us) e =
    let parts = or_false (nat_lt (length u.body) 8) (has_narrow us) e in
    elim (cases_Bool (main_of u.kind == main)) [
      | inl here ↦ ap has_narrow (of_main-with main u us here) ∙ ap (λ b. b || has_narrow (of_main main us)) parts.0 ∙ wide_of_main main us parts.1
      | inr other ↦ ap has_narrow (of_main-without main u us other) ∙ wide_of_main main us parts.1
    ]

pub wide_found : (main : ℕ) (given rest : List UnitParts) (u : UnitParts) → has_narrow given ≡ false → of_main main given ≡ u ∷ rest → 8 ≤ length u.body
wide_found main given rest u e found =
    let parts = or_false (nat_lt (length u.body) 8) (has_narrow rest) (ap has_narrow (sym found) ∙ wide_of_main main given e) in
    ltb-false (length u.body) 8 parts.0
