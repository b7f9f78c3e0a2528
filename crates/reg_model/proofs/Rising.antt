-- Declarations by rising id.
use Rattle.std.proofs.Common.{◌≡◌, ℕ, zero, suc, ◌+◌, ◌<◌, ◌≤◌, Bool, true, false, not, ◌==◌, cond, List, [], ◌∷◌, ◌++◌, length, filter, find, Some, None, refl, sym, ap, subst, arith}
use Rattle.std.specs.Prelude.{All, IsSome, IsSomeAnd, slice_get, get_or, Result, Ok, Err, IfSome, IfNone}
use Rattle.std.specs.Result.{result_ok}
use Rattle.std.specs.List.{remove}
use Rattle.std.specs.List.Sorted.{IsSearchInRange, IsBinarySearchResult, IsNonDecreasingBy}
use Rattle.std.specs.Ordering.{nat_cmp, ordering_index}
use Rattle.std.proofs.lemmas.Cmp.{ranked}
use Rattle.std.proofs.lemmas.List.Sorted.{IsNonDecreasingBy-from_default}
use Rattle.std.proofs.lemmas.Option.{slice_get-get_or}
use Rattle.std.proofs.lemmas.Bool.{true≢false}
use Rattle.std.proofs.lemmas.Bool.Decides.{nat_tests}
use Rattle.std.proofs.lemmas.List.Kept.{AllPairs-cons}
use Rattle.std.proofs.lemmas.List.Elements.{All-cons, All-head, All-tail}
use Rattle.reg_model.specs.declared.update.Update.{Update}
use Rattle.reg_model.specs.declared.update.Update.TheVariants.{Decl, Wd}
use Rattle.reg_model.specs.declared.update.Declared.{Declared}
use Rattle.reg_model.specs.Opening.{Opening, IsOpening, IsRising}
use Rattle.reg_model.specs.Live.{declared_from, declared, is_withdrawn, live}

-- the ids rise from `low` on and stay below `high`
abbrev pub Within : ℕ → ℕ → List Declared → Type 0
Within low high [] = low ≤ high
Within low high (d ∷ ds) = (low ≤ d.id) × Within (d.id + 1) high ds

pub within-lower : (low higher high : ℕ) (ds : List Declared) → low ≤ higher → Within higher high ds → Within low high ds
within-lower low higher high [] le h = omega (arith, le, h)
within-lower low higher high (d ∷ ds) le h = (omega (arith, le, h.0), h.1)

pub within-ends : (low high : ℕ) (ds : List Declared) → Within low high ds → low ≤ high
within-ends low high [] h = h
within-ends low high (d ∷ ds) h = omega (arith, h.0, within-ends (d.id + 1) high ds h.1)

within-append : (low mid high : ℕ) (ds es : List Declared) → Within low mid ds → Within mid high es → Within low high (ds ++ es)
within-append low mid high [] es h k = within-lower low mid high es h k
within-append low mid high (d ∷ ds) es h k = (h.0, within-append (d.id + 1) mid high ds es h.1 k)

within-filter : (p : Declared → Bool) (low high : ℕ) (ds : List Declared) → Within low high ds → Within low high (filter p ds)
within-filter p low high [] h = h
within-filter p low high (d ∷ ds) h =
    let rest = within-filter p (d.id + 1) high ds h.1 in
    elim (p d) as (λ b. Within low high (cond b (d ∷ filter p ds) (filter p ds)))
    [ true ↦ (h.0, rest) | false ↦ within-lower low (d.id + 1) high (filter p ds) (omega (arith, h.0)) rest ]

within-declared_from : (id : ℕ) (log : List Update) → Within id (id + length log) (declared_from id log)
within-declared_from id [] = omega arith
within-declared_from id (Decl unit ∷ log) =
    let high : id + 1 + length log ≡ id + length (Decl unit ∷ log) = omega arith in
    (omega arith, subst (λ n. Within (id + 1) n (declared_from (id + 1) log)) high (within-declared_from (id + 1) log))
within-declared_from id (Wd other ∷ log) =
    let high : id + 1 + length log ≡ id + length (Wd other ∷ log) = omega arith in
    within-lower id (id + 1) (id + length (Wd other ∷ log)) (declared_from (id + 1) log) (omega arith)
    (subst (λ n. Within (id + 1) n (declared_from (id + 1) log)) high (within-declared_from (id + 1) log))

pub within-from_rising : (low high : ℕ) (ds : List Declared) → low ≤ high → All (λ (d : Declared). low ≤ d.id) ds → IsRising ds → All (λ (d : Declared). d.id < high) ds → Within low high ds
within-from_rising low high [] le above rising below = le
within-from_rising low high (d ∷ ds) le above rising below = (
  above 0 d (omega arith),
  within-from_rising (d.id + 1) high ds (omega (arith, below 0 d (omega arith)))
      (λ i e lt. omega (arith, rising zero (suc i) e (omega arith) (omega (arith, lt))))
      (λ i j e lt inside. rising (suc i) (suc j) e (omega (arith, lt)) (omega (arith, inside)))
      (λ i e lt. below (suc i) e (omega (arith, lt))),
)

record IsOrdered (low high : ℕ) (ds : List Declared) : Type 0 where
  above : All (λ (d : Declared). low ≤ d.id) ds
  rising : IsRising ds
  below : All (λ (d : Declared). d.id < high) ds

ordered : (low high : ℕ) (ds : List Declared) → Within low high ds → IsOrdered low high ds
ordered low high [] h = record { above = λ i d lt. absurd (omega (arith, lt)); rising = λ i j d lt inside. absurd (omega (arith, inside)); below = λ i d lt. absurd (omega (arith, lt)) }
ordered low high (d ∷ ds) h =
    let rest = ordered (d.id + 1) high ds h.1 in
    let ends = within-ends (d.id + 1) high ds h.1 in
    record {
      above = All-cons (λ (e : Declared). low ≤ e.id) d ds h.0 (λ i e lt. omega (arith, h.0, rest.above i e lt));
      rising = AllPairs-cons (λ (a b : Declared). a.id < b.id) d ds (λ i e lt. omega (arith, rest.above i e lt)) rest.rising;
      below = All-cons (λ (e : Declared). e.id < high) d ds (omega (arith, ends)) rest.below;
    }

-- the live declarations are in the order of their ids, below the next id
pub live_within : (opening : Opening) (log : List Update) → IsOpening opening → Within 0 (opening.base + length log) (live opening log)
live_within opening log opens =
    within-filter (λ d. not (is_withdrawn log d.id)) 0 (opening.base + length log) (declared opening log)
    (within-append 0 opening.base (opening.base + length log) opening.list (declared_from opening.base log)
    (within-from_rising 0 opening.base opening.list (omega arith) (λ i d lt. omega arith) opens.rising opens.below)
    (within-declared_from opening.base log))

pub live_rising : (opening : Opening) (log : List Update) → IsOpening opening → IsRising (live opening log)
live_rising opening log opens = (ordered 0 (opening.base + length log) (live opening log) (live_within opening log opens)).rising

pub live_below : (opening : Opening) (log : List Update) → IsOpening opening → All (λ (d : Declared). d.id < opening.base + length log) (live opening log)
live_below opening log opens = (ordered 0 (opening.base + length log) (live opening log) (live_within opening log opens)).below

-- ---- the declaration with an id

abbrev pub has_id : ℕ → Declared → Bool
has_id id d = d.id == id

-- the others
abbrev pub without : ℕ → List Declared → List Declared
without id ds = filter (λ d. not (has_id id d)) ds

-- an id below all isn't there
without_lower : (id low high : ℕ) (ds : List Declared) → id < low → Within low high ds → without id ds ≡ ds
without_lower id low high [] lt h = refl
without_lower id low high (d ∷ ds) lt h =
    let other : has_id id d ≡ false = grind (arith, nat_tests, h.0, lt) in
    rw other (ap (λ es. d ∷ es) (without_lower id (d.id + 1) high ds (omega (arith, lt, h.0)) h.1))

abbrev pub IsAt : ℕ → ℕ → List Declared → Type 0
IsAt id place ds = IsSomeAnd (slice_get ds place) (λ (d : Declared). d.id ≡ id)

at_or_above : (id place low high : ℕ) (ds : List Declared) → Within low high ds → IsAt id place ds → low ≤ id
at_or_above id place low high [] h at = absurd at
at_or_above id zero low high (d ∷ ds) h at = omega (arith, h.0, at)
at_or_above id (suc i) low high (d ∷ ds) h at = omega (arith, h.0, at_or_above id i (d.id + 1) high ds h.1 at)

pub at_below : (id place low high : ℕ) (ds : List Declared) → Within low high ds → IsAt id place ds → id < high
at_below id place low high [] h at = absurd at
at_below id zero low high (d ∷ ds) h at = omega (arith, at, within-ends (d.id + 1) high ds h.1)
at_below id (suc i) low high (d ∷ ds) h at = at_below id i (d.id + 1) high ds h.1 at

pub at_inside : (id place : ℕ) (ds : List Declared) → IsAt id place ds → place < length ds
at_inside id place [] at = absurd at
at_inside id zero (d ∷ ds) at = omega arith
at_inside id (suc i) (d ∷ ds) at = omega (arith, at_inside id i ds at)

-- taken out of its place, the others stay
pub remove-at : (id place low high : ℕ) (ds : List Declared) → Within low high ds → IsAt id place ds → remove ds place ≡ without id ds
remove-at id place low high [] h at = absurd at
remove-at id zero low high (d ∷ ds) h at =
    let this : has_id id d ≡ true = grind (arith, nat_tests, at) in
    rw this (sym (without_lower id (d.id + 1) high ds (omega (arith, at)) h.1))
remove-at id (suc i) low high (d ∷ ds) h at =
    let above = at_or_above id i (d.id + 1) high ds h.1 at in
    let other : has_id id d ≡ false = grind (arith, nat_tests, above) in
    rw other (ap (λ es. d ∷ es) (remove-at id i (d.id + 1) high ds h.1 at))

-- it is found there
pub find-at : (id place low high : ℕ) (ds : List Declared) → Within low high ds → IsAt id place ds → find (has_id id) ds ≡ slice_get ds place
find-at id place low high [] h at = absurd at
find-at id zero low high (d ∷ ds) h at =
    let this : has_id id d ≡ true = grind (arith, nat_tests, at) in
    rw this refl
find-at id (suc i) low high (d ∷ ds) h at =
    let above = at_or_above id i (d.id + 1) high ds h.1 at in
    let other : has_id id d ≡ false = grind (arith, nat_tests, above) in
    rw other (find-at id i (d.id + 1) high ds h.1 at)

-- a declaration that is found stands at a place
pub at_found : (id : ℕ) (ds : List Declared) → IsSome (find (has_id id) ds) → (place : ℕ) × IsAt id place ds
at_found id [] h = absurd (true≢false (sym h))
at_found id (d ∷ ds) h = step (has_id id d) refl (at_found id ds) h
  where
    step : (b : Bool) → has_id id d ≡ b → (IsSome (find (has_id id) ds) → (place : ℕ) × IsAt id place ds) → IsSome (cond b (Some d) (find (has_id id) ds)) → (place : ℕ) × IsAt id place (d ∷ ds)
    step true this rest found = (zero, grind (arith, nat_tests, this))
    step false other rest found = let behind = rest found in (suc behind.0, behind.1)

-- nothing is found where no declaration has the id
pub find-none : (id : ℕ) (ds : List Declared) → All (λ (d : Declared). d.id ≡ id → ⊥) ds → find (has_id id) ds ≡ None
find-none id [] h = refl
find-none id (d ∷ ds) h =
    let not_this = All-head (λ (e : Declared). e.id ≡ id → ⊥) d ds h in
    let other : has_id id d ≡ false = grind (arith, nat_tests, not_this) in
    rw other (find-none id ds (All-tail (λ (e : Declared). e.id ≡ id → ⊥) d ds h))

-- ---- a search by id

some_declared : Declared
some_declared = record { id = 0; unit = record { kind = 0; body = 0 } }

ranks_rise : (id : ℕ) (ds : List Declared) → IsRising ds → IsNonDecreasingBy (λ (d : Declared). ordering_index (nat_cmp d.id id)) ds
ranks_rise id ds rising =
    IsNonDecreasingBy-from_default (λ (d : Declared). ordering_index (nat_cmp d.id id)) ds some_declared (λ i j le in_range.
    let ids_rise : (get_or ds i some_declared).id ≤ (get_or ds j some_declared).id = grind (arith, rising i j some_declared, λ (same : i ≡ j). ap (λ k. (get_or ds k some_declared).id) same) in
    grind (arith, nat_tests))

-- what a binary search by id finds
pub searched : (id : ℕ) (ds : List Declared) → IsRising ds → (r : Result ℕ ℕ) → IsSearchInRange r (length ds) → IsBinarySearchResult (λ (d : Declared). nat_cmp d.id id) ds r
    → record { found : IfSome (result_ok r) (λ place. IsAt id place ds); absent : IfNone (result_ok r) (find (has_id id) ds ≡ None) }
searched id ds rising (Ok place) within equal = record {
  found = rw (slice_get-get_or ds place some_declared within) (ranked _ id _ (sym (equal some_declared)));
  absent = tt;
}
searched id ds rising (Err place) within parted =
    let points = parted (ranks_rise id ds rising) in
    record {
      found = tt;
      absent = find-none id ds (λ i d lt same.
          let before : i < place → (get_or ds i d).id < id = λ h. ranked _ id _ (sym (points.0 i d (omega arith) h)) in
          let after : place ≤ i → id < (get_or ds i d).id = λ h. ranked _ id _ (sym (points.1 i d h lt)) in
          grind (arith, before, after, same));
    }
