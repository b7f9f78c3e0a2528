-- Accounts have one merge.
use Rattle.std.proofs.Common.{◌≡◌, ℕ, zero, suc, ◌+◌, ◌<◌, Bool, true, false, List, [], ◌∷◌, length, get_or, Some, refl, sym, ◌∙◌, ap, ap₂, subst, arith}
use Rattle.std.specs.Cmp.{IsStrictWeakOrder}
use Rattle.std.specs.List.{AllByRecursion}
use Rattle.std.specs.List.Sorted.{IsSortedBy, IsStrictlySortedBy}
use Rattle.std.specs.Ordering.{is_lt, is_eq, ordering_reverse}
use Rattle.std.specs.declared.cmp.Ordering.{Ordering}
use Rattle.std.specs.declared.cmp.Ordering.TheVariants.{Less, Equal, Greater}
use Rattle.std.proofs.lemmas.Bool.{true≢false}
use Rattle.std.proofs.lemmas.Option.{same_Some}
use Rattle.std.proofs.lemmas.List.Elements.{All-from_recursion, recursion_from_All}
use Rattle.std.proofs.lemmas.List.Sorted.{All-permutation, sum_by-IsPermutation, ranks_by}
use Rattle.reg_model.specs.declared.reply.Row.{Row}
use Rattle.reg_model.specs.declared.merging.Place.{Place}
use Rattle.reg_model.specs.Rows.{row_cmp, IsMerge, all_rows}
use Rattle.reg_model.specs.Merge.{row_at, AreAccounts}
use Rattle.reg_model.specs.inner.MergeKeys.{row_place}
use Rattle.reg_model.proofs.AtHome.{IsFound, all_found, same_rank, lower_session, lower_number}
use Rattle.reg_model.proofs.SortedHits.{same_sorted}
use Rattle.reg_model.proofs.MergeSteps.{row_total}

abbrev pub row_before : Row → Row → Bool
row_before a b = is_lt (row_cmp a b)

pub is_order : IsStrictWeakOrder row_before
is_order = ranks_by row_total (λ r. r)

not_back : (a b : Ordering) → a ≡ ordering_reverse b → a ≡ Less → is_lt b ≡ false
not_back a Less is less = absurd (cc)
not_back a Equal is less = refl
not_back a Greater is less = refl

equal : (a b : Ordering) → a ≡ ordering_reverse b → is_lt a ≡ false → is_lt b ≡ false → is_eq a ≡ true
equal a Less is h k = absurd (true≢false k)
equal a Equal is h k = ap is_eq is
equal a Greater is h k = absurd (true≢false (sym (ap is_lt is) ∙ h))

-- each row is below the next
step : (x y : Row) (rows : List Row) → row_cmp x y ≡ Less → IsSortedBy row_before (y ∷ rows) → (k : ℕ) (d : Row) → k + 1 < length (x ∷ y ∷ rows)
    → row_before (get_or (x ∷ y ∷ rows) (k + 1) d) (get_or (x ∷ y ∷ rows) k d) ≡ false
step x y rows less up zero d high = not_back (row_cmp x y) (row_cmp y x) (row_total.antisymm x y) less
step x y rows less up (suc k) d high =
    let next : suc k + 1 ≡ suc (k + 1) = omega arith in
    subst (λ j. row_before (get_or (x ∷ y ∷ rows) j d) (get_or (y ∷ rows) k d) ≡ false) (sym next) (up k d (omega arith) (omega (arith, high)))

pub sorted : (rows : List Row) → IsStrictlySortedBy row_cmp rows → IsSortedBy row_before rows
unfolding IsStrictlySortedBy
sorted [] up = λ k d low high. absurd (omega (arith, high))
sorted (x ∷ []) up = λ k d low high. absurd (omega (arith, high))
sorted (x ∷ y ∷ rows) up = let first = up.0 in let rest = sorted (y ∷ rows) up.1 in λ k d low high. step x y rows first.0 rest k d high

abbrev place_made : ℕ → ℕ → Place
place_made session number = record { session = session; number = number }

same_place : (a b : Row) → same_rank a b ≡ true → same_rank b a ≡ true → row_place a ≡ row_place b
same_place a b h k =
    let less : a.session < b.session → ⊥ = λ lt. true≢false (sym h ∙ lower_session a b lt) in
    let more : b.session < a.session → ⊥ = λ lt. true≢false (sym k ∙ lower_session b a lt) in
    let before : a.number < b.number → ⊥ = λ lt. true≢false (sym h ∙ lower_number a b lt) in
    let behind : b.number < a.number → ⊥ = λ lt. true≢false (sym k ∙ lower_number b a lt) in
    ap₂ place_made (omega (arith, less, more)) (omega (arith, before, behind))

pub same_row : (accounts : List (List Row)) (a b : Row) → IsFound accounts a → IsFound accounts b → row_before a b ≡ false → row_before b a ≡ false → a ≡ b
same_row accounts a b found too h k =
    let place : row_place a ≡ row_place b = same_place a b (equal (row_cmp a b) (row_cmp b a) (row_total.antisymm a b) h k) (equal (row_cmp b a) (row_cmp a b) (row_total.antisymm b a) k h) in
    let both : Some a ≡ Some b = sym found ∙ ap (λ p. row_at accounts p) place ∙ too in
    same_Some a b both

all_there : (accounts : List (List Row)) (rows : List Row) → AreAccounts accounts → IsMerge accounts rows → AllByRecursion (IsFound accounts) rows
all_there accounts rows are merge =
    recursion_from_All (IsFound accounts) rows (All-permutation (IsFound accounts) (all_rows accounts) rows merge.exactly (All-from_recursion (IsFound accounts) (all_rows accounts) (all_found accounts are)))

pub one_merge : (accounts : List (List Row)) (a b : List Row) → AreAccounts accounts → IsMerge accounts a → IsMerge accounts b → a ≡ b
one_merge accounts a b are h k =
    same_sorted row_before is_order (IsFound accounts) (same_row accounts) a b (all_there accounts a are h) (all_there accounts b are k)
    (sorted a h.order) (sorted b k.order)
    (λ f. sum_by-IsPermutation f (all_rows accounts) a h.exactly ∙ sym (sum_by-IsPermutation f (all_rows accounts) b k.exactly))
