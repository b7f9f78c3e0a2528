-- Accounts have a merge: their rows, sorted.
use Rattle.std.proofs.Common.{◌≡◌, ℕ, zero, suc, ◌+◌, ◌<◌, Bool, true, false, cond, List, [], ◌∷◌, length, get_or, refl, sym, ap, subst, arith}
use Rattle.std.specs.List.Sorted.{IsPermutation, IsSorted}
use Rattle.std.specs.Ordering.{is_lt, ordering_reverse}
use Rattle.std.specs.declared.cmp.Ordering.{Ordering}
use Rattle.std.specs.declared.cmp.Ordering.TheVariants.{Less, Equal, Greater}
use Rattle.std.proofs.lemmas.List.Sorted.{IsPermutation-refl, IsPermutation-trans, IsPermutation-cons, IsPermutation-middle}
use Rattle.reg_model.specs.declared.reply.Row.{Row}
use Rattle.reg_model.specs.Rows.{row_cmp, all_rows, IsMerge}
use Rattle.reg_model.specs.Merge.{AreAccounts}
use Rattle.reg_model.proofs.MergeSteps.{row_total, sorted_merge}

-- the row put before the first that isn't below it
abbrev put : Row → List Row → List Row
put x [] = x ∷ []
put x (y ∷ ys) = cond (is_lt (row_cmp y x)) (y ∷ put x ys) (x ∷ y ∷ ys)

abbrev sort : List Row → List Row
sort [] = []
sort (x ∷ xs) = put x (sort xs)

-- no row is above the next
abbrev Up : List Row → Type 0
Up [] = Unit {0}
Up (x ∷ []) = Unit {0}
Up (x ∷ y ∷ ys) = (is_lt (row_cmp y x) ≡ false) × Up (y ∷ ys)

not_back : (a b : Ordering) → a ≡ ordering_reverse b → is_lt a ≡ true → is_lt b ≡ false
not_back a Less is less = absurd (cc (is, less, ap is_lt is))
not_back a Equal is less = refl
not_back a Greater is less = refl

put_above : (y x : Row) (ys : List Row) → is_lt (row_cmp x y) ≡ false → Up (y ∷ ys) → Up (y ∷ put x ys)
put_above y x [] h up = (h, tt)
put_above y x (z ∷ zs) h up = cases (is_lt (row_cmp z x)) refl (put_above z x zs)
  where
    cases : (b : Bool) → is_lt (row_cmp z x) ≡ b → (is_lt (row_cmp x z) ≡ false → Up (z ∷ zs) → Up (z ∷ put x zs)) → Up (y ∷ cond b (z ∷ put x zs) (x ∷ z ∷ zs))
    cases true is more = (up.0, more (not_back (row_cmp z x) (row_cmp x z) (row_total.antisymm z x) is) up.1)
    cases false is more = (h, (is, up.1))

put_up : (x : Row) (ys : List Row) → Up ys → Up (put x ys)
put_up x [] up = tt
put_up x (y ∷ ys) up = cases (is_lt (row_cmp y x)) refl
  where
    cases : (b : Bool) → is_lt (row_cmp y x) ≡ b → Up (cond b (y ∷ put x ys) (x ∷ y ∷ ys))
    cases true is = put_above y x ys (not_back (row_cmp y x) (row_cmp x y) (row_total.antisymm y x) is) up
    cases false is = (is, up)

put_moved : (x : Row) (ys : List Row) → IsPermutation (x ∷ ys) (put x ys)
put_moved x [] = IsPermutation-refl (x ∷ [])
put_moved x (y ∷ ys) = cases (is_lt (row_cmp y x)) (put_moved x ys)
  where
    cases : (b : Bool) → IsPermutation (x ∷ ys) (put x ys) → IsPermutation (x ∷ y ∷ ys) (cond b (y ∷ put x ys) (x ∷ y ∷ ys))
    cases true more = IsPermutation-trans (x ∷ y ∷ ys) (y ∷ x ∷ ys) (y ∷ put x ys) (IsPermutation-middle (x ∷ []) y ys) (IsPermutation-cons y (x ∷ ys) (put x ys) more)
    cases false more = IsPermutation-refl (x ∷ y ∷ ys)

sort_up : (xs : List Row) → Up (sort xs)
sort_up [] = tt
sort_up (x ∷ xs) = put_up x (sort xs) (sort_up xs)

sort_moved : (xs : List Row) → IsPermutation xs (sort xs)
sort_moved [] = IsPermutation-refl []
sort_moved (x ∷ xs) = IsPermutation-trans (x ∷ xs) (x ∷ sort xs) (put x (sort xs)) (IsPermutation-cons x xs (sort xs) (sort_moved xs)) (put_moved x (sort xs))

up_sorted : (xs : List Row) → Up xs → IsSorted row_cmp xs
up_sorted [] up = λ k d low high. absurd (omega (arith, high))
up_sorted (x ∷ []) up = λ k d low high. absurd (omega (arith, high))
up_sorted (x ∷ y ∷ ys) up = let rest = up_sorted (y ∷ ys) up.1 in λ k d low high. at k d high rest
  where
    at : (k : ℕ) (d : Row) → k + 1 < length (x ∷ y ∷ ys) → IsSorted row_cmp (y ∷ ys) → is_lt (row_cmp (get_or (x ∷ y ∷ ys) (k + 1) d) (get_or (x ∷ y ∷ ys) k d)) ≡ false
    at zero d high rest = up.0
    at (suc k) d high rest =
        let next : suc k + 1 ≡ suc (k + 1) = omega arith in
        subst (λ j. is_lt (row_cmp (get_or (x ∷ y ∷ ys) j d) (get_or (y ∷ ys) k d)) ≡ false) (sym next) (rest k d (omega arith) (omega (arith, high)))

-- accounts have a merge
pub some_merge : (accounts : List (List Row)) → AreAccounts accounts → (rows : List Row) × IsMerge accounts rows
some_merge accounts are = (sort (all_rows accounts), sorted_merge accounts (sort (all_rows accounts)) are (sort_moved (all_rows accounts)) (up_sorted (sort (all_rows accounts)) (sort_up (all_rows accounts))))
