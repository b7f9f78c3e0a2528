-- A query has hits: the declarations near its unit, sorted.
use Rattle.std.proofs.Common.{◌≡◌, ℕ, zero, suc, ◌+◌, ◌<◌, Bool, true, false, cond, List, [], ◌∷◌, length, map, filter, get_or, refl, sym, ap, subst, arith}
use Rattle.std.specs.List.Sorted.{IsPermutation, IsSorted}
use Rattle.std.specs.Ordering.{is_lt, ordering_reverse}
use Rattle.std.specs.declared.cmp.Ordering.{Ordering}
use Rattle.std.specs.declared.cmp.Ordering.TheVariants.{Less, Equal, Greater}
use Rattle.std.proofs.lemmas.List.Sorted.{IsPermutation-refl, IsPermutation-trans, IsPermutation-cons, IsPermutation-middle}
use Rattle.std.proofs.lemmas.Cmp.{nat_cmp_total, then_total, on_total}
use Rattle.std.specs.Cmp.{IsTotalOrder}
use Rattle.iscc_header.specs.declared.unit.Unit64.{Unit64}
use Rattle.reg_model.specs.declared.update.Declared.{Declared}
use Rattle.reg_model.specs.declared.reply.Hit.{Hit}
use Rattle.reg_model.specs.Replies.{AreHits, code_cmp, is_near, hit_of}

code_total : IsTotalOrder code_cmp
code_total = then_total (on_total (λ (h : Hit). h.body) nat_cmp_total) (on_total (λ (h : Hit). h.id) nat_cmp_total)

-- the hit put before the first that isn't below it
abbrev put : Hit → List Hit → List Hit
put x [] = x ∷ []
put x (y ∷ ys) = cond (is_lt (code_cmp y x)) (y ∷ put x ys) (x ∷ y ∷ ys)

abbrev sort : List Hit → List Hit
sort [] = []
sort (x ∷ xs) = put x (sort xs)

-- no hit is above the next
abbrev Up : List Hit → Type 0
Up [] = Unit {0}
Up (x ∷ []) = Unit {0}
Up (x ∷ y ∷ ys) = (is_lt (code_cmp y x) ≡ false) × Up (y ∷ ys)

not_back : (a b : Ordering) → a ≡ ordering_reverse b → is_lt a ≡ true → is_lt b ≡ false
not_back a Less is less = absurd (cc (is, less, ap is_lt is))
not_back a Equal is less = refl
not_back a Greater is less = refl

put_above : (y x : Hit) (ys : List Hit) → is_lt (code_cmp x y) ≡ false → Up (y ∷ ys) → Up (y ∷ put x ys)
put_above y x [] h up = (h, tt)
put_above y x (z ∷ zs) h up = cases (is_lt (code_cmp z x)) refl (put_above z x zs)
  where
    cases : (b : Bool) → is_lt (code_cmp z x) ≡ b → (is_lt (code_cmp x z) ≡ false → Up (z ∷ zs) → Up (z ∷ put x zs)) → Up (y ∷ cond b (z ∷ put x zs) (x ∷ z ∷ zs))
    cases true is more = (up.0, more (not_back (code_cmp z x) (code_cmp x z) (code_total.antisymm z x) is) up.1)
    cases false is more = (h, (is, up.1))

put_up : (x : Hit) (ys : List Hit) → Up ys → Up (put x ys)
put_up x [] up = tt
put_up x (y ∷ ys) up = cases (is_lt (code_cmp y x)) refl
  where
    cases : (b : Bool) → is_lt (code_cmp y x) ≡ b → Up (cond b (y ∷ put x ys) (x ∷ y ∷ ys))
    cases true is = put_above y x ys (not_back (code_cmp y x) (code_cmp x y) (code_total.antisymm y x) is) up
    cases false is = (is, up)

put_moved : (x : Hit) (ys : List Hit) → IsPermutation (x ∷ ys) (put x ys)
put_moved x [] = IsPermutation-refl (x ∷ [])
put_moved x (y ∷ ys) = cases (is_lt (code_cmp y x)) (put_moved x ys)
  where
    cases : (b : Bool) → IsPermutation (x ∷ ys) (put x ys) → IsPermutation (x ∷ y ∷ ys) (cond b (y ∷ put x ys) (x ∷ y ∷ ys))
    cases true more = IsPermutation-trans (x ∷ y ∷ ys) (y ∷ x ∷ ys) (y ∷ put x ys) (IsPermutation-middle (x ∷ []) y ys) (IsPermutation-cons y (x ∷ ys) (put x ys) more)
    cases false more = IsPermutation-refl (x ∷ y ∷ ys)

sort_up : (xs : List Hit) → Up (sort xs)
sort_up [] = tt
sort_up (x ∷ xs) = put_up x (sort xs) (sort_up xs)

sort_moved : (xs : List Hit) → IsPermutation xs (sort xs)
sort_moved [] = IsPermutation-refl []
sort_moved (x ∷ xs) = IsPermutation-trans (x ∷ xs) (x ∷ sort xs) (put x (sort xs)) (IsPermutation-cons x xs (sort xs) (sort_moved xs)) (put_moved x (sort xs))

up_sorted : (xs : List Hit) → Up xs → IsSorted code_cmp xs
up_sorted [] up = λ k d low high. absurd (omega (arith, high))
up_sorted (x ∷ []) up = λ k d low high. absurd (omega (arith, high))
up_sorted (x ∷ y ∷ ys) up = let rest = up_sorted (y ∷ ys) up.1 in λ k d low high. at k d high rest
  where
    at : (k : ℕ) (d : Hit) → k + 1 < length (x ∷ y ∷ ys) → IsSorted code_cmp (y ∷ ys) → is_lt (code_cmp (get_or (x ∷ y ∷ ys) (k + 1) d) (get_or (x ∷ y ∷ ys) k d)) ≡ false
    at zero d high rest = up.0
    at (suc k) d high rest =
        let next : suc k + 1 ≡ suc (k + 1) = omega arith in
        subst (λ j. is_lt (code_cmp (get_or (x ∷ y ∷ ys) j d) (get_or (y ∷ ys) k d)) ≡ false) (sym next) (rest k d (omega arith) (omega (arith, high)))

-- a query has hits
pub some_hits : (list : List Declared) (unit : Unit64) (radius : ℕ) → (hits : List Hit) × AreHits list unit radius hits
some_hits list unit radius = let found : List Hit = map (hit_of unit) (filter (is_near unit radius) list) in (sort found, record { exactly = sort_moved found; order = up_sorted (sort found) (sort_up found) })
