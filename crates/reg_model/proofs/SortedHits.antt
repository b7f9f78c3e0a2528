-- Sorted lists with the same elements are the same.
use Rattle.std.proofs.Common.{◌≡◌, ℕ, suc, ◌+◌, ◌<◌, Bool, true, false, List, [], ◌∷◌, map, filter, length, get_or, refl, sym, ◌∙◌, ap, ap₂, subst, arith}
use Rattle.std.specs.Prelude.{sum_by}
use Rattle.std.specs.Cmp.{IsStrictWeakOrder}
use Rattle.std.specs.Ordering.{is_lt, ordering_then, nat_cmp}
use Rattle.std.specs.List.{AllByRecursion}
use Rattle.std.specs.List.Sorted.{IsSortedBy}
use Rattle.std.proofs.lemmas.Cmp.{nat_cmp_total, then_total, on_total}
use Rattle.std.proofs.lemmas.List.Elements.{All-map, recursion_from_All}
use Rattle.std.proofs.lemmas.List.Sorted.{All-permutation, sum_by-IsPermutation, sorted_far, ranks_by}
use Rattle.std.proofs.lemmas.List.Sums.{sum_by-cons}
use Rattle.iscc_header.specs.declared.unit.Unit64.{Unit64}
use Rattle.iscc_header.specs.Bits.{distance}
use Rattle.reg_model.specs.declared.update.Declared.{Declared}
use Rattle.reg_model.specs.declared.reply.Hit.{Hit}
use Rattle.reg_model.specs.Replies.{AreHits, is_near, hit_of, code_cmp}

-- ---- sums that tell lists apart

-- 1 for true
abbrev one_if : Bool → ℕ
one_if true = 1
one_if false = 0

-- counts an element that is less than x
abbrev less_than : {X : Type 0} → (X → X → Bool) → X → X → ℕ
less_than lt x y = one_if (lt y x)

not_less : (b : Bool) → b ≡ false → one_if b ≡ 0
not_less b h = ap one_if h

less_not : (b : Bool) → one_if b ≡ 0 → b ≡ false
less_not true h = absurd (omega (arith, h))
less_not false h = refl

-- a sum of nothing but zeros
sum_none : {X : Type 0} (f : X → ℕ) (xs : List X) → ((k : ℕ) (d : X) → k < length xs → f (get_or xs k d) ≡ 0) → sum_by f xs ≡ 0
sum_none f [] h = refl
sum_none f (x ∷ xs) h = omega (arith, sum_by-cons f x xs, h 0 x (omega arith), sum_none f xs (λ k d low. h (suc k) d (omega arith)))

-- no element of a sorted list is less than its first
none_less : {X : Type 0} (lt : X → X → Bool) → IsStrictWeakOrder lt → (x : X) (xs : List X) → IsSortedBy lt (x ∷ xs) → sum_by (less_than lt x) (x ∷ xs) ≡ 0
none_less lt o x xs up = sum_none (less_than lt x) (x ∷ xs) (λ k d low. not_less (lt (get_or (x ∷ xs) k d) x) (sorted_far lt o (x ∷ xs) up 0 k d (omega arith) low))

-- nor is the first of a list with the same sums
first_not_less : {X : Type 0} (lt : X → X → Bool) → IsStrictWeakOrder lt → (x y : X) (xs ys : List X) → IsSortedBy lt (x ∷ xs) → ((f : X → ℕ) → sum_by f (x ∷ xs) ≡ sum_by f (y ∷ ys)) → lt y x ≡ false
first_not_less lt o x y xs ys up same =
    let f = less_than lt x in
    less_not (lt y x) (omega (arith, none_less lt o x xs up, same f, sum_by-cons f y ys))

-- ---- sorted lists

pub sorted_tail : {X : Type 0} (lt : X → X → Bool) (x : X) (xs : List X) → IsSortedBy lt (x ∷ xs) → IsSortedBy lt xs
sorted_tail lt x xs up = λ k d low high.
    let next : suc k + 1 ≡ suc (k + 1) = omega arith in
    subst (λ j. lt (get_or (x ∷ xs) j d) (get_or xs k d) ≡ false) next (up (suc k) d (omega arith) (omega arith))

pub same_sorted : {X : Type 0} (lt : X → X → Bool) → IsStrictWeakOrder lt → (P : X → Type 0) → ((x y : X) → P x → P y → lt x y ≡ false → lt y x ≡ false → x ≡ y)
    → (xs ys : List X) → AllByRecursion P xs → AllByRecursion P ys → IsSortedBy lt xs → IsSortedBy lt ys → ((f : X → ℕ) → sum_by f xs ≡ sum_by f ys) → xs ≡ ys
same_sorted lt o P one [] [] p q up rise same = refl
same_sorted lt o P one [] (y ∷ ys) p q up rise same = absurd (omega (arith, same (λ z. 1), sum_by-cons (λ z. 1) y ys))
same_sorted lt o P one (x ∷ xs) [] p q up rise same = absurd (omega (arith, same (λ z. 1), sum_by-cons (λ z. 1) x xs))
same_sorted lt o P one (x ∷ xs) (y ∷ ys) p q up rise same =
    let first : x ≡ y = one x y p.0 q.0 (first_not_less lt o y x ys xs rise (λ f. sym (same f))) (first_not_less lt o x y xs ys up same) in
    ap₂ (λ z zs. z ∷ zs) first
    (same_sorted lt o P one xs ys p.1 q.1 (sorted_tail lt x xs up) (sorted_tail lt y ys rise)
    (λ f. omega (arith, same f, sum_by-cons f x xs, sum_by-cons f y ys, ap f first)))

-- ---- hits

abbrev before : Hit → Hit → Bool
before a b = is_lt (code_cmp a b)

is_order : IsStrictWeakOrder before
is_order = ranks_by (then_total (on_total (λ (h : Hit). h.body) nat_cmp_total) (on_total (λ (h : Hit). h.id) nat_cmp_total)) (λ h. h)

-- neither is less: both numbers are the same
neither : (m n i j : ℕ) → is_lt (ordering_then (nat_cmp m n) (nat_cmp i j)) ≡ false → is_lt (ordering_then (nat_cmp n m) (nat_cmp j i)) ≡ false → (m ≡ n) × (i ≡ j)
neither m n i j h k = (grind arith, grind arith)

-- a hit's distance is that of its body
abbrev IsTold : Unit64 → Hit → Type 0
IsTold unit hit = hit.distance ≡ distance unit.body hit.body

abbrev hit_made : ℕ → ℕ → ℕ → Hit
hit_made id body away = record { id = id; body = body; distance = away }

same_hit : (unit : Unit64) (a b : Hit) → IsTold unit a → IsTold unit b → before a b ≡ false → before b a ≡ false → a ≡ b
same_hit unit a b h k less more =
    let is = neither a.body b.body a.id b.id less more in
    ap (hit_made a.id a.body) h
    ∙ ap₂ (λ id body. hit_made id body (distance unit.body body)) is.1 is.0
    ∙ ap (hit_made b.id b.body) (sym k)

-- the hits before they are sorted
abbrev found : List Declared → Unit64 → ℕ → List Hit
found list unit radius = map (hit_of unit) (filter (is_near unit radius) list)

told : (list : List Declared) (unit : Unit64) (radius : ℕ) (hits : List Hit) → AreHits list unit radius hits → AllByRecursion (IsTold unit) hits
told list unit radius hits h =
    recursion_from_All (IsTold unit) hits
    (All-permutation (IsTold unit) (found list unit radius) hits h.exactly
    (All-map (IsTold unit) (hit_of unit) (filter (is_near unit radius) list) (λ k d low. refl)))

-- a query has one list of hits
pub one_list : (list : List Declared) (unit : Unit64) (radius : ℕ) (a b : List Hit) → AreHits list unit radius a → AreHits list unit radius b → a ≡ b
one_list list unit radius a b h k =
    same_sorted before is_order (IsTold unit) (same_hit unit) a b (told list unit radius a h) (told list unit radius b k) h.order k.order
    (λ f. sum_by-IsPermutation f (found list unit radius) a h.exactly ∙ sym (sum_by-IsPermutation f (found list unit radius) b k.exactly))
