-- From sorted keys to the merge of the accounts.
use Rattle.std.proofs.Common.{◌≡◌, suc, ◌+◌, Bool, true, false, List, [], ◌∷◌, map, length, get_or, Option, Some, refl, sym, ◌∙◌, ap, ap₂, subst, arith}
use Rattle.std.specs.Prelude.{not, if◌then◌else◌, unwrap_or, IsSome}
use Rattle.std.specs.Cmp.{IsTotalOrder}
use Rattle.std.specs.List.{AllByRecursion, IsDistinct, filter_map, cons_option}
use Rattle.std.specs.List.Sorted.{IsPermutation, IsSorted, IsStrictlySortedBy}
use Rattle.std.specs.Ordering.{is_lt, is_eq, eq_by_cmp, nat_cmp, bool_cmp, ordering_then, ordering_reverse}
use Rattle.std.specs.declared.cmp.Ordering.{Ordering}
use Rattle.std.specs.declared.cmp.Ordering.TheVariants.{Less, Equal, Greater}
use Rattle.std.proofs.lemmas.Cmp.{nat_cmp_total, then_total, on_total, eq_by_cmp_equiv}
use Rattle.std.proofs.lemmas.List.{length-map, get_or-map}
use Rattle.std.proofs.lemmas.List.Elements.{All-from_recursion, recursion_from_All}
use Rattle.std.proofs.lemmas.List.Sorted.{IsPermutation-map, IsPermutation-refl, All-permutation, length_permutation, sorted_far, ranks_by}
use Rattle.std.proofs.lemmas.Map.Keys.{IsDistinct-IsPermutation}
use Rattle.reg_model.specs.declared.reply.Row.{Row}
use Rattle.reg_model.specs.declared.merging.Key.{Key}
use Rattle.reg_model.specs.Rows.{is_accepted, row_cmp, IsMerge, all_rows}
use Rattle.reg_model.specs.Merge.{row_at, AreAccounts, IsMergeOrder}
use Rattle.reg_model.specs.inner.MergeKeys.{row_place, row_key, key_place}
use Rattle.reg_model.proofs.AtHome.{each_weaker, IsFound, all_found, same_rank, all_apart}
use Rattle.reg_model.proofs.SortedHits.{sorted_tail}

-- ---- the order of keys is that of the rows

abbrev pub key_cmp : Key → Key → Ordering
key_cmp a b =
    ordering_then (ordering_then (ordering_then
    (nat_cmp a.point b.point)
    (bool_cmp a.refused b.refused))
    (nat_cmp a.place.session b.place.session))
    (nat_cmp a.place.number b.place.number)

pub refused_cmp : (a b : Bool) → bool_cmp (not a) (not b) ≡ nat_cmp (if a then 0 else 1) (if b then 0 else 1)
refused_cmp true true = refl
refused_cmp true false = refl
refused_cmp false true = refl
refused_cmp false false = refl

regrouped : (p q r s : Ordering) → ordering_then (ordering_then (ordering_then p q) r) s ≡ ordering_then p (ordering_then q (ordering_then r s))
regrouped Less q r s = refl
regrouped Greater q r s = refl
regrouped Equal Less r s = refl
regrouped Equal Greater r s = refl
regrouped Equal Equal r s = refl

key_cmp_is : (a b : Row) → key_cmp (row_key a) (row_key b) ≡ row_cmp a b
key_cmp_is a b =
    regrouped (nat_cmp a.point b.point) (bool_cmp (not (is_accepted a)) (not (is_accepted b))) (nat_cmp a.session b.session) (nat_cmp a.number b.number)
    ∙ ap (λ o. ordering_then (nat_cmp a.point b.point) (ordering_then o (ordering_then (nat_cmp a.session b.session) (nat_cmp a.number b.number)))) (refused_cmp (is_accepted a) (is_accepted b))

pub row_total : IsTotalOrder row_cmp
row_total =
    then_total (on_total (λ (r : Row). r.point) nat_cmp_total)
    (then_total (on_total (λ (r : Row). if is_accepted r then 0 else 1) nat_cmp_total)
    (then_total (on_total (λ (r : Row). r.session) nat_cmp_total)
    (on_total (λ (r : Row). r.number) nat_cmp_total)))

sorted_rows : (rows : List Row) → IsSorted key_cmp (map row_key rows) → IsSorted row_cmp rows
sorted_rows rows up = λ k d low high.
    let long : length (map row_key rows) ≡ length rows = length-map rows row_key in
    let here = up k (row_key d) low (omega (arith, long, high)) in
    let left = get_or-map row_key rows (k + 1) d (row_key d) (omega (arith, high)) in
    let right = get_or-map row_key rows k d (row_key d) (omega (arith, high)) in
    ap is_lt (sym (key_cmp_is (get_or rows (k + 1) d) (get_or rows k d)) ∙ ap₂ key_cmp (sym left) (sym right)) ∙ here

-- ---- a sorted list whose elements differ is strictly sorted

below : (a b : Ordering) → a ≡ ordering_reverse b → is_lt b ≡ false → is_eq a ≡ false → a ≡ Less
below a Less is low other = absurd (cc)
below Equal Equal is low other = absurd (cc)
below Less Equal is low other = refl
below Greater Equal is low other = absurd (cc)
below a Greater is low other = is

below_each : {X : Type 0} (R : X → X → Ordering) → IsTotalOrder R → (x : X) (xs : List X) → AllByRecursion (λ y. is_lt (R y x) ≡ false) xs → AllByRecursion (λ y. eq_by_cmp R x y ≡ false) xs → AllByRecursion (λ y. R x y ≡ Less) xs
below_each R o x [] h k = tt
below_each R o x (y ∷ ys) h k = (below (R x y) (R y x) (o.antisymm x y) h.0 k.0, below_each R o x ys h.1 k.1)

strict : {X : Type 0} (R : X → X → Ordering) → IsTotalOrder R → (xs : List X) → IsSorted R xs → IsDistinct (eq_by_cmp R) xs → IsStrictlySortedBy R xs
unfolding IsStrictlySortedBy IsDistinct
strict {X} R o [] up apart = tt
strict {X} R o (x ∷ xs) up apart =
    let lt : X → X → Bool = λ a b. is_lt (R a b) in
    let far = recursion_from_All (λ y. is_lt (R y x) ≡ false) xs (λ k d high. sorted_far lt (ranks_by o (λ y. y)) (x ∷ xs) up 0 (suc k) d (omega arith) (omega arith)) in
    (below_each R o x xs far apart.0, strict R o xs (sorted_tail lt x xs up) apart.1)

-- ---- the rows of the sorted keys

undone : (g : Key → Row) (rows : List Row) → AllByRecursion (λ r. g (row_key r) ≡ r) rows → map g (map row_key rows) ≡ rows
undone g [] h = refl
undone g (row ∷ rows) h = ap₂ (λ r rs. r ∷ rs) h.0 (undone g rows h.1)

redone : (g : Key → Row) (keys : List Key) → AllByRecursion (λ k. row_key (g k) ≡ k) keys → map row_key (map g keys) ≡ keys
redone g [] h = refl
redone g (key ∷ keys) h = ap₂ (λ k ks. k ∷ ks) h.0 (redone g keys h.1)

each_map : {X Y : Type 0} (P : Y → Type 0) (f : X → Y) (xs : List X) → AllByRecursion (λ x. P (f x)) xs → AllByRecursion P (map f xs)
each_map P f [] h = tt
each_map P f (x ∷ xs) h = (h.0, each_map P f xs h.1)

-- the rows in the order of the keys
abbrev Taken : List Row → List Key → Type 0
Taken rows keys = (taken : List Row) × IsPermutation rows taken × (map row_key taken ≡ keys)

taken_by : (g : Key → Row) (rows : List Row) (keys : List Key) → AllByRecursion (λ r. g (row_key r) ≡ r) rows → IsPermutation (map row_key rows) keys → Taken rows keys
taken_by g rows keys back moved =
    let same : AllByRecursion (λ k. row_key (g k) ≡ k) (map row_key rows) = each_map (λ k. row_key (g k) ≡ k) row_key rows (each_weaker (λ r. g (row_key r) ≡ r) (λ r. row_key (g (row_key r)) ≡ row_key r) (λ r p. ap row_key p) rows back) in (
      map g keys,
      subst (λ l. IsPermutation l (map g keys)) (undone g rows back) (IsPermutation-map g (map row_key rows) keys moved),
      redone g keys (recursion_from_All (λ k. row_key (g k) ≡ k) keys (All-permutation (λ k. row_key (g k) ≡ k) (map row_key rows) keys moved (All-from_recursion (λ k. row_key (g k) ≡ k) (map row_key rows) same))),
    )

taken : (accounts : List (List Row)) (rows : List Row) (keys : List Key) → AllByRecursion (IsFound accounts) rows → IsPermutation (map row_key rows) keys → Taken rows keys
taken accounts [] [] found moved = ([], IsPermutation-refl [], refl)
taken accounts [] (key ∷ keys) found moved = absurd (omega (arith, length_permutation [] (key ∷ keys) moved))
taken accounts (row ∷ rows) keys found moved =
    taken_by (λ k. unwrap_or (row_at accounts k.place) row) (row ∷ rows) keys
    (each_weaker (IsFound accounts) (λ r. unwrap_or (row_at accounts (row_place r)) row ≡ r) (λ r p. ap (λ o. unwrap_or o row) p) (row ∷ rows) found) moved

-- ---- the order

read_back : (accounts : List (List Row)) (rows : List Row) → AllByRecursion (IsFound accounts) rows → filter_map (row_at accounts) (map key_place (map row_key rows)) ≡ rows
read_back accounts [] h = refl
read_back accounts (row ∷ rows) h = ap₂ (λ o rs. cons_option o rs) h.0 (read_back accounts rows h.1)

some_is : {X : Type 0} (o : Option X) (x : X) → o ≡ Some x → IsSome o
some_is o x h = rw h refl

all_filled : (accounts : List (List Row)) (rows : List Row) → AllByRecursion (IsFound accounts) rows → AllByRecursion (λ place. IsSome (row_at accounts place)) (map key_place (map row_key rows))
all_filled accounts [] h = tt
all_filled accounts (row ∷ rows) h = (some_is (row_at accounts (row_place row)) row h.0, all_filled accounts rows h.1)

-- the rows of accounts in their order are the merge
pub sorted_merge : (accounts : List (List Row)) (rows : List Row) → AreAccounts accounts → IsPermutation (all_rows accounts) rows → IsSorted row_cmp rows → IsMerge accounts rows
sorted_merge accounts rows are moved up =
    let apart : IsDistinct same_rank rows = IsDistinct-IsPermutation same_rank (eq_by_cmp_equiv row_total).symm (all_rows accounts) rows moved (all_apart accounts are) in
    record { exactly = moved; order = strict row_cmp row_total rows up apart }

order_of_rows : (accounts : List (List Row)) (rows : List Row) → AreAccounts accounts → IsPermutation (all_rows accounts) rows → IsSorted row_cmp rows → IsMergeOrder accounts (map key_place (map row_key rows))
order_of_rows accounts rows are moved up =
    let found : AllByRecursion (IsFound accounts) rows = recursion_from_All (IsFound accounts) rows (All-permutation (IsFound accounts) (all_rows accounts) rows moved (All-from_recursion (IsFound accounts) (all_rows accounts) (all_found accounts are))) in
    let merge = sorted_merge accounts rows are moved up in
    record {
      filled = All-from_recursion (λ place. IsSome (row_at accounts place)) (map key_place (map row_key rows)) (all_filled accounts rows found);
      merge = subst (IsMerge accounts) (sym (read_back accounts rows found)) merge;
    }

pub merge_order : (accounts : List (List Row)) (keys : List Key) → AreAccounts accounts → IsPermutation (map row_key (all_rows accounts)) keys → IsSorted key_cmp keys → IsMergeOrder accounts (map key_place keys)
merge_order accounts keys are moved up =
    let rows = taken accounts (all_rows accounts) keys (all_found accounts are) moved in
    subst (λ ks. IsMergeOrder accounts (map key_place ks)) rows.2
    (order_of_rows accounts rows.0 are rows.1 (sorted_rows rows.0 (subst (IsSorted key_cmp) (sym rows.2) up)))
