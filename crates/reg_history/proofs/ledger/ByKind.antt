-- Declarations in lists by kind.
use Rattle.std.proofs.Common.{◌≡◌, ℕ, zero, suc, ◌+◌, ◌<◌, ◌≤◌, Bool, true, false, not, ◌&&◌, ◌||◌, ◌==◌, cond, List, [], ◌∷◌, ◌++◌, length, map, filter, find, set, take, drop, Option, Some, None, refl, sym, ◌∙◌, ap, ap₂, subst, arith}
use Rattle.std.specs.Prelude.{All, count_by, sum_by, nat_lt, slice_get, get_or, is_some, IfSome, IsPermutation, IsSorted}
use Rattle.std.specs.List.{list_any}
use Rattle.std.specs.Option.{option_map}
use Rattle.std.proofs.lemmas.Bool.Decides.{nat_tests}
use Rattle.std.proofs.lemmas.Bool.{true≢false}
use Rattle.std.proofs.lemmas.List.{length-map, length-set, get_or-set_same, get_or-set_other, take_all, get_or-take, get_or_default, length-take-le, append-nil, drop_all, drop_more, drop-set-lt, take_more, take_more_set, map-append}
use Rattle.std.proofs.lemmas.List.Elements.{All-head, All-tail, All-append, All-cons, All-nil, All-filter, filter-append, filter_passes}
use Rattle.std.proofs.lemmas.List.Folds.{list_any_at, list_any_more, Any-from_list_any}
use Rattle.std.proofs.lemmas.List.Sums.{length-filter, sum_by_more, sum_by-cons}
use Rattle.std.proofs.lemmas.Option.{none-some, slice_get-get_or, slice_get-map, slice_get_within, get_or_from_slice_get}
use Rattle.iscc_header.specs.declared.unit.Unit64.{Unit64}
use Rattle.reg_model.specs.declared.update.Declared.{Declared}
use Rattle.reg_model.specs.declared.reply.Hit.{Hit}
use Rattle.reg_model.specs.Opening.{IsRising}
use Rattle.reg_model.specs.Replies.{AreHits, hit_of, is_near, code_cmp}
use Rattle.reg_model.proofs.Rising.{has_id, without, find-none}
use Rattle.reg_history.specs.inner.LiveSets.{AreByKind, is_within}

abbrev pub of_kind : ℕ → Declared → Bool
of_kind kind d = d.unit.kind == kind

-- ---- two tests

-- what passes both
filter_both : (p q both : Declared → Bool) → ((d : Declared) → both d ≡ (p d && q d)) → (ds : List Declared) → filter both ds ≡ filter q (filter p ds)
filter_both p q both agree [] = refl
filter_both p q both agree (d ∷ ds) =
    let rest = filter_both p q both agree ds in
    rw (agree d) (elim (p d) as (λ b. cond (b && q d) (d ∷ filter both ds) (filter both ds) ≡ filter q (cond b (d ∷ filter p ds) (filter p ds)))
    [ true ↦ ap (λ es. cond (q d) (d ∷ es) es) rest | false ↦ rest ])

-- in either order
filter_swap : (p q : Declared → Bool) (ds : List Declared) → filter p (filter q ds) ≡ filter q (filter p ds)
filter_swap p q ds = sym (filter_both q p (λ d. p d && q d) (λ d. turned (p d) (q d)) ds) ∙ filter_both p q (λ d. p d && q d) (λ d. refl) ds
  where
    turned : (a b : Bool) → (a && b) ≡ (b && a)
    turned true true = refl
    turned true false = refl
    turned false true = refl
    turned false false = refl

-- ---- the list of a kind

pub at_kind : (kinds : List (List Declared)) (live : List Declared) → AreByKind kinds live → (kind : ℕ) (default : List Declared) → kind < 13 → get_or kinds kind default ≡ filter (of_kind kind) live
at_kind kinds live by kind default lt = get_or_from_slice_get kinds kind (filter (of_kind kind) live) default (by.each kind lt)

-- the hits of a query in the list of its kind
pub near_kind : (kinds : List (List Declared)) (live : List Declared) → AreByKind kinds live → (unit : Unit64) (radius : ℕ) (list : List Declared) → unit.kind < 13 → list ≡ get_or kinds unit.kind list → (hits : List Hit)
    → IsPermutation (map (hit_of unit) (filter (is_within unit radius) list)) hits → IsSorted code_cmp hits → AreHits live unit radius hits
near_kind kinds live by unit radius list lt is hits exactly order = record {
  exactly =
      let same : filter (is_within unit radius) list ≡ filter (is_near unit radius) live =
      ap (filter (is_within unit radius)) (is ∙ at_kind kinds live by unit.kind list lt)
      ∙ sym (filter_both (of_kind unit.kind) (is_within unit radius) (is_near unit radius) (λ d. refl) live) in
      subst (λ ds. IsPermutation (map (hit_of unit) ds) hits) same exactly;
  order = order;
}

-- a further declaration at the end of the list of its kind
pub by_kind-push : (kinds : List (List Declared)) (live : List Declared) → AreByKind kinds live → (declared : Declared) (list new : List Declared) → declared.unit.kind < 13
    → list ≡ get_or kinds declared.unit.kind list → new ≡ list ++ declared ∷ [] → AreByKind (set kinds declared.unit.kind new) (live ++ declared ∷ [])
by_kind-push kinds live by declared list new lt is pushed = record {
  all = length-set kinds declared.unit.kind new ∙ by.all;
  known = All-append (λ (d : Declared). d.unit.kind < 13) live (declared ∷ []) by.known (All-cons (λ (d : Declared). d.unit.kind < 13) declared [] lt (All-nil (λ (d : Declared). d.unit.kind < 13)));
  each = λ kind below.
      slice_get-get_or (set kinds declared.unit.kind new) kind [] (omega (arith, below, by.all, length-set kinds declared.unit.kind new))
      ∙ ap Some (at kind below (declared.unit.kind == kind) refl ∙ sym (filter-append (of_kind kind) live (declared ∷ [])));
}
  where
    at : (kind : ℕ) → kind < 13 → (b : Bool) → (declared.unit.kind == kind) ≡ b → get_or (set kinds declared.unit.kind new) kind [] ≡ filter (of_kind kind) live ++ cond b (declared ∷ []) []
    at kind below true is_it =
        let same : kind ≡ declared.unit.kind = grind (arith, nat_tests, is_it) in
        ap (λ n. get_or (set kinds declared.unit.kind new) n []) same
        ∙ get_or-set_same kinds declared.unit.kind new [] (omega (arith, lt, by.all))
        ∙ pushed
        ∙ ap (λ ds. ds ++ declared ∷ []) (is ∙ at_kind kinds live by declared.unit.kind list lt ∙ ap (λ n. filter (of_kind n) live) (sym same))
    at kind below false is_it =
        get_or-set_other kinds declared.unit.kind kind new [] (λ (same : kind ≡ declared.unit.kind). grind (arith, nat_tests, is_it, same))
        ∙ at_kind kinds live by kind [] below
        ∙ sym (append-nil (filter (of_kind kind) live))

-- ids that are above all are above those of each list
pub ids_below : (kinds : List (List Declared)) (live : List Declared) → AreByKind kinds live → (kind id : ℕ) → All (λ (e : Declared). e.id < id) live → IfSome (slice_get kinds kind) (All (λ (e : Declared). e.id < id))
ids_below kinds live by kind id lower = step (slice_get kinds kind) refl
  where
    step : (o : Option (List Declared)) → slice_get kinds kind ≡ o → IfSome o (All (λ (e : Declared). e.id < id))
    step None there = tt
    step (Some ds) there =
        let known : kind < 13 = omega (arith, slice_get_within kinds kind ds there, by.all) in
        let same : filter (of_kind kind) live ≡ ds = sym (at_kind kinds live by kind [] known) ∙ get_or_from_slice_get kinds kind ds [] there in
        subst (All (λ (e : Declared). e.id < id)) same (All-filter (of_kind kind) (λ (e : Declared). e.id < id) live lower)

-- the declarations of a list have its kind
pub kinds_agree : (kinds : List (List Declared)) (live : List Declared) → AreByKind kinds live → (kind : ℕ) → IfSome (slice_get kinds kind) (All (λ (e : Declared). e.unit.kind ≡ kind))
kinds_agree kinds live by kind = step (slice_get kinds kind) refl
  where
    passes : (d : Declared) → of_kind kind d ≡ true → d.unit.kind ≡ kind
    passes d is = grind (arith, nat_tests, is)

    step : (o : Option (List Declared)) → slice_get kinds kind ≡ o → IfSome o (All (λ (e : Declared). e.unit.kind ≡ kind))
    step None there = tt
    step (Some ds) there =
        let known : kind < 13 = omega (arith, slice_get_within kinds kind ds there, by.all) in
        let same : filter (of_kind kind) live ≡ ds = sym (at_kind kinds live by kind [] known) ∙ get_or_from_slice_get kinds kind ds [] there in
        subst (All (λ (e : Declared). e.unit.kind ≡ kind)) same (λ i e lt. passes (get_or (filter (of_kind kind) live) i e) (filter_passes (of_kind kind) live i e lt))

-- ids rise, so those that stand before a declaration are below its own
pub above : (kinds : List (List Declared)) (list : List Declared) (i : ℕ) (d : Declared) → AreByKind kinds (take i list) → IsRising list → i < length list → d ≡ get_or list i d
    → IfSome (slice_get kinds d.unit.kind) (All (λ (e : Declared). e.id < d.id))
above kinds list i d by rising lt is = ids_below kinds (take i list) by d.unit.kind d.id (λ j e inside.
    let before : j < i = omega (arith, inside, length-take-le i list) in
    let pair = rising j i e before lt in
    let this : d ≡ get_or list i e = is ∙ get_or_default list i d e lt in
    omega (arith, pair, ap (λ (x : Declared). x.id) (get_or-take i list j e before), ap (λ (x : Declared). x.id) this))

-- ---- how many

abbrev one_if : Bool → ℕ
one_if b = cond b 1 0

abbrev of_kind_below : ℕ → Declared → Bool
of_kind_below n d = nat_lt d.unit.kind n

count_next : (n : ℕ) (ds : List Declared) → count_by (of_kind_below (n + 1)) ds ≡ count_by (of_kind_below n) ds + count_by (of_kind n) ds
count_next n [] = refl
count_next n (d ∷ ds) =
    omega (
      arith,
      sum_by-cons (λ (e : Declared). one_if (of_kind_below (n + 1) e)) d ds,
      sum_by-cons (λ (e : Declared). one_if (of_kind_below n e)) d ds,
      sum_by-cons (λ (e : Declared). one_if (of_kind n e)) d ds,
      one d.unit.kind,
      count_next n ds,
    )
  where
    one : (k : ℕ) → one_if (nat_lt k (n + 1)) ≡ one_if (nat_lt k n) + one_if (k == n)
    one k = grind (arith, nat_tests)

count_none : (ds : List Declared) → count_by (of_kind_below 0) ds ≡ 0
count_none [] = refl
count_none (d ∷ ds) = omega (arith, sum_by-cons (λ (e : Declared). one_if (of_kind_below 0 e)) d ds, none d.unit.kind, count_none ds)
  where
    none : (k : ℕ) → one_if (nat_lt k 0) ≡ 0
    none k = grind (arith, nat_tests)

count_all : (n : ℕ) (ds : List Declared) → All (λ (d : Declared). d.unit.kind < n) ds → count_by (of_kind_below n) ds ≡ length ds
count_all n [] h = refl
count_all n (d ∷ ds) h =
    omega (
      arith,
      sum_by-cons (λ (e : Declared). one_if (of_kind_below n e)) d ds,
      one d.unit.kind (All-head (λ (e : Declared). e.unit.kind < n) d ds h),
      count_all n ds (All-tail (λ (e : Declared). e.unit.kind < n) d ds h),
    )
  where
    one : (k : ℕ) → k < n → one_if (nat_lt k n) ≡ 1
    one k lt = grind (arith, nat_tests, lt)

sum_kinds : (kinds : List (List Declared)) (live : List Declared) → AreByKind kinds live → (n : ℕ) → n ≤ 13 → sum_by length (take n kinds) ≡ count_by (of_kind_below n) live
sum_kinds kinds live by zero le = sym (count_none live)
sum_kinds kinds live by (suc n) le =
    let rest = sum_kinds kinds live by n (omega (arith, le)) in
    let lt : n < 13 = omega (arith, le) in
    let here : length (get_or kinds n []) ≡ count_by (of_kind n) live = ap length (at_kind kinds live by n [] lt) ∙ length-filter (of_kind n) live in
    let next : n + 1 ≡ suc n = omega arith in
    subst (λ m. sum_by length (take m kinds) ≡ count_by (of_kind_below m) live) next
    (omega (arith, sum_by_more length kinds n [] (omega (arith, lt, by.all)), rest, here, count_next n live))

pub sum_all : (kinds : List (List Declared)) (live : List Declared) → AreByKind kinds live → sum_by length kinds ≡ length live
sum_all kinds live by =
    ap (sum_by length) (sym (take_all 13 kinds (omega (arith, by.all))))
    ∙ sum_kinds kinds live by 13 (omega arith)
    ∙ count_all 13 live by.known

-- ---- the declaration with an id

-- what is found among those that pass a test is found among all
find_whole : (p : Declared → Bool) (id : ℕ) (ds : List Declared) (x : Declared) → IsRising ds → find (has_id id) (filter p ds) ≡ Some x → find (has_id id) ds ≡ Some x
find_whole p id [] x rising found = found
find_whole p id (d ∷ ds) x rising found =
    step (p d) (has_id id d) refl found (find_whole p id ds x (λ i j e lt inside. rising (suc i) (suc j) e (omega (arith, lt)) (omega (arith, inside))))
  where
    behind : d.id ≡ id → All (λ (e : Declared). e.id ≡ id → ⊥) ds
    behind this = λ i e lt same. omega (arith, rising zero (suc i) e (omega arith) (omega (arith, lt)), same, this)

    step : (b h : Bool) → has_id id d ≡ h → find (has_id id) (cond b (d ∷ filter p ds) (filter p ds)) ≡ Some x → (find (has_id id) (filter p ds) ≡ Some x → find (has_id id) ds ≡ Some x)
        → cond h (Some d) (find (has_id id) ds) ≡ Some x
    step true true is here rest = subst (λ c. cond c (Some d) (find (has_id id) (filter p ds)) ≡ Some x) is here
    step true false is here rest = rest (subst (λ c. cond c (Some d) (find (has_id id) (filter p ds)) ≡ Some x) is here)
    step false true is here rest =
        let this : d.id ≡ id = grind (arith, nat_tests, is) in
        absurd (none-some x (sym (find-none id (filter p ds) (All-filter p (λ (e : Declared). e.id ≡ id → ⊥) ds (behind this))) ∙ here))
    step false false is here rest = rest here

pub found_at : (kinds : List (List Declared)) (live : List Declared) → AreByKind kinds live → IsRising live → (id kind : ℕ) (list : List Declared) (x : Declared) → kind < length kinds → list ≡ get_or kinds kind list
    → find (has_id id) list ≡ Some x → find (has_id id) live ≡ Some x
found_at kinds live by rising id kind list x lt is found =
    let same = is ∙ at_kind kinds live by kind list (omega (arith, lt, by.all)) in
    find_whole (of_kind kind) id live x rising (subst (λ ds. find (has_id id) ds ≡ Some x) same found)

-- what is in no kind is nowhere
find_nowhere : (id : ℕ) (ds : List Declared) → All (λ (d : Declared). d.unit.kind < 13) ds → ((kind : ℕ) → kind < 13 → find (has_id id) (filter (of_kind kind) ds) ≡ None) → find (has_id id) ds ≡ None
find_nowhere id [] known none = refl
find_nowhere id (d ∷ ds) known none =
    step (has_id id d) refl (find_nowhere id ds (All-tail (λ (e : Declared). e.unit.kind < 13) d ds known))
  where
    this : find (has_id id) (d ∷ filter (of_kind d.unit.kind) ds) ≡ None
    this =
        let same : of_kind d.unit.kind d ≡ true = grind (arith, nat_tests) in
        subst (λ b. find (has_id id) (cond b (d ∷ filter (of_kind d.unit.kind) ds) (filter (of_kind d.unit.kind) ds)) ≡ None) same
        (none d.unit.kind (All-head (λ (e : Declared). e.unit.kind < 13) d ds known))

    behind : (kind : ℕ) → has_id id d ≡ false → (b : Bool) → find (has_id id) (cond b (d ∷ filter (of_kind kind) ds) (filter (of_kind kind) ds)) ≡ None → find (has_id id) (filter (of_kind kind) ds) ≡ None
    behind kind is true here = subst (λ c. cond c (Some d) (find (has_id id) (filter (of_kind kind) ds)) ≡ None) is here
    behind kind is false here = here

    step : (h : Bool) → has_id id d ≡ h → (((kind : ℕ) → kind < 13 → find (has_id id) (filter (of_kind kind) ds) ≡ None) → find (has_id id) ds ≡ None) → cond h (Some d) (find (has_id id) ds) ≡ None
    step true is rest = absurd (none-some d (sym (subst (λ c. cond c (Some d) (find (has_id id) (filter (of_kind d.unit.kind) ds)) ≡ None) is this)))
    step false is rest = rest (λ kind lt. behind kind is (of_kind kind d) (none kind lt))

pub not_found : (kinds : List (List Declared)) (live : List Declared) → AreByKind kinds live → (id : ℕ) → All (λ ds. find (has_id id) ds ≡ None) kinds → find (has_id id) live ≡ None
not_found kinds live by id none =
    find_nowhere id live by.known (λ kind lt. subst (λ ds. find (has_id id) ds ≡ None) (at_kind kinds live by kind [] lt) (none kind [] (omega (arith, lt, by.all))))

-- ---- a withdrawal

abbrev pub has : ℕ → List Declared → Bool
has id ds = is_some (find (has_id id) ds)

has-filter : (p : Declared → Bool) (id : ℕ) (ds : List Declared) → has id (filter p ds) ≡ true → has id ds ≡ true
has-filter p id [] h = h
has-filter p id (d ∷ ds) h = step (p d) (has_id id d) refl h (has-filter p id ds)
  where
    step : (b c : Bool) → has_id id d ≡ c → has id (cond b (d ∷ filter p ds) (filter p ds)) ≡ true → (has id (filter p ds) ≡ true → has id ds ≡ true) → is_some (cond c (Some d) (find (has_id id) ds)) ≡ true
    step b true is here rest = refl
    step true false is here rest = rest (subst (λ e. is_some (cond e (Some d) (find (has_id id) (filter p ds))) ≡ true) is here)
    step false false is here rest = rest here

agree : (a b : Bool) → (a ≡ true → b ≡ true) → (b ≡ true → a ≡ true) → a ≡ b
agree true b to from = sym (to refl)
agree false true to from = from refl
agree false false to from = refl

none_if : (o : Option Declared) → (is_some o ≡ true → ⊥) → o ≡ None
none_if None never = refl
none_if (Some d) never = absurd (never refl)

by_cases : (b : Bool) → ((b ≡ true → ⊥) → ⊥) → b ≡ true
by_cases true h = refl
by_cases false h = absurd (h (λ (e : false ≡ true). true≢false (sym e)))

pub has-any : (kinds : List (List Declared)) (live : List Declared) → AreByKind kinds live → (id : ℕ) → list_any (has id) kinds ≡ has id live
has-any kinds live by id = agree (list_any (has id) kinds) (has id live) to from
  where
    to : list_any (has id) kinds ≡ true → has id live ≡ true
    to any =
        let place = Any-from_list_any (has id) kinds any in
        let same = sym place.3 ∙ at_kind kinds live by place.0 place.1 (omega (arith, place.2, by.all)) in
        has-filter (of_kind place.0) id live (subst (λ ds. has id ds ≡ true) same place.4)

    from : has id live ≡ true → list_any (has id) kinds ≡ true
    from there = by_cases (list_any (has id) kinds) (λ none.
        let nowhere = not_found kinds live by id (λ kind ds lt. none_if (find (has_id id) (get_or kinds kind ds)) (λ here. none (list_any_at (has id) kinds kind ds lt here))) in
        true≢false (sym there ∙ ap is_some nowhere))

-- each list without the id
pub by_kind-without : (kinds : List (List Declared)) (live : List Declared) → AreByKind kinds live → (id : ℕ) → AreByKind (map (without id) kinds) (without id live)
by_kind-without kinds live by id = record {
  all = length-map kinds (without id) ∙ by.all;
  known = All-filter (λ (d : Declared). not (has_id id d)) (λ (d : Declared). d.unit.kind < 13) live by.known;
  each = λ kind lt.
      slice_get-map (without id) kinds kind
      ∙ ap (option_map (without id)) (by.each kind lt)
      ∙ ap Some (filter_swap (λ (d : Declared). not (has_id id d)) (of_kind kind) live);
}

-- what a slice of a whole Vec leaves in it
pub written_back : {X : Type 0} (n : ℕ) (xs ys : List X) → n ≡ length ys → length xs ≡ length ys → take n (xs ++ drop (length xs) ys) ≡ xs
written_back n xs ys is same =
    ap (λ zs. take n (xs ++ zs)) (drop_all (length xs) ys (omega (arith, same)))
    ∙ ap (take n) (append-nil xs)
    ∙ take_all n xs (omega (arith, is, same))

-- the lists up to a place are without the id, and the others as they were
abbrev pub AreWithout : ℕ → ℕ → List (List Declared) → List (List Declared) → Bool → Type 0
AreWithout id i lists now was = (was ≡ list_any (has id) (take i lists)) × (take i now ≡ map (without id) (take i lists)) × (drop i now ≡ drop i lists)

pub withdrawn_more : (id i : ℕ) (lists now : List (List Declared)) (was : Bool) → AreWithout id i lists now was → i < length lists → length now ≡ length lists
    → (default new : List Declared) (here : Bool) → here ≡ has id (get_or now i default) → new ≡ without id (get_or now i default) → AreWithout id (i + 1) lists (set now i new) (was || here)
withdrawn_more id i lists now was so_far lt long default new here found left =
    let inside : i < length now = omega (arith, lt, long) in
    let behind : get_or now i default ∷ drop (i + 1) now ≡ get_or lists i default ∷ drop (i + 1) lists = sym (drop_more now i default inside) ∙ so_far.2 ∙ drop_more lists i default lt in
    let same : get_or now i default ≡ get_or lists i default = ap (λ ls. get_or ls 0 default) behind in (
      ap₂ (λ a b. a || b) so_far.0 (found ∙ ap (has id) same) ∙ sym (list_any_more (has id) lists i default lt),
      take_more_set now i new inside
          ∙ ap₂ (λ xs ys. xs ++ ys ∷ []) so_far.1 (left ∙ ap (without id) same)
          ∙ sym (map-append (without id) (take i lists) (get_or lists i default ∷ []))
          ∙ ap (map (without id)) (sym (take_more lists i default lt)),
      drop-set-lt (i + 1) now i new (omega arith) ∙ ap (drop 1) behind,
    )

-- one element more of a list
pub taken_more : (list : List Declared) (i : ℕ) (d : Declared) (P : List Declared → Type 0) → i < length list → d ≡ get_or list i d → P (take i list ++ d ∷ []) → P (take (i + 1) list)
taken_more list i d P lt is here = subst P (ap (λ x. take i list ++ x ∷ []) is ∙ sym (take_more list i d lt)) here
