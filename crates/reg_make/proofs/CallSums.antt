-- Sums over the rows of a round, session by session.
use Rattle.std.proofs.Common.{◌≡◌, inl, inr, ℕ, zero, suc, ◌+◌, ◌*◌, ◌<◌, ◌≤◌, true, false, cond, ◌==◌, List, [], ◌∷◌, ◌++◌, map, length, filter, Some, refl, sym, ◌∙◌, ap, ap₂, arith}
use Rattle.std.specs.Prelude.{sum_by, slice_get}
use Rattle.std.specs.List.{AllByRecursion, range_with_len}
use Rattle.std.proofs.lemmas.Bool.{cases_order}
use Rattle.std.proofs.lemmas.Bool.Decides.{nat_tests}
use Rattle.std.proofs.lemmas.List.FromFn.{length-map-range_with_len, get_or-map-range_with_len}
use Rattle.std.proofs.lemmas.List.Sums.{sum_by-cons, sum_by-append}
use Rattle.std.proofs.lemmas.Option.{slice_get-get_or}
use Rattle.reg_model.specs.declared.call.Call.{Call}
use Rattle.reg_model.specs.declared.call.Call.TheVariants as calls
use Rattle.reg_model.specs.declared.reply.Row.{Row}
use Rattle.reg_model.specs.Rows.{session_rows}
use Rattle.reg_model.specs.Runs.{RoundRows}
use Rattle.reg_make.specs.Generator.{unit}
use Rattle.reg_make.specs.Workloads.{Work, unit_count, declare_calls, first_calls, MakesLists}

-- ---- sums

pub sum_agree : {X : Type 0} (f g : X → ℕ) → ((x : X) → f x ≡ g x) → (xs : List X) → sum_by f xs ≡ sum_by g xs
sum_agree f g h xs = λ i. sum_by (λ x. h x i) xs

pub sum_none : {X : Type 0} (f : X → ℕ) → ((x : X) → f x ≡ 0) → (xs : List X) → sum_by f xs ≡ 0
sum_none f h [] = refl
sum_none f h (x ∷ xs) = omega (arith, sum_by-cons f x xs, h x, sum_none f h xs)

pub sum_plus : {X : Type 0} (f g : X → ℕ) (xs : List X) → sum_by (λ x. f x + g x) xs ≡ sum_by f xs + sum_by g xs
sum_plus f g [] = refl
sum_plus f g (x ∷ xs) = omega (arith, sum_by-cons (λ y. f y + g y) x xs, sum_by-cons f x xs, sum_by-cons g x xs, sum_plus f g xs)

pub sum_map : {X Y : Type 0} (g : Y → ℕ) (f : X → Y) (xs : List X) → sum_by g (map f xs) ≡ sum_by (λ x. g (f x)) xs
sum_map g f [] = refl
sum_map g f (x ∷ xs) = omega (arith, sum_by-cons g (f x) (map f xs), sum_by-cons (λ y. g (f y)) x xs, sum_map g f xs)

pub sum_ones : {X : Type 0} (xs : List X) → sum_by (λ (x : X). 1) xs ≡ length xs
sum_ones [] = refl
sum_ones (x ∷ xs) = omega (arith, sum_by-cons (λ y. 1) x xs, sum_ones xs)

-- where a sum is 0, each term is
pub each_none : {X : Type 0} (f : X → ℕ) (xs : List X) → sum_by f xs ≡ 0 → AllByRecursion (λ x. f x ≡ 0) xs
each_none f [] h = tt
each_none f (x ∷ xs) h = (omega (arith, h, sum_by-cons f x xs), each_none f xs (omega (arith, h, sum_by-cons f x xs)))

-- ---- ranges

range_agree : (f g : ℕ → ℕ) (a n : ℕ) → ((s : ℕ) → a ≤ s → s < a + n → f s ≡ g s) → sum_by f (range_with_len a n) ≡ sum_by g (range_with_len a n)
range_agree f g a zero h = refl
range_agree f g a (suc n) h =
    let here = h a (omega arith) (omega arith) in
    let rest = range_agree f g (a + 1) n (λ s low high. h s (omega (arith, low)) (omega (arith, high))) in
    omega (arith, sum_by-cons f a (range_with_len (a + 1) n), sum_by-cons g a (range_with_len (a + 1) n), here, rest)

range_join : (a m n : ℕ) → range_with_len a (m + n) ≡ range_with_len a m ++ range_with_len (a + m) n
range_join a zero n =
    let start : a ≡ a + 0 = omega arith in
    let many : 0 + n ≡ n = omega arith in
    ap₂ range_with_len start many
range_join a (suc m) n =
    let many : suc m + n ≡ suc (m + n) = omega arith in
    let start : a + 1 + m ≡ a + suc m = omega arith in
    ap (range_with_len a) many ∙ ap (λ xs. a ∷ xs) (range_join (a + 1) m n ∙ ap (λ b. range_with_len (a + 1) m ++ range_with_len b n) start)

-- the sums of blocks of one length are the sum of all
sum_blocks : (h : ℕ → ℕ) (each a n : ℕ) → sum_by (λ s. sum_by h (range_with_len (s * each) each)) (range_with_len a n) ≡ sum_by h (range_with_len (a * each) (n * each))
sum_blocks h each a zero = let none : 0 ≡ 0 * each = omega arith in ap (λ k. sum_by h (range_with_len (a * each) k)) none
sum_blocks h each a (suc n) =
    let many : suc n * each ≡ each + n * each = omega arith in
    let start : (a + 1) * each ≡ a * each + each = omega arith in
    let whole = ap (λ k. sum_by h (range_with_len (a * each) k)) many ∙ ap (sum_by h) (range_join (a * each) each (n * each)) in
    let rest = sum_blocks h each (a + 1) n ∙ ap (λ b. sum_by h (range_with_len b (n * each))) start in
    omega (arith, sum_by-cons (λ s. sum_by h (range_with_len (s * each) each)) a (range_with_len (a + 1) n), rest, whole, sum_by-append h (range_with_len (a * each) each) (range_with_len (a * each + each) (n * each)))

-- ---- parts of a list

-- those with this key
abbrev part : {X : Type 0} → (X → ℕ) → List X → ℕ → List X
part key xs s = filter (λ x. key x == s) xs

no_term : (k v a n : ℕ) → k < a → sum_by (λ s. cond (k == s) v 0) (range_with_len a n) ≡ 0
no_term k v a zero low = refl
no_term k v a (suc n) low =
    let other : (k == a) ≡ false = grind (arith, nat_tests, low) in
    let rest = no_term k v (a + 1) n (omega (arith, low)) in
    omega (arith, sum_by-cons (λ s. cond (k == s) v 0) a (range_with_len (a + 1) n), ap (λ b. cond b v 0) other, rest)

-- one number of a range has the key
one_term : (k v a n : ℕ) → a ≤ k → k < a + n → sum_by (λ s. cond (k == s) v 0) (range_with_len a n) ≡ v
one_term k v a zero low high = absurd (omega (arith, low, high))
one_term k v a (suc n) low high = elim (cases_order k a) [
  | inl same ↦
      let this : (k == a) ≡ true = grind (arith, nat_tests, same) in
      let rest = no_term k v (a + 1) n (omega (arith, same)) in
      omega (arith, sum_by-cons (λ s. cond (k == s) v 0) a (range_with_len (a + 1) n), ap (λ b. cond b v 0) this, rest)
  | inr (inl below) ↦ absurd (omega (arith, low, below))
  | inr (inr above) ↦
      let other : (k == a) ≡ false = grind (arith, nat_tests, above) in
      let rest = one_term k v (a + 1) n (omega (arith, above)) (omega (arith, high)) in
      omega (arith, sum_by-cons (λ s. cond (k == s) v 0) a (range_with_len (a + 1) n), ap (λ b. cond b v 0) other, rest)
]

part_more : {X : Type 0} (key f : X → ℕ) (x : X) (xs : List X) (s : ℕ) → cond (key x == s) (f x) 0 + sum_by f (part key xs s) ≡ sum_by f (part key (x ∷ xs) s)
part_more key f x xs s =
    elim (key x == s) as (λ b. cond b (f x) 0 + sum_by f (part key xs s) ≡ sum_by f (cond b (x ∷ part key xs s) (part key xs s)))
    [ true ↦ sym (sum_by-cons f x (part key xs s)) | false ↦ omega arith ]

-- a sum is that of the parts by a key
sum_parts : {X : Type 0} (key f : X → ℕ) (n : ℕ) (xs : List X) → AllByRecursion (λ x. key x < n) xs
    → sum_by f xs ≡ sum_by (λ s. sum_by f (part key xs s)) (range_with_len 0 n)
sum_parts key f n [] h = sym (sum_none (λ (s : ℕ). 0) (λ s. refl) (range_with_len 0 n))
sum_parts key f n (x ∷ xs) h =
    sum_by-cons f x xs
    ∙ ap₂ (λ a b. a + b) (sym (one_term (key x) (f x) 0 n (omega arith) (omega (arith, h.0)))) (sum_parts key f n xs h.1)
    ∙ sym (sum_plus (λ s. cond (key x == s) (f x) 0) (λ s. sum_by f (part key xs s)) (range_with_len 0 n))
    ∙ sum_agree (λ s. cond (key x == s) (f x) 0 + sum_by f (part key xs s)) (λ s. sum_by f (part key (x ∷ xs) s)) (λ s. part_more key f x xs s) (range_with_len 0 n)

-- ---- the calls of the first round

-- what its calls give together, in whatever order they were served
pub calls_sum : (work : Work) (round : RoundRows) (g : Call → ℕ) → AllByRecursion (λ (row : Row). row.session < work.sessions) round.rows → MakesLists (first_calls work) round
    → sum_by (λ (row : Row). g row.call) round.rows ≡ sum_by (λ i. g (calls.Declare (unit work.seed i))) (range_with_len 0 (unit_count work))
calls_sum work round g known made =
    sum_parts (λ (row : Row). row.session) (λ (row : Row). g row.call) work.sessions round.rows known
    ∙ range_agree (λ s. sum_by (λ (row : Row). g row.call) (session_rows s round.rows)) (λ s. sum_by h (range_with_len (s * work.each) work.each)) 0 work.sessions
    (λ s low high.
    sym (sum_map g (λ (row : Row). row.call) (session_rows s round.rows))
    ∙ ap (sum_by g) (made s (declare_calls work s) (list_at s (omega (arith, high))))
    ∙ sum_map g (λ i. calls.Declare (unit work.seed i)) (range_with_len (s * work.each) work.each))
    ∙ sum_blocks h work.each 0 work.sessions
    ∙ ap₂ (λ a n. sum_by h (range_with_len a n)) start many
  where
    h : ℕ → ℕ
    h i = g (calls.Declare (unit work.seed i))

    list_at : (s : ℕ) → s < work.sessions → slice_get (first_calls work) s ≡ Some (declare_calls work s)
    list_at s low =
        slice_get-get_or (first_calls work) s [] (omega (arith, low, length-map-range_with_len (declare_calls work) 0 work.sessions))
        ∙ ap Some (get_or-map-range_with_len (declare_calls work) 0 work.sessions s s [] low (omega arith))

    start : 0 * work.each ≡ 0
    start = omega arith

    many : work.sessions * work.each ≡ work.each * work.sessions
    many = omega arith
