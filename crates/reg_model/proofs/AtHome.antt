-- In the accounts of sessions each row stands at the place of its session and number, and no two are the same in both.
use Rattle.std.proofs.Common.{◌≡◌, ℕ, zero, suc, ◌+◌, ◌-◌, ◌<◌, ◌≤◌, Bool, false, List, [], ◌∷◌, ◌++◌, Option, Some, None, refl, sym, ◌∙◌, ap, arith}
use Rattle.std.specs.Prelude.{IfSome, slice_get, if◌then◌else◌}
use Rattle.std.specs.List.{AllByRecursion, IsDistinct}
use Rattle.std.specs.Option.{option_and_then}
use Rattle.std.specs.Ordering.{is_eq, eq_by_cmp, nat_cmp, ordering_then}
use Rattle.std.specs.Cmp.{nat_cmp_is}
use Rattle.std.specs.declared.cmp.Ordering.{Ordering}
use Rattle.std.specs.declared.cmp.Ordering.TheVariants.{Less, Equal, Greater}
use Rattle.reg_model.specs.declared.reply.Row.{Row}
use Rattle.reg_model.specs.Rows.{is_accepted, row_cmp, all_rows}
use Rattle.reg_model.specs.Merge.{row_at, AreAccounts}
use Rattle.reg_model.specs.inner.MergeKeys.{row_place}
use Rattle.reg_model.proofs.RowSteps.{IfSome-weaker}

-- ---- what holds of each element

pub each_weaker : {X : Type 0} (P Q : X → Type 0) → ((x : X) → P x → Q x) → (xs : List X) → AllByRecursion P xs → AllByRecursion Q xs
each_weaker P Q f [] h = tt
each_weaker P Q f (x ∷ xs) h = (f x h.0, each_weaker P Q f xs h.1)

pub each_append : {X : Type 0} (P : X → Type 0) (xs ys : List X) → AllByRecursion P xs → AllByRecursion P ys → AllByRecursion P (xs ++ ys)
each_append P [] ys h k = k
each_append P (x ∷ xs) ys h k = (h.0, each_append P xs ys h.1 k)

distinct_append : {X : Type 0} (e : X → X → Bool) (xs ys : List X) → IsDistinct e xs → IsDistinct e ys → AllByRecursion (λ x. AllByRecursion (λ y. e x y ≡ false) ys) xs → IsDistinct e (xs ++ ys)
unfolding IsDistinct
distinct_append e [] ys h k far = k
distinct_append e (x ∷ xs) ys h k far = (each_append (λ y. e x y ≡ false) xs ys h.0 far.0, distinct_append e xs ys h.1 k far.1)

-- ---- accounts by recursion

-- the rows have the session s and the numbers n, n + 1, n + 2, ..
abbrev pub Numbered : ℕ → ℕ → List Row → Type 0
Numbered s n [] = Unit {0}
Numbered s n (row ∷ rows) = (row.session ≡ s) × (row.number ≡ n) × Numbered s (suc n) rows

-- the accounts are those of the sessions s, s + 1, s + 2, ..
abbrev pub AccountsFrom : ℕ → List (List Row) → Type 0
AccountsFrom s [] = Unit {0}
AccountsFrom s (account ∷ accounts) = Numbered s 0 account × AccountsFrom (suc s) accounts

numbered : (s n : ℕ) (rows : List Row) → ((i : ℕ) → IfSome (slice_get rows i) (λ (r : Row). (r.session ≡ s) × (r.number ≡ n + i))) → Numbered s n rows
numbered s n [] h = tt
numbered s n (row ∷ rows) h =
    let here = h 0 in (
      here.0,
      omega (arith, here.1),
      numbered s (suc n) rows (λ i. IfSome-weaker (λ (r : Row). (r.session ≡ s) × (r.number ≡ n + suc i)) (λ (r : Row). (r.session ≡ s) × (r.number ≡ suc n + i)) (λ r p. (p.0, omega (arith, p.1))) (slice_get rows i) (h (suc i))),
    )

accounts_from : (s : ℕ) (accounts : List (List Row)) → ((i j : ℕ) → IfSome (option_and_then (λ rows. slice_get rows j) (slice_get accounts i)) (λ (r : Row). (r.session ≡ s + i) × (r.number ≡ j))) → AccountsFrom s accounts
accounts_from s [] h = tt
accounts_from s (account ∷ accounts) h = (
  numbered s 0 account (λ j. IfSome-weaker (λ (r : Row). (r.session ≡ s + 0) × (r.number ≡ j)) (λ (r : Row). (r.session ≡ s) × (r.number ≡ 0 + j)) (λ r p. (omega (arith, p.0), omega (arith, p.1))) (slice_get account j) (h 0 j)),
  accounts_from (suc s) accounts (λ i j. IfSome-weaker (λ (r : Row). (r.session ≡ s + suc i) × (r.number ≡ j)) (λ (r : Row). (r.session ≡ suc s + i) × (r.number ≡ j)) (λ r p. (omega (arith, p.0), p.1)) (option_and_then (λ rows. slice_get rows j) (slice_get accounts i)) (h (suc i) j)),
)

two_facts : {X : Type 0} (P Q : X → Type 0) (o : Option X) → IfSome o P → IfSome o Q → IfSome o (λ x. P x × Q x)
two_facts P Q None h k = tt
two_facts P Q (Some x) h k = (h, k)

pub by_recursion : (accounts : List (List Row)) → AreAccounts accounts → AccountsFrom 0 accounts
by_recursion accounts are = accounts_from 0 accounts (λ i j.
    IfSome-weaker (λ (r : Row). (r.session ≡ i) × (r.number ≡ j)) (λ (r : Row). (r.session ≡ 0 + i) × (r.number ≡ j)) (λ r p. (omega (arith, p.0), p.1)) (option_and_then (λ rows. slice_get rows j) (slice_get accounts i))
    (two_facts (λ (r : Row). r.session ≡ i) (λ (r : Row). r.number ≡ j) (option_and_then (λ rows. slice_get rows j) (slice_get accounts i))
    (are.session (record { session = i; number = j })) (are.number (record { session = i; number = j }))))

-- and back
numbered_at : (s n : ℕ) (rows : List Row) → Numbered s n rows → (i : ℕ) → IfSome (slice_get rows i) (λ (r : Row). (r.session ≡ s) × (r.number ≡ n + i))
numbered_at s n [] h i = tt
numbered_at s n (row ∷ rows) h zero = (h.0, omega (arith, h.1))
numbered_at s n (row ∷ rows) h (suc i) =
    IfSome-weaker (λ (r : Row). (r.session ≡ s) × (r.number ≡ suc n + i)) (λ (r : Row). (r.session ≡ s) × (r.number ≡ n + suc i)) (λ r p. (p.0, omega (arith, p.1))) (slice_get rows i) (numbered_at s (suc n) rows h.2 i)

accounts_at : (s : ℕ) (accounts : List (List Row)) → AccountsFrom s accounts → (i j : ℕ) → IfSome (option_and_then (λ rows. slice_get rows j) (slice_get accounts i)) (λ (r : Row). (r.session ≡ s + i) × (r.number ≡ j))
accounts_at s [] h i j = tt
accounts_at s (account ∷ accounts) h zero j =
    IfSome-weaker (λ (r : Row). (r.session ≡ s) × (r.number ≡ 0 + j)) (λ (r : Row). (r.session ≡ s + 0) × (r.number ≡ j)) (λ r p. (omega (arith, p.0), omega (arith, p.1))) (slice_get account j) (numbered_at s 0 account h.0 j)
accounts_at s (account ∷ accounts) h (suc i) j =
    IfSome-weaker (λ (r : Row). (r.session ≡ suc s + i) × (r.number ≡ j)) (λ (r : Row). (r.session ≡ s + suc i) × (r.number ≡ j)) (λ r p. (omega (arith, p.0), p.1)) (option_and_then (λ rows. slice_get rows j) (slice_get accounts i)) (accounts_at (suc s) accounts h.1 i j)

-- accounts whose rows have the sessions and the numbers 0, 1, 2, .. one after the other
pub are_accounts : (accounts : List (List Row)) → AccountsFrom 0 accounts → AreAccounts accounts
are_accounts accounts h = record {
  session = λ place. IfSome-weaker (λ (r : Row). (r.session ≡ 0 + place.session) × (r.number ≡ place.number)) (λ (r : Row). r.session ≡ place.session) (λ r p. omega (arith, p.0)) (row_at accounts place) (accounts_at 0 accounts h place.session place.number);
  number = λ place. IfSome-weaker (λ (r : Row). (r.session ≡ 0 + place.session) × (r.number ≡ place.number)) (λ (r : Row). r.number ≡ place.number) (λ r p. p.1) (row_at accounts place) (accounts_at 0 accounts h place.session place.number);
}

-- ---- each row is found at its place

-- the row stands in the list at its number less n
abbrev StandsFrom : ℕ → ℕ → List Row → Row → Type 0
StandsFrom s n rows row = (row.session ≡ s) × (n ≤ row.number) × (slice_get rows (row.number - n) ≡ Some row)

stands : (s n : ℕ) (rows : List Row) → Numbered s n rows → AllByRecursion (StandsFrom s n rows) rows
stands s n [] h = tt
stands s n (row ∷ rows) h =
    let first : row.number - n ≡ 0 = omega (arith, h.1) in (
      (h.0, omega (arith, h.1), ap (slice_get (row ∷ rows)) first),
      each_weaker (StandsFrom s (suc n) rows) (StandsFrom s n (row ∷ rows))
          (λ r p. let next : r.number - n ≡ suc (r.number - suc n) = omega (arith, p.1) in (p.0, omega (arith, p.1), ap (slice_get (row ∷ rows)) next ∙ p.2))
          rows (stands s (suc n) rows h.2),
    )

-- the row stands in the account of its session less s
abbrev IsHome : ℕ → List (List Row) → Row → Type 0
IsHome s accounts row = (s ≤ row.session) × (option_and_then (λ rows. slice_get rows row.number) (slice_get accounts (row.session - s)) ≡ Some row)

home : (s : ℕ) (accounts : List (List Row)) → AccountsFrom s accounts → AllByRecursion (IsHome s accounts) (all_rows accounts)
home s [] h = tt
home s (account ∷ accounts) h = each_append (IsHome s (account ∷ accounts)) account (all_rows accounts)
    (each_weaker (StandsFrom s 0 account) (IsHome s (account ∷ accounts))
    (λ r p. let first : r.session - s ≡ 0 = omega (arith, p.0) in let number : r.number ≡ r.number - 0 = omega arith in
    (omega (arith, p.0), ap (λ i. option_and_then (λ rows. slice_get rows r.number) (slice_get (account ∷ accounts) i)) first ∙ ap (slice_get account) number ∙ p.2))
    account (stands s 0 account h.0))
    (each_weaker (IsHome (suc s) accounts) (IsHome s (account ∷ accounts))
    (λ r p. let next : r.session - s ≡ suc (r.session - suc s) = omega (arith, p.0) in
    (omega (arith, p.0), ap (λ i. option_and_then (λ rows. slice_get rows r.number) (slice_get (account ∷ accounts) i)) next ∙ p.1))
    (all_rows accounts) (home (suc s) accounts h.1))

abbrev pub IsFound : List (List Row) → Row → Type 0
IsFound accounts row = row_at accounts (row_place row) ≡ Some row

pub all_found : (accounts : List (List Row)) → AreAccounts accounts → AllByRecursion (IsFound accounts) (all_rows accounts)
all_found accounts are = each_weaker (IsHome 0 accounts) (IsFound accounts)
    (λ r p. let session : r.session ≡ r.session - 0 = omega arith in ap (λ i. option_and_then (λ rows. slice_get rows r.number) (slice_get accounts i)) session ∙ p.1)
    (all_rows accounts) (home 0 accounts (by_recursion accounts are))

-- ---- no two rows have the same session and number

abbrev pub same_rank : Row → Row → Bool
same_rank a b = eq_by_cmp row_cmp a b

third_differs : (o p q : Ordering) → is_eq (ordering_then o (ordering_then p (ordering_then Less q))) ≡ false
third_differs Less p q = refl
third_differs Greater p q = refl
third_differs Equal Less q = refl
third_differs Equal Greater q = refl
third_differs Equal Equal q = refl

fourth_differs : (o p q : Ordering) → is_eq (ordering_then o (ordering_then p (ordering_then q Less))) ≡ false
fourth_differs Less p q = refl
fourth_differs Greater p q = refl
fourth_differs Equal Less q = refl
fourth_differs Equal Greater q = refl
fourth_differs Equal Equal Less = refl
fourth_differs Equal Equal Greater = refl
fourth_differs Equal Equal Equal = refl

less : (m n : ℕ) → m < n → nat_cmp m n ≡ Less
less m n h = sym (nat_cmp_is m n Less h)

abbrev by_point : Row → Row → Ordering
by_point a b = nat_cmp a.point b.point

abbrev by_refusal : Row → Row → Ordering
by_refusal a b = nat_cmp (if is_accepted a then 0 else 1) (if is_accepted b then 0 else 1)

pub lower_session : (a b : Row) → a.session < b.session → same_rank a b ≡ false
lower_session a b h =
    ap (λ o. is_eq (ordering_then (by_point a b) (ordering_then (by_refusal a b) (ordering_then o (nat_cmp a.number b.number))))) (less a.session b.session h)
    ∙ third_differs (by_point a b) (by_refusal a b) (nat_cmp a.number b.number)

pub lower_number : (a b : Row) → a.number < b.number → same_rank a b ≡ false
lower_number a b h =
    ap (λ o. is_eq (ordering_then (by_point a b) (ordering_then (by_refusal a b) (ordering_then (nat_cmp a.session b.session) o)))) (less a.number b.number h)
    ∙ fourth_differs (by_point a b) (by_refusal a b) (nat_cmp a.session b.session)

numbered_apart : (s n : ℕ) (rows : List Row) → Numbered s n rows → IsDistinct same_rank rows
unfolding IsDistinct
numbered_apart s n [] h = tt
numbered_apart s n (row ∷ rows) h = (
  each_weaker (StandsFrom s (suc n) rows) (λ r. same_rank row r ≡ false) (λ r p. lower_number row r (omega (arith, h.1, p.1))) rows (stands s (suc n) rows h.2),
  numbered_apart s (suc n) rows h.2,
)

accounts_apart : (s : ℕ) (accounts : List (List Row)) → AccountsFrom s accounts → IsDistinct same_rank (all_rows accounts)
unfolding IsDistinct
accounts_apart s [] h = tt
accounts_apart s (account ∷ accounts) h = distinct_append same_rank account (all_rows accounts) (numbered_apart s 0 account h.0) (accounts_apart (suc s) accounts h.1)
    (each_weaker (StandsFrom s 0 account) (λ a. AllByRecursion (λ b. same_rank a b ≡ false) (all_rows accounts))
    (λ a p. each_weaker (IsHome (suc s) accounts) (λ b. same_rank a b ≡ false) (λ b q. lower_session a b (omega (arith, p.0, q.0))) (all_rows accounts) (home (suc s) accounts h.1))
    account (stands s 0 account h.0))

pub all_apart : (accounts : List (List Row)) → AreAccounts accounts → IsDistinct same_rank (all_rows accounts)
all_apart accounts are = accounts_apart 0 accounts (by_recursion accounts are)
