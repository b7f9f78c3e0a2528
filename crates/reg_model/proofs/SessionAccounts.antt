-- The rows of one session in a merge are its account, which rises.
use Rattle.std.proofs.Common.{◌≡◌, inl, inr, ℕ, zero, suc, ◌+◌, ◌<◌, Bool, true, false, cond, List, [], ◌∷◌, ◌++◌, length, Option, Some, None, refl, sym, ◌∙◌, ap, ap₂, subst, arith}
use Rattle.std.specs.Prelude.{IfSome, slice_get, if◌then◌else◌, ◌==◌, sum_by, All, AllPairs}
use Rattle.std.specs.List.{AllByRecursion}
use Rattle.std.specs.List.Sorted.{IsStrictlySortedBy}
use Rattle.std.specs.Option.{option_and_then}
use Rattle.std.specs.Ordering.{ordering_then, nat_cmp}
use Rattle.std.specs.declared.cmp.Ordering.TheVariants.{Less, Equal}
use Rattle.std.specs.Cmp.{nat_cmp_is}
use Rattle.std.proofs.lemmas.Bool.{cases_order}
use Rattle.std.proofs.lemmas.Bool.Decides.{nat_tests}
use Rattle.std.proofs.lemmas.List.Elements.{filter-append, All-from_recursion, recursion_from_All}
use Rattle.std.proofs.lemmas.List.Sums.{sum_by-cons, sum_by-append}
use Rattle.std.proofs.lemmas.List.Sorted.{All-permutation, sum_by-IsPermutation}
use Rattle.std.proofs.lemmas.Option.{slice_get_within, same_Some}
use Rattle.reg_model.specs.declared.reply.Row.{Row}
use Rattle.reg_model.specs.Rows.{is_accepted, session_rows, row_cmp, all_rows, IsSeenBy, IsMerge}
use Rattle.reg_model.specs.Merge.{row_at, AreAccounts}
use Rattle.reg_model.proofs.AtHome.{Numbered, AccountsFrom, by_recursion, IsFound, all_found}
use Rattle.reg_model.proofs.SortedHits.{same_sorted}
use Rattle.reg_model.proofs.OneMerge.{row_before, is_order, sorted, same_row}

-- ---- the rows of one session

-- f at the rows of a session, and 0 at others
abbrev weight : (Row → ℕ) → ℕ → Row → ℕ
weight f s row = cond (row.session == s) (f row) 0

filtered_cons : (f : Row → ℕ) (s : ℕ) (row : Row) (rows : List Row) → sum_by f (session_rows s rows) ≡ sum_by (weight f s) rows
    → (b : Bool) → (row.session == s) ≡ b → sum_by f (session_rows s (row ∷ rows)) ≡ sum_by (weight f s) (row ∷ rows)
filtered_cons f s row rows rest true is =
    ap (λ b. sum_by f (cond b (row ∷ session_rows s rows) (session_rows s rows))) is
    ∙ sum_by-cons f row (session_rows s rows)
    ∙ ap₂ (λ m n. m + n) (sym (ap (λ b. cond b (f row) 0) is)) rest
    ∙ sym (sum_by-cons (weight f s) row rows)
filtered_cons f s row rows rest false is =
    let none : weight f s row ≡ 0 = ap (λ b. cond b (f row) 0) is in
    let whole = sum_by-cons (weight f s) row rows in
    let same : sum_by f (session_rows s (row ∷ rows)) ≡ sum_by f (session_rows s rows) = ap (λ b. sum_by f (cond b (row ∷ session_rows s rows) (session_rows s rows))) is in
    omega (arith, none, whole, same, rest)

filtered_sum : (f : Row → ℕ) (s : ℕ) (rows : List Row) → sum_by f (session_rows s rows) ≡ sum_by (weight f s) rows
filtered_sum f s [] = refl
filtered_sum f s (row ∷ rows) = filtered_cons f s row rows (filtered_sum f s rows) (row.session == s) refl

pub is_session : (row : Row) (s : ℕ) → row.session ≡ s → (row.session == s) ≡ true
is_session row s e = grind (arith, nat_tests, e)

no_session : (row : Row) (s : ℕ) → (row.session ≡ s → ⊥) → (row.session == s) ≡ false
no_session row s ne = cases (row.session == s) refl
  where
    cases : (b : Bool) → (row.session == s) ≡ b → b ≡ false
    cases true is = absurd (ne (grind (arith, nat_tests, is)))
    cases false is = refl

own_sum : (f : Row → ℕ) (s n : ℕ) (rows : List Row) → Numbered s n rows → sum_by (weight f s) rows ≡ sum_by f rows
own_sum f s n [] h = refl
own_sum f s n (row ∷ rows) h =
    sum_by-cons (weight f s) row rows
    ∙ ap₂ (λ m k. m + k) (ap (λ b. cond b (f row) 0) (is_session row s h.0)) (own_sum f s (suc n) rows h.2)
    ∙ sym (sum_by-cons f row rows)

other_sum : (f : Row → ℕ) (s t n : ℕ) (rows : List Row) → (t ≡ s → ⊥) → Numbered t n rows → sum_by (weight f s) rows ≡ 0
other_sum f s t n [] ne h = refl
other_sum f s t n (row ∷ rows) ne h =
    sum_by-cons (weight f s) row rows
    ∙ ap₂ (λ m k. m + k) (ap (λ b. cond b (f row) 0) (no_session row s (λ e. ne (sym h.0 ∙ e)))) (other_sum f s t (suc n) rows ne h.2)

later_sum : (f : Row → ℕ) (s k : ℕ) (accounts : List (List Row)) → s < k → AccountsFrom k accounts → sum_by (weight f s) (all_rows accounts) ≡ 0
later_sum f s k [] low h = refl
later_sum f s k (account ∷ accounts) low h =
    sum_by-append (weight f s) account (all_rows accounts)
    ∙ ap₂ (λ m n. m + n) (other_sum f s k 0 account (λ e. absurd (omega (arith, e, low))) h.0) (later_sum f s (suc k) accounts (omega (arith, low)) h.1)

account_sum : (f : Row → ℕ) (k i : ℕ) (accounts : List (List Row)) (account : List Row) → AccountsFrom k accounts → slice_get accounts i ≡ Some account
    → sum_by (weight f (k + i)) (all_rows accounts) ≡ sum_by f account
account_sum f k i [] account h e = absurd (cc)
account_sum f k zero (first ∷ accounts) account h e =
    let same : first ≡ account = same_Some first account e in
    let here : k ≡ k + 0 = omega arith in
    let own : sum_by (weight f (k + 0)) first ≡ sum_by f first = subst (λ s. sum_by (weight f s) first ≡ sum_by f first) here (own_sum f k 0 first h.0) in
    let none = later_sum f (k + 0) (suc k) accounts (omega arith) h.1 in
    let total = sum_by-append (weight f (k + 0)) first (all_rows accounts) in
    omega (arith, own, none, total, ap (sum_by f) same)
account_sum f k (suc i) (first ∷ accounts) account h e =
    let there : suc k + i ≡ k + suc i = omega arith in
    let none = other_sum f (k + suc i) k 0 first (λ e. absurd (omega (arith, e))) h.0 in
    let rest : sum_by (weight f (k + suc i)) (all_rows accounts) ≡ sum_by f account = subst (λ s. sum_by (weight f s) (all_rows accounts) ≡ sum_by f account) there (account_sum f (suc k) i accounts account h.1 e) in
    omega (arith, none, rest, sum_by-append (weight f (k + suc i)) first (all_rows accounts))

-- ---- what holds of some rows

each_filter : (P : Row → Type 0) (s : ℕ) (rows : List Row) → AllByRecursion P rows → AllByRecursion P (session_rows s rows)
each_filter P s [] h = tt
each_filter P s (row ∷ rows) h =
    elim (row.session == s) as (λ b. AllByRecursion P (cond b (row ∷ session_rows s rows) (session_rows s rows)))
    [ true ↦ (h.0, each_filter P s rows h.1) | false ↦ each_filter P s rows h.1 ]

strict_filter : (s : ℕ) (rows : List Row) → IsStrictlySortedBy row_cmp rows → IsStrictlySortedBy row_cmp (session_rows s rows)
unfolding IsStrictlySortedBy
strict_filter s [] h = tt
strict_filter s (row ∷ rows) h =
    elim (row.session == s) as (λ b. IsStrictlySortedBy row_cmp (cond b (row ∷ session_rows s rows) (session_rows s rows)))
    [ true ↦ (each_filter (λ r. row_cmp row r ≡ Less) s rows h.0, strict_filter s rows h.1) | false ↦ strict_filter s rows h.1 ]

pub each_of : {X : Type 0} (P : X → Type 0) (xs : List X) (i : ℕ) (x : X) → AllByRecursion P xs → slice_get xs i ≡ Some x → P x
each_of P [] i x h e = absurd (cc)
each_of P (y ∷ ys) zero x h e = subst P (same_Some y x e) h.0
each_of P (y ∷ ys) (suc i) x h e = each_of P ys i x h.1 e

pub each_left : (P : Row → Type 0) (xs ys : List Row) → AllByRecursion P (xs ++ ys) → AllByRecursion P xs
each_left P [] ys h = tt
each_left P (x ∷ xs) ys h = (h.0, each_left P xs ys h.1)

pub each_right : (P : Row → Type 0) (xs ys : List Row) → AllByRecursion P (xs ++ ys) → AllByRecursion P ys
each_right P [] ys h = h
each_right P (x ∷ xs) ys h = each_right P xs ys h.1

pub each_account : (P : Row → Type 0) (accounts : List (List Row)) (i : ℕ) (account : List Row) → AllByRecursion P (all_rows accounts) → slice_get accounts i ≡ Some account → AllByRecursion P account
each_account P [] i account h e = absurd (cc)
each_account P (first ∷ accounts) zero account h e = subst (AllByRecursion P) (same_Some first account e) (each_left P first (all_rows accounts) h)
each_account P (first ∷ accounts) (suc i) account h e = each_account P accounts i account (each_right P first (all_rows accounts) h) e

pub merged_each : (P : Row → Type 0) (accounts : List (List Row)) (rows : List Row) → IsMerge accounts rows → AllByRecursion P (all_rows accounts) → AllByRecursion P rows
merged_each P accounts rows merge h = recursion_from_All P rows (All-permutation P (all_rows accounts) rows merge.exactly (All-from_recursion P (all_rows accounts) h))

-- the rows of a session in the merge are its account
pub session_account : (accounts : List (List Row)) (rows : List Row) (s : ℕ) (account : List Row) → AreAccounts accounts → AllByRecursion (IsStrictlySortedBy row_cmp) accounts
    → IsMerge accounts rows → slice_get accounts s ≡ Some account → session_rows s rows ≡ account
session_account accounts rows s account are rising merge e =
    same_sorted row_before is_order (IsFound accounts) (same_row accounts) (session_rows s rows) account
    (each_filter (IsFound accounts) s rows (merged_each (IsFound accounts) accounts rows merge (all_found accounts are)))
    (each_account (IsFound accounts) accounts s account (all_found accounts are) e)
    (sorted (session_rows s rows) (strict_filter s rows merge.order))
    (sorted account (each_of (IsStrictlySortedBy row_cmp) accounts s account rising e))
    (λ f. filtered_sum f s rows
    ∙ sum_by-IsPermutation (weight f s) (all_rows accounts) rows merge.exactly
    ∙ (let zero_less : 0 + s ≡ s = omega arith in subst (λ t. sum_by (weight f t) (all_rows accounts) ≡ sum_by f account) zero_less (account_sum f 0 s accounts account (by_recursion accounts are) e)))

-- ---- the numbers of rows

both_some : {X Y : Type 0} (o : Option X) (f : X → Option Y) (y : Y) → option_and_then f o ≡ Some y → (x : X) × (o ≡ Some x) × (f x ≡ Some y)
both_some None f y e = absurd (cc)
both_some (Some x) f y e = (x, refl, e)

at_seam : (before rest : List Row) (row : Row) → slice_get (before ++ row ∷ rest) (length before) ≡ Some row
at_seam [] rest row = refl
at_seam (x ∷ before) rest row = at_seam before rest row

some_number : (o : Option Row) (row : Row) (n : ℕ) → o ≡ Some row → IfSome o (λ (r : Row). r.number ≡ n) → row.number ≡ n
some_number None row n e h = absurd (cc)
some_number (Some r) row n e h = subst (λ (x : Row). x.number ≡ n) (same_Some r row e) h

pub number_is : (accounts : List (List Row)) (before rest : List Row) (row : Row) → AreAccounts accounts → AllByRecursion (IsStrictlySortedBy row_cmp) accounts
    → IsMerge accounts (before ++ row ∷ rest) → IsFound accounts row → row.number ≡ length (session_rows row.session before)
number_is accounts before rest row are rising merge found =
    let s = row.session in
    let home = both_some (slice_get accounts s) (λ rows. slice_get rows row.number) row found in
    let account = home.0 in
    let whole : session_rows s (before ++ row ∷ rest) ≡ account = session_account accounts (before ++ row ∷ rest) s account are rising merge home.1 in
    let parts : session_rows s (before ++ row ∷ rest) ≡ session_rows s before ++ row ∷ session_rows s rest =
    filter-append (λ (r : Row). r.session == s) before (row ∷ rest)
    ∙ ap (λ b. session_rows s before ++ cond b (row ∷ session_rows s rest) (session_rows s rest)) (is_session row s refl) in
    let place : ℕ = length (session_rows s before) in
    let here : slice_get account place ≡ Some row = ap (λ xs. slice_get xs place) (sym whole ∙ parts) ∙ at_seam (session_rows s before) (session_rows s rest) row in
    let at : row_at accounts (record { session = s; number = place }) ≡ Some row = ap (λ o. option_and_then (λ (rows : List Row). slice_get rows place) o) home.1 ∙ here in
    some_number (row_at accounts (record { session = s; number = place })) row place at (are.number (record { session = s; number = place }))

pub session_is : (accounts : List (List Row)) (row : Row) → IsFound accounts row → row.session < length accounts
session_is accounts row found =
    let home = both_some (slice_get accounts row.session) (λ rows. slice_get rows row.number) row found in
    slice_get_within accounts row.session home.0 home.1

-- ---- an account rises

less : (m n : ℕ) → m < n → nat_cmp m n ≡ Less
less m n h = sym (nat_cmp_is m n Less h)

same : (m n : ℕ) → m ≡ n → nat_cmp m n ≡ Equal
same m n h = sym (nat_cmp_is m n Equal h)

-- a later row of the session stands behind in the order of rows
seen_later : (a b : Row) → a.session ≡ b.session → a.number < b.number → IsSeenBy a b → row_cmp a b ≡ Less
seen_later a b session number seen = elim (cases_order a.point b.point) [
  | inl tied ↦ at_one_point (is_accepted b) refl tied
  | inr (inl below) ↦ rw (less a.point b.point below) refl
  | inr (inr above) ↦ absurd (omega (arith, seen.point, above))
]
  where
    later : nat_cmp a.number b.number ≡ Less
    later = less a.number b.number number

    together : nat_cmp a.session b.session ≡ Equal
    together = same a.session b.session session

    at_one_point : (accepted : Bool) → is_accepted b ≡ accepted → a.point ≡ b.point → row_cmp a b ≡ Less
    at_one_point true is tied = absurd (omega (arith, seen.accepted is, tied))
    at_one_point false is tied =
        rw (same a.point b.point tied, is)
        (elim (is_accepted a) as (λ c. ordering_then (nat_cmp (if c then 0 else 1) 1) (ordering_then (nat_cmp a.session b.session) (nat_cmp a.number b.number)) ≡ Less)
        [ true ↦ refl | false ↦ rw (together, later) refl ])

account_rises : (s n : ℕ) (rows : List Row) → Numbered s n rows → AllPairs IsSeenBy rows → IsStrictlySortedBy row_cmp rows
unfolding IsStrictlySortedBy
account_rises s n [] h seen = tt
account_rises s n (row ∷ rows) h seen = (
  later_each (suc n) rows h.2 (λ k d low. seen 0 (suc k) d (omega arith) (omega (arith, low))) (omega (arith, h.1)),
  account_rises s (suc n) rows h.2 (λ i j d low high. seen (suc i) (suc j) d (omega (arith, low)) (omega (arith, high))),
)
  where
    later_each : (m : ℕ) (later : List Row) → Numbered s m later → All (IsSeenBy row) later → row.number < m → AllByRecursion (λ r. row_cmp row r ≡ Less) later
    later_each m [] k all low = tt
    later_each m (r ∷ later) k all low = (
      seen_later row r (h.0 ∙ sym k.0) (omega (arith, k.1, low)) (all 0 r (omega arith)),
      later_each (suc m) later k.2 (λ i d inside. all (suc i) d (omega (arith, inside))) (omega (arith, low)),
    )

from_rise : (s : ℕ) (accounts : List (List Row)) → AccountsFrom s accounts → All (AllPairs IsSeenBy) accounts → AllByRecursion (IsStrictlySortedBy row_cmp) accounts
from_rise s [] h seen = tt
from_rise s (account ∷ accounts) h seen = (account_rises s 0 account h.0 (seen 0 account (omega arith)), from_rise (suc s) accounts h.1 (λ i d low. seen (suc i) d (omega (arith, low))))

pub accounts_rise : (accounts : List (List Row)) → AreAccounts accounts → All (AllPairs IsSeenBy) accounts → AllByRecursion (IsStrictlySortedBy row_cmp) accounts
accounts_rise accounts are seen = from_rise 0 accounts (by_recursion accounts are) seen

-- the rows of a session in a merge are its account
pub kept_account : (accounts : List (List Row)) (rows : List Row) (s : ℕ) (account : List Row) → AreAccounts accounts → All (AllPairs IsSeenBy) accounts
    → IsMerge accounts rows → slice_get accounts s ≡ Some account → session_rows s rows ≡ account
kept_account accounts rows s account are seen merge e = session_account accounts rows s account are (accounts_rise accounts are seen) merge e
