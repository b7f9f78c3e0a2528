-- Accounts in one log, with one row more.
use Rattle.std.proofs.Common.{◌≡◌, ◌≢◌, inl, inr, ℕ, zero, suc, ◌+◌, ◌<◌, ◌≤◌, true, List, [], ◌∷◌, ◌++◌, length, get_or, replicate, Option, Some, None, refl, sym, ◌∙◌, ap, subst, arith, length-append}
use Rattle.std.specs.Prelude.{slice_get, is_some, sum_by, count_by, All, AllPairs}
use Rattle.std.specs.List.{AllByRecursion}
use Rattle.std.proofs.lemmas.Bool.{cases_order}
use Rattle.std.proofs.lemmas.List.{take-append-le, length_push, length-replicate}
use Rattle.std.proofs.lemmas.List.Elements.{All-from_recursion, recursion_from_All, All-replicate}
use Rattle.std.proofs.lemmas.List.Quantifiers.{all_pairs_push}
use Rattle.std.proofs.lemmas.List.Sums.{sum_by-append, sum_by_push, sum_by-le}
use Rattle.std.proofs.lemmas.Option.{slice_get_within, same_Some}
use Rattle.std.proofs.Math.Seq.{take-append_seam}
use Rattle.reg_model.specs.declared.update.Update.{Update}
use Rattle.reg_model.specs.declared.reply.Row.{Row}
use Rattle.reg_model.specs.Limits.{Limits}
use Rattle.reg_model.specs.Opening.{Opening}
use Rattle.reg_model.specs.Replies.{Replies}
use Rattle.reg_model.specs.Rows.{update_of, is_accepted, all_rows, IsSeenBy}
use Rattle.reg_model.specs.Accounts.{claims, StandsInLog, ShareLog, with_row, IsNextRow}
use Rattle.reg_model.specs.Laws.{EmptyAccountsShare, AccountsTakeRow, AccountsTakeUpdate}
use Rattle.reg_model.proofs.AtHome.{Numbered, AccountsFrom, by_recursion, are_accounts, each_append}
use Rattle.reg_model.proofs.Standing.{at_seam}
use Rattle.reg_model.proofs.SessionAccounts.{each_of, each_left, each_right, each_account}
use Rattle.reg_model.proofs.Merged.{one_if, claim, claims_own, claims_none, claims_other}

-- ---- a row in a longer log

pub at_longer : {X : Type 0} (xs ys : List X) (i : ℕ) (x : X) → slice_get xs i ≡ Some x → slice_get (xs ++ ys) i ≡ Some x
at_longer [] ys i x e = absurd (cc)
at_longer (y ∷ xs) ys zero x e = e
at_longer (y ∷ xs) ys (suc i) x e = at_longer xs ys i x e

-- a row that stands in a log stands in a longer one
pub stands_longer : (limits : Limits) (opening : Opening) (log more : List Update) (row : Row) → StandsInLog limits opening log row → StandsInLog limits opening (log ++ more) row
stands_longer limits opening log more row stands = record {
  place = stands.place;
  within = omega (arith, stands.within, length-append log more);
  point = stands.point;
  reply = subst (λ us. Replies limits opening us row.call row.reply) (sym (take-append-le stands.place log more stands.within)) stands.reply;
  made = λ update is. at_longer log more stands.place update (stands.made update is);
}

-- and its point isn't above the log's end
pub stands_below : (limits : Limits) (opening : Opening) (log : List Update) (row : Row) → StandsInLog limits opening log row → row.point ≤ opening.base + length log
stands_below limits opening log row stands = cases (update_of row.call row.reply) refl
  where
    cases : (o : Option Update) → update_of row.call row.reply ≡ o → row.point ≤ opening.base + length log
    cases None is =
        let none : one_if (is_accepted row) ≡ 0 = ap (λ o. one_if (is_some o)) is in
        omega (arith, stands.point, stands.within, none)
    cases (Some u) is =
        let one : one_if (is_accepted row) ≡ 1 = ap (λ o. one_if (is_some o)) is in
        let inside : stands.place < length log = slice_get_within log stands.place u (stands.made u is) in
        omega (arith, stands.point, inside, one)

-- ---- accounts with one row more

pub length_with : (accounts : List (List Row)) (session : ℕ) (row : Row) → length (with_row accounts session row) ≡ length accounts
length_with [] session row = refl
length_with (account ∷ accounts) zero row = refl
length_with (account ∷ accounts) (suc session) row = ap suc (length_with accounts session row)

-- the account of another session is as it was, and that of the session has the row
pub with_row-else : (accounts : List (List Row)) (n m : ℕ) (row : Row) → m ≢ n → slice_get (with_row accounts n row) m ≡ slice_get accounts m
with_row-else [] n m row other = refl
with_row-else (a ∷ accounts) zero zero row other = absurd (other refl)
with_row-else (a ∷ accounts) zero (suc m) row other = refl
with_row-else (a ∷ accounts) (suc n) zero row other = refl
with_row-else (a ∷ accounts) (suc n) (suc m) row other = with_row-else accounts n m row (λ e. other (ap suc e))

pub with_row-here : (accounts : List (List Row)) (n : ℕ) (account : List Row) (row : Row) → slice_get accounts n ≡ Some account → slice_get (with_row accounts n row) n ≡ Some (account ++ row ∷ [])
with_row-here [] n account row at = absurd (cc)
with_row-here (a ∷ accounts) zero account row at = ap (λ rows. Some (rows ++ row ∷ [])) (same_Some a account at)
with_row-here (a ∷ accounts) (suc n) account row at = with_row-here accounts n account row at

numbered_with : (s n : ℕ) (rows : List Row) (row : Row) → Numbered s n rows → row.session ≡ s → row.number ≡ n + length rows → Numbered s n (rows ++ row ∷ [])
numbered_with s n [] row h session number = (session, omega (arith, number), tt)
numbered_with s n (first ∷ rows) row h session number = (h.0, h.1, numbered_with s (suc n) rows row h.2 session (omega (arith, number)))

accounts_with : (s i : ℕ) (accounts : List (List Row)) (account : List Row) (row : Row) → AccountsFrom s accounts → slice_get accounts i ≡ Some account
    → row.session ≡ s + i → row.number ≡ length account → AccountsFrom s (with_row accounts i row)
accounts_with s i [] account row h e session number = tt
accounts_with s zero (first ∷ accounts) account row h e session number =
    let same : length first ≡ length account = ap length (same_Some first account e) in
    (numbered_with s 0 first row h.0 (omega (arith, session)) (omega (arith, number, same)), h.1)
accounts_with s (suc i) (first ∷ accounts) account row h e session number = (h.0, accounts_with (suc s) i accounts account row h.1 e (omega (arith, session)) number)

-- what holds of each account holds with the row, where it does of the session's
each_account_with : (P : List Row → Type 0) (accounts : List (List Row)) (i : ℕ) (account : List Row) (row : Row) → AllByRecursion P accounts
    → slice_get accounts i ≡ Some account → P (account ++ row ∷ []) → AllByRecursion P (with_row accounts i row)
each_account_with P [] i account row h e p = tt
each_account_with P (first ∷ accounts) zero account row h e p = (subst (λ rows. P (rows ++ row ∷ [])) (sym (same_Some first account e)) p, h.1)
each_account_with P (first ∷ accounts) (suc i) account row h e p = (h.0, each_account_with P accounts i account row h.1 e p)

-- what holds of each row and of the new one holds of each row with it
pub each_row_with : (P : Row → Type 0) (accounts : List (List Row)) (i : ℕ) (row : Row) → AllByRecursion P (all_rows accounts) → P row → AllByRecursion P (all_rows (with_row accounts i row))
each_row_with P [] i row h p = tt
each_row_with P (first ∷ accounts) zero row h p =
    each_append P (first ++ row ∷ []) (all_rows accounts) (each_append P first (row ∷ []) (each_left P first (all_rows accounts) h) (p, tt)) (each_right P first (all_rows accounts) h)
each_row_with P (first ∷ accounts) (suc i) row h p =
    each_append P first (all_rows (with_row accounts i row)) (each_left P first (all_rows accounts) h) (each_row_with P accounts i row (each_right P first (all_rows accounts) h) p)

-- a sum over all rows has one term more
sum_with : (f : Row → ℕ) (accounts : List (List Row)) (i : ℕ) (account : List Row) (row : Row) → slice_get accounts i ≡ Some account
    → sum_by f (all_rows (with_row accounts i row)) ≡ sum_by f (all_rows accounts) + f row
sum_with f [] i account row e = absurd (cc)
sum_with f (first ∷ accounts) zero account row e =
    omega (arith, sum_by-append f (first ++ row ∷ []) (all_rows accounts), sum_by_push f first row, sum_by-append f first (all_rows accounts))
sum_with f (first ∷ accounts) (suc i) account row e =
    omega (arith, sum_by-append f first (all_rows (with_row accounts i row)), sum_with f accounts i account row e, sum_by-append f first (all_rows accounts))

-- ---- accounts in one log

-- accounts share a log with one row more, where each place is claimed once with it
share_with : (limits : Limits) (opening : Opening) (log longer : List Update) (accounts : List (List Row)) (account : List Row) (row : Row)
    → ShareLog limits opening log accounts → IsNextRow accounts account row → length longer ≤ limits.log
    → ((old : Row) → StandsInLog limits opening log old → StandsInLog limits opening longer old) → StandsInLog limits opening longer row
    → All (λ earlier. IsSeenBy earlier row) account
    → ((place : ℕ) → place < length longer → count_by (claims opening.base place) (all_rows accounts) + claim opening.base place row ≡ 1)
    → ShareLog limits opening longer (with_row accounts row.session row)
share_with limits opening log longer accounts account row share next within still stands seen claimed =
    let new : List (List Row) = with_row accounts row.session row in
    let old_seen : AllPairs IsSeenBy account = each_of (AllPairs IsSeenBy) accounts row.session account (recursion_from_All (AllPairs IsSeenBy) accounts share.seen) next.session in
    let old_stand : All (StandsInLog limits opening longer) (all_rows accounts) = λ k d low. still (get_or (all_rows accounts) k d) (share.stand k d low) in
    record {
      numbered = are_accounts new (accounts_with 0 row.session accounts account row (by_recursion accounts share.numbered) next.session (omega arith) next.number);
      few = omega (arith, share.few, length_with accounts row.session row);
      within = within;
      seen = All-from_recursion (AllPairs IsSeenBy) new (each_account_with (AllPairs IsSeenBy) accounts row.session account row
          (recursion_from_All (AllPairs IsSeenBy) accounts share.seen) next.session (all_pairs_push IsSeenBy account row old_seen seen));
      stand = All-from_recursion (StandsInLog limits opening longer) (all_rows new) (each_row_with (StandsInLog limits opening longer) accounts row.session row
          (recursion_from_All (StandsInLog limits opening longer) (all_rows accounts) old_stand) stands);
      claimed = λ place low. sum_with (claim opening.base place) accounts row.session account row next.session ∙ claimed place low;
    }

-- a row that changes nothing claims no place
pub share_row : AccountsTakeRow
share_row limits opening log accounts account row share next refused stands seen =
    share_with limits opening log log accounts account row share next share.within (λ old is. is) stands seen
    (λ place low. omega (arith, share.claimed place low, claims_none opening.base place row refused))

-- the place behind the log is claimed by none of its rows
unclaimed : (limits : Limits) (opening : Opening) (log : List Update) (rows : List Row) → All (StandsInLog limits opening log) rows → count_by (claims opening.base (length log)) rows ≡ 0
unclaimed limits opening log rows stand =
    let free : (row : Row) → StandsInLog limits opening log row → claim opening.base (length log) row ≤ 0 =
    λ row stands.
    let none = claims_other opening.base (length log) row (λ at. absurd (omega (arith, at, stands_below limits opening log row stands))) in
    omega (arith, none) in
    let most = sum_by-le (claim opening.base (length log)) 0 rows (λ k d low. free (get_or rows k d) (stand k d low)) in
    omega (arith, most)

-- the next update's row claims that place alone
pub share_update : AccountsTakeUpdate
share_update limits opening log accounts account row update share next is point room reply =
    let accepted : is_accepted row ≡ true = ap is_some is in
    let one : one_if (is_accepted row) ≡ 1 = ap one_if accepted in
    let longer : length (log ++ update ∷ []) ≡ length log + 1 = length_push log update in
    let stands : StandsInLog limits opening (log ++ update ∷ []) row = record {
      place = length log;
      within = omega (arith, longer);
      point = omega (arith, point, one);
      reply = subst (λ us. Replies limits opening us row.call row.reply) (sym (take-append_seam log (update ∷ []))) reply;
      made = λ other it_is. at_seam log [] update ∙ sym is ∙ it_is;
    } in
    let account_stands : All (StandsInLog limits opening log) account = All-from_recursion (StandsInLog limits opening log) account
    (each_account (StandsInLog limits opening log) accounts row.session account (recursion_from_All (StandsInLog limits opening log) (all_rows accounts) share.stand) next.session) in
    let seen : All (λ earlier. IsSeenBy earlier row) account = λ k d low.
    let below = stands_below limits opening log (get_or account k d) (account_stands k d low) in
    record { point = omega (arith, below, point); accepted = λ _. omega (arith, below, point) } in
    let claimed : (place : ℕ) → place < length (log ++ update ∷ []) → count_by (claims opening.base place) (all_rows accounts) + claim opening.base place row ≡ 1 =
    λ place low. elim (cases_order place (length log)) [
      | inl same ↦
          let own = claims_own opening.base place row accepted (omega (arith, point, same)) in
          let none = subst (λ n. count_by (claims opening.base n) (all_rows accounts) ≡ 0) (sym same) (unclaimed limits opening log (all_rows accounts) share.stand) in
          omega (arith, own, none)
      | inr (inl below) ↦
          let none = claims_other opening.base place row (λ at. absurd (omega (arith, at, point, below))) in
          omega (arith, none, share.claimed place below)
      | inr (inr above) ↦ absurd (omega (arith, above, low, longer))
    ] in
    share_with limits opening log (log ++ update ∷ []) accounts account row share next (omega (arith, longer, room))
    (stands_longer limits opening log (update ∷ [])) stands seen claimed

-- ---- accounts without rows

pub no_rows : (n : ℕ) → all_rows (replicate n []) ≡ []
no_rows zero = refl
no_rows (suc n) = no_rows n

no_accounts : (s n : ℕ) → AccountsFrom s (replicate n [])
no_accounts s zero = tt
no_accounts s (suc n) = (tt, no_accounts (suc s) n)

pub empty_share : EmptyAccountsShare
empty_share limits opening = record {
  numbered = are_accounts (replicate limits.callers []) (no_accounts 0 limits.callers);
  few = omega (arith, length-replicate {A = List Row} limits.callers []);
  within = omega arith;
  seen = All-replicate (AllPairs IsSeenBy) limits.callers [] (λ i j d less low. absurd (omega (arith, less, low)));
  stand = subst (All (StandsInLog limits opening [])) (sym (no_rows limits.callers)) (λ k d low. absurd (omega (arith, low)));
  claimed = λ place low. absurd (omega (arith, low));
}
