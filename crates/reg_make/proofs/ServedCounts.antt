-- What is counted in the accounts of two rounds that were served.
use Rattle.std.proofs.Common.{◌≡◌, ℕ, ◌+◌, ◌*◌, ◌-◌, ◌^◌, ◌<◌, ◌≤◌, min, cond, nat_le, get_or, List, [], ◌∷◌, map, length, Option, Some, None, refl, sym, ◌∙◌, ap, ap₂, subst, arith}
use Rattle.std.specs.Prelude.{sum_by, count_by, slice_get}
use Rattle.std.specs.List.{range_with_len}
use Rattle.std.specs.Option.{option_map}
use Rattle.std.proofs.lemmas.List.FromFn.{length-range_with_len}
use Rattle.std.proofs.lemmas.List.Sorted.{sum_by-IsPermutation}
use Rattle.std.proofs.lemmas.List.Sums.{sum_by-cons, sum_by-append, sum_by-le, count_by-le-length}
use Rattle.std.proofs.lemmas.Option.{same_Some, slice_get-map}
use Rattle.iscc_header.specs.Bits.{distance}
use Rattle.reg_model.specs.declared.call.Call.{Call}
use Rattle.reg_model.specs.declared.reply.Row.{Row}
use Rattle.reg_model.specs.declared.round.Round.{Round}
use Rattle.reg_model.specs.Limits.{Limits}
use Rattle.reg_model.specs.Live.{live, opening_after}
use Rattle.reg_model.specs.Opening.{Opening}
use Rattle.reg_model.specs.Rows.{is_accepted, session_rows, log_of, all_rows, IsLawful, IsMerge}
use Rattle.reg_model.specs.Runs.{RoundRows, nothing, next_opening}
use Rattle.reg_model.proofs.SessionAccounts.{kept_account}
use Rattle.reg_session.specs.Sessions.{calls_made, ServesRound}
use Rattle.reg_make.specs.Counting.{row_count, accepted_count, hits_count, counts_of, capped}
use Rattle.reg_make.specs.declared.counts.Counts.{Counts}
use Rattle.reg_make.specs.Generator.{centre, unit}
use Rattle.reg_make.specs.Workloads.{Work, IsWork, unit_count, work_limits, first_calls, second_calls, MakesLists, hit_count, counted, pair_count, work_counts}
use Rattle.reg_make.proofs.CallSums.{sum_agree, sum_ones}
use Rattle.reg_make.proofs.WorkCounts.{both_rounds}

-- ---- rows and accounts

-- the merged rows of a round
abbrev pub rows_of : (limits : Limits) (opening : Opening) (lists : List (List Call)) (round : Round) → ServesRound limits opening lists round → RoundRows
rows_of limits opening lists round serves = record { limits = limits; rows = serves.merge.rows }

-- the rows of each session are its calls
pub made_lists : (limits : Limits) (opening : Opening) (lists : List (List Call)) (round : Round) (serves : ServesRound limits opening lists round)
    → MakesLists lists (rows_of limits opening lists round serves)
made_lists limits opening lists round serves session list at =
    account_made (slice_get round.accounts session) refl (sym (slice_get-map calls_made round.accounts session) ∙ ap (λ l. slice_get l session) serves.makes ∙ at)
  where
    account_made : (o : Option (List Row)) → slice_get round.accounts session ≡ o → option_map calls_made o ≡ Some list → map (λ (row : Row). row.call) (session_rows session serves.merge.rows) ≡ list
    account_made None is calls = absurd (cc (calls))
    account_made (Some account) is calls =
        ap calls_made (kept_account round.accounts serves.merge.rows session account serves.numbered serves.seen serves.merge.merge is) ∙ same_Some (calls_made account) list calls

-- a sum over accounts is one over all rows
joined_sum : (f : Row → ℕ) (accounts : List (List Row)) → sum_by (λ (account : List Row). sum_by f account) accounts ≡ sum_by f (all_rows accounts)
joined_sum f [] = refl
joined_sum f (account ∷ accounts) = omega (arith, sum_by-cons (λ (a : List Row). sum_by f a) account accounts, sum_by-append f account (all_rows accounts), joined_sum f accounts)

merged_sum : (f : Row → ℕ) (accounts : List (List Row)) (rows : List Row) → IsMerge accounts rows → sum_by (λ (account : List Row). sum_by f account) accounts ≡ sum_by f rows
merged_sum f accounts rows merge = joined_sum f accounts ∙ sym (sum_by-IsPermutation f (all_rows accounts) rows merge.exactly)

merged_length : (accounts : List (List Row)) (rows : List Row) → IsMerge accounts rows → sum_by (λ (account : List Row). length account) accounts ≡ length rows
merged_length accounts rows merge =
    sum_agree (λ (account : List Row). length account) (λ account. sum_by (λ (row : Row). 1) account) (λ account. sym (sum_ones account)) accounts
    ∙ (merged_sum (λ row. 1) accounts rows merge ∙ sum_ones rows)

-- ---- the counts of a workload

module _ (work : Work) (first second : Round) (is : IsWork work) (one : ServesRound (work_limits work work.sessions) nothing (first_calls work) first) (two : ServesRound (work_limits work 1) first.carried (second_calls work) second) where
  abbrev rounds : List RoundRows
  rounds = rows_of (work_limits work work.sessions) nothing (first_calls work) first one ∷ rows_of (work_limits work 1) first.carried (second_calls work) second two ∷ []

  -- the second round begins with what the first leaves
  pub behind : first.carried ≡ next_opening nothing one.merge.rows
  behind = one.carried ∙ ap (opening_after nothing) (sym one.merge.makes)

  rows_counted : counted rounds ≡ work_counts work
  rows_counted = both_rounds work (rows_of (work_limits work work.sessions) nothing (first_calls work) first one) (rows_of (work_limits work 1) first.carried (second_calls work) second two) is
      (made_lists (work_limits work work.sessions) nothing (first_calls work) first one) (made_lists (work_limits work 1) first.carried (second_calls work) second two)
      one.merge.lawful (subst (λ opening. IsLawful (work_limits work 1) opening two.merge.rows) behind two.merge.lawful)

  accounts_counted : counts_of first second ≡ counted rounds
  accounts_counted =
      let calls : row_count first + row_count second ≡ 0 + length one.merge.rows + length two.merge.rows = omega (arith, merged_length first.accounts one.merge.rows one.merge.merge, merged_length second.accounts two.merge.rows two.merge.merge) in
      let accepted : accepted_count first + accepted_count second ≡ 0 + count_by is_accepted one.merge.rows + count_by is_accepted two.merge.rows =
      omega (arith, merged_sum (λ row. accepts row) first.accounts one.merge.rows one.merge.merge, merged_sum (λ row. accepts row) second.accounts two.merge.rows two.merge.merge) in
      let hits : hits_count first + hits_count second ≡ 0 + sum_by (λ (row : Row). hit_count row.reply) one.merge.rows + sum_by (λ (row : Row). hit_count row.reply) two.merge.rows =
      omega (arith, merged_sum (λ (row : Row). hit_count row.reply) first.accounts one.merge.rows one.merge.merge, merged_sum (λ (row : Row). hit_count row.reply) second.accounts two.merge.rows two.merge.merge) in
      let carried : second.carried ≡ opening_after (next_opening nothing one.merge.rows) (log_of two.merge.rows) = two.carried ∙ ap₂ opening_after behind (sym two.merge.makes) in
      let left : length (let c = second.carried in c.list) ≡ length (live (next_opening nothing one.merge.rows) (log_of two.merge.rows)) = ap (λ (o : Opening). length o.list) carried in
      λ i. record { calls = calls i; accepted = accepted i; live = left i; hits = hits i }
    where
      accepts : Row → ℕ
      accepts row = cond (is_accepted row) 1 0

  pub told_counts : counts_of first second ≡ work_counts work
  told_counts = accounts_counted ∙ rows_counted

pairs_few : (work : Work) → pair_count work ≤ 16 * unit_count work
pairs_few work = sum_by-le (λ j. count_by (λ i. nat_le (distance (centre work.seed j).body (unit work.seed i).body) 1) (range_with_len 0 (unit_count work))) (unit_count work) (range_with_len 0 16)
    (λ k j low. omega (arith, count_by-le-length (λ i. nat_le (distance (centre work.seed (get_or (range_with_len 0 16) k j)).body (unit work.seed i).body) 1) (range_with_len 0 (unit_count work)), length-range_with_len 0 (unit_count work)))

-- each count is one of 64 bits
pub record FitCounts (counts : Counts) : Type 0 where
  pub calls : counts.calls < 2 ^ 64
  pub accepted : counts.accepted < 2 ^ 64
  pub live : counts.live < 2 ^ 64
  pub hits : counts.hits < 2 ^ 64

pub counts_fit : (work : Work) → IsWork work → FitCounts (work_counts work)
counts_fit work is = record {
  calls = omega (arith, is.units);
  accepted = omega (arith, is.units);
  live = omega (arith, is.units);
  hits = omega (arith, is.units, pairs_few work);
}

-- ---- counts that stop at the greatest number

pub capped_fit : (counts : Counts) → FitCounts counts → capped counts ≡ counts
capped_fit counts fit =
    let calls : min counts.calls (2 ^ 64 - 1) ≡ counts.calls = omega (arith, fit.calls) in
    let accepted : min counts.accepted (2 ^ 64 - 1) ≡ counts.accepted = omega (arith, fit.accepted) in
    let left : min counts.live (2 ^ 64 - 1) ≡ counts.live = omega (arith, fit.live) in
    let hits : min counts.hits (2 ^ 64 - 1) ≡ counts.hits = omega (arith, fit.hits) in
    λ i. record { calls = calls i; accepted = accepted i; live = left i; hits = hits i }

-- one more is added
pub capped_more : (count total added part next : ℕ) → count ≡ min total (2 ^ 64 - 1) → added ≡ min part (2 ^ 64 - 1) → next ≡ min (count + added) (2 ^ 64 - 1) → next ≡ min (total + part) (2 ^ 64 - 1)
capped_more count total added part next is more sum = omega (arith, is, more, sum)
