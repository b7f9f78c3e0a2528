-- When the accounts of several sessions stand in one log.
use Rattle.std.specs.Prelude.{◌≡◌, ℕ, zero, suc, ◌+◌, ◌<◌, ◌≤◌, Bool, ◌&&◌, ◌==◌, if◌then◌else◌, List, [], ◌∷◌, ◌++◌, length, take, slice_get, count_by, All, AllPairs, Some}
use Rattle.reg_model.specs.declared.update.Update.{Update}
use Rattle.reg_model.specs.declared.reply.Row.{Row}
use Rattle.reg_model.specs.Limits.{Limits}
use Rattle.reg_model.specs.Opening.{Opening}
use Rattle.reg_model.specs.Replies.{Replies}
use Rattle.reg_model.specs.Rows.{update_of, is_accepted, all_rows, IsSeenBy}
use Rattle.reg_model.specs.Merge.{AreAccounts}

-- The row stands in the log: its reply is the registry's after the updates before its place, and the update that it makes is
-- the log's there.
pub record StandsInLog (limits : Limits) (opening : Opening) (log : List Update) (row : Row) : Type 0 where
  -- how many updates stand before the row
  pub place : ℕ
  pub within : place ≤ length log
  pub point : row.point ≡ opening.base + place + (if is_accepted row then 1 else 0)
  pub reply : Replies limits opening (take place log) row.call row.reply
  pub made : (update : Update) → update_of row.call row.reply ≡ Some update → slice_get log place ≡ Some update

-- the row is accepted at this place of a log that begins at the base
abbrev pub claims : ℕ → ℕ → Row → Bool
claims base place row = is_accepted row && (row.point == base + place + 1)

-- The accounts of at most as many sessions as there are callers stand in one log: each row does, each session has seen its
-- earlier rows, and each place of the log is claimed by one row.
pub record ShareLog (limits : Limits) (opening : Opening) (log : List Update) (accounts : List (List Row)) : Type 0 where
  pub numbered : AreAccounts accounts
  pub few : length accounts ≤ limits.callers
  pub within : length log ≤ limits.log
  pub seen : All (AllPairs IsSeenBy) accounts
  pub stand : All (StandsInLog limits opening log) (all_rows accounts)
  pub claimed : (place : ℕ) → place < length log → count_by (claims opening.base place) (all_rows accounts) ≡ 1

-- the accounts with one row more in the account of this session
abbrev pub with_row : List (List Row) → ℕ → Row → List (List Row)
with_row [] session row = []
with_row (account ∷ accounts) zero row = (account ++ row ∷ []) ∷ accounts
with_row (account ∷ accounts) (suc session) row = account ∷ with_row accounts session row

-- the row is the next of its session: it has the next number in that session's account
pub record IsNextRow (accounts : List (List Row)) (account : List Row) (row : Row) : Type 0 where
  pub session : slice_get accounts row.session ≡ Some account
  pub number : row.number ≡ length account
