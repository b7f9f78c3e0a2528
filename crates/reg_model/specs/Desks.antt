-- A desk, which many callers use at once: what contracts see of its passes, and what each call does.
use Rattle.std.specs.Prelude.{◌≡◌, ℕ, ◌<◌, ◌≤◌, ◌==◌, true, not, if◌then◌else◌, List, [], ◌∷◌, ◌++◌, length, map, find, Option, None, All, AllPairs}
use Rattle.std.specs.List.{list_any, range_with_len}
use Rattle.std.specs.Option.{option_map}
use Rattle.reg_model.specs.declared.call.Call.{Call}
use Rattle.reg_model.specs.declared.desk.Closed.{Closed}
use Rattle.reg_model.specs.declared.desk.CloseWhy.{CloseWhy}
use Rattle.reg_model.specs.declared.desk.CloseWhy.TheVariants.{Missing}
use Rattle.reg_model.specs.declared.reply.Answer.{Answer}
use Rattle.reg_model.specs.declared.reply.Row.{Row}
use Rattle.reg_model.specs.declared.update.Update.{Update}
use Rattle.reg_model.specs.Limits.{Limits}
use Rattle.reg_model.specs.Opening.{Opening}
use Rattle.reg_model.specs.Live.{opening_after}
use Rattle.reg_model.specs.Merge.{AreAccounts}
use Rattle.reg_model.specs.Rows.{is_accepted, IsSeenBy}
use Rattle.reg_model.specs.Registry.{Registry, registry_at, Serves}
use Rattle.reg_model.specs.Laws.{MergeToLog}

-- ---- passes

-- What contracts see of a pass, with which one caller uses a desk: the number of its session, the greatest point that it has seen,
-- the point of its snapshot while one is open, and the rows that its calls made.
pub record PassView : Type 0 where
  pub number : ℕ
  pub seen : ℕ
  pub snapshot : Option ℕ
  pub account : List Row

-- a pass that has made no call
abbrev pub new_pass : ℕ → ℕ → PassView
new_pass base number = record { number = number; seen = base; snapshot = None; account = [] }

-- those of the sessions 0, 1, 2, ..
abbrev pub new_passes : ℕ → ℕ → List PassView
new_passes base callers = map (new_pass base) (range_with_len 0 callers)

-- no snapshot of the pass is open
abbrev pub HasNoSnapshot : PassView → Type 0
HasNoSnapshot pass = pass.snapshot ≡ None

-- ---- calls

-- the row that an answer to the pass makes
abbrev pub row_of : PassView → Call → Answer → Row
row_of pass call answer = record { session = pass.number; number = length pass.account; call = call; point = answer.point; reply = answer.reply }

-- the answer is one that the registry of the round gives after some updates
pub record IsAnswer (limits : Limits) (opening : Opening) (call : Call) (answer : Answer) : Type 0 where
  pub log : List Update
  pub after : Registry
  pub serves : Serves (registry_at limits opening log) call answer after

-- The row of an answered call stands in the pass's account, which is that of the same session.
pub record AddsRow (limits : Limits) (opening : Opening) (before after : PassView) (call : Call) (answer : Answer) : Type 0 where
  pub number : after.number ≡ before.number
  pub row : after.account ≡ before.account ++ row_of before call answer ∷ []
  pub served : IsAnswer limits opening call answer

-- The call was answered: it added its row, at a point that the pass had not gone past and has now seen.
pub record Answered (limits : Limits) (opening : Opening) (before after : PassView) (call : Call) (answer : Answer) : Type 0 where
  pub adds : AddsRow limits opening before after call answer
  pub floor : before.seen ≤ answer.point
  -- an accepted call is above all that the pass had seen
  pub accepted : is_accepted (row_of before call answer) ≡ true → before.seen < answer.point
  pub seen : answer.point ≤ after.seen
  pub ended : HasNoSnapshot after

-- The call was not answered, and made no row.
pub record Unanswered (before after : PassView) : Type 0 where
  pub number : after.number ≡ before.number
  pub account : after.account ≡ before.account
  pub seen : before.seen ≤ after.seen
  pub ended : HasNoSnapshot after

-- ---- the end of a round

-- the account of the session with this number
abbrev pub account_of : List PassView → ℕ → List Row
account_of [] number = []
account_of (pass ∷ passes) number = if pass.number == number then pass.account else account_of passes number

-- the accounts of the sessions 0, 1, 2, ..
abbrev pub accounts_of : ℕ → List PassView → List (List Row)
accounts_of callers passes = map (account_of passes) (range_with_len 0 callers)

-- why a round with so many callers can't end with these passes: the least number that none of them has
abbrev pub close_refusal : ℕ → List PassView → Option CloseWhy
close_refusal callers passes = option_map Missing (find (λ number. not (list_any (λ pass. pass.number == number) passes)) (range_with_len 0 callers))

-- The round has ended: each row stands at the place of its session and number, and after all that its session had seen; the accounts
-- have a merge that is lawful and makes the log, and the live declarations are carried on.
pub record Closes (limits : Limits) (opening : Opening) (closed : Closed) (accounts : List (List Row)) : Type 0 where
  pub base : closed.base ≡ opening.base
  pub numbered : AreAccounts accounts
  pub seen : All (AllPairs IsSeenBy) accounts
  pub merge : MergeToLog limits opening closed.log accounts
  pub carried : closed.carried ≡ opening_after opening closed.log
