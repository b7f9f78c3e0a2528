-- What the sessions of a round do, each with a pass of its own, and what the round is.
use Rattle.std.specs.Prelude.{◌≡◌, ◌⊎◌, ℕ, ◌<◌, ◌^◌, List, [], ◌++◌, length, map, slice_get, IsSomeAnd, All, AllPairs}
use Rattle.reg_model.specs.declared.call.Call.{Call}
use Rattle.reg_model.specs.declared.call.Call.TheVariants as calls
use Rattle.reg_model.specs.declared.reply.Row.{Row}
use Rattle.reg_model.specs.declared.update.Update.{Update}
use Rattle.reg_model.specs.declared.round.Round.{Round}
use Rattle.reg_model.specs.Calls.{IsRequest}
use Rattle.reg_model.specs.Desks.{PassView, HasNoSnapshot}
use Rattle.reg_model.specs.Laws.{MergeToLog}
use Rattle.reg_model.specs.Limits.{Limits}
use Rattle.reg_model.specs.Live.{opening_after}
use Rattle.reg_model.specs.Merge.{AreAccounts}
use Rattle.reg_model.specs.Opening.{Opening}
use Rattle.reg_model.specs.Rows.{AsksLogFirst, IsSeenBy, all_rows}

-- ---- one session

-- what a session may ask: fewer than 2^32 calls, each with values of its types
pub record MayBeMade (calls : List Call) : Type 0 where
  pub few : length calls < 2 ^ 32
  pub known : All IsRequest calls

-- the calls of an account, in order
abbrev pub calls_made : List Row → List Call
calls_made account = map (λ (row : Row). row.call) account

-- the pass is that of this session, which has made no call
pub record IsUnused (session : ℕ) (pass : PassView) : Type 0 where
  pub number : pass.number ≡ session
  pub account : pass.account ≡ []
  pub ended : HasNoSnapshot pass

-- The session has made these calls and no others, in order; a lone session was told of a full log before it was told of full entries.
pub record HasMade (limits : Limits) (opening : Opening) (session : ℕ) (calls : List Call) (pass : PassView) : Type 0 where
  pub number : pass.number ≡ session
  pub makes : calls_made pass.account ≡ calls
  pub ended : HasNoSnapshot pass
  pub asks : limits.callers ≡ 1 → All (AsksLogFirst limits opening) pass.account

-- only a query may want memory
abbrev pub IsQuery : Call → Type 0
IsQuery (calls.Declare unit) = ⊥
IsQuery (calls.Withdraw id) = ⊥
IsQuery (calls.Near unit radius) = Unit {0}
IsQuery (calls.Show id) = ⊥
IsQuery calls.Count = ⊥
IsQuery (calls.After point) = ⊥

-- it has made the first of these calls: none of them, or all before a query
pub record HasMadeFirst (limits : Limits) (opening : Opening) (session : ℕ) (calls : List Call) (pass : PassView) : Type 0 where
  pub first : List Call
  pub rest : List Call
  pub split : calls ≡ first ++ rest
  pub made : HasMade limits opening session first pass
  pub stops : (first ≡ []) ⊎ IsSomeAnd (slice_get rest 0) IsQuery

-- ---- a round

-- The round is that of sessions that made these calls, session by session: each row stands at the place of its session and number,
-- and after all that its session had seen; merged, the accounts are lawful and make one log; the live declarations are carried on;
-- a lone session was told of a full log before it was told of full entries.
pub record ServesRound (limits : Limits) (opening : Opening) (calls : List (List Call)) (round : Round) : Type 0 where
  pub sizes : round.sizes ≡ limits
  pub base : round.base ≡ opening.base
  pub makes : map calls_made round.accounts ≡ calls
  pub numbered : AreAccounts round.accounts
  pub seen : All (AllPairs IsSeenBy) round.accounts
  pub log : List Update
  pub merge : MergeToLog limits opening log round.accounts
  pub carried : round.carried ≡ opening_after opening log
  pub asks : limits.callers ≡ 1 → All (AsksLogFirst limits opening) (all_rows round.accounts)
