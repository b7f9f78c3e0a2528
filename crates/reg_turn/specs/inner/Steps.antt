-- What each step tells its caller.
use Rattle.std.specs.Prelude.{◌≡◌, ◌≢◌, ℕ, ◌+◌, ◌≤◌, List, [], ◌∷◌, ◌++◌, length, map, true, false, Option, Some, None, take, drop}
use Rattle.atomic_table.specs.Table.{Me, Step}
use Rattle.atomic_table.specs.Seated.{TableId}
use Rattle.reg_model.specs.declared.call.Call.{Call}
use Rattle.reg_model.specs.declared.reply.Answer.{Answer}
use Rattle.reg_model.specs.declared.reply.Row.{Row}
use Rattle.reg_model.specs.declared.update.Update.{Update}
use Rattle.reg_model.specs.Desks.{PassView, row_of}
use Rattle.reg_model.specs.Registry.{Registry, Serves}
use Rattle.reg_turn.specs.declared.view.Account.{Account}
use Rattle.reg_turn.specs.declared.view.Key.{Key}
use Rattle.reg_turn.specs.declared.view.View.{View}
use Rattle.reg_turn.specs.Turns.{TurnView}
use Rattle.reg_turn.specs.PlainRows.{IsPlainReply}
use Rattle.reg_turn.specs.inner.OneTurn.{Slot, at_log, head_number, head_rows, by_number}

-- a seat's view, and the slot that it has taken
abbrev pub Sat : Type 0
Sat = Me Slot View

-- what contracts see of a pass
abbrev pub pass_of : View → PassView
pass_of v = record { number = head_number v.accounts; seen = v.seen; snapshot = None; account = head_rows v.accounts }

-- and of its desk
abbrev pub turn_view : TableId → Key → TurnView
turn_view table key = record { table = table; limits = key.sizes; opening = key.carried }

-- a seat between two calls, with the account of this session
pub record IsIdle (me : Sat) (number : ℕ) : Type 0 where
  pub empty : me.1 ≡ []
  pub live : me.0.live ≡ true
  pub rests : me.0.holds ≡ false
  pub one : length me.0.accounts ≡ 1
  pub first : head_number me.0.accounts ≡ number

-- ---- taking the turn

-- the seat has the turn, over a registry with this log
abbrev pub holding : View → List Update → View
holding v log = record v { holds = true; log = log }

-- where the word was 0, the registry of the round came out, with a log that reaches all that the seat had seen
abbrev pub taken : Step Slot → Sat → ℕ → Sat → Type 0
taken st m r n =
    (r ≡ 0 → (log : List Update) × (n ≡ (holding m.0 log, (0, Some (at_log m.0.key log)) ∷ [])) × (m.0.seen ≤ m.0.key.carried.base + length log))
    × (r ≢ 0 → n ≡ m)

-- the seat has taken the turn, and this registry with it
pub record Took (before now : Sat) (registry : Registry) : Type 0 where
  pub log : List Update
  pub is : registry ≡ at_log before.0.key log
  pub seen : before.0.seen ≤ before.0.key.carried.base + length log
  pub turn : now ≡ (holding before.0 log, (0, None) ∷ [])

-- ---- giving it back

-- the seat has the turn, and the slot, which is empty
pub record HasTurn (me : Sat) : Type 0 where
  pub live : me.0.live ≡ true
  pub holds : me.0.holds ≡ true
  pub slot : me.1 ≡ (0, None) ∷ []

-- a call, and the answer to it
pub record ServedCall : Type 0 where
  pub call : Call
  pub answer : Answer

-- the first account, with one row more
abbrev pub grown : List Account → Row → List Account
grown [] row = []
grown (a ∷ others) row = record { number = a.number; rows = a.rows ++ row ∷ [] } ∷ others

-- the view after the turn: with the row of the call that was served, if one was
abbrev pub view_after : View → Option ServedCall → View
view_after v None = record v { holds = false; log = [] }
view_after v (Some served) = record v { holds = false; log = []; seen = served.answer.point; accounts = grown v.accounts (row_of (pass_of v) served.call served.answer) }

abbrev pub gave : Option ServedCall → Step Slot → Sat → ℕ → Sat → Type 0
gave served st m r n = n ≡ (view_after m.0 served, [])

-- what is owed for it: the registry answered the call, as the plain registry does, or is as it was
abbrev pub Gives : View → Registry → Option ServedCall → Type 0
Gives v registry None = registry ≡ at_log v.key v.log
Gives v registry (Some served) = Serves (at_log v.key v.log) served.call served.answer registry × IsPlainReply (at_log v.key v.log) served.call served.answer.reply

-- ---- dealing and gathering seats

abbrev pub head_part : View → View
head_part v = record v { accounts = take 1 v.accounts }

abbrev pub tail_part : View → View
tail_part v = record v { holds = false; log = []; accounts = drop 1 v.accounts }

abbrev pub joined : View → View → View
joined v w = record v { accounts = v.accounts ++ w.accounts }

-- the account of a pass
abbrev pub account_in : PassView → Account
account_in pass = record { number = pass.number; rows = pass.account }

-- the seats of these passes are one
pub record Gathered (key : Key) (passes : List PassView) (me : Sat) : Type 0 where
  pub knows : me.0.key ≡ key
  pub empty : me.1 ≡ []
  pub rests : me.0.holds ≡ false
  pub accounts : me.0.accounts ≡ map account_in passes

-- a view that says nothing
abbrev pub nobody : View
nobody = record {
  live = false;
  key = record { sizes = record { entries = 0; log = 0; bits = 0; callers = 0 }; carried = record { base = 0; list = [] } };
  holds = false;
  log = [];
  seen = 0;
  accounts = [];
  sealed = [];
}

-- a view that only keeps these accounts, and of how many sessions they are
abbrev pub sealing : View → View
sealing v = record nobody { key = v.key; sealed = v.accounts }

-- the accounts that a seal keeps
abbrev pub sealed_accounts : List View → List (List Row)
sealed_accounts [] = []
sealed_accounts (v ∷ _) = by_number v.key.sizes.callers v.sealed
