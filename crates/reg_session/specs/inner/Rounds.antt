-- Steps of a round: its sessions with their passes, before and after their calls.
use Rattle.std.specs.Prelude.{◌≡◌, ℕ, ◌+◌, ◌<◌, List, [], ◌∷◌, slice_get, Some}
use Rattle.reg_model.specs.declared.call.Call.{Call}
use Rattle.reg_model.specs.declared.reply.Row.{Row}
use Rattle.reg_model.specs.Desks.{PassView}
use Rattle.reg_model.specs.Limits.{Limits}
use Rattle.reg_model.specs.Opening.{Opening}
use Rattle.reg_session.specs.declared.rounds.SessionSeat.{SessionSeat}
use Rattle.reg_session.specs.declared.rounds.SessionDone.{SessionDone}
use Rattle.reg_session.specs.Sessions.{IsUnused, HasMade}

-- the seat of one of so many sessions, which has made no call
pub record IsSeat {P : Type 0} (fit : P → Type 0) (view : P → PassView) (sessions : ℕ) (seat : SessionSeat P) : Type 0 where
  pub low : seat.number < sessions
  pub own : fit seat.pass
  pub unused : IsUnused seat.number (view seat.pass)

-- the calls of the seat's session were made
pub record IsServed {P : Type 0} (fit : P → Type 0) (view : P → PassView) (limits : Limits) (opening : Opening) (lists : List (List Call)) (seat : SessionSeat P) (served : SessionDone P) : Type 0 where
  pub own : fit served.pass
  pub made : (calls : List Call) → slice_get lists seat.number ≡ Some calls → HasMade limits opening seat.number calls (view served.pass)
  pub rows : served.rows ≡ (view served.pass).account

-- the sessions from this number on have made the calls of these lists, with these passes and accounts
abbrev pub ServedFrom : Limits → Opening → ℕ → List (List Call) → List PassView → List (List Row) → Type 0
ServedFrom limits opening number [] [] [] = Unit {0}
ServedFrom limits opening number (calls ∷ lists) (pass ∷ passes) (account ∷ accounts) =
    HasMade limits opening number calls pass × (account ≡ pass.account) × ServedFrom limits opening (number + 1) lists passes accounts
ServedFrom limits opening number lists passes accounts = ⊥
