-- What the check keeps of the round that goes on.
use Rattle.std.specs.Prelude.{◌≡◌, ℕ, ◌+◌, ◌-◌, ◌<◌, ◌≤◌, ◌^◌, not, List, [], ◌∷◌, ◌++◌, length, sum_by, get_or, slice_get, Option, option_map}
use Rattle.reg_model.specs.declared.reply.Row.{Row}
use Rattle.reg_model.specs.Limits.{IsInRange}
use Rattle.reg_model.specs.Opening.{Opening}
use Rattle.reg_model.specs.Registry.{Registry}
use Rattle.reg_model.specs.Rows.{is_accepted, log_of, session_rows}
use Rattle.reg_model.specs.Runs.{RoundRows, closing}
use Rattle.reg_history.specs.declared.lines.told.ToldRow.{ToldRow}
use Rattle.reg_history.specs.declared.lines.told.ToldRound.{ToldRound}
use Rattle.reg_history.specs.declared.check.fault.CheckWhy.{CheckWhy}
use Rattle.reg_history.specs.declared.check.serving.LastRow.{LastRow}
use Rattle.reg_history.specs.lines.HistoryLines.{told_limits, row_in}
use Rattle.reg_history.specs.check.Checking.{RowOwes, rank}
use Rattle.reg_history.specs.inner.Ledgers.{LedgerParts, Keeps}

pub record ServingParts : Type 0 where
  pub ended : ℕ
  pub rows : ℕ
  pub counts : List ℕ
  pub last : Option LastRow
  pub ledger : LedgerParts

-- what of a row the place of the next depends on
abbrev pub last_of : Row → LastRow
last_of row = record { point = row.point; refused = not (is_accepted row); session = row.session; number = row.number }

-- the registry after the rows of the round
abbrev pub registry_of : Opening → List RoundRows → RoundRows → Registry
registry_of opening ended now = record { limits = now.limits; opening = closing opening ended; log = log_of now.rows }

-- The parts are those of a run that began with this opening, after the ended rounds and the rows of the one that goes on.
pub record KeepsRun (parts : ServingParts) (opening : Opening) (ended : List RoundRows) (now : RoundRows) : Type 0 where
  pub rounds : parts.ended ≡ length ended
  pub rows : parts.rows ≡ sum_by (λ (round : RoundRows). length round.rows) ended + length now.rows
  pub counts : (session : ℕ) → session < now.limits.callers → get_or parts.counts session 0 ≡ length (session_rows session now.rows)
  pub last : parts.last ≡ option_map last_of (slice_get now.rows (length now.rows - 1))
  pub ledger : Keeps parts.ledger (registry_of opening ended now)

-- with one row more
abbrev pub longer : RoundRows → ToldRow → RoundRows
longer now row = record now { rows = now.rows ++ row_in row ∷ [] }

-- the row may stand there
abbrev pub RowStands : Opening → RoundRows → ToldRow → Type 0
RowStands opening now row = (why : CheckWhy) → RowOwes opening now row why

-- it may not, and this is the first cause
pub record RowFails (opening : Opening) (now : RoundRows) (row : ToldRow) (why : CheckWhy) : Type 0 where
  pub earlier : (other : CheckWhy) → rank other < rank why → RowOwes opening now row other
  pub this : RowOwes opening now row why → ⊥

-- the sizes of a round's line are in range, and have room for so many live declarations and for the ids
pub record HasRoom (told : ToldRound) (live : ℕ) : Type 0 where
  pub sizes : IsInRange (told_limits told)
  pub room : live ≤ told.entries
  pub ids : told.base + told.log ≤ 2 ^ 34
