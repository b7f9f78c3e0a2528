-- What the check keeps between two lines, and what it makes of a line.
use Rattle.std.specs.Prelude.{◌≡◌, ℕ, ◌<◌, ◌^◌, true, List, [], ◌∷◌, ◌++◌, Result, Ok, Err}
use Rattle.reg_model.specs.Opening.{IsRising}
use Rattle.reg_history.specs.declared.lines.told.HistoryLine.{HistoryLine}
use Rattle.reg_history.specs.declared.lines.told.HistoryLine.TheVariants as lines
use Rattle.reg_history.specs.declared.check.fault.Summary.{Summary}
use Rattle.reg_history.specs.declared.check.fault.CheckRefusal.{CheckRefusal}
use Rattle.reg_history.specs.declared.check.fault.CheckRefusal.TheVariants as refusals
use Rattle.reg_history.specs.declared.check.step.State.{State}
use Rattle.reg_history.specs.declared.check.step.State.TheVariants as states
use Rattle.reg_history.specs.declared.check.step.Step.{Step}
use Rattle.reg_history.specs.declared.check.step.Step.TheVariants as steps
use Rattle.reg_history.specs.inner.Bytes.{free}
use Rattle.reg_history.specs.lines.HistoryLines.{whole_line}
use Rattle.reg_history.specs.check.Checking.{IsHistoryOf, HasLineFault, Front, Nothing, Carried, Serving, after, CanStand, Fails, FailsAt}
use Rattle.reg_history.specs.inner.Serving.{KeepsRun}

-- the state is what lines that tell this leave; behind the end there is none
abbrev pub IsStateOf : State → Front → Type 0
IsStateOf states.Start Nothing = Unit {0}
IsStateOf (states.Carrying carried) (Carried list) = (carried.items ≡ list) × IsRising list
IsStateOf (states.Serving serving) (Serving opening ended now) = KeepsRun serving opening ended now
IsStateOf state front = ⊥

-- the rows so far
abbrev pub rows_so_far : State → ℕ
rows_so_far (states.Serving serving) = serving.rows
rows_so_far state = 0

abbrev pub rows_after : Step → ℕ
rows_after (steps.Next state) = rows_so_far state
rows_after step = 0

-- bytes with one line feed, which is the last of them
abbrev pub IsOneLine : List ℕ → Type 0
IsOneLine bytes = (content : List ℕ) × (free 10 content ≡ true) × (bytes ≡ content ++ 10 ∷ [])

-- a line more can be taken
abbrev pub IsReady : State → Type 0
IsReady states.Start = Unit {0}
IsReady (states.Carrying carried) = IsRising carried.items
IsReady (states.Serving serving) = serving.rows < 2 ^ 63

-- what a line makes of what stands before it
abbrev pub StepTells : Front → HistoryLine → Step → Type 0
StepTells front told (steps.Next state) = CanStand front told × IsStateOf state (after front told)
StepTells front told (steps.Fails why) = Fails front told why
StepTells front told (steps.Ends summary) = CanStand front told × (told ≡ lines.End summary.rows summary.live)

-- the same of a line's bytes: they are the text of a line that can stand, or fail whatever stands behind them
abbrev pub BytesTell : Front → List ℕ → Step → Type 0
BytesTell front bytes (steps.Fails why) = (behind : List ℕ) → FailsAt front (bytes ++ behind) why
BytesTell front bytes step = (told : HistoryLine) × (bytes ≡ whole_line told) × StepTells front told step

-- what the whole check answers
abbrev pub TellsOutcome : List ℕ → Result Summary CheckRefusal → Type 0
TellsOutcome text (Ok summary) = IsHistoryOf text summary.rows summary.live
TellsOutcome text (Err (refusals.Fault fault)) = HasLineFault text fault.line fault.why
TellsOutcome text (Err refusals.NoMemory) = Unit {0}
