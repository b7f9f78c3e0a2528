-- What texts tell.
use Rattle.std.specs.Prelude.{◌≡◌, ℕ, ◌<◌, ◌^◌, List, length}
use Rattle.std.specs.List.{AllZip}
use Rattle.reg_model.specs.Limits.{Limits}
use Rattle.reg_model.specs.Opening.{Opening}
use Rattle.reg_model.specs.Runs.{RoundRows, IsHistory}
use Rattle.reg_history.specs.History.{history_text}
use Rattle.reg_history.specs.lines.Values.{IsRunValue}
use Rattle.reg_history.specs.declared.check.fault.CheckWhy.{CheckWhy}
use Rattle.reg_history.specs.check.Checking.{IsHistoryOf, HasLineFault}

-- the same sizes, but for the bits of a bucket, which a text doesn't name
pub record SameSizes (a b : Limits) : Type 0 where
  pub entries : a.entries ≡ b.entries
  pub log : a.log ≡ b.log
  pub callers : a.callers ≡ b.callers

-- the same rows, and sizes that a text doesn't tell apart
pub record SameRound (a b : RoundRows) : Type 0 where
  pub sizes : SameSizes a.limits b.limits
  pub rows : a.rows ≡ b.rows

-- a text is that of one run: of one opening, and of the same rounds one by one
abbrev pub TextTellsRun : Type 0
TextTellsRun = (opening other : Opening) (rounds more : List RoundRows) → IsHistory opening rounds → IsHistory other more
    → IsRunValue opening rounds → IsRunValue other more → history_text opening rounds ≡ history_text other more
    → (opening ≡ other) × AllZip SameRound rounds more

-- what a check may say of this text: it has one first fault or none, a history has none, and a history has one number of rows and
-- one of live declarations
pub record HasOneCheck (text : List ℕ) : Type 0 where
  pub faults : (line other : ℕ) (why cause : CheckWhy) → HasLineFault text line why → HasLineFault text other cause → (line ≡ other) × (why ≡ cause)
  pub not_both : (rows live line : ℕ) (why : CheckWhy) → IsHistoryOf text rows live → HasLineFault text line why → ⊥
  pub histories : (rows live total left : ℕ) → IsHistoryOf text rows live → IsHistoryOf text total left → (rows ≡ total) × (live ≡ left)

-- each text has, if its bytes can be counted in 64 bits, as those of a text in memory can
abbrev pub TextHasOneCheck : Type 0
TextHasOneCheck = (text : List ℕ) → length text < 2 ^ 64 → HasOneCheck text
