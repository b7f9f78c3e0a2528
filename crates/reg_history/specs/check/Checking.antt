-- When a line of a history can't stand, and why.
use Rattle.std.specs.Prelude.{◌≡◌, ℕ, ◌+◌, ◌-◌, ◌<◌, ◌≤◌, ◌^◌, List, [], ◌∷◌, ◌++◌, length, sum_by, slice_get, All, IfSome}
use Rattle.std.specs.List.{flat_map}
use Rattle.std.specs.declared.cmp.Ordering.TheVariants.{Less}
use Rattle.reg_model.specs.declared.round.TheConstants.{ROUNDS_MOST}
use Rattle.reg_model.specs.declared.update.Declared.{Declared}
use Rattle.reg_model.specs.declared.call.Call.{Call}
use Rattle.reg_model.specs.declared.reply.Row.{Row}
use Rattle.reg_model.specs.Limits.{IsInRange}
use Rattle.reg_model.specs.Opening.{Opening, IsOpening, opening_of}
use Rattle.reg_model.specs.Replies.{Replies}
use Rattle.reg_model.specs.Rows.{log_of, session_rows, row_cmp}
use Rattle.reg_model.specs.Runs.{RoundRows, closing, IsHistory}
use Rattle.reg_requests.specs.Lines.{kind_of}
use Rattle.reg_history.specs.declared.lines.told.HistoryLine.{HistoryLine}
use Rattle.reg_history.specs.declared.lines.told.HistoryLine.TheVariants as lines
use Rattle.reg_history.specs.declared.lines.told.ToldRound.{ToldRound}
use Rattle.reg_history.specs.declared.lines.told.ToldRow.{ToldRow}
use Rattle.reg_history.specs.declared.lines.told.ToldReply.{ToldReply}
use Rattle.reg_history.specs.declared.lines.told.ToldReply.TheVariants.{Hits, Plain}
use Rattle.reg_history.specs.declared.lines.told.ToldHit.{ToldHit}
use Rattle.reg_history.specs.declared.check.fault.CheckWhy.{CheckWhy}
use Rattle.reg_history.specs.declared.check.fault.CheckWhy.TheVariants as why
use Rattle.reg_history.specs.History.{history_text}
use Rattle.reg_history.specs.lines.Values.{IsRunValue}
use Rattle.reg_history.specs.lines.HistoryLines.{told_limits, row_in, whole_line, IsLineValue}

-- ---- what stands

-- the text is that of a history with so many rows, which leaves so many declarations live
pub record IsHistoryOf (text : List ℕ) (rows live : ℕ) : Type 0 where
  pub opening : Opening
  pub rounds : List RoundRows
  pub lawful : IsHistory opening rounds
  pub values : IsRunValue opening rounds
  pub is : text ≡ history_text opening rounds
  pub all_rows : rows ≡ sum_by (λ (round : RoundRows). length round.rows) rounds
  pub left : live ≡ length (closing opening rounds).list

-- What the lines so far tell: nothing; the declarations that are carried; what the run begins with, its ended rounds and the one
-- that goes on; or the whole.
pub data Front : Type 0 where
  Nothing : Front
  Carried : List Declared → Front
  Serving : Opening → List RoundRows → RoundRows → Front
  Ended : Front

-- a round without rows
abbrev pub begun : ToldRound → RoundRows
begun told = record { limits = told_limits told; rows = [] }

-- with one line more
abbrev pub after : Front → HistoryLine → Front
after Nothing lines.Head = Carried []
after (Carried list) (lines.Carry declared) = Carried (list ++ declared ∷ [])
after (Carried list) (lines.Round told) = Serving (opening_of told.base list) [] (begun told)
after (Serving opening ended now) (lines.Round told) = Serving opening (ended ++ now ∷ []) (begun told)
after (Serving opening ended now) (lines.Row row) = Serving opening ended (record now { rows = now.rows ++ row_in row ∷ [] })
after (Serving opening ended now) (lines.End rows live) = Ended
after front other = front

abbrev pub after_all : Front → List HistoryLine → Front
after_all front [] = front
after_all front (line ∷ more) = after_all (after front line) more

-- ---- what a line owes

-- the forms that are allowed there
abbrev pub IsAllowed : Front → HistoryLine → Type 0
IsAllowed Nothing lines.Head = Unit {0}
IsAllowed (Carried list) (lines.Carry declared) = Unit {0}
IsAllowed (Carried list) (lines.Round told) = Unit {0}
IsAllowed (Serving opening ended now) (lines.Round told) = Unit {0}
IsAllowed (Serving opening ended now) (lines.Row row) = Unit {0}
IsAllowed (Serving opening ended now) (lines.End rows live) = Unit {0}
IsAllowed front other = ⊥

-- the line of the round that begins with this opening, after so many rounds
pub record OpensRound (opening : Opening) (rounds : ℕ) (told : ToldRound) : Type 0 where
  pub number : told.number ≡ rounds
  pub few : rounds < ROUNDS_MOST
  pub base : told.base ≡ opening.base
  pub opens : IsOpening opening
  pub sizes : IsInRange (told_limits told)
  pub room : length opening.list ≤ told.entries
  pub ids : told.base + told.log ≤ 2 ^ 34

-- hits are of the kind of the unit that the call names
abbrev pub HasKind : Call → ToldReply → Type 0
HasKind call (Hits hits) = All (λ (hit : ToldHit). hit.unit.kind ≡ kind_of call) hits
HasKind call (Plain reply) = Unit {0}

-- What a row owes after the rows of its round: by cause, what else holds of a row that may follow.
abbrev pub RowOwes : Opening → RoundRows → ToldRow → CheckWhy → Type 0
RowOwes opening now row why.Session = (row.session < now.limits.callers) × (row.number ≡ length (session_rows row.session now.rows))
RowOwes opening now row why.Order = IfSome (slice_get now.rows (length now.rows - 1)) (λ (last : Row). row_cmp last (row_in row) ≡ Less)
RowOwes opening now row why.Point = (row.point ≡ opening.base + length (log_of (now.rows ++ row_in row ∷ []))) × (row.point ≤ opening.base + now.limits.log)
RowOwes opening now row why.Reply = Replies now.limits opening (log_of now.rows) row.call (row_in row).reply × HasKind row.call row.reply
RowOwes opening now row other = Unit {0}

-- the numbers of the end line
pub record HasEndNumbers (opening : Opening) (rounds : List RoundRows) (rows live : ℕ) : Type 0 where
  pub rows_are : rows ≡ sum_by (λ (round : RoundRows). length round.rows) rounds
  pub live_are : live ≡ length (closing opening rounds).list

-- what a line owes where these lines stand before it, for each cause of a fault
abbrev pub Owes : Front → HistoryLine → CheckWhy → Type 0
Owes front line why.Form = IsAllowed front line × IsLineValue line
Owes (Carried list) (lines.Carry declared) why.Round = All (λ (earlier : Declared). earlier.id < declared.id) list
Owes (Carried list) (lines.Round told) why.Round = OpensRound (opening_of told.base list) 0 told
Owes (Serving opening ended now) (lines.Round told) why.Round = OpensRound (closing opening (ended ++ now ∷ [])) (length ended + 1) told
Owes (Serving opening ended now) (lines.Row row) cause = RowOwes (closing opening ended) now row cause
Owes (Serving opening ended now) (lines.End rows live) why.End = HasEndNumbers opening (ended ++ now ∷ []) rows live
Owes front line cause = Unit {0}

-- the line can stand there
abbrev pub CanStand : Front → HistoryLine → Type 0
CanStand front line = (cause : CheckWhy) → Owes front line cause

abbrev pub EachStands : Front → List HistoryLine → Type 0
EachStands front [] = Unit {0}
EachStands front (line ∷ more) = CanStand front line × EachStands (after front line) more

-- ---- the first fault

-- the order of the causes
abbrev pub rank : CheckWhy → ℕ
rank why.Form = 0
rank why.Round = 1
rank why.Session = 2
rank why.Order = 3
rank why.Point = 4
rank why.Reply = 5
rank why.End = 6

-- the line owes what it hasn't, and this is the first cause that applies to it
pub record Fails (front : Front) (line : HistoryLine) (cause : CheckWhy) : Type 0 where
  pub earlier : (other : CheckWhy) → rank other < rank cause → Owes front line other
  pub this : Owes front line cause → ⊥

-- why the line with which the rest of a text begins can't stand; after the end none can, and without an end one is missing
abbrev pub FailsAt : Front → List ℕ → CheckWhy → Type 0
FailsAt Ended [] cause = ⊥
FailsAt Ended (byte ∷ rest) cause = cause ≡ why.End
FailsAt front [] cause = cause ≡ why.End
FailsAt front rest why.Form = (line : HistoryLine) (behind : List ℕ) → rest ≡ whole_line line ++ behind → Owes front line why.Form → ⊥
FailsAt front rest cause = (line : HistoryLine) × (behind : List ℕ) × (rest ≡ whole_line line ++ behind) × Fails front line cause

-- The first line that can't stand has this number, counted from 1, and this is why.
pub record HasLineFault (text : List ℕ) (number : ℕ) (cause : CheckWhy) : Type 0 where
  pub before : List HistoryLine
  pub rest : List ℕ
  pub whole : text ≡ flat_map whole_line before ++ rest
  pub stand : EachStands Nothing before
  pub is : number ≡ length before + 1
  pub fails : FailsAt (after_all Nothing before) rest cause
