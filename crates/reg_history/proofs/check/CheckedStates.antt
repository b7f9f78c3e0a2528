-- What a told line makes of each state that a check may be in.
use Rattle.std.proofs.Common.{◌≡◌, List, ℕ, Result, IfOk, Vec, Global, Option, None, MatchOption, refl, sym, ap, subst}
use Rattle.std.proofs.lemmas.Result.{IfOk-weaker}
use Rattle.reg_model.specs.declared.update.Declared.{Declared}
use Rattle.reg_model.specs.Opening.{Opening}
use Rattle.reg_model.specs.Runs.{RoundRows, closing}
use Rattle.reg_history.specs.declared.lines.told.HistoryLine.{HistoryLine}
use Rattle.reg_history.specs.declared.lines.told.HistoryLine.TheVariants as lines
use Rattle.reg_history.specs.declared.lines.told.ToldRow.{ToldRow}
use Rattle.reg_history.specs.declared.check.fault.CheckWhy.{CheckWhy}
use Rattle.reg_history.specs.declared.check.fault.CheckWhy.TheVariants as why
use Rattle.reg_history.specs.declared.check.step.State.{State}
use Rattle.reg_history.specs.declared.check.step.State.TheVariants as states
use Rattle.reg_history.specs.declared.check.step.Step.{Step}
use Rattle.reg_history.specs.lines.HistoryLines.{whole_line, IsLineValue, IsToldRowValue}
use Rattle.reg_history.specs.check.Checking.{Front, Nothing, Carried, Serving, after, CanStand}
use Rattle.reg_history.specs.inner.CheckSteps.{IsStateOf, StepTells}
use Rattle.reg_history.specs.inner.Serving.{ServingParts, KeepsRun, RowStands, RowFails, longer}
use Rattle.reg_history.proofs.check.CheckedLines.{MakesStep, bytes_tell}

-- the bytes are the text of the line, whose values a text can have
abbrev Tells : List ℕ → HistoryLine → Type 0
Tells bytes told = (bytes ≡ whole_line told) × IsLineValue told

-- ---- what stands before the line

at_start : (front : Front) → IsStateOf states.Start front → Nothing ≡ front
at_start Nothing is = refl
at_start front is = absurd is

at_carrying : (carried : Vec Declared Global) (front : Front) → IsStateOf (states.Carrying carried) front → Carried carried.items ≡ front
at_carrying carried (Carried list) is = ap (λ l. Carried l) is.0
at_carrying carried front is = absurd is

at_serving : (serving : ServingParts) (told : HistoryLine) (step : Step) (front : Front) → IsStateOf (states.Serving serving) front
    → ((opening : Opening) (ended : List RoundRows) (now : RoundRows) → KeepsRun serving opening ended now → StepTells (Serving opening ended now) told step)
    → StepTells front told step
at_serving serving told step (Serving opening ended now) is tells = tells opening ended now is
at_serving serving told step front is tells = absurd is

-- ---- what the line makes of it

pub start_tells : (state : State) (told : HistoryLine) (bytes : List ℕ) (step : Step) → state ≡ states.Start → Tells bytes told → StepTells Nothing told step
    → MakesStep state bytes step
start_tells state told bytes step at text tells =
    λ front is.
    let same = at_start front (subst (λ (s : State). IsStateOf s front) at is) in
    bytes_tell state front told bytes step is text.0 text.1 (subst (λ (f : Front). StepTells f told step) same tells)

pub carry_tells : {E : Type 0} (state : State) (carried : Vec Declared Global) (told : HistoryLine) (bytes : List ℕ) (result : Result Step E) → state ≡ states.Carrying carried
    → Tells bytes told → IfOk result (λ step. IsLineValue told → StepTells (Carried carried.items) told step) → IfOk result (MakesStep state bytes)
carry_tells state carried told bytes result at text tells =
    IfOk-weaker result (λ (step : Step). IsLineValue told → StepTells (Carried carried.items) told step) (MakesStep state bytes)
    (λ step h front is.
    let same = at_carrying carried front (subst (λ (s : State). IsStateOf s front) at is) in
    bytes_tell state front told bytes step is text.0 text.1 (subst (λ (f : Front). StepTells f told step) same (h text.1)))
    tells

pub serve_tells : {E : Type 0} (state : State) (serving : ServingParts) (told : HistoryLine) (bytes : List ℕ) (result : Result Step E) → state ≡ states.Serving serving
    → Tells bytes told
    → IfOk result (λ step. (opening : Opening) (ended : List RoundRows) (now : RoundRows) → KeepsRun serving opening ended now → IsLineValue told → StepTells (Serving opening ended now) told step)
    → IfOk result (MakesStep state bytes)
serve_tells state serving told bytes result at text tells =
    IfOk-weaker result
    (λ (step : Step). (opening : Opening) (ended : List RoundRows) (now : RoundRows) → KeepsRun serving opening ended now → IsLineValue told → StepTells (Serving opening ended now) told step)
    (MakesStep state bytes)
    (λ step h front is.
    bytes_tell state front told bytes step is text.0 text.1
    (at_serving serving told step front (subst (λ (s : State). IsStateOf s front) at is) (λ opening ended now serves. h opening ended now serves text.1)))
    tells

-- ---- a row that stands

row_stands : (row : ToldRow) (opening : Opening) (ended : List RoundRows) (now : RoundRows) → IsToldRowValue row → RowStands (closing opening ended) now row
    → CanStand (Serving opening ended now) (lines.Row row)
row_stands row opening ended now value stands why.Form = (tt, value)
row_stands row opening ended now value stands cause = stands cause

pub row_more : (told : HistoryLine) (row : ToldRow) (opening : Opening) (ended : List RoundRows) (now : RoundRows) (serving : ServingParts) (failed : Option CheckWhy)
    → told ≡ lines.Row row → IsLineValue told → failed ≡ None
    → (IsToldRowValue row → MatchOption failed (RowStands (closing opening ended) now row × KeepsRun serving opening ended (longer now row)) (RowFails (closing opening ended) now row))
    → CanStand (Serving opening ended now) told × IsStateOf (states.Serving serving) (after (Serving opening ended now) told)
row_more told row opening ended now serving failed is value none tells =
    let row_value : IsToldRowValue row = subst IsLineValue is value in
    let both : RowStands (closing opening ended) now row × KeepsRun serving opening ended (longer now row) =
    subst (λ (o : Option CheckWhy). MatchOption o (RowStands (closing opening ended) now row × KeepsRun serving opening ended (longer now row)) (RowFails (closing opening ended) now row)) none (tells row_value) in
    subst (λ (l : HistoryLine). CanStand (Serving opening ended now) l × IsStateOf (states.Serving serving) (after (Serving opening ended now) l)) (sym is)
    (row_stands row opening ended now row_value both.0, both.1)
