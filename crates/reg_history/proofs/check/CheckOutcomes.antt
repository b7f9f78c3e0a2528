-- What the one answer of a check says of each text.
use Rattle.std.proofs.Common.{◌≡◌, ◌⊎◌, inl, inr, ℕ, ◌^◌, ◌<◌, List, length, Result, Ok, Err, IfOk, refl, sym, ◌∙◌, ap₂, subst}
use Rattle.reg_history.specs.declared.check.fault.CheckWhy.{CheckWhy}
use Rattle.reg_history.specs.declared.check.fault.CheckRefusal.{CheckRefusal}
use Rattle.reg_history.specs.declared.check.fault.CheckRefusal.TheVariants as refusals
use Rattle.reg_history.specs.declared.check.fault.Summary.{Summary}
use Rattle.reg_history.specs.check.Checking.{IsHistoryOf, HasLineFault}
use Rattle.reg_history.specs.Laws.{HasOneCheck}
use Rattle.reg_history.specs.inner.CheckSteps.{TellsOutcome}
use Rattle.reg_history.proofs.check.HistoryToLines.{history_is_lines}
use Rattle.reg_history.proofs.check.OneFault.{no_fault, one_end, one_fault}

abbrev Outcome : Type 0
Outcome = Result Summary CheckRefusal

abbrev accepted : ℕ → ℕ → Outcome
accepted rows live = Ok (record { rows = rows; live = live })

abbrev refused : ℕ → CheckWhy → Outcome
refused line cause = Err (refusals.Fault (record { line = line; why = cause }))

abbrev starved : Outcome
starved = Err refusals.NoMemory

-- ---- a text is either

one_history : (text : List ℕ) (rows live total left : ℕ) → length text < 2 ^ 64 → IsHistoryOf text rows live → IsHistoryOf text total left → (rows ≡ total) × (live ≡ left)
one_history text rows live total left short is other =
    let a = history_is_lines text rows live short is in
    let b = history_is_lines text total left short other in
    one_end a.0 b.0 rows live total left a.1 a.2 b.1 b.2 (sym a.3 ∙ b.3)

not_both : (text : List ℕ) (rows live line : ℕ) (cause : CheckWhy) → length text < 2 ^ 64 → IsHistoryOf text rows live → HasLineFault text line cause → ⊥
not_both text rows live line cause short is has =
    let a = history_is_lines text rows live short is in
    no_fault a.0 rows live line cause a.1 a.2 (subst (λ t. HasLineFault t line cause) a.3 has)

pub one_check : (text : List ℕ) → length text < 2 ^ 64 → HasOneCheck text
one_check text short = record {
  faults = λ line other why cause. one_fault text line other why cause;
  not_both = λ rows live line why. not_both text rows live line why short;
  histories = λ rows live total left. one_history text rows live total left short;
}

-- ---- the four promises

pub tells_history : (text : List ℕ) (result : Outcome) → TellsOutcome text result → IfOk result (λ summary. IsHistoryOf text summary.rows summary.live)
tells_history text (Ok summary) tells = tells
tells_history text (Err refusal) tells = tt

pub tells_refusal : (text : List ℕ) (result : Outcome) (line : ℕ) (cause : CheckWhy) → TellsOutcome text result → result ≡ refused line cause → HasLineFault text line cause
tells_refusal text result line cause tells is = subst (TellsOutcome text) is tells

pub accepts_history : (text : List ℕ) (result : Outcome) (rows live : ℕ) → length text < 2 ^ 64 → TellsOutcome text result → IsHistoryOf text rows live
    → (result ≡ accepted rows live) ⊎ (result ≡ starved)
accepts_history text (Ok summary) rows live short tells is =
    let same = one_history text summary.rows summary.live rows live short tells is in
    inl (ap₂ accepted same.0 same.1)
accepts_history text (Err (refusals.Fault fault)) rows live short tells is = absurd (not_both text rows live fault.line fault.why short is tells)
accepts_history text (Err refusals.NoMemory) rows live short tells is = inr refl

pub refuses_fault : (text : List ℕ) (result : Outcome) (line : ℕ) (cause : CheckWhy) → length text < 2 ^ 64 → TellsOutcome text result → HasLineFault text line cause
    → (result ≡ refused line cause) ⊎ (result ≡ starved)
refuses_fault text (Ok summary) line cause short tells has = absurd (not_both text summary.rows summary.live line cause short tells has)
refuses_fault text (Err (refusals.Fault fault)) line cause short tells has =
    let same = one_fault text fault.line line fault.why cause tells has in
    inl (ap₂ refused same.0 same.1)
refuses_fault text (Err refusals.NoMemory) line cause short tells has = inr refl
