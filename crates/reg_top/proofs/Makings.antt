-- What each command makes of what it is given, and that it doesn't refuse it then.
use Rattle.std.proofs.Common.{◌≡◌, ◌⊎◌, inl, inr, ℕ, List, [], Some, Result, Ok, Err, refl, sym, ◌∙◌, ap, subst}
use Rattle.std.specs.Prelude.{IfSome}
use Rattle.std.proofs.lemmas.Option.{none-some, same_Some}
use Rattle.iscc_code.specs.Composites.{compose_fault}
use Rattle.reg_model.specs.Runs.{RoundRows}
use Rattle.reg_model.proofs.RowSteps.{IfSome-weaker}
use Rattle.reg_requests.specs.Lines.{line}
use Rattle.reg_session.specs.Files.{Files}
use Rattle.reg_session.specs.Outside.{Outside}
use Rattle.iscc_text.specs.UnitText.{unit_text}
use Rattle.iscc_instance.specs.Instances.{instance_of}
use Rattle.reg_history.specs.declared.check.fault.CheckFault.{CheckFault}
use Rattle.reg_history.specs.check.Checking.{HasLineFault}
use Rattle.reg_history.specs.declared.check.fault.CheckWhy.{CheckWhy}
use Rattle.reg_history.specs.declared.check.fault.CheckRefusal.{CheckRefusal}
use Rattle.reg_history.specs.declared.check.fault.CheckRefusal.TheVariants as check_refusals
use Rattle.reg_history.specs.declared.check.fault.Summary.{Summary}
use Rattle.reg_top.specs.declared.refusal.Refusal.{Refusal}
use Rattle.reg_top.specs.declared.refusal.Refusal.TheVariants as refusals
use Rattle.reg_top.specs.declared.ending.Declined.{Declined}
use Rattle.reg_top.specs.declared.ending.Declined.TheVariants as declined
use Rattle.reg_top.specs.SavedHistories.{IsSavedHistory, HasNoHistory, HasLawfulHistory, HasFaultyHistory}
use Rattle.reg_top.specs.Fetches.{Plan}
use Rattle.reg_top.specs.Fetches.Command.{Run, Make, Explain, Compose, Instance, Check}
use Rattle.reg_top.specs.commands.Run.{IsRunOutput}
use Rattle.reg_make.specs.Workloads.{Work}
use Rattle.reg_top.specs.commands.Make.{IsMakeOutput}
use Rattle.reg_top.specs.commands.Explain.{IsExplanation}
use Rattle.reg_top.specs.commands.Compose.{IsComposition, RefusesTexts}
use Rattle.reg_top.specs.commands.Check.{RefusesHistory, lawful_text}
use Rattle.reg_top.specs.inner.Endings.{Makes, ExplainDeclines, ComposeDeclines, CheckDeclines, IsUnfaulty}
use Rattle.reg_top.proofs.Compositions.{clash, read_or_refused, same_units}
use Rattle.reg_top.proofs.SavedLines.{one_saved, saved_or_none}
use Rattle.reg_top.proofs.RoundRefusals.{output_unrefused}
use Rattle.reg_top.proofs.Parts.{Declines}

-- ---- texts

pub explain_makes : (text output : List ℕ) (files : Files) → IsExplanation text output → Makes (Explain text) files [] output
explain_makes text output files is = record { is = is; unrefused = λ refusal refuses. clash text is.iscc refuses.fault is.read refuses.has }

pub explain_declines : (text : List ℕ) (before : Outside) (why : Declined) → ExplainDeclines text why → Declines (Explain text) before [] why
explain_declines text before (declined.Refused refusal) is = (is, tt)
explain_declines text before declined.NoMemory is = tt

unrefused_texts : (texts : List (List ℕ)) (output : List ℕ) (refusal : Refusal) → IsComposition texts output → RefusesTexts texts refusal → ⊥
unrefused_texts texts output refusal is refuses =
    let composed = is.composed in
    elim refuses [
      | inl word ↦ read_or_refused texts composed.units word.at word.why composed.read word.has
      | inr units ↦ none-some units.fault (sym composed.faultless ∙ ap compose_fault (same_units texts composed.units units.units composed.read units.read) ∙ units.has)
    ]

pub compose_makes : (texts : List (List ℕ)) (output : List ℕ) (files : Files) → IsComposition texts output → Makes (Compose texts) files [] output
compose_makes texts output files is = record { is = is; unrefused = λ refusal refuses. unrefused_texts texts output refusal is refuses }

pub compose_declines : (texts : List (List ℕ)) (before : Outside) (why : Declined) → ComposeDeclines texts why → Declines (Compose texts) before [] why
compose_declines texts before (declined.Refused refusal) is = (is, tt)
compose_declines texts before declined.NoMemory is = tt

-- ---- files

pub run_makes : (plan : Plan) (files : Files) (served : List RoundRows) (output : List ℕ) → IsRunOutput plan files served output → Makes (Run plan) files served output
run_makes plan files served output is = record { is = is; unrefused = output_unrefused plan files served output is }

pub make_makes : (work : Work) (files : Files) (served : List RoundRows) (output : List ℕ) → IsMakeOutput work served output → Makes (Make work) files served output
make_makes work files served output is = record { is = is; unrefused = λ refusal refuses. refuses }

pub instance_makes : (name bytes : List ℕ) (files : Files) → files name ≡ Some bytes → Makes (Instance name) files [] (line (unit_text (instance_of bytes)))
instance_makes name bytes files held = record { is = record { bytes = bytes; held = held; printed = refl }; unrefused = λ refusal refuses. refuses }

-- a text that is told as lawful has no fault
pub unfaulty : (file text : List ℕ) (result : Result Summary CheckRefusal) (summary : Summary) → IsSavedHistory file text
    → ((number : ℕ) (why : CheckWhy) → HasLineFault text number why → (result ≡ Err (check_refusals.Fault (record { line = number; why = why }))) ⊎ (result ≡ Err check_refusals.NoMemory))
    → result ≡ Ok summary → IsUnfaulty file
unfaulty file text result summary saved refuses is fault faulty =
    let same : faulty.text ≡ text = one_saved file faulty.text text faulty.saved saved in
    elim (refuses fault.line fault.why (subst (λ t. HasLineFault t fault.line fault.why) same faulty.faulty)) [ inl other ↦ absurd (cc) | inr other ↦ absurd (cc) ]

unrefused_file : (name bytes : List ℕ) (files : Files) (rows live : ℕ) (refusal : Refusal) → files name ≡ Some bytes → IsUnfaulty bytes → HasLawfulHistory bytes rows live
    → RefusesHistory name files refusal → ⊥
unrefused_file name bytes files rows live refusal held one lawful refuses =
    elim refuses [
      | inl none ↦ (
          let same : none.bytes ≡ bytes = same_Some none.bytes bytes (sym none.held ∙ held) in
          saved_or_none bytes _ lawful.saved (subst HasNoHistory same none.none)
          )
      | inr faulty ↦ (
          let same : faulty.bytes ≡ bytes = same_Some faulty.bytes bytes (sym faulty.held ∙ held) in
          one faulty.fault (subst (λ file. HasFaultyHistory file faulty.fault) same faulty.has)
          )
    ]

pub check_makes : (name bytes : List ℕ) (files : Files) (rows live : ℕ) → IsUnfaulty bytes → HasLawfulHistory bytes rows live → files name ≡ Some bytes
    → Makes (Check name) files [] (line (lawful_text rows live))
check_makes name bytes files rows live one lawful held = record {
  is = record { bytes = bytes; held = held; rows = rows; live = live; lawful = lawful; printed = refl };
  unrefused = λ refusal refuses. unrefused_file name bytes files rows live refusal held one lawful refuses;
}

refused_file : (name bytes : List ℕ) (files : Files) (refusal : Refusal) → files name ≡ Some bytes
    → (HasNoHistory bytes × (refusal ≡ refusals.NoHistory)) ⊎ ((fault : CheckFault) × HasFaultyHistory bytes fault × (refusal ≡ refusals.Line fault)) → RefusesHistory name files refusal
refused_file name bytes files refusal held why =
    elim why [
      | inl none ↦ inl (record { bytes = bytes; held = held; none = none.0; is = none.1 })
      | inr faulty ↦ inr (record { bytes = bytes; held = held; fault = faulty.0; has = faulty.1; is = faulty.2 })
    ]

pub check_declines : (name bytes : List ℕ) (before : Outside) (why : Declined) → IfSome before.shelf.files (λ files. files name ≡ Some bytes) → CheckDeclines bytes why
    → Declines (Check name) before [] why
check_declines name bytes before (declined.Refused refusal) held is =
    (IfSome-weaker _ _ (λ files at. refused_file name bytes files refusal at is) before.shelf.files held, tt)
check_declines name bytes before declined.NoMemory held is = tt
