-- `explain TEXT`: what it writes, and why it refuses the text.
use Rattle.std.specs.Prelude.{◌≡◌, List, ℕ}
use Rattle.serde_json.specs.Data.{Data}
use Rattle.serde_json.specs.Written.{compact_text}
use Rattle.iscc_code.specs.declared.iscc.Iscc.{Iscc}
use Rattle.iscc_text.specs.declared.read.TextFault.{TextFault}
use Rattle.iscc_text.specs.Texts.{StandsFor, HasTextFault}
use Rattle.iscc_text.specs.Explanations.{Explains}
use Rattle.reg_requests.specs.Lines.{line}
use Rattle.reg_top.specs.declared.refusal.Refusal.{Refusal}
use Rattle.reg_top.specs.declared.refusal.Refusal.TheVariants as refusals

-- the output is the one line that explains the ISCC for which the text stands: the compact text of its tree
pub record IsExplanation (text output : List ℕ) : Type 0 where
  pub iscc : Iscc
  pub read : StandsFor text iscc
  pub tree : Data
  pub explains : Explains iscc tree
  pub printed : output ≡ line (compact_text tree)

-- the text stands for no ISCC, and this is its first fault
pub record RefusesText (text : List ℕ) (refusal : Refusal) : Type 0 where
  pub fault : TextFault
  pub has : HasTextFault text fault
  pub is : refusal ≡ refusals.Text fault
