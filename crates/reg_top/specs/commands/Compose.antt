-- `compose TEXT ..`: what it writes, and why it refuses the texts.
use Rattle.std.specs.Prelude.{◌≡◌, ◌⊎◌, ℕ, List, ◌∷◌, ◌++◌, length, Some, None}
use Rattle.std.specs.List.{AllZip}
use Rattle.iscc_code.specs.declared.iscc.Iscc.TheVariants as variants
use Rattle.iscc_code.specs.declared.composing.ComposeFault.{ComposeFault}
use Rattle.iscc_code.specs.Units.{UnitParts}
use Rattle.iscc_code.specs.Composites.{CodeParts, IsComposite, compose_fault}
use Rattle.iscc_text.specs.PrintedTexts.{IsPrintedText}
use Rattle.iscc_text.specs.Texts.{StandsFor, HasTextFault}
use Rattle.reg_requests.specs.Lines.{line}
use Rattle.reg_top.specs.declared.refusal.WordFault.{WordFault}
use Rattle.reg_top.specs.declared.refusal.WordFault.TheVariants as word_faults
use Rattle.reg_top.specs.declared.refusal.Refusal.{Refusal}
use Rattle.reg_top.specs.declared.refusal.Refusal.TheVariants as refusals

-- the text stands for this unit
abbrev pub IsTextOf : List ℕ → UnitParts → Type 0
IsTextOf text unit = StandsFor text (variants.Unit unit)

-- the text stands for no unit: for no ISCC, or for an ISCC-CODE, which has several
abbrev pub HasWordFault : List ℕ → WordFault → Type 0
HasWordFault text (word_faults.Text fault) = HasTextFault text fault
HasWordFault text word_faults.NotUnit = (code : CodeParts) × StandsFor text (variants.Code code)

-- the first text that stands for no unit has this number, counted from 0
pub record HasRefusedText (texts : List (List ℕ)) (at : ℕ) (why : WordFault) : Type 0 where
  pub front : List (List ℕ)
  pub units : List UnitParts
  pub text : List ℕ
  pub rest : List (List ℕ)
  pub whole : texts ≡ front ++ text ∷ rest
  pub read : AllZip IsTextOf front units
  pub fault : HasWordFault text why
  pub is : at ≡ length front

-- the code is the composite of the units for which the texts stand
pub record IsCompositeOf (texts : List (List ℕ)) (code : CodeParts) : Type 0 where
  pub units : List UnitParts
  pub read : AllZip IsTextOf texts units
  pub faultless : compose_fault units ≡ None
  pub composite : IsComposite units code

-- the output is the line with the printed text of this composite
pub record IsComposition (texts : List (List ℕ)) (output : List ℕ) : Type 0 where
  pub code : CodeParts
  pub composed : IsCompositeOf texts code
  pub text : List ℕ
  pub printed : IsPrintedText (variants.Code code) text
  pub is : output ≡ line text

-- a text stands for no unit
pub record RefusesWord (texts : List (List ℕ)) (refusal : Refusal) : Type 0 where
  pub at : ℕ
  pub why : WordFault
  pub has : HasRefusedText texts at why
  pub is : refusal ≡ refusals.Word at why

-- the units for which the texts stand have no composite
pub record RefusesUnits (texts : List (List ℕ)) (refusal : Refusal) : Type 0 where
  pub units : List UnitParts
  pub read : AllZip IsTextOf texts units
  pub fault : ComposeFault
  pub has : compose_fault units ≡ Some fault
  pub is : refusal ≡ refusals.Units fault

abbrev pub RefusesTexts : List (List ℕ) → Refusal → Type 0
RefusesTexts texts refusal = RefusesWord texts refusal ⊎ RefusesUnits texts refusal
