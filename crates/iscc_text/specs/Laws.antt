-- What texts tell of ISCCs.
use Rattle.std.specs.Prelude.{◌≡◌, ℕ, List}
use Rattle.iscc_header.specs.Unit64s.{IsUnit64}
use Rattle.iscc_header.specs.declared.unit.Unit64.{Unit64}
use Rattle.iscc_code.specs.Units.{unit_parts}
use Rattle.iscc_code.specs.declared.iscc.Iscc.{Iscc}
use Rattle.iscc_code.specs.declared.iscc.Iscc.TheVariants as variants
use Rattle.iscc_text.specs.UnitText.{unit_text}
use Rattle.iscc_text.specs.PrintedTexts.{IsPrintedText}
use Rattle.iscc_text.specs.Texts.{StandsFor}

-- a text stands for one ISCC at most
abbrev pub TextTellsIscc : Type 0
TextTellsIscc = (text : List ℕ) (a b : Iscc) → StandsFor text a → StandsFor text b → a ≡ b

-- what is printed stands for what it was printed of
abbrev pub PrintedTextStands : Type 0
PrintedTextStands = (iscc : Iscc) (text : List ℕ) → IsPrintedText iscc text → StandsFor text iscc

-- an ISCC has one printed text at most
abbrev pub IsccTellsText : Type 0
IsccTellsText = (iscc : Iscc) (a b : List ℕ) → IsPrintedText iscc a → IsPrintedText iscc b → a ≡ b

-- the text of a unit of 64 bits is the printed one of the ISCC that is this unit
abbrev pub UnitTextIsPrinted : Type 0
UnitTextIsPrinted = (unit : Unit64) → IsUnit64 unit → IsPrintedText (variants.Unit (unit_parts unit)) (unit_text unit)

-- a text is that of one unit
abbrev pub TextTellsUnit : Type 0
TextTellsUnit = (a b : Unit64) → IsUnit64 a → IsUnit64 b → unit_text a ≡ unit_text b → a ≡ b
