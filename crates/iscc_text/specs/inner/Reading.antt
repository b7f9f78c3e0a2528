-- What a text and its letters are read as: an ISCC, or the first fault.
use Rattle.std.specs.Prelude.{ℕ, List, Result, Ok, Err}
use Rattle.std.specs.List.{AllPass}
use Rattle.iscc_code.specs.Codes.{EncodesIscc}
use Rattle.iscc_code.specs.declared.iscc.Iscc.{Iscc}
use Rattle.iscc_text.specs.Texts.{StandsFor, HasTextFault, HasLetterFault, AreLetters, is_allowed}
use Rattle.iscc_text.specs.declared.read.TextFault.{TextFault}

-- what the letters from this place on stand for, or their first fault
abbrev pub LettersMean : List ℕ → ℕ → Result Iscc TextFault → Type 0
LettersMean m place (Ok iscc) = AllPass is_allowed m × ((bytes : List ℕ) × AreLetters m bytes × EncodesIscc iscc bytes)
LettersMean m place (Err fault) = HasLetterFault m place fault

-- the ISCC that the text stands for, or its first fault
abbrev pub ReadsText : List ℕ → Result Iscc TextFault → Type 0
ReadsText text (Ok iscc) = StandsFor text iscc
ReadsText text (Err fault) = HasTextFault text fault
