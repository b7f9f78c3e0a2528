-- How far the word of the sweep has come.
use Rattle.std.specs.Prelude.{ℕ, ◌+◌, ◌*◌, false}
use Rattle.reg_words.specs.declared.word.SweepWord.{SweepWord}
use Rattle.reg_words.specs.Packing.{bit}

-- a later word is of a greater place, or of the same place and newly in limbo
abbrev pub rank : SweepWord → ℕ
rank s = 2 * s.place + bit s.limbo

abbrev pub let_go : SweepWord → SweepWord
let_go s = record s { held = false }
