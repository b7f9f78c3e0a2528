-- What packed words tell, and what a write changes.
use Rattle.std.specs.Prelude.{◌≡◌, ◌≢◌, ◌↔◌, ℕ, ◌+◌, ◌<◌, List, length, slice_set}
use Rattle.reg_words.specs.declared.word.LogWord.{LogWord}
use Rattle.reg_words.specs.declared.word.StampWord.{StampWord}
use Rattle.reg_words.specs.declared.word.StampWord.TheVariants.{Unborn}
use Rattle.reg_words.specs.declared.word.SweepWord.{SweepWord}
use Rattle.reg_words.specs.Packing.{FitsLog, FitsStamp, FitsSweep, log_word, stamp_word, sweep_word}
use Rattle.reg_words.specs.Memory.{size, whole, start, mem, write}

-- a word is the packing of one log record at most
abbrev pub LogWordTellsRecord : Type 0
LogWordTellsRecord = (v w : LogWord) → FitsLog v → FitsLog w → log_word v ≡ log_word w → v ≡ w

-- the word 0 is the packing of no log record
abbrev pub LogWordIsNotZero : Type 0
LogWordIsNotZero = (w : LogWord) → log_word w ≢ 0

-- a word is the packing of one stamp at most
abbrev pub StampWordTellsStamp : Type 0
StampWordTellsStamp = (s t : StampWord) → FitsStamp s → FitsStamp t → stamp_word s ≡ stamp_word t → s ≡ t

-- the word 0 is the packing of `Unborn`, and of no other stamp
abbrev pub OnlyUnbornIsZero : Type 0
OnlyUnbornIsZero = (s : StampWord) → (stamp_word s ≡ 0) ↔ (s ≡ Unborn)

-- a word is the packing of one state of the sweep at most
abbrev pub SweepWordTellsState : Type 0
SweepWordTellsState = (s t : SweepWord) → FitsSweep s → FitsSweep t → sweep_word s ≡ sweep_word t → s ≡ t

-- where the words are as many as the areas want, a write to the word of a cell changes that cell alone
abbrev pub WriteChangesOneCell : Type 0
WriteChangesOneCell = (sizes words : List ℕ) (a k x : ℕ) → length words ≡ 1 + whole sizes → k < size sizes a
    → mem sizes (slice_set words (start sizes a + k) x) ≡ write (mem sizes words) a k x
