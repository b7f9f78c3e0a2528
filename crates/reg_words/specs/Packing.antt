-- Each packed word as a number: a field times the power of two of the bit that it begins at, and the sum of these.
use Rattle.std.specs.Prelude.{⊤, ℕ, ◌+◌, ◌*◌, ◌^◌, ◌<◌, Bool, cond}
use Rattle.reg_words.specs.declared.word.LogWord.{LogWord}
use Rattle.reg_words.specs.declared.word.LogWord.TheVariants.{Decl, Wd}
use Rattle.reg_words.specs.declared.word.StampWord.{StampWord}
use Rattle.reg_words.specs.declared.word.StampWord.TheVariants.{Unborn, Live, Dead}
use Rattle.reg_words.specs.declared.word.SweepWord.{SweepWord}

-- every number of a log record fits its bits
abbrev pub FitsLog : LogWord → Type 0
FitsLog (Decl kind entry id) = (kind < 13) × (entry < 2 ^ 20) × (id < 2 ^ 35)
FitsLog (Wd entry id) = (entry < 2 ^ 20) × (id < 2 ^ 35)

-- a tag, 1 or 2, in 2 bits; the kind in 4, 0 for a withdrawal; the entry in 20; the id in 35
unfoldable pub log_word : LogWord → ℕ
log_word (Decl kind entry id) = 1 + 2 ^ 2 * kind + 2 ^ 6 * entry + 2 ^ 26 * id
log_word (Wd entry id) = 2 + 2 ^ 6 * entry + 2 ^ 26 * id

-- every number of a stamp fits its bits
abbrev pub FitsStamp : StampWord → Type 0
FitsStamp Unborn = ⊤
FitsStamp (Live kind id) = (kind < 13) × (id + 1 < 2 ^ 35)
FitsStamp (Dead kind id death) = (kind < 13) × (id + 1 < 2 ^ 35) × (death + 1 < 2 ^ 25)

-- the place of the death and one more in 25 bits, 0 while live; the kind in 4; the id and one more in 35
unfoldable pub stamp_word : StampWord → ℕ
stamp_word Unborn = 0
stamp_word (Live kind id) = 2 ^ 25 * kind + 2 ^ 29 * (id + 1)
stamp_word (Dead kind id death) = (death + 1) + 2 ^ 25 * kind + 2 ^ 29 * (id + 1)

-- 1 for yes and 0 for no
abbrev pub bit : Bool → ℕ
bit b = cond b 1 0

-- both numbers of the sweep's state fit their bits
pub record FitsSweep (s : SweepWord) : Type 0 where
  pub place : s.place < 2 ^ 25
  pub mark : s.mark < 2 ^ 25

-- held in 1 bit, limbo in 1, the place in 25, the mark in 25
unfoldable pub sweep_word : SweepWord → ℕ
sweep_word s = bit s.held + 2 * bit s.limbo + 2 ^ 2 * s.place + 2 ^ 27 * s.mark
