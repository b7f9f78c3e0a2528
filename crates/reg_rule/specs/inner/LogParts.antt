-- What the words of the log and the notes say.
use Rattle.std.specs.Prelude.{◌≡◌, ℕ, ◌+◌, ◌<◌, ◌≤◌, List, length, take}
use Rattle.iscc_header.specs.declared.unit.Unit64.{Unit64}
use Rattle.reg_rule.specs.declared.view.Key.{Key}
use Rattle.reg_rule.specs.declared.view.Place.{Place}
use Rattle.reg_rule.specs.Log.{At, place_word, IsDecl, IsWd, IsLiveIn}

-- The words of the log are the log, filled from 0 without gaps.
pub record LogPart (key : Key) (cells : ℕ → ℕ) (log : List Place) : Type 0 where
  -- there is room for it
  pub short : length log ≤ key.sizes.log
  -- a filled place has the word of its record
  pub filled : (n : ℕ) (p : Place) → At log n p → cells n ≡ place_word key.carried.base n p
  -- every other place is empty
  pub empty : (n : ℕ) → length log ≤ n → cells n ≡ 0
  -- a record names an entry
  pub entries : (n : ℕ) (p : Place) → At log n p → p.entry < key.entries
  -- a declared unit is of a kind
  pub kinds : (n : ℕ) (unit : Unit64) (entry : ℕ) → IsDecl log n unit entry → unit.kind < 13
  -- a withdrawal names an id that is live before it, and its entry
  pub lawful : (d id entry : ℕ) → IsWd log d id entry → (unit : Unit64) × IsLiveIn key.carried (take d log) id unit entry

-- The notes have the bodies of the log.
pub record NotesPart (notes : ℕ → ℕ) (log : List Place) : Type 0 where
  -- of each declaration but one at the last place
  pub noted : (n : ℕ) (unit : Unit64) (entry : ℕ) → n + 1 < length log → IsDecl log n unit entry → notes n ≡ unit.body
