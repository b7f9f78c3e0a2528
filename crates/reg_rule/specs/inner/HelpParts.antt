-- Helping: who completes the record of a place.
use Rattle.std.specs.Prelude.{◌≡◌, ℕ, ◌+◌, ◌<◌, List, length, Option, Some}
use Rattle.iscc_header.specs.declared.unit.Unit64.{Unit64}
use Rattle.reg_words.specs.declared.word.StampWord.{StampWord}
use Rattle.reg_words.specs.declared.word.StampWord.TheVariants.{Unborn, Live}
use Rattle.reg_rule.specs.declared.view.Key.{Key}
use Rattle.reg_rule.specs.declared.view.Place.{Place}
use Rattle.reg_rule.specs.declared.view.View.{View}
use Rattle.reg_rule.specs.inner.World.{Use, holds}
use Rattle.reg_rule.specs.Log.{IsDecl, IsWd}

-- The place is complete. Its entry shows so unless the entry was given back.
pub record IsComplete (base : ℕ) (notes : ℕ → ℕ) (uses : ℕ → Use) (stamps : ℕ → StampWord) (log : List Place) (n : ℕ) : Type 0 where
  -- a declaration has its note, and is born
  pub noted : (unit : Unit64) (entry : ℕ) → IsDecl log n unit entry → notes n ≡ unit.body
  pub born : (unit : Unit64) (entry : ℕ) → IsDecl log n unit entry → uses entry ≡ holds (base + n) → stamps entry ≡ Unborn → ⊥
  -- what is withdrawn is not live
  pub dead : (id entry kind : ℕ) → IsWd log n id entry → uses entry ≡ holds id → stamps entry ≡ Live kind id → ⊥

-- What a seat has completed.
pub record HelpsFit (base : ℕ) (notes : ℕ → ℕ) (log : List Place) (uses : ℕ → Use) (stamps : ℕ → StampWord) (seen : ℕ) (last_noted last_helped : Option ℕ) : Type 0 where
  -- the note that it has stored
  pub noted : (n : ℕ) (unit : Unit64) (entry : ℕ) → last_noted ≡ Some n → IsDecl log n unit entry → notes n ≡ unit.body
  pub noted_seen : (n : ℕ) → last_noted ≡ Some n → n < seen
  -- the place that it has helped
  pub helped : (n : ℕ) → last_helped ≡ Some n → (n < seen) × IsComplete base notes uses stamps log n

abbrev pub Helps : Key → (ℕ → ℕ) → List Place → (ℕ → Use) → (ℕ → StampWord) → ℕ → View → Type 0
Helps key notes log uses stamps id v = HelpsFit key.carried.base notes log uses stamps (length v.log) v.noted v.helped
