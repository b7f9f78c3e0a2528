-- The numbers of the word of the sweep fit their bits.
use Rattle.std.proofs.Common.{◌≡◌, ℕ, ◌≤◌, Bool, true, false, List, length, refl, arith}
use Rattle.reg_words.specs.Packing.{FitsSweep}
use Rattle.reg_rule.specs.declared.view.Key.{Key}
use Rattle.reg_rule.specs.declared.view.View.{View}
use Rattle.reg_rule.specs.inner.World.{World}
use Rattle.reg_rule.specs.inner.Rule.{Inv}

-- the mark is a front, also while there is none
pub mark_inside : (key : Key) (m : ℕ → ℕ → ℕ) (w : World) (views : List View) → Inv key m w views → w.word.mark ≤ length w.log
mark_inside key m w views i = by_limbo w.word.limbo refl where
  by_limbo : (b : Bool) → w.word.limbo ≡ b → w.word.mark ≤ length w.log
  by_limbo true is = (i.sweep.limbo is).2
  by_limbo false is = let none = i.sweep.unmarked is in omega arith

pub word_fits : (key : Key) (m : ℕ → ℕ → ℕ) (w : World) (views : List View) → Inv key m w views → FitsSweep w.word
word_fits key m w views i = let short = i.log.short in let most = i.key_part.sizes.log.1 in let place = i.sweep.within in let mark = mark_inside key m w views i in record { place = omega arith; mark = omega arith }
