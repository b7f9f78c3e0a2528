-- What the tests show of an id that two passes withdraw.
use Rattle.std.proofs.Common.{◌≡◌, ℕ, List, Option, None, Some, refl, sym, ap, ◌∙◌, subst, arith}
use Rattle.reg_words.specs.declared.word.StampWord.{StampWord}
use Rattle.reg_words.specs.declared.word.StampWord.TheVariants.{Unborn, Live, Dead}
use Rattle.reg_words.specs.Packing.{FitsStamp, stamp_word}
use Rattle.reg_words.proofs.StampWords.{one_stamp}
use Rattle.reg_model.specs.declared.update.Update.TheVariants.{Wd}
use Rattle.reg_rule.specs.declared.told.Told.TheVariants.{Nothing}
use Rattle.reg_rule.specs.declared.view.Found.{Found}
use Rattle.reg_rule.specs.declared.view.Place.{Place}
use Rattle.reg_rule.specs.declared.view.View.{View}
use Rattle.reg_rule.specs.Fresh.{fresh}
use Rattle.reg_rule.specs.Conditions.{MayCommit}
use Rattle.reg_rule.specs.Moves.{at_front, passed, pinned, looked}
use Rattle.reg_rule.specs.Steps.{FitsBits, StampLoaded}
use Rattle.reg_commit.specs.Helps.{completed}
use Rattle.reg_commit.specs.inner.Trials.{carrying, found_live}

-- ---- stamps

fits_of : (s : StampWord) → FitsBits s → FitsStamp s
fits_of Unborn b = b
fits_of (Live kind id) b = (b.0, omega arith)
fits_of (Dead kind id d) b = (b.0, omega arith, omega arith)

live_word : stamp_word (Live 0 7) ≡ 4294967296
unfolding stamp_word
live_word = refl

dead_word : stamp_word (Dead 0 7 0) ≡ 4294967297
unfolding stamp_word
dead_word = refl

-- a word that was found is of one stamp
looks : (s : StampWord) (word found : ℕ) (v w : View) → FitsStamp s → stamp_word s ≡ word → StampLoaded Nothing 0 v found w → found ≡ word → w ≡ looked Nothing 0 s v
looks s word found v w fits is told same =
    told.view.2 ∙ ap (λ (t : StampWord). looked Nothing 0 t v) (one_stamp told.stamp s (fits_of told.stamp told.bits) fits (sym told.word ∙ (same ∙ sym is)))

-- ---- the passes

-- pinned at the front 0, and shown the live id
pub finds_live : (seat found : ℕ) (u v x w : View) (steps : List ℕ) → u ≡ fresh carrying seat 1 → v ≡ pinned u → x ≡ record (at_front Nothing v 0) { made = steps } → StampLoaded Nothing 0 x found w → found ≡ 4294967296
    → (made : List ℕ) × (w ≡ record (found_live seat) { made = made })
finds_live seat found u v x w steps new pin front told is =
    let here = front ∙ ap (λ (z : View). record (at_front Nothing z 0) { made = steps }) (pin ∙ ap pinned new) in
    (_, looks (Live 0 7) 4294967296 found x w (omega arith, omega arith) live_word told is ∙ ap (looked Nothing 0 (Live 0 7)) here)

abbrev place_of_found : Option Found → ℕ
place_of_found None = 0
place_of_found (Some f) = f.place

-- overtaken, at the front 1, and shown the dead id
pub finds_dead : (found : ℕ) (p q : Place) (u x y w : View) (before steps : List ℕ) → u ≡ record (passed (found_live 1) 2 q) { made = before } → x ≡ record (at_front Nothing u 1) { made = steps } → y ≡ completed x 0 p
    → StampLoaded Nothing 0 y found w → found ≡ 4294967297 → MayCommit w (Wd 7) 0 → ⊥
finds_dead found p q u x y w before steps late front helped told is may = absurd (omega (arith, same)) where
  there : View
  there = looked Nothing 0 (Dead 0 7 0) (completed (record (at_front Nothing (record (passed (found_live 1) 2 q) { made = before }) 1) { made = steps }) 0 p)

  view : w ≡ there
  view = looks (Dead 0 7 0) 4294967297 found y w (omega arith, omega arith, omega arith) dead_word told is
      ∙ ap (looked Nothing 0 (Dead 0 7 0)) (helped ∙ (ap (λ (z : View). completed z 0 p) front ∙ ap (λ (z : View). completed (record (at_front Nothing z 1) { made = steps }) 0 p) late))

  -- it knows the id live at place 0 alone
  same : ◌≡◌ {A = ℕ} 0 1
  same = ap place_of_found (subst (λ (z : View). MayCommit z (Wd 7) 0) view may)
