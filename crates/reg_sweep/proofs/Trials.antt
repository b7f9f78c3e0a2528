-- What the tests show.
use Rattle.std.proofs.Common.{◌≡◌, ℕ, List, [], ◌∷◌, ◌++◌, length, replicate, refl, sym, ap, ◌∙◌, arith}
use Rattle.std.proofs.lemmas.List.{append-nil}
use Rattle.reg_words.specs.declared.word.StampWord.{StampWord}
use Rattle.reg_words.specs.declared.word.StampWord.TheVariants.{Unborn, Live, Dead}
use Rattle.reg_words.specs.Packing.{FitsStamp, stamp_word}
use Rattle.reg_words.proofs.StampWords.{one_stamp}
use Rattle.reg_rule.specs.declared.told.Told.TheVariants.{Nothing}
use Rattle.reg_rule.specs.declared.view.Place.{Place}
use Rattle.reg_rule.specs.declared.view.View.{View}
use Rattle.reg_rule.specs.Fresh.{fresh}
use Rattle.reg_rule.specs.Moves.{at_front, pinned, looked}
use Rattle.reg_rule.specs.Steps.{FitsBits, StampLoaded}
use Rattle.reg_commit.specs.Fronts.{FrontFound}
use Rattle.reg_sweep.specs.inner.Trials.{one_entry, found_live}

-- ---- the front

empty_list : (l : List Place) → length l ≡ 0 → l ≡ []
empty_list [] e = refl
empty_list (p ∷ l) e = absurd (omega arith)

-- nothing was newly seen
front_behind : (v w : View) (front place : ℕ) → FrontFound Nothing v front w → front ≡ place → place ≡ length v.log → (made : List ℕ) × (w ≡ record (at_front Nothing v place) { made = made })
front_behind v w front place found is behind =
    let none : found.places ≡ [] = (let a = found.front_is in empty_list found.places (omega arith)) in
    let log : v.log ++ found.places ≡ v.log = ap (λ (l : List Place). v.log ++ l) none ∙ append-nil v.log in
    let made : List ℕ = v.made ++ replicate found.loads 1 in
    (made, found.view ∙ (λ j. record (at_front Nothing v (is j)) { log = log j; made = made }))

-- ---- stamps

pub fits_of : (s : StampWord) → FitsBits s → FitsStamp s
fits_of Unborn b = b
fits_of (Live kind id) b = (b.0, omega arith)
fits_of (Dead kind id d) b = (b.0, omega arith, omega arith)

live_word : stamp_word (Live 0 7) ≡ 4294967296
unfolding stamp_word
live_word = refl

-- the word that was found is of one stamp
looks : (found : ℕ) (v w : View) → StampLoaded Nothing 0 v found w → found ≡ 4294967296 → w ≡ looked Nothing 0 (Live 0 7) v
looks found v w told same =
    told.view.2 ∙ ap (λ (t : StampWord). looked Nothing 0 t v) (one_stamp told.stamp (Live 0 7) (fits_of told.stamp told.bits) (omega arith, omega arith) (sym told.word ∙ (same ∙ sym live_word)))

-- pinned at the front 0, and shown the live id
pub finds_live : (front found : ℕ) (u v x w : View) → u ≡ fresh one_entry 0 1 → v ≡ pinned u → FrontFound Nothing v front x → front ≡ 0 → StampLoaded Nothing 0 x found w → found ≡ 4294967296
    → (made : List ℕ) × (w ≡ record found_live { made = made })
finds_live front found u v x w new pin at none told is =
    let here = pin ∙ ap pinned new in
    let behind = front_behind v x front 0 at none (sym (ap (λ (z : View). length z.log) here)) in
    (_, looks found x w told is ∙ ap (looked Nothing 0 (Live 0 7)) (behind.1 ∙ ap (λ (z : View). record (at_front Nothing z 0) { made = behind.0 }) here))
