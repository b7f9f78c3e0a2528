-- The holder walks to the front.
use Rattle.std.proofs.Common.{◌≡◌, ℕ, ◌+◌, inr, false, Some, sym, refl, ◌∙◌, subst, arith}
use Rattle.reg_words.specs.declared.word.SweepWord.{SweepWord}
use Rattle.reg_rule.specs.declared.told.Told.TheVariants.{Nothing}
use Rattle.reg_rule.specs.declared.view.Key.{Key}
use Rattle.reg_rule.specs.declared.view.View.{View}
use Rattle.reg_rule.specs.Moves.{holding_of}
use Rattle.reg_rule.specs.Steps.{SeenFits}
use Rattle.reg_commit.specs.Fronts.{FrontFound}
use Rattle.reg_sweep.specs.inner.Holders.{IsAt}
use Rattle.reg_sweep.specs.inner.Turns.{HasArrived}
use Rattle.reg_sweep.proofs.Goes.{goes_key, nothing_marked, front_found}
use Rattle.reg_sweep.proofs.SeenPlaces.{none_here}

-- the front is no further back than the place of the sweep
pub arrived : (v w : View) (front : ℕ) (word : SweepWord) → v.holding ≡ Some (holding_of word) → FrontFound Nothing v front w → HasArrived word v w
arrived v w front word has found =
    let f = front_found v w front found in let reached = found.reached (holding_of word) has in let end = f.3 in let far = reached.0 in
    record {
      going = f.0;
      holding = f.2 ∙ (nothing_marked v.holding (holding_of word) front has (inr refl) ∙ has);
      within = omega arith;
      limbo = λ limbo. (let r = reached.1 limbo refl in let inside = r.0 in (omega arith, r.1));
      seen = subst (λ (k : Key). SeenFits k w.log) (sym (goes_key 0 v w f.0)) found.seen;
      fresh = f.1;
    }

-- ---- from there on

pub starts_at : (word : SweepWord) (v w : View) → HasArrived word v w → word.limbo ≡ false → IsAt (word.place + 0) w
starts_at word v w a limbo = subst (λ (k : ℕ). IsAt k w) (omega arith) (let low = a.within in record {
  h = holding_of word;
  holding = a.holding;
  unmoved = limbo;
  uncut = refl;
  unpaid = refl;
  from = omega arith;
  within = low;
  between = none_here w.log word.place;
})
