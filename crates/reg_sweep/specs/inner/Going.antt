-- What the holder of the sweep does to its view before it gives the sweep back.
use Rattle.std.specs.Prelude.{◌≡◌, ℕ, ◌≤◌, List, [], ◌++◌, All}
use Rattle.reg_rule.specs.declared.view.Place.{Place}
use Rattle.reg_rule.specs.declared.view.View.{View}
use Rattle.reg_rule.specs.Steps.{SeenFits}
use Rattle.reg_sweep.specs.Sweeping.{IsSweeping, IsFresh, pin_loads}

-- With at most so many loads of pins.
pub record GoesOn (loads : ℕ) (v w : View) : Type 0 where
  pub view : w ≡ record v { log = w.log; front = w.front; found = w.found; met = w.met; holding = w.holding; made = w.made }
  pub places : List Place
  pub log : w.log ≡ v.log ++ places
  pub alone : v.key.sizes.callers ≡ 1 → places ≡ []
  pub seen : SeenFits v.key v.log → SeenFits v.key w.log
  pub fresh : IsFresh v → IsFresh w
  pub unpinned : v.pin ≡ 0 → w.front ≡ v.front
  pub steps : List ℕ
  pub made : w.made ≡ v.made ++ steps
  pub kinds : All IsSweeping steps
  pub pins : pin_loads steps ≤ loads
