-- Where a refusal for want of entries stands.
use Rattle.std.specs.Prelude.{◌≡◌, ℕ, ◌≤◌, List, [], ◌++◌, length}
use Rattle.iscc_header.specs.declared.unit.Unit64.{Unit64}
use Rattle.reg_model.specs.Live.{declarations}
use Rattle.reg_rule.specs.declared.told.Told.TheVariants.{Refuses}
use Rattle.reg_rule.specs.declared.view.Place.{Place}
use Rattle.reg_rule.specs.declared.view.View.{View}
use Rattle.reg_rule.specs.Log.{updates}
use Rattle.reg_rule.specs.Moves.{refused_accounts}
use Rattle.reg_rule.specs.Steps.{SeenFits, RowsServed}

-- Each load has found the next place filled, and no declaration for which more entries than these were taken.
pub record IsRefusing (taken : ℕ) (v w : View) : Type 0 where
  pub places : List Place
  pub view : w ≡ record v { log = v.log ++ places; made = w.made }
  pub declared : declarations (updates w.log) ≤ taken
  pub seen : SeenFits w.key w.log
  pub alone : v.key.sizes.callers ≡ 1 → places ≡ []

-- The refusal was made, at so many places.
pub record HasRefused (unit : Unit64) (v : View) (place : ℕ) (w : View) : Type 0 where
  pub places : List Place
  pub view : w ≡ record v { log = v.log ++ places; accounts = refused_accounts (Refuses unit) v place; made = w.made }
  pub floor : length v.log ≤ place
  pub upto : place ≤ length w.log
  pub seen : SeenFits w.key w.log
  pub rows : RowsServed w
  -- one caller has seen all that there is
  pub alone : v.key.sizes.callers ≡ 1 → places ≡ []
