-- For readers: what a query looks at.
use Rattle.std.specs.Prelude.{ℕ, ◌+◌, ◌*◌, ◌≤◌, List}
use Rattle.reg_rule.specs.declared.view.Key.{Key}
use Rattle.reg_rule.specs.declared.view.Place.{Place}
use Rattle.reg_rule.specs.declared.view.Cost.{Cost}
use Rattle.reg_rule.specs.declared.view.View.{View}
use Rattle.reg_rule.specs.Log.{At, updates}
use Rattle.reg_rule.specs.Candidates.{candidates}
use Rattle.reg_rule.specs.ReadersLog.{IsSeatOf}

-- *Costs.* The looks of each query that a seat has answered are at most two for each candidate, and one in each table for each entry that
-- a session may have in hand.
abbrev pub CostsStand : Key → List View → List Place → Type 0
CostsStand key views log = (seat i : ℕ) (v : View) (c : Cost) → IsSeatOf views seat v → At v.costs i c → c.looked ≤ 2 * candidates key.carried (updates log) key.sizes.bits c.unit c.radius + 4 * key.sizes.callers
