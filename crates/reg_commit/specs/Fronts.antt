-- The walk along the log to its front.
use Rattle.std.specs.Prelude.{◌≡◌, ℕ, ◌+◌, ◌<◌, ◌≤◌, true, false, List, [], ◌++◌, length, replicate, None, Some}
use Rattle.reg_model.specs.declared.call.Call.TheVariants as calls
use Rattle.reg_rule.specs.declared.told.Told.{Told}
use Rattle.reg_rule.specs.declared.told.Told.TheVariants.{Nothing, Row as RowOf, Opens}
use Rattle.reg_rule.specs.declared.view.Holding.{Holding}
use Rattle.reg_rule.specs.declared.view.Place.{Place}
use Rattle.reg_rule.specs.declared.view.View.{View}
use Rattle.reg_rule.specs.Log.{IsWd}
use Rattle.reg_rule.specs.Moves.{at_front}
use Rattle.reg_rule.specs.Steps.{SeenFits}

-- what a walk may be told: at its end a row is made or a snapshot is opened, and nothing before
abbrev pub MayWalk : Told → View → Type 0
MayWalk Nothing v = Unit {0}
MayWalk Opens v = (v.snapshot ≡ None) × (0 < v.pin)
MayWalk (RowOf (calls.Show id)) v = ⊥
MayWalk (RowOf call) v = v.snapshot ≡ None
MayWalk told v = ⊥

-- these places were seen, by so many loads of the log
abbrev pub walked_to : View → List Place → ℕ → View
walked_to v places loads = record v { log = v.log ++ places; made = v.made ++ replicate loads 1 }

-- The front was found by the last of the loads.
pub record FrontFound (told : Told) (v : View) (front : ℕ) (w : View) : Type 0 where
  -- what was newly seen, and how many loads there were
  pub places : List Place
  pub loads : ℕ
  -- one at least, and one more at most than the places newly seen
  pub some : 0 < loads
  pub few : loads ≤ length places + 1
  pub front_is : front ≡ length v.log + length places
  pub view : w ≡ at_front told (walked_to v places loads) front
  pub seen : SeenFits v.key w.log
  -- one caller has seen all that there is
  pub alone : v.key.sizes.callers ≡ 1 → places ≡ []
  -- the holder of the sweep is no further than the front, and what is in limbo is a withdrawal
  pub reached : (h : Holding) → v.holding ≡ Some h → (h.place ≤ front) × (h.word.limbo ≡ true → h.paid ≡ false → (h.place < front) × ((id : ℕ) × (entry : ℕ) × IsWd w.log h.place id entry))
