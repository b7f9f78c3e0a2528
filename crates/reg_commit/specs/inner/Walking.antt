-- Between two loads of a walk along the log.
use Rattle.std.specs.Prelude.{◌≡◌, ◌+◌, ◌<◌, List, [], length, ◌⊎◌}
use Rattle.reg_rule.specs.declared.told.Told.{Told}
use Rattle.reg_rule.specs.declared.view.Place.{Place}
use Rattle.reg_rule.specs.declared.view.View.{View}
use Rattle.reg_commit.specs.Fronts.{walked_to, FrontFound}

-- Each load has found the next place filled, and there is one more.
pub record IsWalking (v w : View) : Type 0 where
  pub places : List Place
  pub short : length v.log + length places < v.key.sizes.log
  pub view : w ≡ walked_to v places (length places)
  pub alone : v.key.sizes.callers ≡ 1 → places ≡ []

-- or the last place was found filled, which is the front
abbrev pub HasWalked : Told → View → View → Type 0
HasWalked told v w = IsWalking v w ⊎ ((length w.log ≡ v.key.sizes.log) × FrontFound told v v.key.sizes.log w)
