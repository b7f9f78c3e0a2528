-- How the kind of a unit is found that was declared with an id.
use Rattle.std.specs.Prelude.{ℕ, nat_lt, cond}
use Rattle.reg_rule.specs.declared.told.Told.TheVariants.{Nothing}
use Rattle.reg_rule.specs.declared.view.View.{View}
use Rattle.reg_rule.specs.Moves.{again}

-- what is carried is listed, and of any other id the record is loaded
abbrev pub kind_sought : ℕ → View → View
kind_sought id v = cond (nat_lt id v.key.carried.base) v (again Nothing v)
