use Rattle.std.specs.Prelude.{None}
use Rattle.reg_model.specs.declared.update.Update.TheVariants.{Wd}
use Rattle.reg_rule.specs.declared.told.Told.TheVariants.{Nothing}
use Rattle.reg_rule.specs.Log.{place_of}
use Rattle.reg_rule.specs.Fresh.{unswept}
use Rattle.reg_rule.proofs.ring_steps.swap_take.Given as goal

abbrev pub ghosts-swap_take_as : goal.ghosts-swap_take_as
ghosts-swap_take_as a = record { told = Nothing; table = 0; at = a.entry; place = place_of (Wd 0) 0; word = unswept; code = None }
