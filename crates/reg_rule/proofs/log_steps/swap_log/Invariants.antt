use Rattle.std.specs.Prelude.{None}
use Rattle.reg_rule.specs.declared.told.Told.TheVariants.{Nothing}
use Rattle.reg_rule.specs.Log.{place_of}
use Rattle.reg_rule.specs.Fresh.{unswept}
use Rattle.reg_rule.proofs.log_steps.swap_log.Given as goal

abbrev pub ghosts-swap_log_as : goal.ghosts-swap_log_as
ghosts-swap_log_as a = record { told = Nothing; table = 0; at = a.place; place = place_of a.update.now a._entry; word = unswept; code = None }
