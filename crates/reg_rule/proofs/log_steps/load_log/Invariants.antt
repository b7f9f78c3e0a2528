use Rattle.std.specs.Prelude.{None}
use Rattle.reg_model.specs.declared.update.Update.TheVariants.{Wd}
use Rattle.reg_rule.specs.Log.{place_of}
use Rattle.reg_rule.specs.Fresh.{unswept}
use Rattle.reg_rule.proofs.log_steps.load_log.Given as goal

abbrev pub ghosts-load_log_as : goal.ghosts-load_log_as
ghosts-load_log_as a = record { told = a.told; table = 0; at = a.place; place = place_of (Wd 0) 0; word = unswept; code = None }
