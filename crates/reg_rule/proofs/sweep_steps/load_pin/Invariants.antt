use Rattle.std.specs.Prelude.{None}
use Rattle.reg_model.specs.declared.update.Update.TheVariants.{Wd}
use Rattle.reg_rule.specs.declared.told.Told.TheVariants.{Nothing}
use Rattle.reg_rule.specs.Log.{place_of}
use Rattle.reg_rule.specs.Fresh.{unswept}
use Rattle.reg_rule.proofs.sweep_steps.load_pin.Given as goal

abbrev pub ghosts-load_pin_as : goal.ghosts-load_pin_as
ghosts-load_pin_as a = record { told = Nothing; table = 0; at = a.seat; place = place_of (Wd 0) 0; word = unswept; code = None }
