use Rattle.std.specs.Prelude.{None}
use Rattle.reg_model.specs.declared.update.Update.TheVariants.{Wd}
use Rattle.reg_rule.specs.Log.{place_of}
use Rattle.reg_rule.proofs.sweep_steps.store_sweep.Given as goal

abbrev pub ghosts-store_sweep_as : goal.ghosts-store_sweep_as
ghosts-store_sweep_as a = record { told = a.told; table = 0; at = 0; place = place_of (Wd 0) 0; word = a._word.now; code = None }
