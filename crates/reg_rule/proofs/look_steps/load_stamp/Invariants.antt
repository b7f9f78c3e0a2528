use Rattle.std.specs.Prelude.{None}
use Rattle.reg_model.specs.declared.update.Update.TheVariants.{Wd}
use Rattle.reg_rule.specs.Log.{place_of}
use Rattle.reg_rule.specs.Fresh.{unswept}
use Rattle.reg_rule.proofs.look_steps.load_stamp.Given as goal

abbrev pub ghosts-load_stamp_as : goal.ghosts-load_stamp_as
ghosts-load_stamp_as a = record { told = a._told; table = 0; at = a.entry; place = place_of (Wd 0) 0; word = unswept; code = None }
