use Rattle.std.specs.Prelude.{None}
use Rattle.reg_model.specs.declared.update.Update.TheVariants.{Wd}
use Rattle.reg_rule.specs.declared.told.Told.TheVariants.{Nothing}
use Rattle.reg_rule.specs.Log.{place_of}
use Rattle.reg_rule.specs.Fresh.{unswept}
use Rattle.reg_rule.proofs.cut_steps.cut_next.Given as goal

abbrev pub ghosts-cut_next_as : goal.ghosts-cut_next_as
ghosts-cut_next_as a = record { told = Nothing; table = a.table; at = 0; place = place_of (Wd 0) 0; word = unswept; code = None }
