use Rattle.std.specs.Prelude.{None}
use Rattle.reg_model.specs.declared.update.Update.TheVariants.{Wd}
use Rattle.reg_rule.specs.declared.told.Told.TheVariants.{Nothing}
use Rattle.reg_rule.specs.Log.{place_of}
use Rattle.reg_rule.specs.Fresh.{unswept}
use Rattle.reg_rule.proofs.chain_steps.swap_head.Given as goal

abbrev pub ghosts-swap_head_as : goal.ghosts-swap_head_as
ghosts-swap_head_as a = record { told = Nothing; table = a.table; at = 0; place = place_of (Wd 0) 0; word = unswept; code = None }
