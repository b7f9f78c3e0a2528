use Rattle.std.specs.Prelude.{Some}
use Rattle.reg_model.specs.declared.update.Update.TheVariants.{Wd}
use Rattle.reg_rule.specs.declared.told.Told.TheVariants.{Nothing}
use Rattle.reg_rule.specs.Log.{place_of}
use Rattle.reg_rule.specs.Fresh.{unswept}
use Rattle.reg_rule.proofs.ring_steps.store_held.Given as goal

abbrev pub ghosts-store_code_as : goal.ghosts-store_code_as
ghosts-store_code_as a = record { told = Nothing; table = 0; at = 0; place = place_of (Wd 0) 0; word = unswept; code = Some a.code }
