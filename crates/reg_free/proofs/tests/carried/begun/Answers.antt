use Rattle.std.proofs.lemmas.Result.{IfOk-weaker}
use Rattle.reg_model.proofs.NewPasses.{new_passes_ended}
use Rattle.reg_free.proofs.tests.carried.begun.Goals as goal

pub returns-clause-ended : goal.returns-clause-ended
returns-clause-ended g c = IfOk-weaker c.start.result _ _ (λ made are. new_passes_ended _ _ _ are) c.start.ensures.passes
