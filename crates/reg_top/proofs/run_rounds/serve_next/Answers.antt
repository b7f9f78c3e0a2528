use Rattle.std.proofs.Common.{subst, length}
use Rattle.std.specs.Prelude.{IfOk, IfErr}
use Rattle.reg_model.specs.Opening.{Opening}
use Rattle.reg_top.specs.inner.RunRounds.{ServesNext, IsDeclinedNext}
use Rattle.reg_top.proofs.run_rounds.serve_next.Goals as goal

pub returns-clause-served : goal.returns-clause-served
returns-clause-served g c = subst (λ (o : Opening). IfOk c.serve_lists.result (ServesNext c.args.sizes.now o c.args.lists.now)) c.left_of-carried.ensures c.serve_lists.ensures.served

pub returns-clause-why : goal.returns-clause-why
returns-clause-why g c = subst (λ (o : Opening). IfErr c.serve_lists.result (IsDeclinedNext (length c.args.rounds.now) c.args.sizes.now o)) c.left_of-carried.ensures c.serve_lists.ensures.why
