use Rattle.std.proofs.Common.{subst, sym, arith}
use Rattle.std.specs.Prelude.{IfSome}
use Rattle.reg_history.specs.inner.Ledgers.{MayAdd}
use Rattle.reg_history.specs.inner.Serving.{registry_of}
use Rattle.reg_history.proofs.check.ServingSteps.{serves_longer, row_may, serves_same}
use Rattle.reg_history.proofs.check.serving.Serving.add.Goals as goal

pub returns-clause-served : goal.returns-clause-served
returns-clause-served c = λ opening ended now s value stands.
    let t = serves_same _ _ opening ended now c.self.view_is s in
    let may = subst (λ u. IfSome u (MayAdd (registry_of opening ended now))) (sym c.update_in.ensures) (row_may opening ended now c.args.row.now value stands) in
    serves_longer _ opening ended now c.args.row.now c.update_in.result c.last_row.result _ t (omega (arith, c.requires.session, c.self.told)) c.update_in.ensures c.last_row.ensures
    (c.in_ok-add_update.ensures (registry_of opening ended now) t.ledger may) stands
