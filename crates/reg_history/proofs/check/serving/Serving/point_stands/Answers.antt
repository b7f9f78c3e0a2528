use Rattle.std.proofs.Common.{arith}
use Rattle.std.proofs.lemmas.Bool.Decides.{nat_tests}
use Rattle.reg_model.specs.Runs.{closing}
use Rattle.reg_history.specs.inner.Serving.{registry_of}
use Rattle.reg_history.proofs.check.ServingSteps.{point_owed, point_wrong, serves_same}
use Rattle.reg_history.proofs.check.serving.Serving.point_stands.Goals as goal

pub returns-then-row-point-clause-stands : goal.returns-then-row-point-clause-stands
returns-then-row-point-clause-stands c = λ opening ended now s.
    let t = serves_same _ _ opening ended now c.self.view_is s in
    point_owed (closing opening ended) now c.args.row.now c.point.result c.end.result c.is_some-accepted.result c.update_in.result c.update_in.ensures c.is_some-accepted.ensures
    (c.point.ensures.registry (registry_of opening ended now) t.ledger) (c.end.ensures.registry (registry_of opening ended now) t.ledger) c.if-row-point.true

pub returns-else-row-point-clause-stands : goal.returns-else-row-point-clause-stands
returns-else-row-point-clause-stands c = λ opening ended now s.
    let t = serves_same _ _ opening ended now c.self.view_is s in
    let other = c.if-row-point.false in
    point_wrong (closing opening ended) now c.args.row.now c.point.result c.is_some-accepted.result c.update_in.result _ c.update_in.ensures c.is_some-accepted.ensures
    (c.point.ensures.registry (registry_of opening ended now) t.ledger) other (grind (arith, nat_tests, other))
