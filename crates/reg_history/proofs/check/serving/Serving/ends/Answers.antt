use Rattle.std.proofs.Common.{◌∙◌, sym}
use Rattle.reg_history.specs.inner.Serving.{registry_of}
use Rattle.reg_history.proofs.check.ServingSteps.{ends_owed, eq_test, serves_same}
use Rattle.reg_history.proofs.check.serving.Serving.ends.Goals as goal

pub returns-then-rows-self : goal.returns-then-rows-self
returns-then-rows-self c = λ opening ended now s.
    let t = serves_same _ _ opening ended now c.self.view_is s in
    let live = c.live_count.ensures (registry_of opening ended now) t.ledger in
    let test = eq_test c.args.live c.live_count.result in
    ends_owed _ opening ended now c.args.rows c.args.live _ t (λ h. (c.if-rows-self.true, test.0 h ∙ live), λ is. test.1 (is.1 ∙ sym live))
