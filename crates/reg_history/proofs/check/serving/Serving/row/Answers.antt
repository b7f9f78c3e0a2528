use Rattle.std.proofs.Common.{◌∙◌, refl, sym}
use Rattle.std.proofs.lemmas.Bool.{true≢false}
use Rattle.reg_model.specs.Runs.{closing}
use Rattle.reg_history.specs.inner.Serving.{registry_of}
use Rattle.reg_history.proofs.check.ServingSteps.{stands_all, fails_reply, serves_same}
use Rattle.reg_history.proofs.check.serving.Serving.row.Goals as goal

pub returns-then-not-branch-clause-told : goal.returns-then-not-branch-clause-told
returns-then-not-branch-clause-told c = λ opening ended now s value.
    let t = serves_same _ _ opening ended now c.self.view_is s in
    let session = c.if-not-session_stands.ensures.stands opening ended now s in
    let order = c.if-not-order_stands.ensures.stands opening ended now s in
    let point = c.if-not-point_stands.ensures.stands opening ended now s in
    let reply = c.in_ok-reply_stands.ensures (registry_of opening ended now) t.ledger value.call value.reply in
    fails_reply (closing opening ended) now c.args.row.now (session.0 refl) (order.0 refl) (point.0 refl) (λ owed. absurd (true≢false (sym (reply.1 owed) ∙ c.if-not-branch.true)))

pub returns-clause-told : goal.returns-clause-told
returns-clause-told c = λ opening ended now s value.
    let t = serves_same _ _ opening ended now c.self.view_is s in
    let session = c.if-not-session_stands.ensures.stands opening ended now s in
    let order = c.if-not-order_stands.ensures.stands opening ended now s in
    let point = c.if-not-point_stands.ensures.stands opening ended now s in
    let reply = c.in_ok-reply_stands.ensures (registry_of opening ended now) t.ledger value.call value.reply in
    let stands = stands_all (closing opening ended) now c.args.row.now (session.0 refl) (order.0 refl) (point.0 refl) (reply.0 c.if-not-branch.false) in
    (stands, c.in_ok-add.ensures.served opening ended now s value stands)
