use Rattle.std.proofs.Common.{rules}
use Rattle.std.proofs.lemmas.List.Sorted.{answers_always}
use Rattle.reg_model.specs.declared.reply.Hit.{Hit}
use Rattle.reg_query.proofs.Exactly.{answered}
use Rattle.reg_query.proofs.near.near_at.Goals as goal

pub returns-clause-answered : goal.returns-clause-answered
returns-clause-answered c = λ k at.
    let w = c.in_ok-walk_plan.ensures in
    let sort = c.in_ok-sort_by_key.ensures in
    rw c.from_vec.ensures
    (answered c.query_at-query.result c.args.pass.now.1 c.walk_plan.new.pass.1 c.store_pin.new.pass.1 k c.walk_plan.new.listing.looked w.walked.0 c.pin-pin.result c.args.unit c.args.radius
    c.walk_plan.new.listing.hits.items c.sort_by_key.new.self.items
    c.query_at-query.ensures.asked at c.query_at-query.ensures.unit c.query_at-query.ensures.radius w.walked.1 w.walked.2 w.ok sort.permutation
    (sort.sorted (λ (hit : Hit). (hit.body, hit.id)) (answers_always _ _ _ (λ f a r q k. search rules)))
    c.pin-pin.ensures c.store_pin.ensures.told)
