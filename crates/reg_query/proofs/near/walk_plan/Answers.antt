use Rattle.std.proofs.Common.{◌≡◌, ℕ, List, [], ◌∷◌, ◌++◌, length, sym, subst, arith}
use Rattle.mih_plan.specs.declared.probe.Probe.{Probe}
use Rattle.mih_plan.specs.Buckets.{plan}
use Rattle.reg_rule.specs.declared.told.Told.TheVariants.{Nothing}
use Rattle.reg_query.specs.inner.Walks.{Walked, IsWalkingPlan}
use Rattle.reg_query.proofs.Planning.{starts_plan, plan_probe, plan_goes_on, heads_then, heads_fit, plan_ends, plan_room, distance_self}
use Rattle.reg_query.proofs.near.walk_plan.Goals as goal

pub loop-probe-init : goal.loop-probe-init
loop-probe-init c = record {
  own = c.requires.own;
  walking = starts_plan c.args.query.now c.args.pass.now.1 c.of-probes.result c.args.listing.now.hits.items c.args.listing.now.looked
      (subst (λ (r : ℕ). c.of-probes.result ≡ plan c.args.query.now.unit.body r c.args.query.now.bits) (omega arith) c.of-probes.ensures.all) c.requires.none c.requires.first;
}

pub walk_bucket-requires-clause-table : goal.walk_bucket-requires-clause-table
walk_bucket-requires-clause-table c =
    let i = subst (λ (l : List Probe). IsWalkingPlan c.args.query.now c.args.pass.now.1 l c.loop-probe.told c.loop-probe.listing.hits.items c.loop-probe.listing.looked c.loop-probe.pass.1) c.in-Some.ensures.first c.loop-probe.invariant.walking in
    (plan_probe c.args.query.now c.args.pass.now.1 c.requires.asked c.in-Some.probe c.next_probe.new.self c.loop-probe.told c.loop-probe.listing.hits.items c.loop-probe.listing.looked c.loop-probe.pass.1 i).0

pub walk_bucket-requires-clause-bucket : goal.walk_bucket-requires-clause-bucket
walk_bucket-requires-clause-bucket c =
    let i = subst (λ (l : List Probe). IsWalkingPlan c.args.query.now c.args.pass.now.1 l c.loop-probe.told c.loop-probe.listing.hits.items c.loop-probe.listing.looked c.loop-probe.pass.1) c.in-Some.ensures.first c.loop-probe.invariant.walking in
    (plan_probe c.args.query.now c.args.pass.now.1 c.requires.asked c.in-Some.probe c.next_probe.new.self c.loop-probe.told c.loop-probe.listing.hits.items c.loop-probe.listing.looked c.loop-probe.pass.1 i).1

pub walk_bucket-requires-clause-room : goal.walk_bucket-requires-clause-room
walk_bucket-requires-clause-room c = plan_room c.args.query.now c.args.pass.now.1 c.requires.asked c.loop-probe.probes c.loop-probe.told c.loop-probe.listing.hits.items c.loop-probe.listing.looked c.loop-probe.pass.1 c.loop-probe.invariant.walking

pub returns-in_err-walk_bucket-clause-walked : goal.returns-in_err-walk_bucket-clause-walked
returns-in_err-walk_bucket-clause-walked c =
    let i = subst (λ (l : List Probe). IsWalkingPlan c.args.query.now c.args.pass.now.1 l c.loop-probe.told c.loop-probe.listing.hits.items c.loop-probe.listing.looked c.loop-probe.pass.1) c.in-Some.ensures.first c.loop-probe.invariant.walking in
    let w = c.walk_bucket.ensures.walked in (
      length (i.done ++ c.in-Some.probe ∷ []),
      subst (λ (n : ℕ). Walked c.args.pass.now.1 n (length (i.done ++ c.in-Some.probe ∷ [])) c.walk_bucket.new.pass.1) (sym w.1)
          (heads_then c.args.query.now c.args.pass.now.1 c.requires.asked c.in-Some.probe c.next_probe.new.self c.loop-probe.told c.loop-probe.listing.hits.items c.loop-probe.listing.looked c.loop-probe.pass.1 i w.0 c.walk_bucket.new.pass.1 w.2),
      heads_fit c.args.query.now c.args.pass.now.1 c.requires.asked c.in-Some.probe c.next_probe.new.self c.loop-probe.told c.loop-probe.listing.hits.items c.loop-probe.listing.looked c.loop-probe.pass.1 i,
    )

pub loop-probe-preserved : goal.loop-probe-preserved
loop-probe-preserved c =
    let i = subst (λ (l : List Probe). IsWalkingPlan c.args.query.now c.args.pass.now.1 l c.loop-probe.told c.loop-probe.listing.hits.items c.loop-probe.listing.looked c.loop-probe.pass.1) c.in-Some.ensures.first c.loop-probe.invariant.walking in
    let w = c.in_ok-walk_bucket.ensures.walked in
    record {
      own = c.in_ok-walk_bucket.ensures.own;
      walking = subst (λ (n : ℕ). IsWalkingPlan c.args.query.now c.args.pass.now.1 c.next_probe.new.self Nothing c.walk_bucket.new.listing.hits.items n c.walk_bucket.new.pass.1) (sym w.1)
          (plan_goes_on c.args.query.now c.args.pass.now.1 c.requires.asked c.in-Some.probe c.next_probe.new.self c.loop-probe.told c.loop-probe.listing.hits.items c.loop-probe.listing.looked c.loop-probe.pass.1 i c.walk_bucket.new.listing.hits.items w.0 c.walk_bucket.new.pass.1 w.2 w.3);
    }

pub returns-clause-ok : goal.returns-clause-ok
returns-clause-ok c = plan_ends c.args.query.now c.args.pass.now.1 c.requires.asked (let d = distance_self c.args.query.now.unit.body in omega arith) c.next_probe.result c.in_default.not-Some c.loop-probe.probes c.next_probe.ensures.end c.loop-probe.told c.loop-probe.listing.hits.items c.loop-probe.listing.looked c.loop-probe.pass.1 c.loop-probe.invariant.walking
