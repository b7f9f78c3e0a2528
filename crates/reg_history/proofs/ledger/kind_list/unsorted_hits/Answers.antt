use Rattle.std.proofs.Common.{arith}
use Rattle.reg_history.specs.inner.LiveSets.{near_hits}
use Rattle.reg_history.proofs.ledger.LiveEntries.{hits_block, cut}
use Rattle.reg_history.proofs.ledger.kind_list.unsorted_hits.Goals as goal

pub loop-rest-preserved : goal.loop-rest-preserved
loop-rest-preserved c =
    let bodies = c.split_at in
    let marks = c.split_at-in-loop-rest in
    let rest = c.loop-rest in
    let unit = c.args.unit.now in (
      omega (arith, bodies.ensures.back_len, marks.ensures.back_len, rest.invariant.0),
      hits_block unit c.args.radius rest.of_rest.now marks.result.0.now marks.result.1.now rest.rest.now bodies.result.0.now bodies.result.1.now (near_hits unit c.args.radius c.args.marks.now c.args.bodies.now)
          rest.hits.items c.push_block.new.hits.items (omega (arith, bodies.ensures.front_len, marks.ensures.front_len, rest.invariant.0)) (cut _ _ _ _ marks.ensures.front marks.ensures.back)
          (cut _ _ _ _ bodies.ensures.front bodies.ensures.back) rest.invariant.1 c.in_ok-push_block.ensures,
    )
