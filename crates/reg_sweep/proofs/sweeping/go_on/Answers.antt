use Rattle.std.proofs.Common.{◌+◌, arith}
use Rattle.reg_sweep.proofs.Passing.{begins, one_declared, one_given, rests_at, stopped_here}
use Rattle.reg_sweep.proofs.sweeping.go_on.Goals.{in-Declared, in-GaveBack}
use Rattle.reg_sweep.proofs.sweeping.go_on.Goals as goal

pub loop-places-init : goal.loop-places-init
loop-places-init c = record {
  own = c.requires.own;
  passed = begins c.args.from c.args.begun c.args.pass.now.1 c.requires.at c.requires.given c.requires.seen c.requires.fresh;
  most = c.requires.limit;
}

pub returns-in-Stopped-clause-left : goal.returns-in-Stopped-clause-left
returns-in-Stopped-clause-left c =
    stopped_here c.args.limit c.args.from c.args.begun c.loop-places.places c.loop-places.given c.args.pass.now.1 c.loop-places.pass.1 c.pass_place.new.pass.1 c.leave.new.pass.1 c.in-Stopped.rest c.in-Stopped.why c.leave.result
    c.loop-places.invariant.passed (let low = c.loop-places-test.true in omega arith) c.in-Stopped.ensures.turned c.leave.ensures.swept c.leave.ensures.view

pub loop-places-preserved : goal.loop-places-preserved
loop-places-preserved c = record {
  own = c.pass_place.ensures.own;
  passed = elim c.match-pass_place.branch [
    | in-Declared w ↦ one_declared c.args.from c.args.begun c.loop-places.places c.loop-places.given c.match-pass_place.given c.args.pass.now.1 c.loop-places.pass.1 c.pass_place.new.pass.1 (let is = w.given-is in omega arith) c.loop-places.invariant.passed w.in-Declared.ensures.turned
    | in-GaveBack w ↦ one_given c.args.from c.args.begun c.loop-places.places c.loop-places.given c.match-pass_place.given c.args.pass.now.1 c.loop-places.pass.1 c.pass_place.new.pass.1 (let is = w.given-is in omega arith) c.loop-places.invariant.passed w.in-GaveBack.ensures.turned
  ];
  most = (let low = c.loop-places-test.true in omega arith);
}

pub leave-requires-2-clause-next : goal.leave-requires-2-clause-next
leave-requires-2-clause-next c = rests_at (c.args.from + c.loop-places.places) c.loop-places.pass.1 _ c.loop-places.invariant.passed.at c.resting-rest.ensures
