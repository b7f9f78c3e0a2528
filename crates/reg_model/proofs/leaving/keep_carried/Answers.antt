use Rattle.std.proofs.Common.{arith}
use Rattle.reg_model.proofs.Marked.{room_carried}
use Rattle.reg_model.proofs.leaving.keep_carried.Goals as goal

pub push_within-requires : goal.push_within-requires
push_within-requires c =
    let room = room_carried c.loop-place.place _ _ _ _ _ c.loop-place-test.true c.requires.long c.if-not-withdrawn-place.true c.loop-place.invariant.all c.requires.room in
    omega (arith, room, c.loop-place.invariant.capacity)
