use Rattle.std.proofs.Common.{true, false, append-nil, sym, ap, arith, ◌∙◌, Vec, Global, vec_capacity}
use Rattle.reg_model.specs.declared.update.Declared.{Declared}
use Rattle.reg_model.proofs.Marked.{room_declared, kept_more}
use Rattle.reg_model.proofs.leaving.keep_declared.Goals as goal
use Rattle.reg_model.proofs.leaving.keep_declared.Goals.{then-not-withdrawn-place, else-not-withdrawn-place}

pub keep-requires : goal.keep-requires
keep-requires c =
    let room = room_declared _ c.args.base c.loop-place.place _ _ _ _ _ _ c.loop-place-test.true c.index-updates-place.is c.requires.marks (omega arith) c.if-not-withdrawn-place.true c.loop-place.invariant.all c.requires.room in
    omega (arith, room, c.loop-place.invariant.capacity)

pub loop-place-preserved : goal.loop-place-preserved
loop-place-preserved c = elim c.if-not-withdrawn-place.branch [
  | then-not-withdrawn-place w ↦ record {
    all = kept_more _ c.args.base c.loop-place.place _ _ _ false _ _ _ c.loop-place-test.true c.index-updates-place.is c.requires.marks (omega arith) w.if-not-withdrawn-place.true c.loop-place.invariant.all
        (ap (λ (v : Vec Declared Global). v.items) w.list-is ∙ w.keep.ensures.list);
    capacity = omega (arith, ap (λ (v : Vec Declared Global). vec_capacity v) w.list-is, w.keep.ensures.capacity, c.loop-place.invariant.capacity);
  }
  | else-not-withdrawn-place w ↦ record {
    all = kept_more _ c.args.base c.loop-place.place _ _ _ true _ _ _ c.loop-place-test.true c.index-updates-place.is c.requires.marks (omega arith) w.if-not-withdrawn-place.false c.loop-place.invariant.all
        (ap (λ (v : Vec Declared Global). v.items) w.list-is ∙ sym (append-nil _));
    capacity = omega (arith, ap (λ (v : Vec Declared Global). vec_capacity v) w.list-is, c.loop-place.invariant.capacity);
  }
]
