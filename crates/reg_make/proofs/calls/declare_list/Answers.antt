use Rattle.std.proofs.Common.{◌≡◌, ℕ, ◌+◌, ◌*◌, ◌∙◌, arith}
use Rattle.reg_make.proofs.Numbers.{number_next, unit_is, calls_more}
use Rattle.reg_make.proofs.calls.declare_list.Goals as goal

pub loop-i-preserved : goal.loop-i-preserved
loop-i-preserved c =
    let seed = c.args.work.now.seed in
    let i = c.loop-i.i in
    let start : ℕ = c.args.session * c.each-each.result in
    let is = c.next_unit.ensures.unit ∙ unit_is seed (start + i) _ c.loop-i.numbers.state c.args.bodies.now c.requires.bodies c.loop-i.invariant.here (omega arith) in
    let more : 16 + (start + i) + 1 ≡ 16 + (start + (i + 1)) = omega arith in
    record {
      made = calls_more seed start i c.loop-i.calls.items c.push.new.self.items c.next_unit.result c.loop-i.invariant.made is c.in_ok-push.ensures.items;
      here = number_next seed (16 + (start + i)) (16 + (start + (i + 1))) c.loop-i.numbers.state c.next_unit.new.numbers.state c.loop-i.invariant.here c.next_unit.ensures.numbers more;
    }
