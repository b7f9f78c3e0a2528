use Rattle.std.proofs.Common.{sym}
use Rattle.reg_top.proofs.RunWordsSizes.{sized_next, sized_not, sized_all, sized_in_range}
use Rattle.reg_top.proofs.run_words.sizes_of.Goals as goal

pub loop-round-preserved : goal.loop-round-preserved
loop-round-preserved c =
    sized_next c.args.first c.args.bits c.args.rounds.now c.loop-round.round-index c.loop-round.before c.loop-round.sizes.items c.in_ok-round_sizes.field-0 c.round-item.result c.sizes_behind-before.result
    c.push.new.self.items c.loop-round.invariant c.loop-round-test.true (sym c.round-item.is) c.sizes_behind-before.ensures c.push.ensures.items c.in_ok-round_sizes.ensures.found
    c.in_ok-round_sizes.ensures.in_range

pub returns-in_err-round_sizes-clause-none : goal.returns-in_err-round_sizes-clause-none
returns-in_err-round_sizes-clause-none c =
    rw c.from_residual.ensures
    (sized_not c.args.first c.args.bits c.args.rounds.now c.loop-round.round-index c.loop-round.before c.loop-round.sizes.items c.round-item.result c.loop-round.invariant c.loop-round-test.true
    (sym c.round-item.is) c.sizes_behind-before.result c.sizes_behind-before.ensures c.in_err-round_sizes.ensures.none)

pub returns-clause-found : goal.returns-clause-found
returns-clause-found c =
    sized_all c.args.first c.args.bits c.args.rounds.now c.loop-round.round-index c.loop-round.before c.loop-round.sizes.items c.loop-round.invariant c.loop-round-test.false

pub returns-clause-in_range : goal.returns-clause-in_range
returns-clause-in_range c =
    sized_in_range c.args.first c.args.bits c.args.rounds.now c.loop-round.round-index c.loop-round.before c.loop-round.sizes.items c.loop-round.invariant c.loop-round-test.false
