use Rattle.std.proofs.Common.{arith}
use Rattle.mih_chain.proofs.WalkSteps.{ends, head_ends}
use Rattle.mih_chain.proofs.walks.first.Goals as goal

pub returns-clause-none : goal.returns-clause-none
returns-clause-none c = ends c.entry_of.result c.load_head.result _ c.entry_of.ensures.none (λ zero.
    let h = head_ends c.args.told c.requires.telling c.args.table _ c.args.pass.now.1 _ _ c.load_head.ensures.told c.args.bucket (omega arith) zero in
    (λ j. (c.load_head.ensures.own.0 j, h.0 j), h.1))
