use Rattle.std.proofs.Common.{arith}
use Rattle.mih_plan.proofs.Blocks.{behind_joined}
use Rattle.mih_plan.proofs.search.block_after.Goals as goal

pub returns-then-block-bits-clause-start : goal.returns-then-block-bits-clause-start
returns-then-block-bits-clause-start c = behind_joined c.args.block.common c.args.block.height _ c.if-common-eq0.true (omega arith)
