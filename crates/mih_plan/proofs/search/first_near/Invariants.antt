use Rattle.mih_plan.specs.inner.Walks.{start_of}
use Rattle.mih_plan.proofs.Blocks.{IsSearched, steps_left}
use Rattle.mih_plan.proofs.search.first_near.Given as goal

abbrev pub invariant-loop-block : goal.invariant-loop-block
invariant-loop-block l = IsSearched l.centre l.limit (start_of l.fn.from) l.bits l.block.common l.block.height

abbrev pub decreases-loop-block : goal.decreases-loop-block
decreases-loop-block l = steps_left l.bits l.block.common l.block.height
