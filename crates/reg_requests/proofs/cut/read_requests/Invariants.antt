use Rattle.std.proofs.Common.{◌++◌, List, length}
use Rattle.reg_requests.specs.declared.items.Item.{Item}
use Rattle.reg_requests.proofs.FileItems.{Holds}
use Rattle.reg_requests.proofs.cut.read_requests.Given as goal

-- the items so far, with those of the rest, are those of the file
abbrev pub invariant-loop-rest : goal.invariant-loop-rest
invariant-loop-rest l = (more : List Item) → Holds l.rest more → Holds l.fn.file (l.items ++ more)

abbrev pub decreases-loop-rest : goal.decreases-loop-rest
decreases-loop-rest l = length l.rest
