use Rattle.reg_image.proofs.Listed.{IsReadTo}
use Rattle.reg_image.proofs.read.read_declarations.Given as goal

abbrev pub invariant-loop-i : goal.invariant-loop-i
invariant-loop-i l = IsReadTo l.base l.before l.count l.i l.list l.bytes
