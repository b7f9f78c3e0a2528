use Rattle.std.proofs.Common.{◌≡◌, ◌++◌, length}
use Rattle.reg_history.specs.inner.LiveSets.{near_hits}
use Rattle.reg_history.proofs.ledger.kind_list.unsorted_hits.Given as goal

-- the hits so far, with those of what is left, are all
abbrev pub invariant-loop-rest : goal.invariant-loop-rest
invariant-loop-rest l =
    (length l.of_rest ≡ length l.rest) × (l.hits.items ++ near_hits l.unit l.radius l.of_rest l.rest ≡ near_hits l.unit l.radius l.marks l.bodies)

abbrev pub decreases-loop-rest : goal.decreases-loop-rest
decreases-loop-rest l = length l.rest
