use Rattle.std.proofs.Common.{◌≡◌, ◌++◌, drop}
use Rattle.reg_history.specs.inner.LiveSets.{near_hits}
use Rattle.reg_history.proofs.ledger.kind_list.push_each.Given as goal

-- the hits so far, with those of what is left, are all
abbrev pub invariant-loop-place : goal.invariant-loop-place
invariant-loop-place l =
    l.hits.items ++ near_hits l.unit l.radius (drop l.place l.marks) (drop l.place l.bodies) ≡ l.initial.hits.items ++ near_hits l.unit l.radius l.marks l.bodies
