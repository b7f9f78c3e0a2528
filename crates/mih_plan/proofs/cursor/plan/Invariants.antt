use Rattle.std.proofs.Common.{◌≡◌, ◌++◌, length}
use Rattle.mih_plan.specs.Buckets.{plan}
use Rattle.mih_plan.proofs.cursor.plan.Given as goal

-- what is listed, and what is still to come
abbrev pub invariant-loop-probe : goal.invariant-loop-probe
invariant-loop-probe l = plan l.body l.radius l.bits ≡ l.list ++ l.probes

abbrev pub decreases-loop-probe : goal.decreases-loop-probe
decreases-loop-probe l = length l.probes
