use Rattle.std.proofs.Common.{◌+◌, ◌<◌, ◌≤◌, length}
use Rattle.reg_history.specs.inner.CheckSteps.{rows_so_far}
use Rattle.reg_history.proofs.check.CheckedLines.{HasRead}
use Rattle.reg_history.proofs.check.checked.Given as goal

abbrev pub invariant-loop-bytes : goal.invariant-loop-bytes
invariant-loop-bytes l = record {
  has_read : HasRead l.text l.rest l.line l.state;
  short : l.line + length l.rest ≤ length l.text + 1;
  rows : rows_so_far l.state < l.line;
}

abbrev pub decreases-loop-bytes : goal.decreases-loop-bytes
decreases-loop-bytes l = length l.rest
