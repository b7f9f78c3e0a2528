use Rattle.std.proofs.Common.{◌≡◌, true, take}
use Rattle.reg_history.specs.inner.Bytes.{free}
use Rattle.reg_history.proofs.lines.line.next_line.Given as goal

-- no line feed so far
abbrev pub invariant-loop-i : goal.invariant-loop-i
invariant-loop-i l = free 10 (take l.i l.text) ≡ true
