use Rattle.std.proofs.Common.{ℕ, ◌<◌, ◌≤◌, get_or}
use Rattle.reg_history.proofs.lines.values.value_len.Given as goal

-- no byte so far is below the digits
abbrev pub invariant-loop-i : goal.invariant-loop-i
invariant-loop-i l = (k : ℕ) → k < l.i → 48 ≤ get_or l.text k 0
