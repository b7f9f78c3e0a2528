use Rattle.std.proofs.Common.{◌≡◌, ℕ, ◌+◌, ◌<◌, length, get_or}
use Rattle.reg_make.specs.Generator.{number_after}
use Rattle.reg_make.proofs.calls.centre_bodies.Given as goal

abbrev pub invariant-loop-i : goal.invariant-loop-i
invariant-loop-i l = record {
  long : length l.bodies ≡ 16;
  known : (k : ℕ) → k < l.i → get_or l.bodies k 0 ≡ number_after l.work.seed (k + 1);
  here : l.numbers.state ≡ number_after l.work.seed l.i;
}
