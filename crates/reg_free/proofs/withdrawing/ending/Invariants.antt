use Rattle.std.proofs.Common.{◌≡◌, ◌≤◌, ◌-◌, length}
use Rattle.reg_free.specs.inner.Withdrawals.{IsEnding}
use Rattle.reg_free.proofs.withdrawing.ending.Given as goal

abbrev pub invariant-loop-answer : goal.invariant-loop-answer
invariant-loop-answer l = record {
  ready : IsEnding l.words l.pass;
  accounts : l.pass.1.accounts ≡ l.fn.pass.1.accounts;
  key : l.pass.1.key ≡ l.fn.pass.1.key;
  later : length l.fn.pass.1.log ≤ length l.pass.1.log;
}

abbrev pub decreases-loop-answer : goal.decreases-loop-answer
decreases-loop-answer l = l.words.1.sizes.log - length l.pass.1.log
