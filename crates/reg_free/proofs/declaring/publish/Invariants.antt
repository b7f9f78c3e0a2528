use Rattle.std.proofs.Common.{◌≡◌, ◌-◌, ◌≤◌, length}
use Rattle.reg_free.specs.inner.Between.{IsLinked}
use Rattle.reg_free.proofs.declaring.publish.Given as goal

abbrev pub invariant-loop-answer : goal.invariant-loop-answer
invariant-loop-answer l = record {
  linked : IsLinked l.words l.unit l.entry l.pass;
  key : l.pass.1.key ≡ l.fn.pass.1.key;
  accounts : l.pass.1.accounts ≡ l.fn.pass.1.accounts;
  seen : length l.fn.pass.1.log ≤ length l.pass.1.log;
}

abbrev pub decreases-loop-answer : goal.decreases-loop-answer
decreases-loop-answer l = l.pass.1.key.sizes.log - length l.pass.1.log
