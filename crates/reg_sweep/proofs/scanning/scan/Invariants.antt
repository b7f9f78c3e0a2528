use Rattle.std.proofs.Common.{◌≡◌, ◌<◌, true}
use Rattle.reg_rule.specs.Rounds.{IsWordsPass}
use Rattle.reg_rule.specs.Passes.{number_of}
use Rattle.reg_rule.specs.Moves.{is_free}
use Rattle.reg_sweep.specs.inner.Holders.{found_free}
use Rattle.reg_sweep.proofs.scanning.scan.Given as goal

-- all so far are free
abbrev pub invariant-loop-seat : goal.invariant-loop-seat
invariant-loop-seat l = record {
  own : IsWordsPass l.words l.pass;
  view : l.pass.1 ≡ found_free l.seat l.seat l.fn.pass.1;
  rising : number_of l.fn.pass.1 < l.seat → is_free l.fn.pass.1.pin l.hazard ≡ true;
}
