use Rattle.std.proofs.Common.{◌≡◌, ◌++◌, map}
use Rattle.std.specs.List.{range_with_len}
use Rattle.reg_model.specs.declared.call.Call.TheVariants as calls
use Rattle.reg_make.proofs.calls.push_withdrawals.Given as goal

abbrev pub invariant-loop-id : goal.invariant-loop-id
invariant-loop-id l = l.calls.items ≡ l.fn.calls.items ++ map calls.Withdraw (range_with_len 0 l.id)
