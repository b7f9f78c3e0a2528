use Rattle.std.proofs.Common.{◌≡◌, ◌++◌, map, take}
use Rattle.reg_requests.specs.declared.items.Item.TheVariants.{Call}
use Rattle.reg_requests.proofs.cut.add_calls.Given as goal

-- the calls that the loop has passed
abbrev pub invariant-loop-call : goal.invariant-loop-call
invariant-loop-call l = l.items ≡ l.initial.items ++ map Call (take l.call-index l.calls)
