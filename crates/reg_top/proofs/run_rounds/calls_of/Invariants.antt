use Rattle.std.proofs.Common.{◌≡◌, take}
use Rattle.reg_requests.specs.Requests.{calls_of}
use Rattle.reg_top.proofs.run_rounds.calls_of.Given as goal

-- the calls of the items that the loop has passed
abbrev pub invariant-loop-item : goal.invariant-loop-item
invariant-loop-item l = l.calls.items ≡ calls_of (take l.item-index l.items)
