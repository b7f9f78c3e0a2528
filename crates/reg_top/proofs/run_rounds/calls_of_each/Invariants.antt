use Rattle.std.proofs.Common.{◌≡◌, map, take}
use Rattle.reg_requests.specs.Requests.{calls_of}
use Rattle.reg_top.proofs.run_rounds.calls_of_each.Given as goal

-- the calls of the lists that the loop has passed
abbrev pub invariant-loop-list : goal.invariant-loop-list
invariant-loop-list l = map (λ list. list.items) l.calls.items ≡ map calls_of (take l.list-index l.lists)
