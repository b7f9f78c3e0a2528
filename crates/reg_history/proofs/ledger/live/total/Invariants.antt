use Rattle.std.proofs.Common.{◌≡◌, ◌*◌, ◌≤◌, ◌^◌, length, take}
use Rattle.std.specs.Prelude.{sum_by}
use Rattle.reg_history.proofs.ledger.live.total.Given as goal

-- the declarations of the lists so far; no list has 2^59
abbrev pub invariant-loop-list : goal.invariant-loop-list
invariant-loop-list l = (l.total ≡ sum_by length (take l.list-index l.lists)) × (l.total ≤ l.list-index * 2 ^ 59)
