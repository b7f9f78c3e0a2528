use Rattle.std.proofs.Common.{◌≡◌, ◌≤◌, take}
use Rattle.std.specs.Prelude.{count_by, nat_le}
use Rattle.iscc_header.specs.Bits.{distance}
use Rattle.reg_history.proofs.ledger.kind_list.count_near.Given as goal

-- the near ones among those that the loop has passed
abbrev pub invariant-loop-other : goal.invariant-loop-other
invariant-loop-other l = (l.near ≤ l.other-index) × (l.near ≡ count_by (λ other. nat_le (distance l.body other) l.radius) (take l.other-index l.bodies))
