use Rattle.std.proofs.Common.{◌-◌, ◌≡◌, ◌<◌, ◌+◌, [], length}
use Rattle.reg_rule.specs.Fresh.{fresh}
use Rattle.reg_rule.specs.Rounds.{AllFresh}
use Rattle.reg_rule.proofs.start.deal.Given as goal

abbrev pub invariant-loop-left : goal.invariant-loop-left
invariant-loop-left l =
    record { table : l.seat.table_id ≡ l.words.0; me : l.seat.me ≡ (fresh l.words.1 (length l.passes.items) l.left, []); count : length l.passes.items + l.left ≡ l.callers; some : 0 < l.left; all : AllFresh l.words l.passes.items }

abbrev pub decreases-loop-left : goal.decreases-loop-left
decreases-loop-left l = l.left - 1
