use Rattle.std.proofs.Common.{◌≡◌, take, find, None}
use Rattle.std.specs.Prelude.{All}
use Rattle.reg_model.proofs.Rising.{has_id}
use Rattle.reg_history.proofs.ledger.live.LiveSet.unit_of.Given as goal

-- no list so far has the id
abbrev pub invariant-loop-list : goal.invariant-loop-list
invariant-loop-list l = All (λ ds. find (has_id l.id) ds ≡ None) (take l.list-index l.list-items)
