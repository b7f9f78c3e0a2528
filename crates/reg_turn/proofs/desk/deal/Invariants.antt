use Rattle.std.proofs.Common.{◌≡◌, ◌-◌, [], map}
use Rattle.std.specs.Prelude.{All}
use Rattle.reg_model.specs.Desks.{new_passes}
use Rattle.reg_turn.specs.Turns.{TurnPassView, IsPassOf}
use Rattle.reg_turn.specs.inner.OneTurn.{fresh}
use Rattle.reg_turn.specs.inner.Steps.{turn_view}
use Rattle.reg_turn.proofs.desk.deal.Given as goal

-- the sessions so far have their passes, and the seat has the accounts of the others
abbrev pub invariant-loop-number : goal.invariant-loop-number
invariant-loop-number l = record {
  table : l.seat.table_id ≡ l.table.shared.table_id;
  me : l.seat.me ≡ (fresh l.table.shared.key l.number (l.callers - l.number), []);
  passes : map (λ (pass : TurnPassView). pass.pass) l.passes.items ≡ new_passes l.table.shared.key.carried.base l.number;
  desk : All (IsPassOf (turn_view l.table.shared.table_id l.table.shared.key)) l.passes.items;
}
