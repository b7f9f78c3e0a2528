use Rattle.std.proofs.Common.{◌≡◌, false, [], ◌++◌, map, length}
use Rattle.std.specs.Prelude.{All}
use Rattle.reg_turn.specs.Turns.{TurnPassView, IsPassOf}
use Rattle.reg_turn.specs.inner.Steps.{turn_view, account_in}
use Rattle.reg_turn.proofs.desk.gather.Given as goal

-- the accounts that the seat has, and those of the passes that are left, are those of all passes
abbrev pub invariant-loop-passes : goal.invariant-loop-passes
invariant-loop-passes l = record {
  table : l.seat.table_id ≡ l.table.shared.table_id;
  empty : l.seat.me.1 ≡ [];
  knows : l.seat.me.0.key ≡ l.table.shared.key;
  rests : l.seat.me.0.holds ≡ false;
  desk : All (IsPassOf (turn_view l.table.shared.table_id l.table.shared.key)) l.passes.items;
  accounts : l.seat.me.0.accounts ++ map (λ (pass : TurnPassView). account_in pass.pass) l.passes.items ≡ map (λ (pass : TurnPassView). account_in pass.pass) l.fn.passes.items;
}

abbrev pub decreases-loop-passes : goal.decreases-loop-passes
decreases-loop-passes l = length l.passes.items
