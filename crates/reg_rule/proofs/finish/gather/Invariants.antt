use Rattle.std.proofs.Common.{◌≡◌, true, [], ◌++◌, map, length}
use Rattle.std.specs.Prelude.{All}
use Rattle.atomic_table.specs.Seated.{TableId}
use Rattle.reg_rule.specs.declared.view.View.{View}
use Rattle.reg_rule.specs.Passes.{pass_view}
use Rattle.reg_rule.specs.Rounds.{IsWordsPass, IsAtRest}
use Rattle.reg_rule.specs.inner.Ending.{account_in}
use Rattle.reg_rule.proofs.finish.gather.Given as goal

-- the accounts that the seat has, and those of the passes that are left, are those of all passes
abbrev pub invariant-loop-words : goal.invariant-loop-words
invariant-loop-words l = record {
  table : l.seat.table_id ≡ l.words.0;
  empty : l.seat.me.1 ≡ [];
  knows : l.seat.me.0.key ≡ l.words.1;
  live : l.seat.me.0.live ≡ true;
  rest : IsAtRest l.seat.me.0;
  own : All (IsWordsPass l.words) l.passes.items;
  still : All (λ (p : TableId × View). IsAtRest p.1) l.passes.items;
  accounts : l.seat.me.0.accounts ++ map (λ (p : TableId × View). account_in (pass_view p.1)) l.passes.items ≡ map (λ (p : TableId × View). account_in (pass_view p.1)) l.fn.passes.items;
}

abbrev pub decreases-loop-words : goal.decreases-loop-words
decreases-loop-words l = length l.passes.items
