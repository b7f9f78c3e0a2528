use Rattle.std.proofs.Common.{rules, ◌≡◌, ap, ◌∙◌}
use Rattle.atomic_table.specs.Seated.{TableId}
use Rattle.reg_rule.specs.declared.view.View.{View}
use Rattle.reg_rule.specs.Moves.{seized}
use Rattle.reg_rule.proofs.Remembering.{unswept_word}
use Rattle.reg_rule.proofs.Tried.{may_give_back}
use Rattle.reg_rule.proofs.tests.a_sweep_is_counted_where_it_ends.Goals as goal

pub store_sweep-requires-clause-may : goal.store_sweep-requires-clause-may
store_sweep-requires-clause-may g c =
    let none : c.pack.result ≡ 0 = c.pack.ensures ∙ unswept_word in let found : c.swap_sweep-found.result ≡ c.pack.result = search rules in
    may_give_back c.in_ok-words.words.1 0 _ _ ((c.swap_sweep-found.ensures.told.won found).0 ∙ ap (λ (p : TableId × View). seized p.1) c.in_ok-words.ensures.first) c.pack-3.ensures
