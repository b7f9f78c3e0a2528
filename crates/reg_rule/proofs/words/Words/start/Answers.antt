use Rattle.std.proofs.Common.{ℕ, List, [], ap, ◌∙◌, sym, subst}
use Rattle.atomic_table.specs.Table.{opening}
use Rattle.reg_rule.specs.declared.view.Key.{Key}
use Rattle.reg_rule.specs.inner.Rule.{Kept, first}
use Rattle.reg_rule.proofs.Deals.{fresh_own, views_new}
use Rattle.reg_rule.proofs.Carrying.{fills_table}
use Rattle.reg_rule.proofs.words.Words.start.Goals as goal

pub of_words-requires : goal.of_words-requires
of_words-requires c =
    subst (λ (l : List ℕ). Kept c.in_ok-key.key (opening l [] (first c.in_ok-key.key))) (sym c.as_slice.ensures.value)
    (fills_table c.args.sizes.now c.args.carried.now c.in_ok-key.key _ c.in_ok-key.ensures (sym c.in_default.ensures.fault) c.start_fault.ensures.sizes c.start_fault.ensures.carried c.in_ok-opening.ensures)

pub returns-clause-own : goal.returns-clause-own
returns-clause-own c = fresh_own _ _ c.in_ok-passes.ensures.1

pub returns-clause-views : goal.returns-clause-views
returns-clause-views c = let made = c.in_ok-key.ensures in
    views_new _ c.args.sizes.now c.args.carried.now _ (c.in_ok-table.ensures.5 ∙ made) (c.in_ok-passes.ensures.0 ∙ (c.callers.ensures.value ∙ ap (λ (z : Key). z.sizes.callers) made)) c.in_ok-passes.ensures.1
