use Rattle.std.proofs.Common.{ap, ◌∙◌}
use Rattle.atomic_table.specs.Seated.{TableId}
use Rattle.reg_rule.specs.declared.view.View.{View}
use Rattle.reg_words.specs.declared.word.StampWord.TheVariants.{Dead}
use Rattle.reg_words.specs.Packing.{stamp_word}
use Rattle.reg_rule.proofs.TrialsSwept.{may_bury}
use Rattle.reg_rule.proofs.tests.unlinking.buries.Goals as goal

pub swap_death-requires-clause-may : goal.swap_death-requires-clause-may
swap_death-requires-clause-may c =
    may_bury _ _ _ (ap (λ (z : TableId × View). z.1) c.requires.withdrawn) c.in_ok-birth.ensures (c.pack.ensures ∙ ap (λ k. stamp_word (Dead k 0 1)) c.in_ok-meta.ensures)
