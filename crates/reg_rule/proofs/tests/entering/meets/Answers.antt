use Rattle.std.proofs.Common.{ap, ◌∙◌}
use Rattle.atomic_table.specs.Seated.{TableId}
use Rattle.reg_rule.specs.declared.told.Told.TheVariants.{Nothing}
use Rattle.reg_rule.specs.declared.view.View.{View}
use Rattle.reg_rule.specs.Moves.{with_step, at_front}
use Rattle.reg_rule.proofs.TrialsHelped.{meets}
use Rattle.reg_rule.proofs.tests.entering.meets.Goals as goal

pub returns : goal.returns
returns c =
    let late = c.requires.late in let loaded = c.load_code.ensures in
    let front = ap (λ (z : TableId × View). z.1) c.in_ok-finds_front.ensures ∙ ap (λ (z : TableId × View). at_front Nothing (with_step z.1 1) 1) late.1 in
    let view = meets late.0 _ _ _ front loaded.told c.if-load_code-ne0.false in
    λ x. (loaded.own.0 x, view x)
