use Rattle.std.proofs.Common.{sym, ap, ◌∙◌}
use Rattle.std.specs.Prelude.{not, ◌==◌}
use Rattle.std.specs.List.{list_any}
use Rattle.atomic_table.specs.Seated.{TableId}
use Rattle.reg_model.proofs.GivenPasses.{found_here, found_later}
use Rattle.reg_rule.specs.declared.view.View.{View}
use Rattle.reg_rule.specs.Passes.{number_of}
use Rattle.reg_rule.proofs.finish.missing.Goals as goal

pub returns-then-not-has_number : goal.returns-then-not-has_number
returns-then-not-has_number c = sym (c.loop-number.invariant
    ∙ found_here (λ number. not (list_any (λ (pass : TableId × View). number_of pass.1 == number) c.args.passes.now)) c.loop-number.number c.args.callers c.loop-number-test.true
    (ap not (sym c.has_number.ensures ∙ c.if-not-has_number.true)))

pub loop-number-preserved : goal.loop-number-preserved
loop-number-preserved c = c.loop-number.invariant
    ∙ found_later (λ number. not (list_any (λ (pass : TableId × View). number_of pass.1 == number) c.args.passes.now)) c.loop-number.number c.args.callers c.loop-number-test.true
    (ap not (sym c.has_number.ensures ∙ c.if-not-has_number.false))
