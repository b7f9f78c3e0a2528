use Rattle.std.proofs.Common.{refl, ap, ◌∙◌, sym}
use Rattle.std.specs.Option.{option_map}
use Rattle.atomic_table.specs.Seated.{TableId}
use Rattle.reg_model.specs.declared.desk.CloseWhy.TheVariants.{Missing}
use Rattle.reg_model.specs.Limits.{Limits}
use Rattle.reg_rule.specs.declared.view.Key.{Key}
use Rattle.reg_rule.proofs.Closes.{refusal_of}
use Rattle.reg_rule.proofs.finish.refusal.Goals as goal

pub returns-in_err-number-clause-why : goal.returns-in_err-number-clause-why
returns-in_err-number-clause-why c =
    let callers = c.callers.ensures.value ∙ (ap (λ (z : Limits). z.callers) c.words.invariant.2 ∙ ap (λ (z : TableId × Key). z.1.sizes.callers) c.words.view_is) in
    c.from_residual.ensures ∙ sym (refusal_of c.callers.result c.args.words.now.1.sizes.callers _ c.args.passes.now c.missing.result c.missing.ensures refl callers ∙ ap (option_map Missing) c.in_err-number.was)

pub returns-clause-why : goal.returns-clause-why
returns-clause-why c =
    let callers = c.callers.ensures.value ∙ (ap (λ (z : Limits). z.callers) c.words.invariant.2 ∙ ap (λ (z : TableId × Key). z.1.sizes.callers) c.words.view_is) in
    sym (refusal_of c.callers.result c.args.words.now.1.sizes.callers _ c.args.passes.now c.missing.result c.missing.ensures refl callers ∙ ap (option_map Missing) c.in_ok-number.was)
