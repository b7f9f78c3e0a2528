use Rattle.std.proofs.Common.{ap, ◌∙◌, sym, arith}
use Rattle.atomic_table.specs.Seated.{TableId}
use Rattle.reg_rule.specs.declared.view.Key.{Key}
use Rattle.reg_rule.specs.declared.view.View.{View}
use Rattle.reg_rule.proofs.LoadsTake.{loads_take}
use Rattle.reg_rule.proofs.ring_steps.load_take.Goals as goal

pub load-requires : goal.load-requires
load-requires c = let wv = c.words.view_is in let pv = c.pass.view_is in let count = c.words.invariant.0 in (
  ap (λ (z : TableId × View). z.0) pv ∙ (c.requires.own.0 ∙ sym (ap (λ (z : TableId × Key). z.0) wv)),
  omega arith,
  loads_take c.words.inside.table.shared.key _ _ _ c.pass.invariant.live,
)
