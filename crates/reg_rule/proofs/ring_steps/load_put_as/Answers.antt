use Rattle.std.proofs.Common.{ap, ◌∙◌, sym, subst, arith}
use Rattle.atomic_table.specs.Seated.{TableId}
use Rattle.reg_rule.specs.declared.told.Told.{Told}
use Rattle.reg_rule.specs.declared.view.Key.{Key}
use Rattle.reg_rule.specs.declared.view.View.{View}
use Rattle.reg_rule.specs.Conditions.{MayLoadPut}
use Rattle.reg_rule.proofs.LoadsPut.{loads_put}
use Rattle.reg_rule.proofs.ring_steps.load_put_as.Goals as goal

pub load-requires : goal.load-requires
load-requires g c = let wv = c.words.view_is in let pv = c.pass.view_is in let count = c.words.invariant.0 in let v : View = c.pass.inside.seat.me.0 in
    let may : MayLoadPut g.T.Telling.told v = subst (λ (z : Told). MayLoadPut z v) (sym c.requires.told) (subst (λ (z : TableId × View). MayLoadPut c.args._told z.1) (sym pv) c.requires.may) in (
      ap (λ (z : TableId × View). z.0) pv ∙ (c.requires.own.0 ∙ sym (ap (λ (z : TableId × Key). z.0) wv)),
      omega arith,
      loads_put c.words.inside.table.shared.key _ _ _ g.T.Telling.told may c.pass.invariant.live (let one = c.pass.invariant.one in omega arith),
    )
