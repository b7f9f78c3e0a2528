use Rattle.std.proofs.Common.{◌≡◌, ◌-◌, ◌∙◌, ap, arith}
use Rattle.atomic_table.specs.Seated.{TableId}
use Rattle.reg_model.specs.Live.{withdrawals}
use Rattle.reg_rule.specs.declared.remembered.Remembered.{Remembered}
use Rattle.reg_rule.specs.declared.view.View.{View}
use Rattle.reg_rule.specs.Log.{updates}
use Rattle.reg_rule.proofs.Remembering.{seen_counted}
use Rattle.reg_rule.proofs.words.Pass.wds.Goals as goal

pub returns : goal.returns
returns c =
    let v : View = c.self.inside.seat.me.0 in let all = seen_counted v.log in let seen = c.self.invariant.seen in let decls = ap (λ (z : Remembered). z.decls) c.self.invariant.remembered in
    let wds : c.self.inside.seen - c.self.inside.remembered.decls ≡ withdrawals (updates v.log) = omega arith in wds ∙ ap (λ (z : TableId × View). withdrawals (updates z.1.log)) c.self.view_is
