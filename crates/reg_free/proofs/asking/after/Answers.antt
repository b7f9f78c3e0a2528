use Rattle.std.proofs.Common.{ℕ, ◌+◌, Bool, cond, ap, sym, ◌∙◌, subst, arith}
use Rattle.std.proofs.lemmas.Bool.{le-leb, lt-leb}
use Rattle.reg_model.specs.declared.reply.Reply.{Reply}
use Rattle.reg_model.specs.declared.reply.Reply.TheVariants.{Reached, Ahead}
use Rattle.reg_free.proofs.asking.after.Goals.{then-point-here, else-point-here}
use Rattle.reg_model.specs.Desks.{Answered}
use Rattle.reg_model.specs.Opening.{Opening}
use Rattle.reg_model.specs.declared.call.Call.TheVariants.{After}
use Rattle.reg_rule.specs.Passes.{pass_view}
use Rattle.reg_rule.specs.declared.view.Key.{Key}
use Rattle.reg_rule.specs.declared.view.View.{View}
use Rattle.reg_free.proofs.FrontRows.{reached, fit_there, not_open}
use Rattle.reg_free.proofs.asking.after.Goals as goal

pub returns-clause-answered : goal.returns-clause-answered
returns-clause-answered c =
    let v : View = c.args.pass.now.1 in let w : View = c.front-place.new.pass.1 in let own = c.requires.fit.own.1 in
    let same = c.carried.ensures.carried ∙ ap (λ (k : Key). k.carried) (sym own) in
    let base = c.base.ensures ∙ ap (λ (o : Opening). o.base) same in
    subst (λ (k : Key). Answered k.sizes k.carried (pass_view v) (pass_view w) (After c.args.point) (record { point = c.base.result + c.front-place.result; reply = c.if-point-here.result })) own
    (subst (λ (n : ℕ). Answered v.key.sizes v.key.carried (pass_view v) (pass_view w) (After c.args.point) (record { point = n + c.front-place.result; reply = c.if-point-here.result })) (sym base)
    (reached v w c.front-place.result c.args.point c.if-point-here.result c.front-place.ensures.found c.requires.fit.one (not_open v c.requires.free)
    (elim c.if-point-here.branch [
      | then-point-here x ↦ (let le = x.if-point-here.true in x.result-is ∙ sym (ap (λ (b : Bool). cond {A = Reply} b Reached Ahead) (le-leb c.args.point (v.key.carried.base + c.front-place.result) (omega arith))))
      | else-point-here x ↦ (let gt = x.if-point-here.false in x.result-is ∙ sym (ap (λ (b : Bool). cond {A = Reply} b Reached Ahead) (lt-leb c.args.point (v.key.carried.base + c.front-place.result) (omega arith))))
    ])))

pub returns-clause-fit : goal.returns-clause-fit
returns-clause-fit c = fit_there c.args.pass.now.1 c.front-place.new.pass.1 c.front-place.result (After c.args.point) c.front-place.ensures.found c.requires.fit.one (not_open c.args.pass.now.1 c.requires.free) c.args.words.now c.args.pass.now.0 c.front-place.new.pass.0 c.requires.fit c.front-place.ensures.own
