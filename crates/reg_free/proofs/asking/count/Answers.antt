use Rattle.std.proofs.Common.{length, refl, ap, sym, ◌∙◌, subst, arith}
use Rattle.reg_model.specs.Opening.{Opening, IsOpening}
use Rattle.reg_model.specs.declared.call.Call.TheVariants.{Count}
use Rattle.reg_rule.specs.declared.view.Key.{Key}
use Rattle.reg_rule.specs.declared.view.View.{View}
use Rattle.reg_free.proofs.Counting.{balance}
use Rattle.reg_free.proofs.FrontRows.{counted, told_so, fit_there, not_open}
use Rattle.reg_free.proofs.asking.count.Goals as goal

pub overflow_sub-live : goal.overflow_sub-live
overflow_sub-live c =
    let v : View = c.args.pass.now.1 in let w : View = c.front-place.new.pass.1 in let own = c.requires.fit.own.1 in
    let same = c.carried-carried.ensures.carried ∙ ap (λ (k : Key). k.carried) (sym own) in
    let b = balance v.key w.log (subst IsOpening same c.list.ensures.opening) c.front-place.ensures.found.seen in
    let list = c.list.ensures.list ∙ ap (λ (o : Opening). o.list) same in let long = ap length list in let d = c.decls.ensures in let x = c.wds.ensures in omega arith

pub returns-clause-answered : goal.returns-clause-answered
returns-clause-answered c =
    let v : View = c.args.pass.now.1 in let w : View = c.front-place.new.pass.1 in let own = c.requires.fit.own.1 in
    let same = c.carried-carried.ensures.carried ∙ ap (λ (k : Key). k.carried) (sym own) in
    let b = balance v.key w.log (subst IsOpening same c.list.ensures.opening) c.front-place.ensures.found.seen in
    let list = c.list.ensures.list ∙ ap (λ (o : Opening). o.list) same in let long = ap length list in let d = c.decls.ensures in let x = c.wds.ensures in
    let base = c.base.ensures ∙ ap (λ (o : Opening). o.base) c.carried-carried.ensures.carried in
    told_so c.args.words.now.1 v w w Count c.front-place.result _ _ own refl (omega arith) (counted v w c.front-place.result _ c.front-place.ensures.found c.requires.fit.one (not_open v c.requires.free) (omega arith))

pub returns-clause-fit : goal.returns-clause-fit
returns-clause-fit c = fit_there c.args.pass.now.1 c.front-place.new.pass.1 c.front-place.result Count c.front-place.ensures.found c.requires.fit.one (not_open c.args.pass.now.1 c.requires.free) c.args.words.now c.args.pass.now.0 c.front-place.new.pass.0 c.requires.fit c.front-place.ensures.own
