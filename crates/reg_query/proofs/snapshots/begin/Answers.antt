use Rattle.std.proofs.Common.{◌+◌, ◌∙◌, sym, ap, subst}
use Rattle.reg_model.specs.Opening.{Opening}
use Rattle.reg_rule.specs.declared.told.Told.TheVariants.{Opens}
use Rattle.reg_rule.specs.declared.view.Key.{Key}
use Rattle.reg_rule.specs.declared.view.View.{View}
use Rattle.reg_commit.specs.Fronts.{FrontFound}
use Rattle.reg_query.proofs.Begins.{begun}
use Rattle.reg_query.proofs.snapshots.begin.Goals as goal

pub returns-clause-begun : goal.returns-clause-begun
returns-clause-begun c =
    let base = ap (λ n. n + c.front-place.result) (c.base.ensures ∙ (ap (λ (o : Opening). o.base) c.carried.ensures.carried ∙ sym (ap (λ (k : Key). k.carried.base) c.requires.own.1))) in
    let found = subst (λ (z : View). FrontFound Opens z c.front-place.result c.front-place.new.pass.1) (λ j. (c.pin.ensures j).1) c.front-place.ensures.found in
    (c.front-place.result, base, begun c.args.pass.now.1 c.front-place.new.pass.1 c.front-place.result found c.complete.new.pass.1 c.complete.ensures.completed)
