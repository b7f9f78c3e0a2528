use Rattle.std.proofs.Common.{arith, ap, ◌∙◌}
use Rattle.reg_rule.specs.declared.view.Key.{Key}
use Rattle.reg_model.specs.Limits.{Limits}
use Rattle.reg_model.specs.Opening.{Opening}
use Rattle.reg_query.proofs.Asking.{point_is}
use Rattle.reg_query.proofs.showing.snapshot_place.Goals as goal

pub returns-clause-log : goal.returns-clause-log
returns-clause-log c =
    let a = ap (λ (z : Key). z.sizes.log) c.requires.own.1 in let b = ap (λ (z : Limits). z.log) c.sizes.ensures.sizes in let r = c.entries-entries.ensures.range.log in omega arith

pub overflow_cast-result : goal.overflow_cast-result
overflow_cast-result c =
    let o = c.requires.opens in let point = c.unwrap_or.ensures ∙ point_is c.args.pass.now.1 o.0 c.base-base.result c.snapshot.result o.1 c.snapshot.ensures in
    let a = ap (λ (z : Key). z.carried.base) c.requires.own.1 in let b = ap (λ (z : Opening). z.base) c.carried-carried.ensures.carried in let e = c.base-base.ensures in let s = c.places_seen-seen.ensures in let i = o.1.inside in omega arith
