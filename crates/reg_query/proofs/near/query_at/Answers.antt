use Rattle.std.proofs.Common.{◌∙◌, refl, sym, subst, arith}
use Rattle.reg_model.specs.Limits.{IsInRange}
use Rattle.reg_query.proofs.Asking.{point_is, asked_at}
use Rattle.reg_query.proofs.near.query_at.Goals as goal

pub returns-clause-asked : goal.returns-clause-asked
returns-clause-asked c =
    let o = c.requires.opens in
    asked_at _ c.args.pass.now.1 c.args.words.now.1 c.carried-carried.result.now c.sizes-2.result.now o.0 c.base-base.result c.requires.own.1 c.carried-carried.ensures.carried c.sizes-2.ensures.sizes c.sizes-2.ensures.entries
    c.list-list.ensures.opening (subst IsInRange (c.sizes.ensures.sizes ∙ sym c.sizes-2.ensures.sizes) c.entries-entries.ensures.range) c.base-base.ensures o.1 (let u = c.unwrap_or-ids.ensures ∙ point_is c.args.pass.now.1 o.0 c.base-base.result c.snapshot.result o.1 c.snapshot.ensures in omega (arith, u)) refl c.bits.ensures c.requires.radius
