use Rattle.std.proofs.Common.{ℕ, ap, ◌∙◌, sym}
use Rattle.mih_plan.specs.Buckets.{bucket_of}
use Rattle.reg_model.specs.Limits.{Limits}
use Rattle.reg_rule.specs.declared.view.Key.{Key}
use Rattle.mih_chain.proofs.Pushes.{none_tried, still_unlinked}
use Rattle.mih_chain.proofs.linking.link.Goals as goal

pub loop-init : goal.loop-init
loop-init g c = (tt, tt, c.requires.own, none_tried c.args.pass.now.1 c.args.entry c.args.code c.args.table c.requires.hand)

pub try_link-requires-clause-hand : goal.try_link-requires-clause-hand
try_link-requires-clause-hand g c =
    let i = c.loop.invariant.3 in
    let bits = ap (λ (n : ℕ). bucket_of c.args.code c.args.table n) (c.bits.ensures ∙ (ap (λ (z : Limits). z.bits) c.sizes-2.ensures.sizes ∙ sym (ap (λ (z : Key). z.sizes.bits) c.loop.invariant.2.1))) in
    (c.args.code, still_unlinked c.args.pass.now.1 c.loop.pass.1 c.args.entry c.args.code c.args.table c.requires.hand i, c.bucket_of-bucket.ensures.value ∙ bits)
