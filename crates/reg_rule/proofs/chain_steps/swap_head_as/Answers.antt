use Rattle.std.proofs.Common.{◌≡◌, ◌<◌, ◌+◌, ◌^◌, ℕ, ap, ◌∙◌, sym, subst, arith}
use Rattle.atomic_table.specs.Seated.{TableId}
use Rattle.mih_plan.specs.Buckets.{bucket_of}
use Rattle.reg_words.specs.Memory.{HEAD, start}
use Rattle.reg_words.proofs.Memory.{inside}
use Rattle.reg_rule.specs.declared.view.Key.{Key}
use Rattle.reg_rule.specs.declared.view.View.{View}
use Rattle.reg_rule.specs.Conditions.{MaySwapHead}
use Rattle.reg_rule.specs.inner.ChainParts.{head_cell}
use Rattle.reg_rule.specs.inner.Rule.{sizes}
use Rattle.reg_rule.proofs.StoresNext.{cell_inside}
use Rattle.reg_rule.proofs.SwapsHead.{swaps_head_as, bucket_below}
use Rattle.reg_rule.proofs.chain_steps.swap_head_as.Goals as goal

pub compare_exchange-requires : goal.compare_exchange-requires
compare_exchange-requires g c =
    let wv = c.words.view_is in let pv = c.pass.view_is in let wi = c.words.invariant in let pi = c.pass.invariant in let at = c.head_at-at.ensures in
    let key : Key = c.words.inside.table.shared.key in let v : View = c.pass.inside.seat.me.0 in
    let same : v.key ≡ key = ap (λ (z : TableId × View). z.1.key) pv ∙ (c.requires.own.1 ∙ sym (ap (λ (z : TableId × Key). z.1) wv)) in
    let may : MaySwapHead c.args.table c.args.bucket c.args.old c.args.new v = subst (λ (z : TableId × View). MaySwapHead c.args.table c.args.bucket c.args.old c.args.new z.1) (sym pv) c.requires.may in
    let o = may.hand in
    let wide : c.args.bucket < 2 ^ key.sizes.bits = subst (λ (z : ℕ). z < 2 ^ key.sizes.bits) (ap (λ (z : Key). bucket_of o.1 c.args.table z.sizes.bits) (sym same) ∙ sym o.7) (bucket_below o.1 c.args.table key.sizes.bits) in
    let place = at ∙ sym (ap (λ (z : TableId × Key). start (sizes z.1) HEAD + head_cell z.1.sizes.bits c.args.table c.args.bucket) wv) in (
      ap (λ (z : TableId × View). z.0) pv ∙ (c.requires.own.0 ∙ sym (ap (λ (z : TableId × Key). z.0) wv)),
      (let room = inside (sizes key) HEAD (head_cell key.sizes.bits c.args.table c.args.bucket) (cell_inside (2 ^ key.sizes.bits) c.args.table c.args.bucket may.table_is wide) in let count = wi.0 in omega arith),
      swaps_head_as key _ _ _ g.T.Telling.table c.args.table c.args.bucket c.args.old c.args.new _ c.requires.told place may pi.live,
    )

pub head_at-at-requires : goal.head_at-at-requires
head_at-at-requires g c = let may = c.requires.may in let o = may.hand in let key : Key = c.args.words.now.1 in record {
  table = may.table_is;
  bucket = subst (λ (z : ℕ). z < 2 ^ key.sizes.bits) (ap (λ (z : Key). bucket_of o.1 c.args.table z.sizes.bits) (sym c.requires.own.1) ∙ sym o.7) (bucket_below o.1 c.args.table key.sizes.bits);
}
