use Rattle.std.proofs.Common.{◌≡◌, ◌<◌, ◌+◌, ◌^◌, ℕ, ap, ◌∙◌, sym, subst, arith}
use Rattle.atomic_table.specs.Seated.{TableId}
use Rattle.reg_words.specs.Memory.{HEAD, start}
use Rattle.reg_words.proofs.Memory.{inside}
use Rattle.reg_rule.specs.declared.told.Told.{Told}
use Rattle.reg_rule.specs.declared.view.Key.{Key}
use Rattle.reg_rule.specs.declared.view.View.{View}
use Rattle.reg_rule.specs.Conditions.{MayLoadHead}
use Rattle.reg_rule.specs.inner.ChainParts.{head_cell}
use Rattle.reg_rule.specs.inner.Rule.{sizes}
use Rattle.reg_rule.proofs.StoresNext.{cell_inside}
use Rattle.reg_rule.proofs.LoadsHead.{loads_head_at, head_wide}
use Rattle.reg_rule.proofs.chain_steps.load_head_as.Goals as goal

pub load-requires : goal.load-requires
load-requires g c =
    let wv = c.words.view_is in let pv = c.pass.view_is in let wi = c.words.invariant in let pi = c.pass.invariant in let told = c.requires.told in let at = c.head_at-at.ensures in
    let key : Key = c.words.inside.table.shared.key in let v : View = c.pass.inside.seat.me.0 in
    let same : v.key ≡ key = ap (λ (z : TableId × View). z.1.key) pv ∙ (c.requires.own.1 ∙ sym (ap (λ (z : TableId × Key). z.1) wv)) in
    let t : Told = g.T.Telling.told in let n : ℕ = g.T.Telling.table in let b : ℕ = g.T.Telling.at in
    let may : MayLoadHead t n b v = subst (λ (z : Told × ℕ × ℕ). MayLoadHead z.0 z.1 z.2 v) (λ j. (sym told.0 j, sym told.1 j, sym told.2 j)) (subst (λ (z : TableId × View). MayLoadHead c.args._told c.args.table c.args.bucket z.1) (sym pv) c.requires.may) in
    let low = head_wide t n b v may in let wide : b < 2 ^ key.sizes.bits = subst (λ (z : Key). b < 2 ^ z.sizes.bits) same low.1 in
    let place = at ∙ sym (ap (λ (z : TableId × Key). start (sizes z.1) HEAD + head_cell z.1.sizes.bits n b) wv ∙ (λ j. start (sizes c.args.words.now.1) HEAD + head_cell c.args.words.now.1.sizes.bits (told.1 j) (told.2 j))) in (
      ap (λ (z : TableId × View). z.0) pv ∙ (c.requires.own.0 ∙ sym (ap (λ (z : TableId × Key). z.0) wv)),
      (let room = inside (sizes key) HEAD (head_cell key.sizes.bits n b) (cell_inside (2 ^ key.sizes.bits) n b low.0 wide) in let count = wi.0 in omega arith),
      loads_head_at key _ _ _ t n b _ place may pi.live (let one = pi.one in omega arith),
    )

pub head_at-at-requires : goal.head_at-at-requires
head_at-at-requires g c = let low = head_wide c.args._told c.args.table c.args.bucket c.args.pass.now.1 c.requires.may in record {
  table = low.0;
  bucket = subst (λ (z : Key). c.args.bucket < 2 ^ z.sizes.bits) c.requires.own.1 low.1;
}
