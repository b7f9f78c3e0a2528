use Rattle.std.proofs.Common.{◌≡◌, ◌<◌, ◌+◌, ap, ◌∙◌, sym, subst, arith}
use Rattle.atomic_table.specs.Seated.{TableId}
use Rattle.reg_words.specs.Memory.{NEXT, start}
use Rattle.reg_words.proofs.Memory.{inside}
use Rattle.reg_rule.specs.declared.view.Key.{Key}
use Rattle.reg_rule.specs.declared.view.View.{View}
use Rattle.reg_rule.specs.Conditions.{MayCutNext}
use Rattle.reg_rule.specs.inner.ChainParts.{next_cell}
use Rattle.reg_rule.specs.inner.Rule.{sizes}
use Rattle.reg_rule.proofs.StoresNext.{cell_inside}
use Rattle.reg_rule.proofs.CutsNext.{cuts_next_as}
use Rattle.reg_rule.proofs.cut_steps.cut_next_as.Goals as goal

pub compare_exchange-requires : goal.compare_exchange-requires
compare_exchange-requires g c =
    let wv = c.words.view_is in let pv = c.pass.view_is in let wi = c.words.invariant in let pi = c.pass.invariant in let at = c.next_at-at.ensures in
    let key : Key = c.words.inside.table.shared.key in let v : View = c.pass.inside.seat.me.0 in
    let same : v.key ≡ key = ap (λ (z : TableId × View). z.1.key) pv ∙ (c.requires.own.1 ∙ sym (ap (λ (z : TableId × Key). z.1) wv)) in
    let may : MayCutNext c.args.table c.args.entry c.args.old c.args.new v = subst (λ (z : TableId × View). MayCutNext c.args.table c.args.entry c.args.old c.args.new z.1) (sym pv) c.requires.may in
    let low : c.args.entry < key.entries = subst (λ (z : Key). c.args.entry < z.entries) same may.0 in
    let place = at ∙ sym (ap (λ (z : TableId × Key). start (sizes z.1) NEXT + next_cell z.1.entries c.args.table c.args.entry) wv) in (
      ap (λ (z : TableId × View). z.0) pv ∙ (c.requires.own.0 ∙ sym (ap (λ (z : TableId × Key). z.0) wv)),
      (let room = inside (sizes key) NEXT (next_cell key.entries c.args.table c.args.entry) (cell_inside key.entries c.args.table c.args.entry may.1.4.table_is low) in let count = wi.0 in omega arith),
      cuts_next_as key _ _ _ g.T.Telling.table c.args.table c.args.entry c.args.old c.args.new _ c.requires.told place may pi.live,
    )

pub next_at-at-requires : goal.next_at-at-requires
next_at-at-requires g c = let may = c.requires.may in record {
  table = may.1.4.table_is;
  entry = subst (λ (z : Key). c.args.entry < z.entries) c.requires.own.1 may.0;
}
