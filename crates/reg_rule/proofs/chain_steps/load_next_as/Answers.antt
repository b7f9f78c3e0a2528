use Rattle.std.proofs.Common.{◌≡◌, ◌<◌, ◌+◌, ℕ, ap, ◌∙◌, sym, subst, arith}
use Rattle.atomic_table.specs.Seated.{TableId}
use Rattle.reg_words.specs.Memory.{NEXT, start}
use Rattle.reg_words.proofs.Memory.{inside}
use Rattle.reg_rule.specs.declared.told.Told.{Told}
use Rattle.reg_rule.specs.declared.view.Key.{Key}
use Rattle.reg_rule.specs.declared.view.View.{View}
use Rattle.reg_rule.specs.Conditions.{MayLoadNext}
use Rattle.reg_rule.specs.inner.ChainParts.{next_cell}
use Rattle.reg_rule.specs.inner.Rule.{sizes}
use Rattle.reg_rule.proofs.StoresNext.{cell_inside}
use Rattle.reg_rule.proofs.LoadsNext.{loads_next_at, next_low}
use Rattle.reg_rule.proofs.chain_steps.load_next_as.Goals as goal

pub load-requires : goal.load-requires
load-requires g c =
    let wv = c.words.view_is in let pv = c.pass.view_is in let wi = c.words.invariant in let pi = c.pass.invariant in let told = c.requires.told in let at = c.next_at-at.ensures in
    let key : Key = c.words.inside.table.shared.key in let v : View = c.pass.inside.seat.me.0 in
    let same : v.key ≡ key = ap (λ (z : TableId × View). z.1.key) pv ∙ (c.requires.own.1 ∙ sym (ap (λ (z : TableId × Key). z.1) wv)) in
    let t : Told = g.T.Telling.told in let n : ℕ = g.T.Telling.table in let e : ℕ = g.T.Telling.at in
    let may : MayLoadNext t n e v = subst (λ (z : Told × ℕ × ℕ). MayLoadNext z.0 z.1 z.2 v) (λ j. (sym told.0 j, sym told.1 j, sym told.2 j)) (subst (λ (z : TableId × View). MayLoadNext c.args._told c.args.table c.args.entry z.1) (sym pv) c.requires.may) in
    let low = next_low t n e v may in let room : e < key.entries = subst (λ (z : Key). e < z.entries) same low.1 in
    let place = at ∙ sym (ap (λ (z : TableId × Key). start (sizes z.1) NEXT + next_cell z.1.entries n e) wv ∙ (λ j. start (sizes c.args.words.now.1) NEXT + next_cell c.args.words.now.1.entries (told.1 j) (told.2 j))) in (
      ap (λ (z : TableId × View). z.0) pv ∙ (c.requires.own.0 ∙ sym (ap (λ (z : TableId × Key). z.0) wv)),
      (let fits = inside (sizes key) NEXT (next_cell key.entries n e) (cell_inside key.entries n e low.0 room) in let count = wi.0 in omega arith),
      loads_next_at key _ _ _ t n e _ place may pi.live (let one = pi.one in omega arith),
    )

pub next_at-at-requires : goal.next_at-at-requires
next_at-at-requires g c = let low = next_low c.args._told c.args.table c.args.entry c.args.pass.now.1 c.requires.may in record {
  table = low.0;
  entry = subst (λ (z : Key). c.args.entry < z.entries) c.requires.own.1 low.1;
}
