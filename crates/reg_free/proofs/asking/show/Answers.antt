use Rattle.std.proofs.Common.{◌≡◌, Option, Some, refl, ap, sym, ◌∙◌, subst, arith}
use Rattle.reg_model.specs.Live.{live_at}
use Rattle.reg_model.specs.Replies.{shown}
use Rattle.reg_model.specs.declared.call.Call.TheVariants.{Show}
use Rattle.reg_model.specs.declared.reply.Reply.{Reply}
use Rattle.reg_model.specs.declared.update.Declared.{Declared}
use Rattle.atomic_table.specs.Seated.{TableId}
use Rattle.reg_rule.specs.declared.told.Told.TheVariants.{Closes}
use Rattle.reg_rule.specs.Moves.{grown, log_at, next_row, unpinned}
use Rattle.reg_free.specs.Fit.{IsFit}
use Rattle.reg_free.proofs.asking.show.Goals.{in-Some, in-None}
use Rattle.reg_rule.specs.declared.view.Key.{Key}
use Rattle.reg_rule.specs.declared.view.View.{View}
use Rattle.reg_free.proofs.FrontRows.{told_so, not_open}
use Rattle.reg_free.proofs.AtSnapshots.{shown_leaves, shown_some, shown_none, answered_at, fit_after}
use Rattle.reg_free.proofs.asking.show.Goals as goal

pub end-requires-clause-opens : goal.end-requires-clause-opens
end-requires-clause-opens c = let b = c.begin-point.ensures.begun in (b.0, (c.show_at-shown.ensures.shown b.0 b.2.opens.snapshot).opens)

pub returns-clause-answered : goal.returns-clause-answered
returns-clause-answered c =
    let v : View = c.args.pass.now.1 in let u : View = c.begin-point.new.pass.1 in let w : View = c.show_at-shown.new.pass.1 in
    let b = c.begin-point.ensures.begun in let k = b.0 in let s = c.show_at-shown.ensures.shown k b.2.opens.snapshot in
    let key : u.key ≡ v.key = c.begin-point.ensures.own.1 ∙ sym c.requires.fit.own.1 in
    let x : Option Declared = live_at u.key.carried (log_at u k) c.args.id in
    let r : c.match-shown.result ≡ shown c.args.id x = elim c.match-shown.branch [
      | in-Some m ↦ (m.result-is ∙ sym (shown_some c.args.id x m.in-Some.unit (sym m.in-Some.is ∙ s.unit_is)))
      | in-None m ↦ (m.result-is ∙ sym (shown_none c.args.id x (sym m.in-None.is ∙ s.unit_is)))
    ] in
    let made = answered_at v u w k b.2 (shown_leaves u w k c.args.id c.show_at-shown.result s) (not_open v c.requires.free) (Show c.args.id) c.match-shown.result c.requires.fit.one key
    (ap (λ (z : View). z.accounts) s.view ∙ ap (λ (y : Reply). grown u.accounts (Some (next_row u (Show c.args.id) k y))) (sym r)) refl (let within = b.2.opens.within in let places = ap (λ (z : Key). z.sizes.log) key in omega arith)
    (r ∙ ap (λ (z : Key). shown c.args.id (live_at z.carried (log_at u k) c.args.id)) key) in
    let base = ap (λ (z : Key). z.carried.base) c.requires.fit.own.1 in let at = b.1 in
    told_so c.args.words.now.1 v (unpinned Closes w) c.end.new.pass.1 (Show c.args.id) k _ c.match-shown.result c.requires.fit.own.1 (ap (λ (y : TableId × View). y.1) c.end.ensures.closed) (omega arith) made

pub returns-clause-fit : goal.returns-clause-fit
returns-clause-fit c =
    let v : View = c.args.pass.now.1 in let u : View = c.begin-point.new.pass.1 in let w : View = c.show_at-shown.new.pass.1 in
    let b = c.begin-point.ensures.begun in let k = b.0 in let s = c.show_at-shown.ensures.shown k b.2.opens.snapshot in
    subst (IsFit c.args.words.now) (sym c.end.ensures.closed)
    (fit_after v u w k b.2 (shown_leaves u w k c.args.id c.show_at-shown.result s) (not_open v c.requires.free) c.args.words.now c.args.pass.now.0 c.begin-point.new.pass.0 c.args.words.now.0 c.requires.fit c.begin-point.ensures.own (refl, c.show_at-shown.ensures.own.1))
