use Rattle.std.proofs.Common.{◌≡◌, ◌++◌, refl, ap, sym, ◌∙◌, subst, arith}
use Rattle.atomic_table.specs.Seated.{TableId}
use Rattle.reg_model.specs.Live.{live}
use Rattle.reg_model.specs.Replies.{AreHits}
use Rattle.reg_model.specs.declared.call.Call.TheVariants.{Near}
use Rattle.reg_model.specs.declared.reply.Reply.TheVariants.{Hits}
use Rattle.reg_rule.specs.declared.told.Told.TheVariants.{Closes}
use Rattle.reg_rule.specs.declared.view.Key.{Key}
use Rattle.reg_rule.specs.declared.view.View.{View}
use Rattle.reg_rule.specs.Moves.{log_at, unpinned}
use Rattle.reg_query.specs.Snapshots.{IsOpen}
use Rattle.reg_free.specs.Fit.{IsFit}
use Rattle.reg_free.proofs.FrontRows.{told_so, not_open}
use Rattle.reg_free.proofs.AtSnapshots.{query_leaves, query_same, by_result, answered_at, fit_after}
use Rattle.reg_free.proofs.asking.near.Goals as goal

pub end-requires-clause-opens : goal.end-requires-clause-opens
end-requires-clause-opens c = let b = c.begin-point.ensures.begun in
    by_result _ _ (IsOpen c.near_at-found.new.pass.1) c.near_at-found.result c.near_at-found.ensures.answered c.near_at-found.ensures.wanting (λ a p. (b.0, (p b.0 b.2.opens.snapshot).opens)) (λ e q. (b.0, q.opens b.0 b.2.opens))

pub returns-in_err-found-clause-fit : goal.returns-in_err-found-clause-fit
returns-in_err-found-clause-fit c =
    let v : View = c.args.pass.now.1 in let u : View = c.begin-point.new.pass.1 in let w : View = c.near_at-found.new.pass.1 in
    let b = c.begin-point.ensures.begun in let q = c.in_err-found.ensures.wanting in
    subst (IsFit c.args.words.now) (sym c.end.ensures.closed)
    (fit_after v u w b.0 b.2 (query_leaves u w b.0 q.walk u.accounts u.costs (u.made ++ q.walk.steps) q.view refl (let within = b.2.opens.within in let seen = b.2.seen in omega arith)) (not_open v c.requires.free)
    c.args.words.now c.args.pass.now.0 c.begin-point.new.pass.0 c.args.words.now.0 c.requires.fit c.begin-point.ensures.own (refl, c.near_at-found.ensures.own.1))

pub returns-clause-answered : goal.returns-clause-answered
returns-clause-answered c =
    let v : View = c.args.pass.now.1 in let u : View = c.begin-point.new.pass.1 in let w : View = c.near_at-found.new.pass.1 in
    let b = c.begin-point.ensures.begun in let k = b.0 in let q = c.in_ok-found.ensures.answered k b.2.opens.snapshot in
    let key : u.key ≡ v.key = c.begin-point.ensures.own.1 ∙ sym c.requires.fit.own.1 in
    let made = answered_at v u w k b.2 (query_leaves u w k q.walk _ _ _ q.view (query_same u.accounts _) (let within = b.2.opens.within in let seen = b.2.seen in omega arith)) (not_open v c.requires.free)
    (Near c.args.unit c.args.radius) (Hits c.in_ok-found.field-0.hits) c.requires.fit.one key (ap (λ (z : View). z.accounts) q.view) refl (let within = b.2.opens.within in let places = ap (λ (z : Key). z.sizes.log) key in omega arith)
    (c.requires.radius, subst (λ (z : Key). AreHits (live z.carried (log_at u k)) c.args.unit c.args.radius c.in_ok-found.field-0.hits) key q.exactly) in
    let base = ap (λ (z : Key). z.carried.base) c.requires.fit.own.1 in let at = b.1 in
    told_so c.args.words.now.1 v (unpinned Closes w) c.end.new.pass.1 (Near c.args.unit c.args.radius) k _ _ c.requires.fit.own.1 (ap (λ (y : TableId × View). y.1) c.end.ensures.closed) (omega arith) made

pub returns-clause-fit : goal.returns-clause-fit
returns-clause-fit c =
    let v : View = c.args.pass.now.1 in let u : View = c.begin-point.new.pass.1 in let w : View = c.near_at-found.new.pass.1 in
    let b = c.begin-point.ensures.begun in let k = b.0 in let q = c.in_ok-found.ensures.answered k b.2.opens.snapshot in
    subst (IsFit c.args.words.now) (sym c.end.ensures.closed)
    (fit_after v u w k b.2 (query_leaves u w k q.walk _ _ _ q.view (query_same u.accounts _) (let within = b.2.opens.within in let seen = b.2.seen in omega arith)) (not_open v c.requires.free)
    c.args.words.now c.args.pass.now.0 c.begin-point.new.pass.0 c.args.words.now.0 c.requires.fit c.begin-point.ensures.own (refl, c.near_at-found.ensures.own.1))
