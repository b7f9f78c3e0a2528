use Rattle.std.proofs.Common.{◌≡◌, ℕ, Option, Some, sym, ◌∙◌, subst}
use Rattle.iscc_header.specs.declared.unit.Unit64.{Unit64}
use Rattle.reg_rule.specs.declared.view.View.{View}
use Rattle.reg_query.specs.Snapshots.{IsOpenAt, ShownAt}
use Rattle.reg_query.proofs.Looking.{some_is}
use Rattle.reg_query.proofs.Shown.{shown_nowhere, shown_dead, shown_live, declared_low}
use Rattle.reg_query.proofs.showing.show_at.Goals as goal

opens_at : (v : View) (k : ℕ) → (n : ℕ) × IsOpenAt v n → v.snapshot ≡ Some k → IsOpenAt v k
opens_at v k o at = subst (IsOpenAt v) (some_is o.0 k (sym o.1.snapshot ∙ at)) o.1

pub returns-in_err-entry-clause-shown : goal.returns-in_err-entry-clause-shown
returns-in_err-entry-clause-shown c = λ k at. let v : View = c.args.pass.now.1 in let place = c.snapshot_place-place in let same = some_is place.result k (sym place.ensures.place ∙ at) in
    subst (λ (n : ℕ). ShownAt c.args.told v n c.args.id c.from_residual.result c.declared_in.new.pass.1) same
    (subst (λ (u : Option Unit64). ShownAt c.args.told v place.result c.args.id u c.declared_in.new.pass.1) (sym c.from_residual.ensures)
    (shown_nowhere v place.result c.args.id c.args.told c.requires.telling (opens_at v place.result c.requires.opens place.ensures.place) place.ensures.opening c.declared_in.new.pass.1 c.in_err-entry.ensures.moved c.in_err-entry.ensures.entry))

pub live_kind-requires-clause-declared : goal.live_kind-requires-clause-declared
live_kind-requires-clause-declared c = let v : View = c.args.pass.now.1 in let place = c.snapshot_place-place in
    declared_low v place.result c.args.id c.args.told c.requires.telling (opens_at v place.result c.requires.opens place.ensures.place) place.ensures.opening c.declared_in.new.pass.1 c.in_ok-entry.ensures.moved c.in_ok-entry.entry c.in_ok-entry.ensures.entry

pub returns-in_err-kind-clause-shown : goal.returns-in_err-kind-clause-shown
returns-in_err-kind-clause-shown c = λ k at. let v : View = c.args.pass.now.1 in let place = c.snapshot_place-place in let same = some_is place.result k (sym place.ensures.place ∙ at) in
    subst (λ (n : ℕ). ShownAt c.args.told v n c.args.id c.from_residual-in_err-kind.result c.live_kind.new.pass.1) same
    (subst (λ (u : Option Unit64). ShownAt c.args.told v place.result c.args.id u c.live_kind.new.pass.1) (sym c.from_residual-in_err-kind.ensures)
    (shown_dead v place.result c.args.id c.args.told c.requires.telling (opens_at v place.result c.requires.opens place.ensures.place) place.ensures.opening c.declared_in.new.pass.1 c.in_ok-entry.ensures.moved c.in_ok-entry.entry c.in_ok-entry.ensures.entry c.live_kind.new.pass.1 c.in_err-kind.ensures.moved c.in_err-kind.ensures.kind))

pub returns-clause-shown : goal.returns-clause-shown
returns-clause-shown c = λ k at. let v : View = c.args.pass.now.1 in let place = c.snapshot_place-place in let same = some_is place.result k (sym place.ensures.place ∙ at) in
    subst (λ (n : ℕ). ShownAt c.args.told v n c.args.id (Some (record { kind = c.in_ok-kind.kind; body = c.load_code-body.result })) c.load_code-body.new.pass.1) same
    (shown_live v place.result c.args.id c.args.told c.requires.telling (opens_at v place.result c.requires.opens place.ensures.place) place.ensures.opening c.declared_in.new.pass.1 c.in_ok-entry.ensures.moved c.in_ok-entry.entry c.in_ok-entry.ensures.entry c.live_kind.new.pass.1 c.in_ok-kind.ensures.moved
    c.in_ok-kind.kind c.load_code-body.result c.load_code-body.new.pass.1 c.in_ok-kind.ensures.kind c.load_code-body.ensures.told)
