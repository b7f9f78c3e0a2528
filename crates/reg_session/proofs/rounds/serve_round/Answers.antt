use Rattle.std.proofs.Common.{map, refl, sym, ◌∙◌, ap, subst}
use Rattle.std.specs.List.{range_with_len}
use Rattle.std.proofs.lemmas.List.{length-map}
use Rattle.reg_model.specs.declared.round.Round.{Round}
use Rattle.reg_model.specs.Limits.{Limits}
use Rattle.reg_session.specs.Sessions.{ServesRound}
use Rattle.reg_session.proofs.RoundSteps.{all_ended, all_numbered, round_served, seal_kept}
use Rattle.reg_session.proofs.rounds.serve_round.Goals as goal

pub end_round-requires-clause-ended : goal.end_round-requires-clause-ended
end_round-requires-clause-ended g c κs within =
    let desk = g.D.Desk in
    all_ended (desk.limits c.args.desk) (desk.opening c.args.desk) (map (λ list. list.items) c.args.calls.now) (map desk.pass_view c.in_ok-passes.passes.items) c.in_ok-passes.accounts c.in_ok-passes.ensures.served

pub end_round-requires-clause-numbers : goal.end_round-requires-clause-numbers
end_round-requires-clause-numbers g c κs within =
    let desk = g.D.Desk in
    all_numbered (desk.limits c.args.desk) (desk.opening c.args.desk) (map (λ list. list.items) c.args.calls.now) (map desk.pass_view c.in_ok-passes.passes.items) c.in_ok-passes.accounts c.in_ok-passes.ensures.served
    ∙ ap (range_with_len 0) (length-map c.args.calls.now (λ list. list.items) ∙ (c.requires.lists ∙ sym (ap (λ (l : Limits). l.callers) c.requires.desk)))

pub returns-clause-served : goal.returns-clause-served
returns-clause-served g c =
    let desk = g.D.Desk in
    let closed = c.in_ok-closed.closed in
    let round : Round = record { base = closed.base; sizes = c.args.sizes.now; accounts = c.in_ok-passes.accounts; carried = closed.carried } in
    subst (λ (limits : Limits). ServesRound limits (desk.opening c.args.desk) (map (λ list. list.items) c.args.calls.now) round) c.requires.desk
    (round_served (desk.limits c.args.desk) (desk.opening c.args.desk) (map (λ list. list.items) c.args.calls.now) (map desk.pass_view c.in_ok-passes.passes.items) closed round
    c.in_ok-passes.ensures.served c.in_ok-closed.ensures.closed (sym c.requires.desk) refl refl)

pub returns-clause-seal : goal.returns-clause-seal
returns-clause-seal g c =
    let desk = g.D.Desk in
    c.in_ok-closed.ensures.seal
    ∙ seal_kept (desk.limits c.args.desk) (desk.opening c.args.desk) (map (λ list. list.items) c.args.calls.now) (map desk.pass_view c.in_ok-passes.passes.items) c.in_ok-passes.accounts c.in_ok-passes.ensures.served
