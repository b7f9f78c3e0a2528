use Rattle.std.proofs.Common.{List, ◌∙◌, sym, subst, map}
use Rattle.std.proofs.lemmas.Option.{same_Some}
use Rattle.reg_model.specs.declared.call.Call.{Call}
use Rattle.reg_session.specs.Sessions.{MayBeMade, HasMade}
use Rattle.reg_session.proofs.RoundSteps.{list_at, may_be_made}
use Rattle.reg_session.proofs.rounds.serve_seat.Goals as goal

pub serve-requires-clause-calls : goal.serve-requires-clause-calls
serve-requires-clause-calls g c κs within =
    let lists = c.args.calls.now in
    let list = c.index-calls-number.result in
    subst MayBeMade (sym c.as_slice-calls.ensures.value)
    (may_be_made (map (λ l. l.items) lists) c.args.seat.number list.items c.requires.calls (list_at (λ l. l.items) lists c.args.seat.number list c.requires.seat.low c.index-calls-number.is))

pub returns : goal.returns
returns g c =
    let desk = g.D.Desk in
    let lists = c.args.calls.now in
    let list = c.index-calls-number.result in
    let listed = list_at (λ l. l.items) lists c.args.seat.number list c.requires.seat.low c.index-calls-number.is in
    record {
      own = c.in_ok-rows.ensures.fit;
      made = λ calls at. subst (λ (made : List Call). HasMade (desk.limits c.args.desk.now) (desk.opening c.args.desk.now) c.args.seat.number made (desk.pass_view c.serve.new.pass))
          (c.as_slice-calls.ensures.value ∙ same_Some list.items calls (sym listed ∙ at)) c.in_ok-rows.ensures.made;
      rows = c.in_ok-rows.ensures.rows;
    }
