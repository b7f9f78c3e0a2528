use Rattle.std.proofs.Common.{◌∙◌, map, ap, subst, sym}
use Rattle.std.specs.Prelude.{All}
use Rattle.std.proofs.lemmas.List.{take_all}
use Rattle.std.proofs.lemmas.List.Elements.{All-map}
use Rattle.reg_model.specs.declared.call.Call.TheVariants as calls
use Rattle.reg_model.specs.Calls.{IsRequest}
use Rattle.reg_requests.proofs.line.declare_calls.Goals as goal

pub returns-clause-requests : goal.returns-clause-requests
returns-clause-requests c =
    let units = c.args.units.now in
    let all = c.loop-unit.invariant ∙ ap (map calls.Declare) (take_all c.loop-unit.unit-index units c.loop-unit-test.false) in
    λ valid. subst (All IsRequest) (sym all) (All-map IsRequest calls.Declare units valid)
