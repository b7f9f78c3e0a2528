use Rattle.std.proofs.Common.{◌∙◌, ap, map, subst, sym}
use Rattle.std.specs.Prelude.{All}
use Rattle.iscc_header.specs.Unit64s.{IsUnit64}
use Rattle.reg_model.specs.declared.call.Call.TheVariants as calls
use Rattle.reg_requests.proofs.line.read_near.Goals as goal

pub returns-clause-means : goal.returns-clause-means
returns-clause-means c =
    rw c.in-Some.ensures.found (
      c.in_ok-units.units,
      c.in_ok-radius.radius,
      c.in_ok-units.ensures.means,
      c.in_ok-radius.ensures,
      c.near_calls.ensures.calls ∙ ap (map (λ unit. calls.Near unit c.in_ok-radius.radius)) c.as_slice.ensures.value,
    )

pub returns-clause-requests : goal.returns-clause-requests
returns-clause-requests c =
    let valid = subst (All IsUnit64) (sym c.as_slice.ensures.value) c.in_ok-units.ensures.range in
    (c.near_calls.ensures.requests valid c.in_ok-radius.ensures.1, c.near_calls.ensures.few)
