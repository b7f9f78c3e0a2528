use Rattle.std.proofs.Common.{◌≤◌, ◌∙◌, ap, ap₂, arith, length}
use Rattle.iscc_header.specs.Bits.{bits_of}
use Rattle.iscc_code.specs.Units.{UnitParts, first_bits}
use Rattle.iscc_code.proofs.BodyBytes.{first_bits-bits}
use Rattle.iscc_code.proofs.unit.Unit.first64.Goals as goal

pub returns-clause-found : goal.returns-clause-found
returns-clause-found c =
    let long : 8 ≤ length c.args.self.now.body = omega (arith, ap length c.body-body.ensures.value) in (
      ap (λ (p : UnitParts). p.kind) c.self.view_is,
      ap (bits_of 64) (c.first_number.ensures ∙ ap first_bits c.body-body.ensures.value)
          ∙ first_bits-bits c.args.self.now.body long c.body-body.ensures.range.bytes,
    )

pub returns-clause-value : goal.returns-clause-value
returns-clause-value c =
    ap₂ (λ kind body. record { kind = kind; body = body }) (ap (λ (p : UnitParts). p.kind) c.self.view_is)
    (c.first_number.ensures ∙ ap first_bits c.body-body.ensures.value)
