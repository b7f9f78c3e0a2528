use Rattle.std.proofs.Common.{◌∙◌, ap}
use Rattle.std.specs.Int.{w64, from_be_bytes}
use Rattle.iscc_code.specs.Units.{first_bits}
use Rattle.iscc_code.proofs.unit.first_number.Goals as goal

pub returns : goal.returns
unfolding first_bits
returns c = c.from_be_bytes.ensures ∙ ap (from_be_bytes w64) c.in-Some.ensures.cases.same
