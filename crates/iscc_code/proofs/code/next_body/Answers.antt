use Rattle.std.proofs.Common.{arith}
use Rattle.std.proofs.lemmas.List.{take_rest}
use Rattle.std.proofs.lemmas.List.Elements.{All-from_get_or}
use Rattle.iscc_header.specs.Bits.{IsByte}
use Rattle.iscc_code.proofs.BodyBytes.{first_bits-rest}
use Rattle.iscc_code.proofs.code.next_body.Goals as goal

pub returns-clause-whole : goal.returns-clause-whole
returns-clause-whole c = λ kind.
    let bytes = c.args.bytes.now in
    first_bits-rest bytes _ c.first_number.result c.requires (All-from_get_or IsByte bytes 0 (λ k h. omega (arith, c.type_inv.bytes k))) c.first_number.ensures (take_rest bytes 8)
