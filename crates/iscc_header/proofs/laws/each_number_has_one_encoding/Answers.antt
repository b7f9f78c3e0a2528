use Rattle.std.proofs.Common.{refl}
use Rattle.iscc_header.specs.Headers.{number_bits}
use Rattle.iscc_header.proofs.laws.each_number_has_one_encoding.Goals as goal

pub returns : goal.returns
returns c = λ n h. (number_bits n, record { encodable = h; encoded = refl }, λ other s. s.encoded)
