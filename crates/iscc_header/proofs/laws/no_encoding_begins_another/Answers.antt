use Rattle.std.proofs.Common.{◌++◌, sym, ◌∙◌, ap}
use Rattle.iscc_header.specs.Headers.{number_bits}
use Rattle.iscc_header.proofs.NumberEncodings.{same_number}
use Rattle.iscc_header.proofs.laws.no_encoding_begins_another.Goals as goal

pub returns : goal.returns
returns c = λ m n a b x y s t e.
    let same = same_number m n x y s.encodable t.encodable (sym (ap (λ front. front ++ x) s.encoded) ∙ e ∙ ap (λ front. front ++ y) t.encoded) in
    (same.0, s.encoded ∙ ap number_bits same.0 ∙ sym t.encoded)
