use Rattle.std.proofs.Common.{◌++◌, [], ◌∷◌, get_or, refl, sym, ◌∙◌, ap, arith, lit<}
use Rattle.iscc_header.specs.Bits.{bits_of}
use Rattle.iscc_header.specs.Headers.{number_bits}
use Rattle.iscc_header.proofs.HeaderSteps.{encodings_more}
use Rattle.iscc_header.proofs.header.encode_header.Goals as goal

pub loop-number-init : goal.loop-number-init
unfolding bits_of
loop-number-init c = record { encoded = refl; fits = lit< tt; count = omega arith }

pub loop-number-preserved : goal.loop-number-preserved
loop-number-preserved c =
    let h = c.header.inside in
    let all = h.main ∷ h.sub ∷ h.version ∷ h.len ∷ [] in
    let i = c.loop-number.number-index in
    record {
      encoded = c.joined-bits.ensures.bits ∙ ap (λ b. b ++ number_bits (get_or all i 0)) c.loop-number.invariant.encoded ∙ sym (encodings_more all i (omega arith));
      fits = c.joined-bits.ensures.fits;
      count = omega (arith, c.joined-bits.ensures.count, c.loop-number.invariant.count);
    }
