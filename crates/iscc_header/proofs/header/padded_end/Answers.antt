use Rattle.std.proofs.Common.{◌≡◌, ◌+◌, sym, ◌∙◌, ap, take, arith}
use Rattle.std.proofs.lemmas.List.{take_at}
use Rattle.iscc_header.specs.Bits.{bits_of}
use Rattle.iscc_header.specs.Headers.{bits_from}
use Rattle.iscc_header.proofs.BitLists.{length-bits_of, same_from_bits_of}
use Rattle.iscc_header.proofs.header.padded_end.Goals as goal

pub returns-else-nibble_at-eq0-clause-none : goal.returns-else-nibble_at-eq0-clause-none
returns-else-nibble_at-eq0-clause-none c =
    let nibble = c.nibble_at.result in
    let rest = bits_from c.args.bytes.now (c.args.at + 1) in (
      omega arith,
      λ zeros.
          let same : bits_of 4 nibble ≡ bits_of 4 0 =
          sym (take_at (bits_of 4 nibble) rest 4 (length-bits_of 4 nibble)) ∙ ap (take 4) (sym c.nibble_at.ensures.value) ∙ zeros in
          let none : nibble ≡ 0 = same_from_bits_of 4 nibble 0 c.nibble_at.ensures.small (omega arith) same in
          absurd (omega arith),
    )
