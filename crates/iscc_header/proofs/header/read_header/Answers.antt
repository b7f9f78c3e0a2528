use Rattle.std.proofs.Common.{◌≡◌, ◌*◌, ◌%◌, length, arith}
use Rattle.std.specs.List.{flat_map}
use Rattle.std.proofs.lemmas.List.Elements.{All-from_get_or}
use Rattle.iscc_header.specs.Bits.{bits_of, byte_bits, IsByte}
use Rattle.iscc_header.specs.Headers.{number_bits, bits_from}
use Rattle.iscc_header.proofs.HeaderReading.{in_order}
use Rattle.iscc_header.proofs.HeaderSteps.{all_read, header_at, IsHeader-read, header_read, length_numbers}
use Rattle.iscc_header.proofs.header.read_header.Goals as goal

pub returns-in_default : goal.returns-in_default
unfolding bits_of
returns-in_default c =
    let bytes = c.args.bytes.now in
    let at = c.loop-i.at in
    let all = in_order (header_at c.loop-i.numbers) in
    let read = all_read (byte_bits bytes) c.loop-i.numbers (bits_from bytes at) c.loop-i.i c.loop-i.invariant.four (omega arith) c.loop-i.invariant.read in
    let len : length (flat_map number_bits all) ≡ 4 * at = length_numbers bytes all at c.loop-i.invariant.within read in
    let odd : at % 2 ≡ 1 = c.in_default.ensures.none.0 in
    record {
      all = all;
      rest = bits_from bytes at;
      four = omega arith;
      numbers = read;
      odd = omega arith;
      other = c.in_default.ensures.none.1;
    }

pub returns : goal.returns
returns c =
    let bytes = c.args.bytes.now in
    let at = c.loop-i.at in
    let read = all_read (byte_bits bytes) c.loop-i.numbers (bits_from bytes at) c.loop-i.i c.loop-i.invariant.four (omega arith) c.loop-i.invariant.read in
    (c.in-Some.ensures.within, header_read bytes (header_at c.loop-i.numbers) at c.in-Some.end (All-from_get_or IsByte bytes 0 (λ k h. omega (arith, c.type_inv.bytes k))) (IsHeader-read (byte_bits bytes) c.loop-i.numbers (bits_from bytes at) read) c.loop-i.invariant.within read c.in-Some.ensures.found)
