use Rattle.std.proofs.Common.{◌≡◌, ◌+◌, ◌++◌, ◌∙◌, ap, arith}
use Rattle.iscc_header.specs.Bits.{bits_of}
use Rattle.iscc_header.specs.Headers.{bits_from}
use Rattle.iscc_header.proofs.NumberEncodings.{nibbles_1}
use Rattle.iscc_header.proofs.NumberReading.{ends_at_end, row_reads, row_from_8, row_from_12, row_from_14}
use Rattle.iscc_header.proofs.number.read_number.Goals as goal

pub returns-then-at-bytes : goal.returns-then-at-bytes
returns-then-at-bytes c = ends_at_end c.args.bytes.now c.args.at c.if-at-bytes.true

pub returns-in-0-to-7 : goal.returns-in-0-to-7
returns-in-0-to-7 c = (
  omega arith,
  record {
    encodable = omega arith;
    encoded = c.nibble_at-first.ensures.value ∙ ap (λ bits. bits ++ bits_from c.args.bytes.now (c.args.at + 1)) (nibbles_1 c.nibble_at-first.result (omega arith));
  },
)

pub returns-in-8-to-11 : goal.returns-in-8-to-11
returns-in-8-to-11 c =
    row_reads c.args.bytes.now c.args.at _ _ _ c.read_rest-in-8-to-11.result (row_from_8 c.nibble_at-first.result (omega arith) (omega arith)) c.nibble_at-first.ensures.value (omega arith) c.read_rest-in-8-to-11.ensures

pub returns-in-12-to-13 : goal.returns-in-12-to-13
returns-in-12-to-13 c =
    row_reads c.args.bytes.now c.args.at _ _ _ c.read_rest-in-12-to-13.result (row_from_12 c.nibble_at-first.result (omega arith) (omega arith)) c.nibble_at-first.ensures.value (omega arith) c.read_rest-in-12-to-13.ensures

pub returns-in-14 : goal.returns-in-14
returns-in-14 c =
    row_reads c.args.bytes.now c.args.at _ _ _ c.read_rest.result row_from_14 (c.nibble_at-first.ensures.value ∙ ap (λ n. bits_of 4 n ++ bits_from c.args.bytes.now (c.args.at + 1)) c.in-14.is) (omega arith) c.read_rest.ensures

pub returns-in_default : goal.returns-in_default
unfolding bits_of
returns-in_default c =
    let fifteen : c.nibble_at-first.result ≡ 15 = omega arith in
    record {
      rest = bits_from c.args.bytes.now (c.args.at + 1);
      fifteen = c.nibble_at-first.ensures.value ∙ ap (λ n. bits_of 4 n ++ bits_from c.args.bytes.now (c.args.at + 1)) fifteen;
    }
