use Rattle.std.proofs.Common.{sym, subst, arith}
use Rattle.iscc_code.specs.Codes.{EncodesIscc}
use Rattle.iscc_text.specs.PrintedTexts.{IsPrintedText}
use Rattle.iscc_text.proofs.PrintedLetters.{prints_more, prints_all}
use Rattle.iscc_text.proofs.PrintedStands.{printed_stands}
use Rattle.iscc_text.proofs.print.print_iscc.Goals as goal

pub loop-i-preserved : goal.loop-i-preserved
loop-i-preserved c =
    prints_more c.as_slice-bytes.result.now c.loop-i.text.bytes c.push_letter.new.text.bytes c.loop-i.i c.digit_at.result c.loop-i.invariant c.digit_at.ensures.range c.digit_at.ensures.bits c.push_letter.ensures

pub returns : goal.returns
returns c =
    let bytes = c.as_slice-bytes.result.now in
    let printed : IsPrintedText c.args.iscc.now c.loop-i.text.bytes = record {
      encoding = bytes;
      encoded = subst (EncodesIscc c.args.iscc.now) (sym c.as_slice-bytes.ensures.value) c.encode-bytes.ensures;
      same = prints_all bytes c.loop-i.text.bytes c.loop-i.i (omega arith) c.loop-i.invariant;
    } in
    record { printed = printed; stands = printed_stands c.args.iscc.now c.loop-i.text.bytes printed }
