use Rattle.std.proofs.Common.{refl}
use Rattle.iscc_text.proofs.PrintedLetters.{five_of_two}
use Rattle.iscc_text.proofs.print.digit_at.Goals as goal

pub returns-clause-bits : goal.returns-clause-bits
returns-clause-bits c =
    five_of_two c.args.bytes.now c.args.i c.byte_or_zero.result _ c.requires.within c.byte_or_zero.ensures.inside c.byte_or_zero.ensures.past c.byte_or_zero.ensures.byte refl
