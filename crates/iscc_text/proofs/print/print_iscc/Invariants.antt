use Rattle.iscc_text.proofs.PrintedLetters.{PrintsSoFar}
use Rattle.iscc_text.proofs.print.print_iscc.Given as goal

-- the letters so far
abbrev pub invariant-loop-i : goal.invariant-loop-i
invariant-loop-i l = PrintsSoFar l.bytes l.i l.text.bytes
