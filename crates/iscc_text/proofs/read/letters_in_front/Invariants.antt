use Rattle.std.proofs.Common.{take}
use Rattle.std.specs.List.{AllPass}
use Rattle.iscc_text.specs.Texts.{is_allowed}
use Rattle.iscc_text.proofs.read.letters_in_front.Given as goal

abbrev pub invariant-loop-i : goal.invariant-loop-i
invariant-loop-i l = AllPass is_allowed (take l.i l.text)
