use Rattle.std.proofs.Common.{take}
use Rattle.std.specs.List.{AllPass}
use Rattle.iscc_text.specs.Texts.{is_blank}
use Rattle.reg_requests.proofs.words.blanks_in_front.Given as goal

abbrev pub invariant-loop-i : goal.invariant-loop-i
invariant-loop-i l = AllPass is_blank (take l.i l.text)
