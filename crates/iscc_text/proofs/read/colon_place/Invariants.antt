use Rattle.std.proofs.Common.{take}
use Rattle.std.specs.List.{AllPass}
use Rattle.iscc_text.specs.Texts.{is_no_colon}
use Rattle.iscc_text.proofs.read.colon_place.Given as goal

abbrev pub invariant-loop-i : goal.invariant-loop-i
invariant-loop-i l = AllPass is_no_colon (take l.i l.core)
