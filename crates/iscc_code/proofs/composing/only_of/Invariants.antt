use Rattle.std.proofs.Common.{◌≡◌, [], take}
use Rattle.iscc_header.specs.Kinds.{main_number}
use Rattle.iscc_code.specs.Composites.{of_main}
use Rattle.iscc_code.proofs.composing.only_of.Given as goal

-- none so far
abbrev pub invariant-loop-unit : goal.invariant-loop-unit
invariant-loop-unit l = of_main (main_number l.main) (take l.unit-index l.units) ≡ []
