use Rattle.std.proofs.Common.{take, drop}
use Rattle.std.specs.List.{AllZip}
use Rattle.reg_top.specs.commands.Compose.{IsTextOf}
use Rattle.reg_top.proofs.commands.compose.read_units.Given as goal

-- the texts so far are read
abbrev pub invariant-loop-at : goal.invariant-loop-at
invariant-loop-at l = AllZip IsTextOf (take l.at (drop 1 l.words)) l.units.items
