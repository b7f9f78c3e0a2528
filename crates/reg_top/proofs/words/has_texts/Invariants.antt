use Rattle.std.proofs.Common.{take, drop}
use Rattle.std.specs.Prelude.{All}
use Rattle.reg_top.specs.Words.{IsValue}
use Rattle.reg_top.proofs.words.has_texts.Given as goal

-- the texts so far are values
abbrev pub invariant-loop-at : goal.invariant-loop-at
invariant-loop-at l = All IsValue (take l.at (drop 1 l.words))
