use Rattle.std.proofs.Common.{◌≡◌, ◌∷◌, ◌++◌, take}
use Rattle.std.specs.List.{flat_map}
use Rattle.reg_history.specs.lines.HistoryLines.{told_hit_text}
use Rattle.reg_history.proofs.lines.print_line.print_told_hits.Given as goal

-- the hits that the loop has passed, with a space before each
abbrev pub invariant-loop-hit : goal.invariant-loop-hit
invariant-loop-hit l = l.out.items ≡ l.initial.out.items ++ flat_map (λ hit. 32 ∷ told_hit_text hit) (take l.hit-index l.hits)
