use Rattle.std.proofs.Common.{◌≡◌, ◌∷◌, ◌++◌, ◌∙◌, ap, take}
use Rattle.std.specs.List.{flat_map}
use Rattle.std.proofs.lemmas.List.{take_all}
use Rattle.reg_history.specs.lines.HistoryLines.{told_hit_text}
use Rattle.reg_history.proofs.print.Pieces.{told_hits_pieces}
use Rattle.reg_history.proofs.lines.print_line.print_told_hits.Goals as goal

pub returns : goal.returns
returns c =
    let hits = c.args.hits.now in
    let all : take c.loop-hit.hit-index hits ≡ hits = take_all c.loop-hit.hit-index hits c.loop-hit-test.false in
    told_hits_pieces hits _ _ _ c.in_ok-print_word_number.ensures.ok
    (c.loop-hit.invariant ∙ ap (λ hs. c.print_word_number.new.out.items ++ flat_map (λ hit. 32 ∷ told_hit_text hit) hs) all)
