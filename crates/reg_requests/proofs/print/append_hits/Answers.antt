use Rattle.std.proofs.Common.{◌≡◌, ◌∷◌, ◌++◌, ◌∙◌, ap, take}
use Rattle.std.specs.List.{flat_map}
use Rattle.std.proofs.lemmas.List.{take_all}
use Rattle.reg_requests.specs.Lines.{hit_text}
use Rattle.reg_requests.proofs.Texts.{hits_pieces}
use Rattle.reg_requests.proofs.print.append_hits.Goals as goal

pub returns-clause-ok : goal.returns-clause-ok
returns-clause-ok c =
    let hits = c.args.hits.now in
    let all : take c.loop-hit.hit-index hits ≡ hits = take_all c.loop-hit.hit-index hits c.loop-hit-test.false in
    hits_pieces c.args.kind hits _ _ _ c.in_ok-append_number.ensures.ok
    (c.loop-hit.invariant ∙ ap (λ hs. c.append_number.new.out.items ++ flat_map (λ hit. 32 ∷ hit_text c.args.kind hit) hs) all)
