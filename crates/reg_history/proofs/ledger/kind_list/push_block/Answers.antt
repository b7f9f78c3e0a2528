use Rattle.std.proofs.Common.{sym, ap, ◌++◌, ◌∙◌}
use Rattle.std.proofs.lemmas.List.{append-nil}
use Rattle.reg_history.proofs.ledger.LiveEntries.{near_hits-none}
use Rattle.reg_history.proofs.ledger.kind_list.push_block.Goals as goal

pub returns-then-count_near-eq0 : goal.returns-then-count_near-eq0
returns-then-count_near-eq0 c =
    let hits = c.args.hits.now.items in
    let none = near_hits-none c.args.unit.now c.args.radius c.args.marks.now c.args.bodies.now (sym c.count_near.ensures ∙ c.if-count_near-eq0.true) in
    sym (ap (λ hs. hits ++ hs) none ∙ append-nil hits)
