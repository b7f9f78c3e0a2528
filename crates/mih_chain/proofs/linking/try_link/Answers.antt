use Rattle.std.proofs.Common.{arith}
use Rattle.std.proofs.lemmas.Bool.{eqb-false}
use Rattle.mih_chain.proofs.Pushes.{may_swap, turn_lost}
use Rattle.mih_chain.proofs.linking.try_link.Goals as goal

pub swap_head-requires-clause-may : goal.swap_head-requires-clause-may
swap_head-requires-clause-may c =
    let h = c.requires.hand in
    may_swap c.args.pass.now.1 c.args.entry h.0 c.args.table c.requires.table h.1 _ _ _ _ _ _ c.load_head-first.ensures.told c.store_next.ensures.told h.2 (omega arith) (omega arith)

pub returns-clause-lost : goal.returns-clause-lost
returns-clause-lost c = λ lost.
    let h = c.requires.hand in
    let other = eqb-false _ _ lost in (
      _,
      turn_lost c.args.pass.now.1 c.args.entry h.0 c.args.table c.requires.table h.1 _ _ _ _ c.load_head-first.ensures.told c.store_next.ensures.told
          (c.swap_head.ensures.told.lost (λ same. other (omega arith))),
    )
