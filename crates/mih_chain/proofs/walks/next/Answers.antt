use Rattle.std.proofs.Common.{arith}
use Rattle.mih_chain.proofs.WalkSteps.{few_entries, ends, named, next_entry, next_ends, next_is}
use Rattle.mih_chain.proofs.walks.next.Goals as goal

pub entry_of-requires : goal.entry_of-requires
entry_of-requires c = λ some. let k = c.requires.cursor in let e = next_entry c.args.table c.args.entry c.args.pass.now.1 _ _ k.0 k.1 c.load_next.ensures.told some in let few = few_entries _ _ _ c.callers-range.ensures.range c.sizes.ensures.sizes c.sizes.ensures.entries c.requires.own.1 in let low = e.2 in (e.0, e.1, omega arith)

pub returns-clause-none : goal.returns-clause-none
returns-clause-none c = ends c.entry_of.result c.load_next.result _ c.entry_of.ensures.none (λ zero.
    let k = c.requires.cursor in let h = next_ends c.args.table c.args.entry c.args.pass.now.1 _ _ k.0 k.1 c.load_next.ensures.told zero in
    (λ j. (c.load_next.ensures.own.0 j, h.0 j), λ d has. (next_ends c.args.table c.args.entry c.args.pass.now.1 _ _ d has c.load_next.ensures.told zero).1))

pub returns-clause-some : goal.returns-clause-some
returns-clause-some c = named c.entry_of.result c.load_next.result _ c.entry_of.ensures.some (λ e is.
    let k = c.requires.cursor in let h = next_is c.args.table c.args.entry c.args.pass.now.1 _ _ k.0 k.1 c.load_next.ensures.told e is in
    (h.0, λ d has. (let g = next_is c.args.table c.args.entry c.args.pass.now.1 _ _ d has c.load_next.ensures.told e is in λ j. (c.load_next.ensures.own.0 j, g.1 j)), h.2))
