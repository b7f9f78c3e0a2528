use Rattle.std.proofs.Common.{arith}
use Rattle.mih_chain.proofs.WalkSteps.{few_entries}
use Rattle.mih_chain.proofs.Cuts.{next_low, way_ends, way_goes}
use Rattle.mih_chain.proofs.unlinking.next_on_way.Goals as goal

pub overflow_sub-result : goal.overflow_sub-result
overflow_sub-result c = let o = c.requires.on in (next_low c.args.pass.now.1 _ c.args.table c.args.entry c.args.at o.0 _ o.1 o.2 c.load_next-next.ensures.told).0

pub overflow_cast-result : goal.overflow_cast-result
overflow_cast-result c = let o = c.requires.on in let low = (next_low c.args.pass.now.1 _ c.args.table c.args.entry c.args.at o.0 _ o.1 o.2 c.load_next-next.ensures.told).1 in
    let few = few_entries _ _ _ c.callers-range.ensures.range c.sizes.ensures.sizes c.sizes.ensures.entries c.requires.own.1 in let small = c.requires.entry in record { fits = omega arith }

pub returns-then-next-entry-clause-goes : goal.returns-then-next-entry-clause-goes
returns-then-next-entry-clause-goes c = λ behind ahead on. way_ends c.args.pass.now.1 _ c.args.table c.args.entry c.args.at behind _ ahead on c.load_next-next.ensures.told c.if-next-entry.true

pub returns-clause-goes : goal.returns-clause-goes
returns-clause-goes c = λ behind ahead on. way_goes c.args.pass.now.1 _ c.args.table c.args.entry c.args.at behind _ ahead on c.load_next-next.ensures.told c.if-next-entry.false
