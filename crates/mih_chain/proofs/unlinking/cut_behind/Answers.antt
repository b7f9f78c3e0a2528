use Rattle.std.proofs.Common.{ℕ, arith, Option, subst}
use Rattle.mih_chain.specs.inner.Ways.{GoesOn}
use Rattle.mih_chain.proofs.Cuts.{follows_more, fewer_ahead, may_cut, cut_at_last}
use Rattle.mih_chain.proofs.unlinking.cut_behind.Goals as goal

pub loop-next-smaller : goal.loop-next-smaller
loop-next-smaller c =
    let f = c.loop-next.invariant.follows in
    let g = subst (λ (r : Option ℕ). GoesOn r c.args.table c.loop-next.at f.ahead c.loop-next.pass.1 c.next_on_way.new.pass.1) c.in-Some.is (c.next_on_way.ensures.goes c.args.behind f.ahead f.on) in
    fewer_ahead c.args.pass.now.1 c.loop-next.pass.1 c.next_on_way.new.pass.1 c.args.table c.args.entry c.loop-next.at c.args.behind f c.in-Some.next g

pub loop-next-preserved : goal.loop-next-preserved
loop-next-preserved c =
    let f = c.loop-next.invariant.follows in
    let g = subst (λ (r : Option ℕ). GoesOn r c.args.table c.loop-next.at f.ahead c.loop-next.pass.1 c.next_on_way.new.pass.1) c.in-Some.is (c.next_on_way.ensures.goes c.args.behind f.ahead f.on) in
    record { own = c.next_on_way.ensures.own; follows = follows_more c.args.pass.now.1 c.loop-next.pass.1 c.next_on_way.new.pass.1 c.args.table c.args.entry c.loop-next.at c.args.behind f c.in-Some.next g }

pub cut_next-requires-clause-may : goal.cut_next-requires-clause-may
cut_next-requires-clause-may c =
    let f = c.loop-next.invariant.follows in
    let g = subst (λ (r : Option ℕ). GoesOn r c.args.table c.loop-next.at f.ahead c.loop-next.pass.1 c.next_on_way.new.pass.1) c.in_default.is (c.next_on_way.ensures.goes c.args.behind f.ahead f.on) in
    may_cut c.args.pass.now.1 c.loop-next.pass.1 c.next_on_way.new.pass.1 c.args.table c.args.entry c.loop-next.at c.args.behind f g _ _ (omega arith) (omega arith)

pub returns-clause-unlinked : goal.returns-clause-unlinked
returns-clause-unlinked c =
    let f = c.loop-next.invariant.follows in
    let g = subst (λ (r : Option ℕ). GoesOn r c.args.table c.loop-next.at f.ahead c.loop-next.pass.1 c.next_on_way.new.pass.1) c.in_default.is (c.next_on_way.ensures.goes c.args.behind f.ahead f.on) in
    cut_at_last c.args.pass.now.1 c.loop-next.pass.1 c.next_on_way.new.pass.1 c.args.table c.args.entry c.loop-next.at c.args.behind f g c.cut_next.new.pass.1 c.cut_next.ensures.told.view
