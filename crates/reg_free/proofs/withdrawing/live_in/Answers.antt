use Rattle.std.proofs.Common.{ℕ, inl, ap, arith}
use Rattle.reg_rule.specs.declared.view.View.{View}
use Rattle.reg_free.proofs.Finding.{found_there}
use Rattle.reg_free.proofs.Ending.{some_grown, still_at}
use Rattle.reg_free.proofs.withdrawing.live_in.Goals as goal

pub returns-clause-live : goal.returns-clause-live
returns-clause-live c =
    let v : View = c.args.pass.now.1 in let at = c.requires.at in let st = c.load_stamp.ensures.told in let k : ℕ = c.args.place in let last = at.last in
    found_there v c.load_stamp.new.pass.1 k c.args.id c.args.entry st.stamp c.is_live.result at.opening c.requires.entry (omega arith) at.front at.complete
    (st.shows k (inl at.front) at.complete) (ap (λ (z : View). z.found) st.view.2) (c.is_live.ensures st.stamp st.bits st.word)

pub returns-clause-at : goal.returns-clause-at
returns-clause-at c =
    let v : View = c.args.pass.now.1 in let at = c.requires.at in let st = c.load_stamp.ensures.told in
    still_at c.args.words.now c.args.place c.args.pass.now c.load_stamp.new.pass _ _ _ _ at c.load_stamp.ensures.own (some_grown v.accounts _ at.ready.one) st.view.2
