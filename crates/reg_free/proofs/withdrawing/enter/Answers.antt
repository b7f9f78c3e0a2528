use Rattle.std.proofs.Common.{take, ap, ◌∙◌, sym, arith}
use Rattle.reg_model.specs.Limits.{Limits}
use Rattle.reg_model.specs.Opening.{Opening}
use Rattle.reg_rule.specs.declared.view.Key.{Key}
use Rattle.reg_free.proofs.Finding.{declared_below, length_take}
use Rattle.reg_free.proofs.Withdraws.{lost_ready, entered_turn}
use Rattle.reg_free.proofs.withdrawing.enter.Goals as goal

pub commit-requires-clause-fits : goal.commit-requires-clause-fits
commit-requires-clause-fits c =
    let at = c.requires.at in let v = c.args.pass.now.1 in let d = c.requires.entry in let last = at.last in let key = at.ready.own.1 in
    let low = declared_below v.key.carried (take c.args.place v.log) c.args.id c.args.entry d.1.0 at.opening d.1.1 in let len = length_take v.log c.args.place (omega arith) in
    let ids = at.seen.ids in let room = c.requires.room in let inside = d.0 in
    let entries = ap (λ (z : Key). z.entries) key in let most = c.sizes.ensures.entries in let range = c.entries-entries.ensures.range.entries in let sizes = ap (λ (z : Limits). z.entries) c.sizes.ensures.sizes in
    (omega arith, omega arith)

pub returns-in_default-clause-ready : goal.returns-in_default-clause-ready
returns-in_default-clause-ready c = let lost = c.in_default.ensures.lost in
    lost_ready c.args.words.now c.args.id c.args.place c.args.entry c.args.pass.now c.commit.new.pass c.requires.at c.requires.room lost.1.0 lost.1.2

pub returns-clause-turn : goal.returns-clause-turn
returns-clause-turn c = let help = c.help.ensures.helped in
    let base = c.base.ensures ∙ (ap (λ (o : Opening). o.base) c.carried.ensures.carried ∙ sym (ap (λ (z : Key). z.carried.base) c.requires.at.ready.own.1)) in
    entered_turn c.args.words.now c.args.id c.args.place c.args.entry c.args.pass.now c.commit.new.pass c.requires.at c.requires.room c.in-Ok.ensures.won c.help.new.pass help.0 help.2 _ (omega arith) c.requires.live
