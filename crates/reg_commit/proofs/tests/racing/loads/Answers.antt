use Rattle.std.proofs.Common.{sym, ap, ◌∙◌}
use Rattle.reg_rule.specs.declared.view.View.{View}
use Rattle.reg_rule.specs.Moves.{take_loaded}
use Rattle.reg_commit.proofs.Trials.{may_load_first}
use Rattle.reg_commit.proofs.tests.racing.loads.Goals as goal

pub load_give-requires-clause-may : goal.load_give-requires-clause-may
load_give-requires-clause-may c =
    let v : View = c.args.pass.now.1 in let take = c.load_take in let put = c.load_put in
    may_load_first v _ _ put.result (put.ensures.own.1 ∙ sym c.requires.own.1) c.requires.some
    (take.ensures.told.view ∙ ap (take_loaded v) c.if-load_take-ne0.false) put.ensures.told c.if-load_put-eq0.false
