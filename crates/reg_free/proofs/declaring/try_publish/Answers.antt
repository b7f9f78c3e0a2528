use Rattle.std.proofs.Common.{◌∙◌, sym, rules}
use Rattle.reg_free.proofs.Publishing.{IsReady, ready, full_published, lost_place, record_placed, of_error, of_value}
use Rattle.reg_free.proofs.declaring.try_publish.Goals as goal

pub returns-then-place-log-clause-answered : goal.returns-then-place-log-clause-answered
returns-then-place-log-clause-answered c =
    full_published c.args.words.now c.args.unit.now c.args.entry _ c.args.pass.now c.unpin.new.pass c.front-place.new.pass.1 c.full_log.result c.requires.linked c.front-place.ensures.found (search rules) c.unpin.ensures c.full_log.ensures

pub returns-then-is_err-clause-lost : goal.returns-then-is_err-clause-lost
returns-then-is_err-clause-lost c = let l = c.requires.linked in
    let lost = of_error c.commit.result _ (sym c.is_err.ensures.value ∙ c.if-is_err.true) c.commit.ensures.lost in
    let r : IsReady c.args.pass.now.1 c.help_below.new.pass.1 c.front-place.result = ready c.args.pass.now.1 c.front-place.new.pass.1 c.help_below.new.pass.1 c.args.unit.now c.front-place.result c.front-place.ensures.found l.unopened l.unheld l.pinned (search rules) c.help_below.ensures.helped in
    lost_place c.args.words.now c.args.unit.now c.args.entry c.front-place.result c.args.pass.now c.commit.new.pass c.help_below.new.pass.1 lost.1.1.0 l r c.commit.ensures.seen lost.1.1.2

pub returns-clause-answered : goal.returns-clause-answered
returns-clause-answered c = let l = c.requires.linked in
    let won = of_value c.commit.result _ (sym c.is_err.ensures.value ∙ c.if-is_err.false) c.commit.ensures.won in
    let r : IsReady c.args.pass.now.1 c.help_below.new.pass.1 c.front-place.result = ready c.args.pass.now.1 c.front-place.new.pass.1 c.help_below.new.pass.1 c.args.unit.now c.front-place.result c.front-place.ensures.found l.unopened l.unheld l.pinned (search rules) c.help_below.ensures.helped in
    record_placed c.args.words.now c.args.unit.now c.args.entry c.front-place.result c.base.result c.args.pass.now c.commit.new.pass c.help.new.pass c.unpin-2.new.pass c.help_below.new.pass.1 c.help.ensures.helped.0 l r c.commit.ensures.rows (search rules) won.1 c.help.ensures.helped.2 c.unpin-2.ensures
