use Rattle.std.proofs.Common.{rules}
use Rattle.reg_free.proofs.Declares.{answers_full, fit_full, goes_on, rests_on}
use Rattle.reg_free.proofs.declaring.declare.Goals as goal

pub returns-then-place-log-clause-answered : goal.returns-then-place-log-clause-answered
returns-then-place-log-clause-answered g c = answers_full c.args.words.now c.args.unit c.front-place.result c.args.pass.now c.front-place.new.pass c.requires.fit c.requires.free c.front-place.ensures.found c.front-place.ensures.own c.full_log.result (search rules) c.full_log.ensures

pub returns-then-place-log-clause-fit : goal.returns-then-place-log-clause-fit
returns-then-place-log-clause-fit g c = fit_full c.args.words.now c.args.unit c.front-place.result c.args.pass.now c.front-place.new.pass c.requires.fit c.requires.free c.front-place.ensures.found c.front-place.ensures.own (search rules)

pub enter-requires-clause-rests : goal.enter-requires-clause-rests
enter-requires-clause-rests g c = let r = goes_on c.args.words.now c.args.unit c.front-place.result c.args.pass.now c.front-place.new.pass c.requires.fit c.requires.free c.front-place.ensures.found c.front-place.ensures.own (search rules) in
    let e = c.in-Ok.ensures.entry in rests_on c.args.words.now c.front-place.new.pass c.entry_for.new.pass r e.between c.entry_for.ensures.own e.seen e.pin

pub refuse-requires-clause-rests : goal.refuse-requires-clause-rests
refuse-requires-clause-rests g c = let r = goes_on c.args.words.now c.args.unit c.front-place.result c.args.pass.now c.front-place.new.pass c.requires.fit c.requires.free c.front-place.ensures.found c.front-place.ensures.own (search rules) in
    let e = c.in-Err.ensures.none in rests_on c.args.words.now c.front-place.new.pass c.entry_for.new.pass r e.between c.entry_for.ensures.own e.seen e.pin
