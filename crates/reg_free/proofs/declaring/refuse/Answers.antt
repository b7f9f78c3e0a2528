use Rattle.std.proofs.Common.{rules, ◌≤◌, ◌+◌, length}
use Rattle.reg_free.proofs.Refusing.{refusal_told, refusal_fits}
use Rattle.reg_free.proofs.declaring.refuse.Goals as goal

pub returns-clause-answered : goal.returns-clause-answered
returns-clause-answered c =
    let own = c.requires.rests.own.1 in
    let least : c.args.words.now.1.sizes.entries ≤ c.args.taken + length c.args.words.now.1.carried.list = search rules in
    refusal_told c.args.words.now.1 c.args.pass.now.1 c.refused_at-place.new.pass.1 c.args.unit.now c.args.taken c.refused_at-place.result _ _
    own c.requires.rests.one c.requires.rests.unopened c.requires.empty c.refused_at-place.ensures.refused (search rules) (search rules)

pub returns-clause-fit : goal.returns-clause-fit
returns-clause-fit c = refusal_fits c.args.words.now c.args.pass.now c.refused_at-place.new.pass c.args.unit.now c.refused_at-place.result c.requires.rests c.requires.none c.refused_at-place.ensures.own c.refused_at-place.ensures.refused
