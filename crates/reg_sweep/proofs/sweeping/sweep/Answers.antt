use Rattle.std.proofs.Common.{◌*◌, sym, subst, arith}
use Rattle.reg_words.specs.declared.word.SweepWord.{SweepWord}
use Rattle.reg_sweep.specs.inner.Turns.{Stops}
use Rattle.reg_sweep.proofs.Arrives.{arrived, starts_at}
use Rattle.reg_sweep.proofs.Leaves.{has_swept, stopped_first, first_given, of_seized, turned_on}
use Rattle.reg_sweep.proofs.sweeping.sweep.Goals as goal

pub returns-then-not-word-clause-swept : goal.returns-then-not-word-clause-swept
returns-then-not-word-clause-swept c = λ other.
    let seized = c.in-Some.ensures.taken in let at = arrived c.seize.new.pass.1 c.front.new.pass.1 _ c.in-Some.word (of_seized c.args.pass.now.1 c.seize.new.pass.1 c.in-Some.word seized) c.front.ensures.found in
    has_swept c.args.limit 0 0 c.args.pass.now.1 c.seize.new.pass.1 c.front.new.pass.1 c.go_on.new.pass.1 c.in-Some.word c.go_on.result c.requires.free seized at.going (omega arith) c.go_on.ensures.left

pub go_on-requires-in-None-clause-given : goal.go_on-requires-in-None-clause-given
go_on-requires-in-None-clause-given c = let turn = c.in-None.ensures.given in first_given c.resume.new.pass.1.log c.in-Some.word.place turn.2.0 turn.2.1 turn.2.2

pub returns-in-None-clause-swept : goal.returns-in-None-clause-swept
returns-in-None-clause-swept c = λ other.
    let seized = c.in-Some.ensures.taken in let at = arrived c.seize.new.pass.1 c.front.new.pass.1 _ c.in-Some.word (of_seized c.args.pass.now.1 c.seize.new.pass.1 c.in-Some.word seized) c.front.ensures.found in
    has_swept c.args.limit 1 (2 * c.args.pass.now.1.key.sizes.callers) c.args.pass.now.1 c.seize.new.pass.1 c.resume.new.pass.1 c.go_on-in-None.new.pass.1 c.in-Some.word c.go_on-in-None.result c.requires.free seized
    (turned_on c.args.pass.now.1 c.seize.new.pass.1 c.front.new.pass.1 c.resume.new.pass.1 c.in-Some.word seized at.going c.in-None.ensures.given.0) (omega arith) c.go_on-in-None.ensures.left

pub returns-in-Some-resume-clause-swept : goal.returns-in-Some-resume-clause-swept
returns-in-Some-resume-clause-swept c = λ other.
    let seized = c.in-Some.ensures.taken in let at = arrived c.seize.new.pass.1 c.front.new.pass.1 _ c.in-Some.word (of_seized c.args.pass.now.1 c.seize.new.pass.1 c.in-Some.word seized) c.front.ensures.found in
    has_swept c.args.limit 0 0 c.args.pass.now.1 c.seize.new.pass.1 c.front.new.pass.1 c.leave.new.pass.1 c.in-Some.word c.leave.result c.requires.free seized at.going (omega arith)
    (stopped_first c.args.limit c.in-Some.word.place c.front.new.pass.1 c.resume.new.pass.1 c.leave.new.pass.1 c.in_limbo-rest.result c.in-Some-resume.why c.leave.result c.requires.limit at.seen at.fresh
    (subst (λ (r : SweepWord). Stops c.in-Some.word.place c.front.new.pass.1 r c.in-Some-resume.why c.resume.new.pass.1) (sym c.in_limbo-rest.ensures) c.in-Some-resume.ensures.stopped) c.leave.ensures.swept c.leave.ensures.view)

pub go_on-requires-clause-at : goal.go_on-requires-clause-at
go_on-requires-clause-at c =
    let seized = c.in-Some.ensures.taken in
    starts_at c.in-Some.word c.seize.new.pass.1 c.front.new.pass.1 (arrived c.seize.new.pass.1 c.front.new.pass.1 _ c.in-Some.word (of_seized c.args.pass.now.1 c.seize.new.pass.1 c.in-Some.word seized) c.front.ensures.found) c.if-not-word.true
