use Rattle.std.proofs.Common.{arith}
use Rattle.reg_top.specs.inner.RunWords.{argument_of, read_of}
use Rattle.reg_top.proofs.RunWordsPlans.{argument_read, none_stands, argument_refused}
use Rattle.reg_top.proofs.run_words.read_behind.Goals as goal

pub loop-at-preserved : goal.loop-at-preserved
loop-at-preserved c =
    argument_read c.args.words.now c.loop-at.at (read_of c.loop-at.reading) (read_of c.take.new.self) (argument_of c.in_ok-said.said) c.in_ok-said.count c.loop-at.invariant c.in_ok-said.ensures.found
    (c.take.ensures.taken c.if-not-take.false) (c.take.ensures.fits c.if-not-take.false)

pub returns-in_err-said-clause-none : goal.returns-in_err-said-clause-none
returns-in_err-said-clause-none c =
    rw c.from_residual.ensures (none_stands c.args.words.now c.loop-at.at (read_of c.loop-at.reading) c.loop-at.invariant (omega arith) c.in_err-said.ensures.none)

pub returns-then-not-take-clause-none : goal.returns-then-not-take-clause-none
returns-then-not-take-clause-none c =
    argument_refused c.args.words.now c.loop-at.at (read_of c.loop-at.reading) (argument_of c.in_ok-said.said) c.in_ok-said.count c.loop-at.invariant c.in_ok-said.ensures.found
    (c.take.ensures.refused c.if-not-take.true)
