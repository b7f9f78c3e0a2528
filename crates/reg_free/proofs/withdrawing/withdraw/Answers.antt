use Rattle.reg_free.proofs.Withdraws.{begins, ends}
use Rattle.reg_free.proofs.withdrawing.withdraw.Goals as goal

pub ending-answer-requires : goal.ending-answer-requires
ending-answer-requires c = record { ready = begins c.args.words.now c.args.pass.now c.pin.new.pass c.requires.fit c.requires.free c.pin.ensures }

pub returns-clause-fit : goal.returns-clause-fit
returns-clause-fit c = ends c.args.words.now c.ending-answer.new.pass c.unpin.new.pass c.ending-answer.ensures.ready c.ending-answer.ensures.complete c.unpin.ensures
