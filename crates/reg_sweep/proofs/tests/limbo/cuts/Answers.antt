use Rattle.reg_sweep.proofs.TrialsLimbo.{may_cut, cut_more}
use Rattle.reg_sweep.proofs.tests.limbo.cuts.Goals as goal

pub unlink-requires-clause-may : goal.unlink-requires-clause-may
unlink-requires-clause-may c = may_cut c.args.table c.args.pass.now.1 c.requires.cutting c.args.bucket c.requires.table c.requires.bucket

pub returns-clause-cutting : goal.returns-clause-cutting
returns-clause-cutting c = cut_more c.args.table c.args.pass.now.1 c.requires.cutting _ c.unlink.ensures.unlinked
