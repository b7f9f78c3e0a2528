use Rattle.std.proofs.Common.{◌∙◌}
use Rattle.reg_sweep.proofs.TrialsLimbo.{may_look, may_scan, cutting}
use Rattle.reg_sweep.proofs.tests.limbo.examines.Goals as goal

pub load_stamp-requires-clause-may : goal.load_stamp-requires-clause-may
load_stamp-requires-clause-may c = may_look c.args.pass.now.1 _ c.requires.withdrew (λ j. (c.in_ok-takes_sweep.ensures j).1)

pub scan-requires-clause-may : goal.scan-requires-clause-may
scan-requires-clause-may c =
    may_scan c.args.pass.now.1 _ c.requires.withdrew (λ j. (c.in_ok-takes_sweep.ensures j).1) _ _ c.load_stamp.ensures.told c.if-load_stamp-ne4294967297.false

pub returns-clause-cutting : goal.returns-clause-cutting
returns-clause-cutting c =
    cutting c.args.pass.now.1 _ c.requires.withdrew (λ j. (c.in_ok-takes_sweep.ensures j).1) _ _ c.load_stamp.ensures.told c.if-load_stamp-ne4294967297.false _ (c.load_stamp.ensures.own.1 ∙ c.requires.words) c.in-None.ensures.free
