use Rattle.std.proofs.Common.{arith}
use Rattle.reg_rule.proofs.TrialsSwept.{may_scan_limbo, scanned_pinned}
use Rattle.reg_rule.proofs.tests.unlinking.finds_pinned.Goals as goal

pub load_pin-requires-clause-may : goal.load_pin-requires-clause-may
load_pin-requires-clause-may c = may_scan_limbo c.args.pass.now.1 c.requires.key c.requires.log 1 (omega arith) c.requires.holding

pub returns : goal.returns
returns c =
    let called = c.load_pin.ensures in
    let view = scanned_pinned c.args.pass.now.1 _ _ c.requires.holding called.told c.if-load_pin-ne1.false in
    λ x. (called.own.0 x, view x)
