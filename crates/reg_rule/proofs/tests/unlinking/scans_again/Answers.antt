use Rattle.reg_rule.proofs.TrialsSwept.{may_scan_limbo, scanned_limbo}
use Rattle.reg_rule.proofs.tests.unlinking.scans_again.Goals as goal

pub load_pin-requires-clause-may : goal.load_pin-requires-clause-may
load_pin-requires-clause-may c = may_scan_limbo c.args.pass.now.1 c.requires.key c.requires.log c.args.seat c.requires.seat c.requires.holding

pub returns : goal.returns
returns c =
    let called = c.load_pin.ensures in
    let view = scanned_limbo c.args.pass.now.1 _ c.args.seat _ c.requires.holding called.told c.if-load_pin-ne0.false in
    λ x. (called.own.0 x, view x)
