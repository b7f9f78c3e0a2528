use Rattle.std.proofs.Common.{◌∙◌, ap, Some, arith}
use Rattle.reg_image.proofs.Listed.{none_read, more_read, first_read, all_read}
use Rattle.reg_image.proofs.OneImage.{told_is}
use Rattle.reg_image.proofs.read.read_declarations.Goals as goal

pub loop-i-init : goal.loop-i-init
loop-i-init c = none_read c.args.base c.args.count c.in_ok-list.list c.args.bytes.now c.in_ok-list.ensures

pub loop-i-preserved : goal.loop-i-preserved
loop-i-preserved c =
    more_read c.args.base c.loop-i.before c.args.count c.loop-i.i c.loop-i.list c.push.new.self c.args.bytes.now c.in-Ok.declared c.loop-i.invariant
    c.in-Ok.ensures.ok c.in-Ok.ensures.sound c.in_ok-push.ensures.ok

pub returns-in-Err-clause-fault : goal.returns-in-Err-clause-fault
returns-in-Err-clause-fault c = λ fault e.
    first_read c.args.base c.loop-i.before c.args.count c.loop-i.i c.loop-i.list c.args.bytes.now fault c.loop-i.invariant c.loop-i-test.true
    (c.in-Err.ensures.err ∙ ap (λ f. Some f) (told_is c.in-Err.fault fault e))

pub returns-clause-list : goal.returns-clause-list
returns-clause-list c = (all_read c.args.base c.loop-i.before c.args.count c.loop-i.i c.loop-i.list c.args.bytes.now c.loop-i.invariant (omega arith)).0

pub returns-clause-sound : goal.returns-clause-sound
returns-clause-sound c = (all_read c.args.base c.loop-i.before c.args.count c.loop-i.i c.loop-i.list c.args.bytes.now c.loop-i.invariant (omega arith)).1
