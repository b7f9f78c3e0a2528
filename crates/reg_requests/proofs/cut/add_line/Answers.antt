use Rattle.std.proofs.Common.{◌++◌, map, ◌∙◌, ap}
use Rattle.std.proofs.lemmas.Result.{on_ok_weaker}
use Rattle.reg_requests.specs.declared.items.Item.TheVariants.{Call}
use Rattle.reg_requests.proofs.FileItems.{adds_calls}
use Rattle.reg_requests.proofs.cut.add_line.Goals as goal

pub returns-in-Calls : goal.returns-in-Calls
returns-in-Calls c =
    let list = c.in-Calls.calls in
    let read = c.read_line.ensures in
    let is = c.in-Calls.is in
    on_ok_weaker c.add_calls.result
    (λ added.
    adds_calls c.args.line.now c.args.items.now c.add_calls.new.items list ((read.calls list).0 is) (read.requests list is) (read.few list is)
    (added ∙ ap (λ calls. c.args.items.now ++ map Call calls) c.as_slice.ensures.value))
    c.add_calls.ensures
