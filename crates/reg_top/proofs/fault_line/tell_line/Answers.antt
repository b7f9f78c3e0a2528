use Rattle.std.proofs.Common.{◌≡◌, [], ◌∷◌, ◌++◌, codes, refl, ◌∙◌, ap, append_assoc, arith}
use Rattle.std.specs.Fmt.{decimal}
use Rattle.std.proofs.lemmas.Bool.{false≢true}
use Rattle.reg_requests.specs.Lines.{line}
use Rattle.reg_top.specs.FaultLines.{line_why}
use Rattle.reg_top.proofs.Writing.{tells_then, tells_cut}
use Rattle.reg_top.proofs.fault_line.tell_line.Goals as goal

pub returns-in-Err : goal.returns-in-Err
returns-in-Err g c =
    let text : c.format.result.now ≡ decimal c.args.fault.line = c.format.ensures.text ∙ ap decimal (omega arith) in
    rw (← text, ← c.as_bytes.ensures.value, append_assoc c.as_bytes.result.now (codes " " ++ line_why c.args.fault.why) (10 ∷ []))
    (tells_cut _ _ _ _ (codes "fault 10 line " ++ c.as_bytes.result.now) (line (codes " " ++ line_why c.args.fault.why)) c.in-Err.ensures.takes (c.in-Err.ensures.cause.failed refl))

pub returns : goal.returns
returns g c =
    let told = rw c.line_fault.ensures at c.tell.ensures in
    let text : c.format.result.now ≡ decimal c.args.fault.line = c.format.ensures.text ∙ ap decimal (omega arith) in
    rw (← text, ← c.as_bytes.ensures.value, append_assoc c.as_bytes.result.now (codes " " ++ line_why c.args.fault.why) (10 ∷ []))
    (tells_then _ _ _ _ _ _ (codes "fault 10 line " ++ c.as_bytes.result.now) (line (codes " " ++ line_why c.args.fault.why)) c.in_default.ensures.takes (c.in_default.ensures.cause.kept false≢true) told)
