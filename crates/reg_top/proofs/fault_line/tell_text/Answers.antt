use Rattle.std.proofs.Common.{◌++◌, codes, refl}
use Rattle.std.proofs.lemmas.Bool.{false≢true}
use Rattle.reg_requests.specs.Lines.{line}
use Rattle.reg_top.specs.FaultLines.{text_why}
use Rattle.reg_top.proofs.Writing.{tells_then, tells_cut}
use Rattle.reg_top.proofs.fault_line.tell_text.Goals as goal

pub returns-in-Err : goal.returns-in-Err
returns-in-Err g c =
    tells_cut _ _ _ _ (codes "fault 10 text") (line (codes " " ++ text_why c.args.fault)) c.in-Err.ensures.takes (c.in-Err.ensures.cause.failed refl)

pub returns : goal.returns
returns g c =
    tells_then _ _ _ _ _ _ (codes "fault 10 text") (line (codes " " ++ text_why c.args.fault)) c.in_default.ensures.takes (c.in_default.ensures.cause.kept false≢true) c.tell_text_fault.ensures
