use Rattle.std.proofs.Common.{[], ◌∷◌, ◌++◌, codes, refl, append_assoc}
use Rattle.std.proofs.lemmas.Bool.{false≢true}
use Rattle.reg_requests.specs.Lines.{line}
use Rattle.reg_top.specs.FaultLines.{word_why}
use Rattle.reg_top.proofs.Writing.{tells_then, tells_cut}
use Rattle.reg_top.proofs.fault_line.tell_word.Goals as goal

pub returns-in-Err : goal.returns-in-Err
returns-in-Err g c =
    rw (← c.format.ensures.text, ← c.as_bytes.ensures.value, append_assoc c.as_bytes.result.now (codes " " ++ word_why c.args.why) (10 ∷ []))
    (tells_cut _ _ _ _ (codes "fault 10 word " ++ c.as_bytes.result.now) (line (codes " " ++ word_why c.args.why)) c.in-Err.ensures.takes (c.in-Err.ensures.cause.failed refl))

pub returns : goal.returns
returns g c =
    rw (← c.format.ensures.text, ← c.as_bytes.ensures.value, append_assoc c.as_bytes.result.now (codes " " ++ word_why c.args.why) (10 ∷ []))
    (tells_then _ _ _ _ _ _ (codes "fault 10 word " ++ c.as_bytes.result.now) (line (codes " " ++ word_why c.args.why)) c.in_default.ensures.takes (c.in_default.ensures.cause.kept false≢true) c.tell_word_fault.ensures)
