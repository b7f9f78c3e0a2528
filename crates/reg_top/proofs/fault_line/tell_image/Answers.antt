use Rattle.std.proofs.Common.{[], ◌∷◌, ◌++◌, codes, refl, append_assoc}
use Rattle.std.specs.Fmt.{decimal}
use Rattle.std.proofs.lemmas.Bool.{false≢true}
use Rattle.reg_requests.specs.Lines.{line}
use Rattle.reg_top.proofs.Writing.{tells_then, tells_cut}
use Rattle.reg_top.proofs.fault_line.tell_image.Goals as goal

pub returns-in-Err : goal.returns-in-Err
returns-in-Err g c =
    let why = c.image_fault.result.now in
    let rest = codes " at " ++ decimal c.args.fault.at in
    rw (← c.image_fault.ensures, append_assoc why rest (10 ∷ []))
    (tells_cut _ _ _ _ (codes "fault 9 image " ++ why) (line rest) c.in-Err.ensures.takes (c.in-Err.ensures.cause.failed refl))

pub returns : goal.returns
returns g c =
    let why = c.image_fault.result.now in
    let rest = codes " at " ++ decimal c.args.fault.at in
    let told = rw (c.as_bytes.ensures.value, c.format.ensures.text) at c.tell.ensures in
    rw (← c.image_fault.ensures, append_assoc why rest (10 ∷ []))
    (tells_then _ _ _ _ _ _ (codes "fault 9 image " ++ why) (line rest) c.in_default.ensures.takes (c.in_default.ensures.cause.kept false≢true) told)
