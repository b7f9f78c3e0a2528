use Rattle.std.proofs.Common.{[], ◌∷◌, ◌++◌, codes, refl, append_assoc}
use Rattle.std.specs.Fmt.{decimal}
use Rattle.std.proofs.lemmas.Bool.{false≢true}
use Rattle.reg_requests.specs.Lines.{line}
use Rattle.reg_top.proofs.Writing.{tells_then, tells_cut}
use Rattle.reg_top.proofs.fault_line.tell_spent.Goals as goal

pub returns-in-Err : goal.returns-in-Err
returns-in-Err g c =
    let rest = codes " base " ++ (decimal c.args.base ++ (codes " log " ++ decimal c.args.log)) in
    rw (append_assoc (decimal c.args.round) rest (10 ∷ []))
    (tells_cut _ _ _ _ (codes "fault 11 round " ++ decimal c.args.round) (line rest) c.in-Err.ensures.takes (c.in-Err.ensures.cause.failed refl))

pub returns-in-Err-write_number : goal.returns-in-Err-write_number
returns-in-Err-write_number g c =
    let last = codes " log " ++ decimal c.args.log in
    let rest = codes " base " ++ (decimal c.args.base ++ last) in
    let cut = tells_cut _ _ _ _ (codes " base " ++ decimal c.args.base) (line last) c.in-Err-write_number.ensures.takes (c.in-Err-write_number.ensures.cause.failed refl) in
    rw (append_assoc (decimal c.args.round) rest (10 ∷ []), append_assoc (decimal c.args.base) last (10 ∷ []))
    (tells_then _ _ _ _ _ _ (codes "fault 11 round " ++ decimal c.args.round) ((codes " base " ++ decimal c.args.base) ++ line last) c.in_default.ensures.takes (c.in_default.ensures.cause.kept false≢true) cut)

pub returns : goal.returns
returns g c =
    let last = codes " log " ++ decimal c.args.log in
    let rest = codes " base " ++ (decimal c.args.base ++ last) in
    let told = rw (c.as_bytes.ensures.value, c.format.ensures.text) at c.tell.ensures in
    let more = tells_then _ _ _ _ _ _ (codes " base " ++ decimal c.args.base) (line last) c.in_default-write_number.ensures.takes (c.in_default-write_number.ensures.cause.kept false≢true) told in
    rw (append_assoc (decimal c.args.round) rest (10 ∷ []), append_assoc (decimal c.args.base) last (10 ∷ []))
    (tells_then _ _ _ _ _ _ (codes "fault 11 round " ++ decimal c.args.round) ((codes " base " ++ decimal c.args.base) ++ line last) c.in_default.ensures.takes (c.in_default.ensures.cause.kept false≢true) more)
