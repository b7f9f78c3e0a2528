use Rattle.std.proofs.Common.{[], ◌∷◌, refl, append_assoc}
use Rattle.std.proofs.lemmas.Bool.{false≢true}
use Rattle.reg_requests.specs.Lines.{line}
use Rattle.reg_top.proofs.Writing.{tells_then, tells_cut}
use Rattle.reg_top.proofs.fault_line.tell.Goals as goal

pub returns-in-Err : goal.returns-in-Err
returns-in-Err g c =
    rw (append_assoc c.args.front.now c.args.rest.now (10 ∷ []))
    (tells_cut _ _ _ _ c.args.front.now (line c.args.rest.now) c.in-Err.ensures.takes (c.in-Err.ensures.cause.failed refl))

pub returns : goal.returns
returns g c =
    rw (append_assoc c.args.front.now c.args.rest.now (10 ∷ []))
    (tells_then _ _ _ _ _ _ c.args.front.now (line c.args.rest.now) c.in_default.ensures.takes (c.in_default.ensures.cause.kept false≢true) c.tell_rest.ensures)
