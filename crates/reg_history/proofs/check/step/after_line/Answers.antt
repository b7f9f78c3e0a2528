use Rattle.std.proofs.Common.{Ok, ap}
use Rattle.reg_history.proofs.check.CheckedLines.{none_told}
use Rattle.reg_history.proofs.check.CheckedStates.{start_tells, carry_tells, serve_tells}
use Rattle.reg_history.proofs.check.step.after_line.Goals as goal

pub returns-in_default-clause-tells : goal.returns-in_default-clause-tells
returns-in_default-clause-tells c = λ front is behind. none_told c.args.state front c.args.bytes.now behind is c.requires.line (c.in_ok-told.ensures.none (ap (λ told. Ok told) c.in_default.is))

pub returns-in-Start-clause-tells : goal.returns-in-Start-clause-tells
returns-in-Start-clause-tells c = start_tells c.args.state c.in-Some.told _ _ c.in-Start.is (c.in_ok-told.ensures.found c.in-Some.told (ap (λ told. Ok told) c.in-Some.is)) c.start.ensures.tells

pub returns-in-Carrying-clause-tells : goal.returns-in-Carrying-clause-tells
returns-in-Carrying-clause-tells c =
    carry_tells c.args.state c.in-Carrying.carried c.in-Some.told _ _ c.in-Carrying.is (c.in_ok-told.ensures.found c.in-Some.told (ap (λ told. Ok told) c.in-Some.is)) c.carry.ensures.tells

pub returns-clause-tells : goal.returns-clause-tells
returns-clause-tells c =
    serve_tells c.args.state c.in-Serving.serving c.in-Some.told _ _ c.in-Serving.is (c.in_ok-told.ensures.found c.in-Some.told (ap (λ told. Ok told) c.in-Some.is)) c.serve.ensures.tells
