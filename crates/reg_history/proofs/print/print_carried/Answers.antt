use Rattle.std.proofs.Common.{Result, Ok, Err}
use Rattle.std.specs.Result.{OnErr}
use Rattle.reg_history.proofs.print.Pieces.{grows_more}
use Rattle.reg_history.proofs.print.print_carried.Goals as goal

held : {A E : Type 0} (r : Result A E) (P : Type 0) → P → OnErr r P
held (Ok a) P p = tt
held (Err e) P p = p

pub returns-in_err-print_declared-clause-err : goal.returns-in_err-print_declared-clause-err
returns-in_err-print_declared-clause-err c = held c.from_residual.result _ (grows_more _ _ _ (_, c.loop-declared.invariant) c.in_err-print_declared.ensures.err)
