use Rattle.reg_history.proofs.check.CheckedStates.{row_more}
use Rattle.reg_history.proofs.check.step.serve.Goals as goal

pub returns-in-None-clause-tells : goal.returns-in-None-clause-tells
returns-in-None-clause-tells c =
    λ opening ended now serves value. row_more _ _ opening ended now _ _ c.in-Row.is value c.in-None.is (c.in_ok-row-in-Row.ensures.told opening ended now serves)
