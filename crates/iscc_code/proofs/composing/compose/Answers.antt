use Rattle.iscc_code.proofs.Composed.{composes_exactly, composes_found}
use Rattle.iscc_code.proofs.composing.compose.Goals as goal

pub returns-clause-found : goal.returns-clause-found
returns-clause-found c = composes_found c.args.units.now c.composed.result c.composed.ensures

pub returns-clause-fault : goal.returns-clause-fault
returns-clause-fault c = λ fault. composes_exactly c.args.units.now c.composed.result fault c.composed.ensures
