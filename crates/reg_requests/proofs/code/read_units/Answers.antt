use Rattle.reg_requests.proofs.code.read_units.Goals as goal

pub returns-in_default-clause-means : goal.returns-in_default-clause-means
returns-in_default-clause-means c = λ iscc stands. absurd (let taken = c.in_default.ensures.complete iscc stands in cc)
