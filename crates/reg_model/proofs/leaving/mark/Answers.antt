use Rattle.std.proofs.Common.{arith}
use Rattle.reg_model.proofs.Marked.{place_below, carried_marked, carried_above, carried_absent}
use Rattle.reg_model.proofs.leaving.mark.Goals as goal

pub returns-then-id-base-clause-of_carried : goal.returns-then-id-base-clause-of_carried
returns-then-id-base-clause-of_carried c = λ log is. rw c.in-Wd.is (carried_above log c.args.base c.in-Wd.id _ _ c.requires.opening (omega arith) is)

pub returns-in-Some-clause-of_carried : goal.returns-in-Some-clause-of_carried
returns-in-Some-clause-of_carried c = λ log is. rw c.in-Wd.is (carried_marked log c.args.base c.in-Wd.id c.in-Some.place _ _ c.requires.opening c.in-Some.ensures.found is)

pub returns-in-Some-clause-of_places : goal.returns-in-Some-clause-of_places
returns-in-Some-clause-of_places c = λ log is. rw c.in-Wd.is (place_below log c.args.base c.in-Wd.id _ _ (omega arith) is)

pub returns-in_default-place_of-clause-of_carried : goal.returns-in_default-place_of-clause-of_carried
returns-in_default-place_of-clause-of_carried c = λ log is. rw c.in-Wd.is (carried_absent log c.in-Wd.id _ _ c.in_default-place_of.ensures.none is)

pub returns-in_default-place_of-clause-of_places : goal.returns-in_default-place_of-clause-of_places
returns-in_default-place_of-clause-of_places c = λ log is. rw c.in-Wd.is (place_below log c.args.base c.in-Wd.id _ _ (omega arith) is)
