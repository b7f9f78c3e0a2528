use Rattle.std.proofs.Common.{arith}
use Rattle.reg_model.proofs.Marked.{place_marked, place_above}
use Rattle.reg_model.proofs.leaving.mark_place.Goals as goal

pub returns-then-place-of_places : goal.returns-then-place-of_places
returns-then-place-of_places c = λ log is. place_marked log c.args.base c.args.id _ _ c.requires (omega arith) is

pub returns-else-place-of_places : goal.returns-else-place-of_places
returns-else-place-of_places c = λ log is. place_above log c.args.base c.args.id _ _ (omega arith) is
