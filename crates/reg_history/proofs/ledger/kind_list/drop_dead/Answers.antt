use Rattle.std.proofs.Common.{rules}
use Rattle.std.proofs.lemmas.List.Elements.{filter_from_retain}
use Rattle.reg_history.specs.inner.LiveSets.{is_live}
use Rattle.reg_history.proofs.ledger.kind_list.drop_dead.Goals as goal

pub returns-clause-marks : goal.returns-clause-marks
returns-clause-marks c = filter_from_retain _ is_live (λ p x b q called. search rules) _ _ _ c.retain.ensures.filtered
