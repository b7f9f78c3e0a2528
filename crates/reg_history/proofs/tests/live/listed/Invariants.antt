use Rattle.std.proofs.Common.{◌<◌}
use Rattle.std.specs.Prelude.{All}
use Rattle.reg_model.specs.declared.update.Declared.{Declared}
use Rattle.reg_model.specs.Opening.{IsRising}
use Rattle.reg_history.proofs.tests.live.listed.Given as goal

-- the ids are those before the next
abbrev pub invariant-loop-id : goal.invariant-loop-id
invariant-loop-id l = IsRising l.list.items × All (λ (d : Declared). d.id < l.id) l.list.items
