use Rattle.std.proofs.Common.{subst}
use Rattle.reg_model.specs.inner.Current.{IsCurrent}
use Rattle.reg_model.proofs.LiveSteps.{current_opening}
use Rattle.reg_model.proofs.plain.Plain.carry.Goals as goal

pub from_list-requires : goal.from_list-requires
from_list-requires c =
    let current = subst (λ r. IsCurrent r c.self.inside.live.items c.self.inside.withdrawn) c.self.view_is c.self.invariant.0 in
    rw (c.from_vec.ensures, c.in_ok-list.ensures.items, c.deref.ensures.value) (current_opening _ _ _ c.point.result current c.point.ensures.value)
