use Rattle.std.proofs.Common.{subst}
use Rattle.reg_model.specs.inner.Current.{IsCurrent}
use Rattle.reg_model.proofs.LiveSteps.{current_opening}
use Rattle.reg_model.proofs.plain.Plain.into_parts.Goals as goal

pub from_list-carried-requires : goal.from_list-carried-requires
from_list-carried-requires c =
    let current = subst (λ r. IsCurrent r c.self.inside.live.items c.self.inside.withdrawn) c.self.view_is c.self.invariant.0 in
    rw c.from_vec.ensures (current_opening _ _ _ c.point-base.result current c.point-base.ensures.value)
