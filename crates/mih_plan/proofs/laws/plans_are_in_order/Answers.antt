use Rattle.mih_plan.proofs.Ordered.{plan_in_order}
use Rattle.mih_plan.proofs.laws.plans_are_in_order.Goals as goal

pub returns : goal.returns
returns c = plan_in_order
