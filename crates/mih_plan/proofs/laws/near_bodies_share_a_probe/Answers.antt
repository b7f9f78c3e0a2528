use Rattle.mih_plan.proofs.Sharing.{both_meet}
use Rattle.mih_plan.proofs.laws.near_bodies_share_a_probe.Goals as goal

pub returns : goal.returns
returns c = both_meet
