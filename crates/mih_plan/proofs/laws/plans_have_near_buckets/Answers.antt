use Rattle.mih_plan.specs.Buckets.{probe}
use Rattle.mih_plan.proofs.Ordered.{of_plan}
use Rattle.mih_plan.proofs.Sharing.{in_table, in_plan}
use Rattle.mih_plan.proofs.laws.plans_have_near_buckets.Goals as goal

pub returns : goal.returns
returns c = λ body radius bits table bucket. (
  of_plan body radius bits (probe table bucket),
  λ near. in_plan body radius bits table (probe table bucket) near.0 (in_table body radius bits table bucket near.1 near.2),
)
