use Rattle.std.proofs.Common.{◌≡◌, ◌<◌, ℕ, false}
use Rattle.mih_plan.specs.Buckets.{bucket_of, is_probe}
use Rattle.reg_query.proofs.query.Query.lists.Given as goal

abbrev pub invariant-loop-table : goal.invariant-loop-table
invariant-loop-table l = (t : ℕ) → t < l.table → is_probe l.self.unit.body l.self.radius l.self.bits t (bucket_of l.body t l.self.bits) ≡ false
