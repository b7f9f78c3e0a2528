use Rattle.std.proofs.Common.{◌≡◌, ◌-◌, ◌^◌, min, List, take}
use Rattle.std.specs.Prelude.{sum_by}
use Rattle.reg_model.specs.declared.reply.Row.{Row}
use Rattle.reg_make.specs.Workloads.{hit_count}
use Rattle.reg_make.proofs.counts.count_hits.Given as goal

abbrev pub invariant-loop-account : goal.invariant-loop-account
invariant-loop-account l = l.count ≡ min (sum_by (λ (account : List Row). sum_by (λ (row : Row). hit_count row.reply) account) (take l.account-index l.account-items)) (2 ^ 64 - 1)
