use Rattle.std.proofs.Common.{◌≡◌, ◌-◌, ◌^◌, min, take}
use Rattle.std.specs.Prelude.{sum_by}
use Rattle.reg_model.specs.declared.reply.Row.{Row}
use Rattle.reg_make.specs.Workloads.{hit_count}
use Rattle.reg_make.proofs.counts.hits_of_rows.Given as goal

abbrev pub invariant-loop-row : goal.invariant-loop-row
invariant-loop-row l = l.count ≡ min (sum_by (λ (row : Row). hit_count row.reply) (take l.row-index l.rows)) (2 ^ 64 - 1)
