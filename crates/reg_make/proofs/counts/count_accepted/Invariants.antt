use Rattle.std.proofs.Common.{◌≡◌, ◌-◌, ◌^◌, min, List, take}
use Rattle.std.specs.Prelude.{sum_by, count_by}
use Rattle.reg_model.specs.declared.reply.Row.{Row}
use Rattle.reg_model.specs.Rows.{is_accepted}
use Rattle.reg_make.proofs.counts.count_accepted.Given as goal

abbrev pub invariant-loop-account : goal.invariant-loop-account
invariant-loop-account l = l.count ≡ min (sum_by (λ (account : List Row). count_by is_accepted account) (take l.account-index l.account-items)) (2 ^ 64 - 1)
