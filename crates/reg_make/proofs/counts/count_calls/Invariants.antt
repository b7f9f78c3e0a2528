use Rattle.std.proofs.Common.{◌≡◌, ◌-◌, ◌^◌, min, List, length, take}
use Rattle.std.specs.Prelude.{sum_by}
use Rattle.reg_model.specs.declared.reply.Row.{Row}
use Rattle.reg_make.proofs.counts.count_calls.Given as goal

abbrev pub invariant-loop-account : goal.invariant-loop-account
invariant-loop-account l = l.count ≡ min (sum_by (λ (account : List Row). length account) (take l.account-index l.account-items)) (2 ^ 64 - 1)
