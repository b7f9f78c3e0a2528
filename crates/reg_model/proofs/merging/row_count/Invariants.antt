use Rattle.std.proofs.Common.{◌≡◌, ◌-◌, ◌^◌, length, take}
use Rattle.std.specs.Prelude.{min}
use Rattle.std.specs.List.{flat_map}
use Rattle.reg_model.proofs.merging.row_count.Given as goal

-- the rows of the accounts that the loop has passed
abbrev pub invariant-loop-account : goal.invariant-loop-account
invariant-loop-account l = l.count ≡ min (length (flat_map (λ account. account) (take l.account-index l.accounts))) (2 ^ 64 - 1)
