use Rattle.std.proofs.Common.{◌≡◌, map, take}
use Rattle.std.specs.List.{flat_map}
use Rattle.reg_model.specs.inner.MergeKeys.{row_key}
use Rattle.reg_model.proofs.merging.unsorted_keys.Given as goal

-- the keys of the accounts that the loop has passed
abbrev pub invariant-loop-account : goal.invariant-loop-account
invariant-loop-account l = l.keys.items ≡ map row_key (flat_map (λ account. account) (take l.account-index l.accounts))
