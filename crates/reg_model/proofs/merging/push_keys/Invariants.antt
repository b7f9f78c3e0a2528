use Rattle.std.proofs.Common.{◌≡◌, ◌++◌, map, take}
use Rattle.reg_model.specs.inner.MergeKeys.{row_key}
use Rattle.reg_model.proofs.merging.push_keys.Given as goal

-- the keys of what the loop has passed
abbrev pub invariant-loop-row : goal.invariant-loop-row
invariant-loop-row l = l.keys.items ≡ l.fn.keys.items ++ map row_key (take l.row-index l.rows)
