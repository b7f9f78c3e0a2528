use Rattle.std.proofs.Common.{◌≡◌, ◌++◌, take}
use Rattle.std.specs.List.{flat_map, filter_map}
use Rattle.reg_model.specs.Merge.{row_at}
use Rattle.reg_history.specs.History.{row_line}
use Rattle.reg_history.proofs.print.print_rows.Given as goal

-- the lines of the rows whose places the loop has passed
abbrev pub invariant-loop-place : goal.invariant-loop-place
invariant-loop-place l = l.out.items ≡ l.initial.out.items ++ flat_map row_line (filter_map (row_at l.accounts) (take l.place-index l.order))
