use Rattle.std.proofs.Common.{◌≡◌, ◌++◌, take}
use Rattle.std.specs.List.{flat_map}
use Rattle.reg_history.specs.History.{carry_line}
use Rattle.reg_history.proofs.print.print_carried.Given as goal

-- the lines of the declarations that the loop has passed
abbrev pub invariant-loop-declared : goal.invariant-loop-declared
invariant-loop-declared l = l.out.items ≡ l.initial.out.items ++ flat_map carry_line (take l.declared-index l.list)
