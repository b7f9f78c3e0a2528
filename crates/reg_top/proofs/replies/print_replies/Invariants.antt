use Rattle.std.proofs.Common.{◌≡◌, ◌++◌, drop}
use Rattle.reg_top.specs.commands.Run.{item_lines}
use Rattle.reg_top.proofs.replies.print_replies.Given as goal

-- what is printed so far, with the lines of the items that are left, is all of it
abbrev pub invariant-loop-item : goal.invariant-loop-item
invariant-loop-item l =
    l.out.items ++ item_lines (drop l.item-index l.items) l.rest
    ≡ l.initial.out.items ++ item_lines l.items l.rows
