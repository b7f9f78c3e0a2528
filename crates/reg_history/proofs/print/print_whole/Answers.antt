use Rattle.std.proofs.Common.{◌++◌, ap, length, ◌∙◌}
use Rattle.std.specs.List.{flat_map}
use Rattle.reg_model.specs.Opening.{Opening}
use Rattle.reg_history.specs.History.{carry_line}
use Rattle.reg_history.proofs.print.Pieces.{history_pieces}
use Rattle.reg_history.proofs.print.print_whole.Goals as goal

pub returns-clause-ok : goal.returns-clause-ok
returns-clause-ok c = λ rows are.
    let printed = c.in_ok-rows.ensures.ok rows are in
    history_pieces c.args.carried.now rows c.in_ok-rows.rows (length c.list-2.result.now) c.args.out.now.items c.print_word.new.out.items c.print_carried.new.out.items c.print_rounds.new.out.items
    c.print_end_line.new.out.items c.in_ok-print_word.ensures.ok
    (c.in_ok-print_carried.ensures.ok ∙ ap (λ ds. c.print_word.new.out.items ++ flat_map carry_line ds) c.list.ensures.list)
    printed.text c.in_ok-print_end_line.ensures.ok printed.rows (ap length c.list-2.ensures.list ∙ ap (λ (o : Opening). length o.list) printed.leaves)
