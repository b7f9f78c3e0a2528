use Rattle.reg_history.proofs.print.Pieces.{told_pieces}
use Rattle.reg_history.proofs.lines.print_line.print_told_row.Goals as goal

pub returns : goal.returns
returns c =
    told_pieces c.args.row.now _ _ _ _ _ _ _ _ _ c.in_ok-print_word_number.ensures.ok c.in_ok-print_word_number-2.ensures.ok c.in_ok-print_word_number-3.ensures.ok
    c.in_ok-print_word.ensures.ok c.in_ok-print_call.ensures.ok c.in_ok-print_word-2.ensures.ok c.in_ok-print_told_reply.ensures c.in_ok-print_word-3.ensures.ok
