use Rattle.reg_history.proofs.print.Pieces.{row_pieces}
use Rattle.reg_history.proofs.print.print_row.Goals as goal

pub returns-clause-ok : goal.returns-clause-ok
returns-clause-ok c =
    row_pieces c.args.row.now _ _ _ _ _ _ _ _ _ c.in_ok-print_word_number.ensures.ok c.in_ok-print_word_number-2.ensures.ok c.in_ok-print_word_number-3.ensures.ok
    c.in_ok-print_word.ensures.ok c.in_ok-print_call.ensures.ok c.in_ok-print_word-2.ensures.ok (rw (← c.kind_of.ensures) c.in_ok-print_reply.ensures.ok) c.in_ok-print_word-3.ensures.ok
