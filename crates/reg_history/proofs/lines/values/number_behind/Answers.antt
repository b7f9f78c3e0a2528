use Rattle.std.proofs.Common.{◌∙◌}
use Rattle.reg_history.proofs.lines.ValueReading.{decimal_value, number_read}
use Rattle.reg_history.proofs.lines.values.number_behind.Goals as goal

pub returns-clause-reads : goal.returns-clause-reads
returns-clause-reads c = λ n rest h low text.
    let parts = c.value_behind.ensures.reads _ rest (decimal_value n) low text in
    let read = c.read_number.ensures in
    (c.unwrap_or.ensures ∙ number_read c.read_number.result n c.value_behind.result.0.now read.value read.none h parts.0, parts.1)
