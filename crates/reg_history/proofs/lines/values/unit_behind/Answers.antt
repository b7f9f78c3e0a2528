use Rattle.reg_history.proofs.lines.ValueReading.{unit_value, unit_read}
use Rattle.reg_history.proofs.lines.values.unit_behind.Goals as goal

pub returns-clause-reads : goal.returns-clause-reads
returns-clause-reads c = λ unit rest h low text.
    let parts = c.value_behind.ensures.reads _ rest (unit_value unit) low text in
    let read = c.read_printed.ensures in
    (unit_read c.read_printed.result _ _ unit c.value_behind.result.0.now read.found read.range read.none c.unwrap_or_default.ensures h parts.0, parts.1)
