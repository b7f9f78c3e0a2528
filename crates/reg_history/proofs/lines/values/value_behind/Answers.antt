use Rattle.reg_history.proofs.lines.ValueReading.{value_parts}
use Rattle.reg_history.proofs.lines.values.value_behind.Goals as goal

pub returns-clause-reads : goal.returns-clause-reads
returns-clause-reads c = λ value rest is low text.
    let len = c.value_len.ensures in
    value_parts c.behind-text.result.now value rest _ _ c.value_len.result is low (c.behind-text.ensures.reads _ text) len.within len.inside len.ends
    c.split_at.ensures.front c.split_at.ensures.back
