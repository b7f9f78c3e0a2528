use Rattle.std.proofs.Common.{◌∙◌, sym}
use Rattle.iscc_text.proofs.OneUnit.{same_unit}
use Rattle.reg_history.proofs.lines.HitReading.{hit_parts, hit_is}
use Rattle.reg_history.proofs.lines.told_reply.hit_in_front.Goals as goal

pub returns-in_err-unit-clause-reads : goal.returns-in_err-unit-clause-reads
returns-in_err-unit-clause-reads c = λ hit rest h low text.
    let parts = hit_parts hit c.args.text.now _ _ rest _ _ _ _ h low text c.number_behind-id.ensures.reads c.number_behind-distance.ensures.reads c.value_behind.ensures.reads in
    let letters = parts.1 in
    absurd (c.in_err-unit.ensures.none hit.unit h.unit letters.0)

pub returns-clause-reads : goal.returns-clause-reads
returns-clause-reads c = λ hit rest h low text.
    let parts = hit_parts hit c.args.text.now _ _ rest _ _ _ _ h low text c.number_behind-id.ensures.reads c.number_behind-distance.ensures.reads c.value_behind.ensures.reads in
    let numbers = parts.0 in
    let letters = parts.1 in
    let unit = same_unit c.in_ok-unit.unit hit.unit c.in_ok-unit.ensures.range h.unit (sym c.in_ok-unit.ensures.found ∙ letters.0) in
    (hit_is hit _ _ _ numbers.0 numbers.1 unit, letters.1)
