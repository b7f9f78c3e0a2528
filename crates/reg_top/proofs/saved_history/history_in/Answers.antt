use Rattle.std.proofs.Common.{◌<◌, ◌+◌, length, take, sym, ◌∙◌, arith}
use Rattle.std.proofs.lemmas.Bool.{true≢false}
use Rattle.std.proofs.lemmas.List.{take_rest}
use Rattle.std.proofs.lemmas.Slice.Eq.{bytes_eq-Decides}
use Rattle.reg_top.specs.SavedHistories.{head}
use Rattle.reg_top.proofs.SavedLines.{EndsAt, passed_more, begins_there, none_last}
use Rattle.reg_top.proofs.saved_history.history_in.Goals as goal

pub returns-then-eq-clause-saved : goal.returns-then-eq-clause-saved
returns-then-eq-clause-saved c =
    let rest = c.loop-rest.rest.now in
    let at = c.line_feed-at.result in
    let some : 0 < length rest = grind arith in
    let line = c.line_feed-at.ensures in
    let ends : EndsAt rest at = record { within = line.within; before = line.before; found = line.found } in
    begins_there c.args.file.now rest at c.loop-rest.invariant ends some ((bytes_eq-Decides (take at rest) head).0 (sym c.eq.ensures ∙ c.if-eq.true))

pub returns-then-at-rest-clause-none : goal.returns-then-at-rest-clause-none
returns-then-at-rest-clause-none c =
    let rest = c.loop-rest.rest.now in
    let at = c.line_feed-at.result in
    let some : 0 < length rest = grind arith in
    let line = c.line_feed-at.ensures in
    let ends : EndsAt rest at = record { within = line.within; before = line.before; found = line.found } in
    none_last c.args.file.now rest at c.loop-rest.invariant ends some c.if-at-rest.true
    (λ is. true≢false (sym ((bytes_eq-Decides (take at rest) head).1 is) ∙ sym c.eq.ensures ∙ c.if-eq.false))

pub loop-rest-preserved : goal.loop-rest-preserved
loop-rest-preserved c =
    let rest = c.loop-rest.rest.now in
    let at = c.line_feed-at.result in
    let line = c.line_feed-at.ensures in
    let within : at < length rest = grind (arith, c.if-at-rest.false, line.within) in
    let ends : EndsAt rest at = record { within = line.within; before = line.before; found = line.found } in
    rw (take_rest rest (at + 1))
    (passed_more c.args.file.now rest at c.loop-rest.invariant ends within
    (λ is. true≢false (sym ((bytes_eq-Decides (take at rest) head).1 is) ∙ sym c.eq.ensures ∙ c.if-eq.false)))
