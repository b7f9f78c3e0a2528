use Rattle.std.proofs.Common.{rules}
use Rattle.std.proofs.lemmas.List.Sorted.{answers_always}
use Rattle.reg_history.specs.declared.ledger.kind_list.Mark.{Mark}
use Rattle.reg_history.proofs.ledger.LiveEntries.{searched, live_at, nowhere-dead}
use Rattle.reg_history.proofs.ledger.kind_list.place_of.Goals as goal

pub returns-in_err-place-clause-none : goal.returns-in_err-place-clause-none
returns-in_err-place-clause-none c =
    let facts = c.binary_search_by_key.ensures in
    let by_id = facts.position (λ (m : Mark). m.id) (answers_always _ _ _ (λ f a r g called. search rules)) in
    let search_end = searched c.args.id c.args.marks.now c.requires _ facts.bound by_id in
    let none = rw (← c.in_err-place.ensures.value) at search_end in
    rw c.from_residual.ensures none.absent

pub returns-then-marks-place-clause-found : goal.returns-then-marks-place-clause-found
returns-then-marks-place-clause-found c =
    let facts = c.binary_search_by_key.ensures in
    let by_id = facts.position (λ (m : Mark). m.id) (answers_always _ _ _ (λ f a r g called. search rules)) in
    let search_end = searched c.args.id c.args.marks.now c.requires _ facts.bound by_id in
    let there = rw (← c.in_ok-place.ensures.value) at search_end in
    live_at c.args.id c.in_ok-place.place c.args.marks.now _ there.found.0 (there.found.1 _) c.if-marks-place.true

pub returns-else-marks-place-clause-none : goal.returns-else-marks-place-clause-none
returns-else-marks-place-clause-none c =
    let facts = c.binary_search_by_key.ensures in
    let by_id = facts.position (λ (m : Mark). m.id) (answers_always _ _ _ (λ f a r g called. search rules)) in
    let search_end = searched c.args.id c.args.marks.now c.requires _ facts.bound by_id in
    let there = rw (← c.in_ok-place.ensures.value) at search_end in
    nowhere-dead c.args.id c.in_ok-place.place 0 c.args.marks.now _ c.requires there.found.0 (there.found.1 _) c.if-marks-place.false
