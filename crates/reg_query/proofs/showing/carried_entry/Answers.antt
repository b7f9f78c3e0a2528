use Rattle.std.proofs.Common.{rules, ◌∙◌, ap, sym, subst}
use Rattle.std.proofs.lemmas.List.Sorted.{answers_always}
use Rattle.reg_model.specs.Opening.{Opening, IsRising}
use Rattle.reg_model.specs.declared.update.Declared.{Declared}
use Rattle.reg_model.proofs.Rising.{searched}
use Rattle.reg_query.proofs.Shown.{found_there, found_nowhere}
use Rattle.reg_query.proofs.showing.carried_entry.Goals as goal

pub returns-in_err-place-clause-none : goal.returns-in_err-place-clause-none
returns-in_err-place-clause-none c =
    let facts = c.binary_search_by_key.ensures in
    let by_id = facts.position (λ (d : Declared). d.id) (answers_always _ _ _ (λ f a r g called. search rules)) in
    let found = searched c.args.id c.list-list.result.now (subst IsRising (sym c.list-list.ensures.list) c.list-list.ensures.opening.rising) _ facts.bound by_id in
    let same = c.list-list.ensures.list ∙ ap (λ (o : Opening). o.list) c.carried.ensures.carried in
    let none = rw (← c.in_err-place.ensures.value) at found.absent in
    rw c.from_residual.ensures (found_nowhere c.args.words.now.1.carried.list c.args.id (rw (← same) none))

pub returns-clause-found : goal.returns-clause-found
returns-clause-found c =
    let facts = c.binary_search_by_key.ensures in
    let by_id = facts.position (λ (d : Declared). d.id) (answers_always _ _ _ (λ f a r g called. search rules)) in
    let found = searched c.args.id c.list-list.result.now (subst IsRising (sym c.list-list.ensures.list) c.list-list.ensures.opening.rising) _ facts.bound by_id in
    let same = c.list-list.ensures.list ∙ ap (λ (o : Opening). o.list) c.carried.ensures.carried in
    let there = rw (← c.in_ok-place.ensures.value) at found.found in
    found_there c.args.words.now.1.carried.list c.in_ok-place.place c.args.id (rw (← same) there)
