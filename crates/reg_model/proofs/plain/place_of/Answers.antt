use Rattle.std.proofs.Common.{rules}
use Rattle.std.proofs.lemmas.List.Sorted.{answers_always}
use Rattle.reg_model.specs.declared.update.Declared.{Declared}
use Rattle.reg_model.proofs.Rising.{searched}
use Rattle.reg_model.proofs.plain.place_of.Goals as goal

pub returns-clause-found : goal.returns-clause-found
returns-clause-found c =
    let facts = c.binary_search_by_key.ensures in
    let by_id = facts.position (λ (d : Declared). d.id) (answers_always _ _ _ (λ f a r g called. search rules)) in
    rw c.ok.ensures.value (searched c.args.id c.args.list.now c.requires _ facts.bound by_id).found

pub returns-clause-none : goal.returns-clause-none
returns-clause-none c =
    let facts = c.binary_search_by_key.ensures in
    let by_id = facts.position (λ (d : Declared). d.id) (answers_always _ _ _ (λ f a r g called. search rules)) in
    rw c.ok.ensures.value (searched c.args.id c.args.list.now c.requires _ facts.bound by_id).absent
