use Rattle.std.proofs.Common.{rules}
use Rattle.std.proofs.lemmas.List.Sorted.{answers_always}
use Rattle.reg_model.specs.declared.merging.Key.{Key}
use Rattle.reg_model.proofs.MergeSteps.{merge_order}
use Rattle.reg_model.proofs.merging.merge.Goals as goal

pub returns : goal.returns
returns c =
    let sort = c.in_ok-sort_by_key.ensures in
    let keys = c.sort_by_key.new.self.items in
    rw (c.from_vec.ensures, c.in_ok-places.ensures, c.deref.ensures.value)
    (merge_order c.args.accounts.now keys c.requires
    (rw (← c.in_ok-keys.ensures) sort.permutation)
    (sort.sorted (λ (key : Key). (key.point, key.refused, key.place.session, key.place.number)) (answers_always _ _ _ (λ f a r q k. search rules))))
