use Rattle.std.proofs.Common.{map, filter, ◌∙◌, ap, ap₂, subst, rules}
use Rattle.std.specs.Prelude.{IsPermutation}
use Rattle.std.proofs.lemmas.List.Sorted.{answers_always}
use Rattle.reg_model.specs.declared.reply.Hit.{Hit}
use Rattle.reg_model.specs.Replies.{hit_of}
use Rattle.reg_history.specs.inner.LiveSets.{is_within, near_hits}
use Rattle.reg_history.proofs.ledger.LiveEntries.{near_hits-are}
use Rattle.reg_history.proofs.ledger.kind_list.KindList.near.Goals as goal

pub returns-clause-exactly : goal.returns-clause-exactly
returns-clause-exactly c =
    let unit = c.args.unit in
    let inside = c.self.inside in
    let same =
    c.in_ok-hits.ensures
    ∙ ap₂ (near_hits unit c.args.radius) c.deref-2.ensures.value c.deref.ensures.value
    ∙ near_hits-are unit c.args.radius inside.kind inside.marks.items inside.bodies.items
    ∙ ap (λ ds. map (hit_of unit) (filter (is_within unit c.args.radius) ds)) c.self.view_is in
    rw c.from_vec.ensures (subst (λ hs. IsPermutation hs c.sort_by_key.new.self.items) same c.in_ok-sort_by_key.ensures.permutation)

pub returns-clause-order : goal.returns-clause-order
returns-clause-order c = rw c.from_vec.ensures (c.in_ok-sort_by_key.ensures.sorted (λ (hit : Hit). (hit.body, hit.id)) (answers_always _ _ _ (λ f a r q k. search rules)))
