use Rattle.std.proofs.Common.{List, [], ◌∷◌, ◌++◌, ◌∙◌, ap, sym, subst, Some}
use Rattle.atomic_table.specs.Table.{opening}
use Rattle.reg_model.specs.Opening.{Opening}
use Rattle.reg_model.specs.Registry.{registry_at}
use Rattle.reg_turn.specs.declared.view.Key.{Key}
use Rattle.reg_turn.specs.inner.OneTurn.{Slot, Kept, first_view}
use Rattle.reg_turn.proofs.SeatSteps.{opens}
use Rattle.reg_turn.proofs.desk.table_of.Goals as goal

pub new-requires : goal.new-requires
new-requires c =
    let key : Key = record { sizes = c.args.sizes.now; carried = c.in-Ok.carried } in
    let plain = c.requires ∙ ap (λ (o : Opening). registry_at c.args.sizes.now o []) (sym c.in-Ok.ensures) in
    subst (λ (slots : List Slot). Kept key (opening (0 ∷ []) slots (first_view key)))
    (sym (c.in_ok-push.ensures.items ∙ (ap (λ (l : List Slot). l ++ Some c.args.plain ∷ []) c.in_ok-slots.ensures.items ∙ (λ i. Some (plain i) ∷ [])))) (opens key)
