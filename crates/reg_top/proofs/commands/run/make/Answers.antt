use Rattle.std.proofs.Common.{◌≡◌, ◌≤◌, ◌++◌, Vec, Global, ℕ, length, sym, subst}
use Rattle.std.specs.Option.{option_map}
use Rattle.reg_image.specs.declared.image.TheConstants.{DECLARED_MOST}
use Rattle.reg_history.specs.History.{history_text}
use Rattle.reg_history.specs.Rounds.{AreRoundsOf, IsRunOf}
use Rattle.reg_top.specs.inner.RunImages.{SavesAs}
use Rattle.reg_top.specs.inner.RunRounds.{ServesFrom, all_served, left_by, round_texts}
use Rattle.reg_top.proofs.RunImages.{begins}
use Rattle.reg_top.proofs.ServedRounds.{are_rounds, left_few}
use Rattle.reg_top.proofs.commands.run.make.Goals as goal

pub print_run-requires-clause-run : goal.print_run-requires-clause-run
print_run-requires-clause-run g c =
    let opening = c.in_ok-opening.opening in
    let plan = c.args.plan.now.rounds in
    let lists = c.as_slice-lists.result.now in
    let rounds = c.in_ok-rounds.rounds in
    let serves = c.in_ok-rounds.ensures.served in
    subst (IsRunOf opening) (sym c.as_slice.ensures) (all_served opening plan lists rounds serves, are_rounds opening plan lists rounds serves)

pub print_run-requires-clause-few : goal.print_run-requires-clause-few
print_run-requires-clause-few g c =
    let opening = c.in_ok-opening.opening in
    let image = option_map (λ (bytes : Vec ℕ Global). bytes.items) c.args.given.now.image in
    subst (λ rs. length (left_by opening rs).list ≤ DECLARED_MOST) (sym c.as_slice.ensures)
    (left_few opening c.args.plan.now.rounds c.as_slice-lists.result.now c.in_ok-rounds.rounds c.in_ok-rounds.ensures.served (begins image opening c.in_ok-opening.ensures.opens) c.requires.plan)

pub returns-in-Ok-clause-made : goal.returns-in-Ok-clause-made
returns-in-Ok-clause-made g c =
    let opening = c.in_ok-opening.opening in
    let plan = c.args.plan.now.rounds in
    let lists = c.args.given.now.lists in
    let rounds = c.in_ok-rounds.rounds in
    let serves = subst (λ ls. ServesFrom opening plan ls rounds) c.as_slice-lists.ensures c.in_ok-rounds.ensures.served in
    let rows = all_served opening plan lists rounds serves in
    let are = subst (λ rs. AreRoundsOf opening rs rows) (sym c.as_slice.ensures) (are_rounds opening plan lists rounds serves) in
    record {
      opening = opening;
      opens = c.in_ok-opening.ensures.opens;
      text = record {
        rounds = rounds;
        served = serves;
        kept = c.in_ok-rounds.ensures.kept;
        is = subst (λ ls. c.in-Ok.made.output.items ≡ round_texts 0 ls rounds ++ history_text opening rows) c.as_slice-lists.ensures
            (subst (λ rs. c.in-Ok.made.output.items ≡ round_texts 0 c.as_slice-lists.result.now rs ++ history_text opening rows) c.as_slice.ensures (c.in-Ok.ensures.output rows are));
      };
      saves = subst (λ rs. SavesAs c.args.plan.now.save (left_by opening rs) (option_map (λ (bytes : Vec ℕ Global). bytes.items) c.in-Ok.made.image)) c.as_slice.ensures c.in-Ok.ensures.image;
    }
