use Rattle.std.proofs.Common.{◌<◌, length, ap, ◌∙◌, arith}
use Rattle.std.proofs.lemmas.Bool.Decides.{nat_tests}
use Rattle.reg_turn.specs.Turns.{TurnView, TurnPassView}
use Rattle.reg_turn.proofs.SeatSteps.{gathers}
use Rattle.reg_turn.proofs.Dealing.{all_gathered}
use Rattle.reg_turn.proofs.desk.gather.Goals as goal

pub join_seat-requires : goal.join_seat-requires
join_seat-requires c =
    let i = c.loop-passes.invariant in
    let more : 0 < length c.loop-passes.passes.items = grind (arith, nat_tests) in
    let other = c.other.invariant in (
      i.table,
      ap (λ (p : TurnPassView). p.desk.table) (c.other.view_is ∙ c.remove-in-loop-passes.ensures.value) ∙ ap (λ (d : TurnView). d.table) (i.desk 0 _ more),
      other.empty,
      omega (arith, c.requires.table.0),
      gathers c.args.table.now.shared.key _ _ _ _ i.rests other.rests,
    )

pub returns-clause-gathered : goal.returns-clause-gathered
returns-clause-gathered c =
    let i = c.loop-passes.invariant in
    record {
      knows = i.knows;
      empty = i.empty;
      rests = i.rests;
      accounts = all_gathered _ _ _ (grind (arith, nat_tests)) i.accounts;
    }
