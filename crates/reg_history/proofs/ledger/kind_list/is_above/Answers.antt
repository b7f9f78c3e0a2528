use Rattle.std.proofs.Common.{◌-◌, ◌<◌, length, arith, sym, subst}
use Rattle.std.specs.Prelude.{IsSomeAnd}
use Rattle.std.proofs.lemmas.Option.{slice_get_within}
use Rattle.std.proofs.lemmas.Bool.Decides.{nat_tests}
use Rattle.reg_history.specs.declared.ledger.kind_list.Mark.{Mark}
use Rattle.reg_history.proofs.ledger.LiveEntries.{below_last}
use Rattle.reg_history.proofs.ledger.kind_list.is_above.Goals as goal

pub returns-in-Some : goal.returns-in-Some
returns-in-Some c = λ above.
    let marks = c.args.marks.now in
    let inside = slice_get_within marks (length marks - 1) c.in-Some.mark.now (sym c.in-Some.ensures.value) in
    let lt : c.in-Some.mark.now.id < c.args.id = grind (arith, nat_tests, above) in
    below_last c.args.id 0 (length marks - 1) marks (omega (arith, inside)) c.requires
    (subst (λ o. IsSomeAnd o (λ (m : Mark). m.id < c.args.id)) c.in-Some.ensures.value lt)
