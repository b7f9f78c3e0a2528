use Rattle.std.proofs.Common.{sym, ◌∙◌, ap, refl, arith}
use Rattle.std.proofs.lemmas.List.{take_all}
use Rattle.iscc_header.specs.Kinds.{main_number}
use Rattle.iscc_code.specs.Composites.{of_main}
use Rattle.iscc_code.proofs.GivenUnits.{none_more, only_one}
use Rattle.iscc_code.proofs.composing.only_of.Goals as goal

pub loop-unit-init : goal.loop-unit-init
unfolding of_main
loop-unit-init c = refl

pub returns-then-has_main-clause-units : goal.returns-then-has_main-clause-units
returns-then-has_main-clause-units c =
    only_one (main_number c.args.main) c.args.units.now c.loop-unit.unit-index c.unit-item.result (omega arith) c.unit-item.is c.loop-unit.invariant (sym c.has_main.ensures.value ∙ c.if-has_main.true) c.requires

pub loop-unit-preserved : goal.loop-unit-preserved
loop-unit-preserved c =
    none_more (main_number c.args.main) c.args.units.now c.loop-unit.unit-index c.unit-item.result (omega arith) c.unit-item.is c.loop-unit.invariant (sym c.has_main.ensures.value ∙ c.if-has_main.false)

pub returns-clause-units : goal.returns-clause-units
returns-clause-units c = ap (of_main (main_number c.args.main)) (sym (take_all c.loop-unit.unit-index c.args.units.now (omega arith))) ∙ c.loop-unit.invariant
