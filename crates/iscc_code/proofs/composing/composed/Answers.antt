use Rattle.std.proofs.Common.{Some, sym, ◌∙◌}
use Rattle.iscc_code.proofs.Composed.{found_fits, twice_fault, no_data_fault, no_instance_fault, narrow_fault, subs_fault, no_compose_fault, all_found, composite_from}
use Rattle.iscc_code.proofs.composing.composed.Goals as goal

pub returns-then-has_twice : goal.returns-then-has_twice
returns-then-has_twice c = twice_fault c.args.units.now (sym c.has_twice.ensures ∙ c.if-has_twice.true)

pub returns-in_default : goal.returns-in_default
returns-in_default c = no_data_fault c.args.units.now (sym c.has_twice.ensures ∙ c.if-has_twice.false) c.in_default.ensures.units

pub returns-in_default-only_of : goal.returns-in_default-only_of
returns-in_default-only_of c =
    no_instance_fault c.args.units.now c.in-Some.data (sym c.has_twice.ensures ∙ c.if-has_twice.false) c.in-Some.ensures.units c.in_default-only_of.ensures.units

pub returns-then-is_narrow : goal.returns-then-is_narrow
returns-then-is_narrow c =
    narrow_fault c.args.units.now c.in-Some.data c.in-Some-only_of.instance (sym c.has_twice.ensures ∙ c.if-has_twice.false) c.in-Some.ensures.units c.in-Some-only_of.ensures.units
    (sym c.is_narrow.ensures ∙ c.if-is_narrow.true)

pub returns-then-have_two_subs : goal.returns-then-have_two_subs
returns-then-have_two_subs c =
    subs_fault c.args.units.now c.in-Some.data c.in-Some-only_of.instance c.only_of-semantic.result c.only_of-content.result (sym c.has_twice.ensures ∙ c.if-has_twice.false) c.in-Some.ensures.units c.in-Some-only_of.ensures.units
    (sym c.is_narrow.ensures ∙ c.if-is_narrow.false) c.only_of-semantic.ensures.units c.only_of-content.ensures.units (sym c.have_two_subs.ensures ∙ c.if-have_two_subs.true)

pub joined-requires-clause-meta : goal.joined-requires-clause-meta
joined-requires-clause-meta c = found_fits 0 c.args.units.now c.only_of-meta.result (sym c.is_narrow.ensures ∙ c.if-is_narrow.false) c.only_of-meta.ensures.units c.only_of-meta.ensures.range

pub joined-requires-clause-semantic : goal.joined-requires-clause-semantic
joined-requires-clause-semantic c =
    found_fits 1 c.args.units.now c.only_of-semantic.result (sym c.is_narrow.ensures ∙ c.if-is_narrow.false) c.only_of-semantic.ensures.units c.only_of-semantic.ensures.range

pub joined-requires-clause-content : goal.joined-requires-clause-content
joined-requires-clause-content c =
    found_fits 2 c.args.units.now c.only_of-content.result (sym c.is_narrow.ensures ∙ c.if-is_narrow.false) c.only_of-content.ensures.units c.only_of-content.ensures.range

pub joined-requires-clause-last_data : goal.joined-requires-clause-last_data
joined-requires-clause-last_data c = found_fits 3 c.args.units.now (Some c.in-Some.data) (sym c.is_narrow.ensures ∙ c.if-is_narrow.false) c.in-Some.ensures.units c.in-Some.ensures.range

pub joined-requires-clause-instance : goal.joined-requires-clause-instance
joined-requires-clause-instance c =
    found_fits 4 c.args.units.now (Some c.in-Some-only_of.instance) (sym c.is_narrow.ensures ∙ c.if-is_narrow.false) c.in-Some-only_of.ensures.units c.in-Some-only_of.ensures.range

pub returns : goal.returns
returns c =
    let given = c.args.units.now in
    let meta = c.only_of-meta.result in
    let semantic = c.only_of-semantic.result in
    let content = c.only_of-content.result in
    let d = c.in-Some.data in
    let i = c.in-Some-only_of.instance in (
      no_compose_fault given d i semantic content (sym c.has_twice.ensures ∙ c.if-has_twice.false) c.in-Some.ensures.units c.in-Some-only_of.ensures.units (sym c.is_narrow.ensures ∙ c.if-is_narrow.false)
          c.only_of-semantic.ensures.units c.only_of-content.ensures.units (sym c.have_two_subs.ensures ∙ c.if-have_two_subs.false),
      composite_from given meta semantic content d i c.joined.result
          (all_found given meta semantic content d i c.only_of-meta.ensures.units c.only_of-semantic.ensures.units c.only_of-content.ensures.units c.in-Some.ensures.units c.in-Some-only_of.ensures.units)
          c.joined.ensures.range c.joined.ensures.units,
    )
