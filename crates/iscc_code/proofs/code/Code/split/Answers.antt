use Rattle.std.proofs.Common.{◌≡◌, ap, sym, ◌∙◌, subst, lit<}
use Rattle.std.specs.Prelude.{All}
use Rattle.iscc_header.specs.Unit64s.{IsUnit64}
use Rattle.iscc_header.proofs.KindFacts.{contains_kind}
use Rattle.iscc_code.specs.Composites.{CodeParts, code_units}
use Rattle.iscc_code.proofs.CodeBodies.{units_joined}
use Rattle.iscc_code.proofs.CodeUnits.{code_units-valid, semantic_kind, content_kind}
use Rattle.iscc_code.proofs.code.Code.split.Goals as goal

pub push_if-requires-2-clause-kind : goal.push_if-requires-2-clause-kind
push_if-requires-2-clause-kind c = semantic_kind _ c.self.invariant

pub push_if-requires-3-clause-kind : goal.push_if-requires-3-clause-kind
push_if-requires-3-clause-kind c = content_kind _ c.self.invariant

pub push_if-requires-4-clause-kind : goal.push_if-requires-4-clause-kind
push_if-requires-4-clause-kind c = contains_kind 11 (lit< tt)

-- the fields as the value that contracts see
parts : goal.After-push_if-5 → CodeParts
parts c =
    let u = c.self.inside in
    record { meta_body = u.meta_body; semantic_body = u.semantic_body; content_body = u.content_body; data_body = u.data_body; instance_body = u.instance_body; sub = u.sub }

units_are : (c : goal.After-push_if-5) → c.push_if-5.new.units.items ≡ code_units (parts c)
unfolding parts
units_are c =
    units_joined (parts c)
    c.new-units.result.items c.push_if.new.units.items c.push_if-2.new.units.items c.push_if-3.new.units.items c.push_if-4.new.units.items c.push_if-5.new.units.items
    c.new-units.ensures c.push_if.ensures.items c.push_if-2.ensures.items c.push_if-3.ensures.items c.push_if-4.ensures.items c.push_if-5.ensures.items

pub returns-clause-value : goal.returns-clause-value
unfolding parts
returns-clause-value c = units_are c ∙ ap code_units c.self.view_is

pub returns-clause-units : goal.returns-clause-units
unfolding parts
returns-clause-units c = subst (All IsUnit64) (sym (units_are c)) (code_units-valid (parts c) c.self.invariant)
