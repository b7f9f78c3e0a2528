use Rattle.std.proofs.Common.{◌≡◌, true, sym, ◌∙◌, ap, subst}
use Rattle.iscc_code.specs.Composites.{CodeParts, IsCode, code_units, code_len, is_code_sub}
use Rattle.iscc_code.specs.inner.Joined.{sub_from}
use Rattle.iscc_code.proofs.CodeBodies.{same_parts}
use Rattle.iscc_code.proofs.Composed.{AreFound, code_of_units, found_units, found_sub}
use Rattle.iscc_code.proofs.composing.joined.Goals as goal

found : (c : goal.After-sub_of_code) → AreFound c.args.meta.now c.args.semantic.now c.args.content.now c.args.last_data.now c.args.instance.now
found c = record {
  meta_fits = c.requires.meta;
  semantic_fits = c.requires.semantic;
  content_fits = c.requires.content;
  data_fits = c.requires.last_data;
  instance_fits = c.requires.instance;
  same = c.requires.same;
}

made : goal.After-sub_of_code → CodeParts
made c = record {
  meta_body = c.first_body_if.result;
  semantic_body = c.first_body_if-2.result;
  content_body = c.first_body_if-3.result;
  data_body = c.first_body.result;
  instance_body = c.first_body-2.result;
  sub = c.sub_of_code.result;
}

-- what was made is the ISCC-CODE of these units
is_made : (c : goal.After-sub_of_code) → made c ≡ code_of_units c.args.meta.now c.args.semantic.now c.args.content.now c.args.last_data.now c.args.instance.now
unfolding made code_of_units
is_made c =
    same_parts (made c) (code_of_units c.args.meta.now c.args.semantic.now c.args.content.now c.args.last_data.now c.args.instance.now)
    c.first_body_if.ensures.value c.first_body_if-2.ensures.value c.first_body_if-3.ensures.value c.first_body.ensures.value c.first_body-2.ensures.value
    (c.sub_of_code.ensures ∙ ap (λ b. sub_from b c.args.semantic.now c.args.content.now) c.is_some.ensures)

is_code : (c : goal.After-sub_of_code) → IsCode (made c)
unfolding made
is_code c =
    let P : CodeParts → Type 0 = λ code. is_code_sub (code_len code) code.sub ≡ true in
    record {
      sub = subst P (sym (is_made c)) (found_sub c.args.meta.now c.args.semantic.now c.args.content.now c.args.last_data.now c.args.instance.now (found c));
      meta_body = c.first_body_if.ensures.range;
      semantic_body = c.first_body_if-2.ensures.range;
      content_body = c.first_body_if-3.ensures.range;
      data_body = c.first_body.ensures.range;
      instance_body = c.first_body-2.ensures.range;
    }

pub invariant_of-result : goal.invariant_of-result
unfolding made
invariant_of-result c = is_code c

pub returns-clause-units : goal.returns-clause-units
unfolding made
returns-clause-units c = ap code_units (is_made c) ∙ found_units c.args.meta.now c.args.semantic.now c.args.content.now c.args.last_data.now c.args.instance.now (found c)

pub returns-clause-range : goal.returns-clause-range
unfolding made
returns-clause-range c = is_code c
