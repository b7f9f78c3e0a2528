use Rattle.std.proofs.Common.{◌≡◌, ◌+◌, ◌∙◌, ap, arith}
use Rattle.iscc_header.specs.Headers.{Numbers}
use Rattle.iscc_code.specs.Composites.{CodeParts, IsCode, code_len, is_code_sub}
use Rattle.iscc_code.proofs.CodeBodies.{len_from_flags, bodies_joined}
use Rattle.iscc_code.proofs.code.code_from.Goals as goal

-- what was read
parts : goal.After-next_body-instance_body → CodeParts
parts c = record {
  meta_body = c.body_if-meta_body.result.0;
  semantic_body = c.body_if-semantic_body.result.0;
  content_body = c.body_if-content_body.result.0;
  data_body = c.next_body-data_body.result.0;
  instance_body = c.next_body-instance_body.result.0;
  sub = c.args.sub;
}

len_is : (c : goal.After-next_body-instance_body) → code_len (parts c) ≡ c.args.len
unfolding parts code_len
len_is c =
    len_from_flags c.body_if-content_body.result.0 c.body_if-semantic_body.result.0 c.body_if-meta_body.result.0 c.args.len c.requires.len
    c.body_if-content_body.ensures.count c.body_if-semantic_body.ensures.count c.body_if-meta_body.ensures.count

is_code : (c : goal.After-next_body-instance_body) → IsCode (parts c)
unfolding parts
is_code c = record {
  sub = ap (λ n. is_code_sub n c.args.sub) (len_is c) ∙ c.requires.sub;
  meta_body = c.body_if-meta_body.ensures.range;
  semantic_body = c.body_if-semantic_body.ensures.range;
  content_body = c.body_if-content_body.ensures.range;
  data_body = c.next_body-data_body.ensures.range;
  instance_body = c.next_body-instance_body.ensures.range;
}

pub invariant_of-result : goal.invariant_of-result
unfolding parts
invariant_of-result c = is_code c

pub returns-clause-header : goal.returns-clause-header
unfolding parts
returns-clause-header c =
    let makes : _ → Numbers = λ n. record { main = 5; sub = c.args.sub; version = 0; len = n } in
    ap makes (len_is c)

pub returns-clause-body : goal.returns-clause-body
unfolding parts
returns-clause-body c =
    let whole = c.requires.body in
    bodies_joined (parts c) c.args.body.now c.body_if-meta_body.result.1.now c.body_if-semantic_body.result.1.now c.body_if-content_body.result.1.now c.next_body-data_body.result.1.now c.next_body-instance_body.result.1.now
    (c.body_if-meta_body.ensures.whole 0) (c.body_if-semantic_body.ensures.whole (1 + c.args.sub)) (c.body_if-content_body.ensures.whole (6 + c.args.sub))
    (c.next_body-data_body.ensures.whole 11) (c.next_body-instance_body.ensures.whole 12)
    (omega (arith, c.body_if-meta_body.ensures.rest, c.body_if-semantic_body.ensures.rest, c.body_if-content_body.ensures.rest, c.next_body-data_body.ensures.rest, c.next_body-instance_body.ensures.rest))

pub returns-clause-range : goal.returns-clause-range
unfolding parts
returns-clause-range c = is_code c
