use Rattle.std.proofs.Common.{◌++◌, take, length, length-append, sym, ◌∙◌, ap, ap₂, append-nil, arith, subst}
use Rattle.std.specs.List.{flat_map}
use Rattle.std.proofs.lemmas.List.{take_all, length-take-le}
use Rattle.iscc_header.specs.Headers.{Numbers, EncodesHeader}
use Rattle.iscc_code.specs.Composites.{code_body, body_bytes}
use Rattle.iscc_code.proofs.CodeBodies.{code_sub-small, code_len-small, length-bodies, more_bodies}
use Rattle.iscc_code.proofs.iscc.code_bytes.Goals as goal

pub header_bytes-bytes-requires-clause-sub : goal.header_bytes-bytes-requires-clause-sub
header_bytes-bytes-requires-clause-sub c = omega (arith, c.sub.ensures.value, code_sub-small _ _ c.sub.ensures.range.sub)

pub header_bytes-bytes-requires-clause-len : goal.header_bytes-bytes-requires-clause-len
header_bytes-bytes-requires-clause-len c = omega (arith, c.header_len.ensures.value, code_len-small c.args.code.now)

pub loop-unit-init : goal.loop-unit-init
loop-unit-init c = sym (append-nil c.header_bytes-bytes.result.items)

pub append-requires : goal.append-requires
append-requires c =
    let units = c.as_slice-unit-items.result.now in
    let so_far = take c.loop-unit.unit-index units in
    omega (
      arith,
      ap length c.loop-unit.invariant,
      length-append c.header_bytes-bytes.result.items (flat_map body_bytes so_far),
      length-bodies so_far,
      length-take-le c.loop-unit.unit-index units (omega arith),
      c.header_bytes-bytes.ensures.two,
      c.as_slice-unit-items.ensures.fits,
    )

pub loop-unit-preserved : goal.loop-unit-preserved
loop-unit-preserved c =
    let units = c.as_slice-unit-items.result.now in
    let before = c.header_bytes-bytes.result.items in
    let i = c.loop-unit.unit-index in
    more_bodies units i before c.loop-unit.bytes.items c.append.new.bytes.items c.unit-item.result (omega arith) c.unit-item.is c.loop-unit.invariant (c.append.ensures ∙ ap (λ xs. c.loop-unit.bytes.items ++ xs) c.to_be_bytes.ensures)

pub returns : goal.returns
unfolding code_body
returns c =
    let units = c.as_slice-unit-items.result.now in
    let code = c.args.code.now in
    let P : Numbers → Type 0 = λ h. EncodesHeader h c.header_bytes-bytes.result.items in
    record {
      valid = c.sub.ensures.range;
      parts = record {
        front = c.header_bytes-bytes.result.items;
        encoded = subst P (ap₂ (λ s l. record { main = 5; sub = s; version = 0; len = l }) c.sub.ensures.value c.header_len.ensures.value) c.header_bytes-bytes.ensures.encoded;
        whole = c.loop-unit.invariant ∙ ap (λ us. c.header_bytes-bytes.result.items ++ flat_map body_bytes us) (take_all c.loop-unit.unit-index units (omega arith) ∙ c.as_slice-unit-items.ensures.value ∙ c.split.ensures.value);
      };
    }
