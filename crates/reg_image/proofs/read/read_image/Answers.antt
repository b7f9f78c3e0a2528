use Rattle.std.proofs.Common.{◌≡◌, ◌∙◌, sym, ap, subst, Some, None, Ok, Err, arith, ◌+◌, ◌*◌}
use Rattle.std.specs.Prelude.{Result, IsErr, IfOk}
use Rattle.std.specs.Result.{IsErrAnd}
use Rattle.reg_image.specs.inner.Reading.{image_opening}
use Rattle.reg_image.specs.declared.fault.ImageRefusal.{ImageRefusal}
use Rattle.reg_model.specs.Opening.{Opening, IsOpening}
use Rattle.reg_image.specs.declared.fault.ImageFault.{ImageFault}
use Rattle.reg_image.specs.declared.fault.ImageRefusal.TheVariants.{Fault}
use Rattle.reg_image.specs.declared.fault.ImageWhy.TheVariants.{Trailing}
use Rattle.reg_image.specs.ImageFaults.{image_fault}
use Rattle.reg_image.proofs.OneImage.{front_of, image_of, told, told_is, fault_in_front, fault_in_list, fault_behind, none_at_all, opening_read}
use Rattle.reg_image.proofs.read.read_image.Goals as goal

pub returns-in-Some : goal.returns-in-Some
returns-in-Some c =
    told c.args.bytes.now (Err (Fault c.in-Some.fault)) (λ i. omega (arith, c.type_inv.bytes i)) tt
    (λ fault e. fault_in_front c.args.bytes.now fault (sym c.front_fault.ensures ∙ c.in-Some.is ∙ ap (λ f. Some f) (told_is c.in-Some.fault fault e)))

pub number_at-base-requires : goal.number_at-base-requires
number_at-base-requires c = omega (arith, (front_of c.args.bytes.now (sym c.front_fault.ensures ∙ c.in_default.is)).long)

pub number_at-count-requires : goal.number_at-count-requires
number_at-count-requires c = omega (arith, (front_of c.args.bytes.now (sym c.front_fault.ensures ∙ c.in_default.is)).long)

pub read_declarations-requires : goal.read_declarations-requires
read_declarations-requires c = omega (arith, (front_of c.args.bytes.now (sym c.front_fault.ensures ∙ c.in_default.is)).room, c.number_at-count.ensures)

pub overflow_mul-end : goal.overflow_mul-end
overflow_mul-end c = omega (arith, (front_of c.args.bytes.now (sym c.front_fault.ensures ∙ c.in_default.is)).count, c.number_at-count.ensures)

pub overflow_add-end : goal.overflow_add-end
overflow_add-end c = omega (arith, (front_of c.args.bytes.now (sym c.front_fault.ensures ∙ c.in_default.is)).count, c.number_at-count.ensures)

pub overflow_add-end-2 : goal.overflow_add-end-2
overflow_add-end-2 c = omega (arith, (front_of c.args.bytes.now (sym c.front_fault.ensures ∙ c.in_default.is)).count, c.number_at-count.ensures)

handed_on : (r : Result Opening ImageRefusal) (refusal : ImageRefusal) → IsErr r → IsErrAnd r (λ e. e ≡ refusal) → r ≡ Err refusal
handed_on (Ok opening) refusal h is = absurd is
handed_on (Err e) refusal h is = ap (λ x. Err x) is

pub returns-in_err-list : goal.returns-in_err-list
returns-in_err-list c =
    let bytes = c.args.bytes.now in
    let is = handed_on c.from_residual.result c.in_err-list.field-0.0 c.from_residual.ensures.0 c.from_residual.ensures.1 in
    told bytes c.from_residual.result (λ i. omega (arith, c.type_inv.bytes i))
    (subst (λ r. IfOk r (λ opening. (image_fault bytes ≡ None) × (opening ≡ image_opening bytes))) (sym is) tt)
    (λ fault e. fault_in_list bytes c.number_at-base.result c.number_at-count.result fault (sym c.front_fault.ensures ∙ c.in_default.is) c.number_at-base.ensures c.number_at-count.ensures
    (c.in_err-list.ensures.fault fault (ap (λ x. Err x) (same_refusal (sym is ∙ e)))))
  where
    same_refusal : {a b : ImageRefusal} → ◌≡◌ {A = Result Opening ImageRefusal} (Err a) (Err b) → a ≡ b
    same_refusal {a} e = ap (err_or a) e
      where
        err_or : ImageRefusal → Result Opening ImageRefusal → ImageRefusal
        err_or d (Ok o) = d
        err_or d (Err x) = x

pub returns-then-end-bytes : goal.returns-then-end-bytes
returns-then-end-bytes c =
    let base = c.number_at-base.result in
    let count = c.number_at-count.result in
    let trailing : ImageFault = record { at = 28 + 17 * count + 32; why = Trailing } in
    told c.args.bytes.now (Err (Fault trailing)) (λ i. omega (arith, c.type_inv.bytes i)) tt
    (λ fault e. fault_behind c.args.bytes.now base count (sym c.front_fault.ensures ∙ c.in_default.is) c.number_at-base.ensures c.number_at-count.ensures c.in_ok-list.ensures.sound (omega (arith, c.if-end-bytes.true))
    ∙ ap (λ f. Some f) (told_is trailing fault e))

pub from_list-requires : goal.from_list-requires
from_list-requires c =
    let bytes = c.args.bytes.now in
    let base = c.number_at-base.result in
    let count = c.number_at-count.result in
    let none = none_at_all bytes base count (sym c.front_fault.ensures ∙ c.in_default.is) c.number_at-base.ensures c.number_at-count.ensures c.in_ok-list.ensures.sound (omega (arith, c.if-end-bytes.false)) in
    subst IsOpening (sym (opening_read bytes base count c.in_ok-list.list c.number_at-base.ensures c.number_at-count.ensures c.in_ok-list.ensures.list)) (image_of bytes (λ i. omega (arith, c.type_inv.bytes i)) none).opens

pub returns : goal.returns
returns c =
    let bytes = c.args.bytes.now in
    let base = c.number_at-base.result in
    let count = c.number_at-count.result in
    let none = none_at_all bytes base count (sym c.front_fault.ensures ∙ c.in_default.is) c.number_at-base.ensures c.number_at-count.ensures c.in_ok-list.ensures.sound (omega (arith, c.if-end-bytes.false)) in
    told bytes (Ok c.from_list.result) (λ i. omega (arith, c.type_inv.bytes i))
    (none, c.from_list.ensures ∙ opening_read bytes base count c.in_ok-list.list c.number_at-base.ensures c.number_at-count.ensures c.in_ok-list.ensures.list)
    (λ fault e. absurd cc)
