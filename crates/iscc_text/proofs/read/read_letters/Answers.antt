use Rattle.std.proofs.Common.{◌≡◌, take, refl, sym, ◌∙◌, ap, subst, lit≤}
use Rattle.std.proofs.lemmas.Bool.{both_ways}
use Rattle.iscc_code.specs.Codes.{EncodesIscc, HasFault}
use Rattle.iscc_text.specs.declared.gather.TheConstants.{KEPT}
use Rattle.iscc_text.proofs.KeptBytes.{kept_iscc, kept_fault}
use Rattle.iscc_text.proofs.TextBits.{gathered_letters, gathered_tell}
use Rattle.iscc_text.proofs.TextSteps.{all_allowed, first_other}
use Rattle.iscc_text.proofs.read.read_letters.Goals as goal

pub returns-then-good-letters : goal.returns-then-good-letters
returns-then-good-letters c =
    let good = c.letters_in_front-good in
    first_other c.args.letters.now c.args.place good.result c.if-good-letters.true good.ensures.allowed (good.ensures.other c.if-good-letters.true)

pub gather-bits-requires : goal.gather-bits-requires
gather-bits-requires c = all_allowed c.args.letters.now c.letters_in_front-good.result c.letters_in_front-good.ensures.allowed c.if-good-letters.false

pub returns-then-not-is_whole : goal.returns-then-not-is_whole
returns-then-not-is_whole c =
    let m = c.args.letters.now in
    let allowed = all_allowed m c.letters_in_front-good.result c.letters_in_front-good.ensures.allowed c.if-good-letters.false in (
      allowed,
      λ bytes are.
          let tell = gathered_tell m c.gather-bits.result c.gather-bits.ensures bytes allowed are in
          both_ways c.is_whole.result c.if-not-is_whole.true (c.is_whole.ensures.1 (tell.0, tell.1)),
    )

pub returns-in-Ok : goal.returns-in-Ok
returns-in-Ok c =
    let m = c.args.letters.now in
    let bits = c.gather-bits.result in
    let g = c.gather-bits.ensures in
    let whole = c.is_whole.ensures.0 c.if-not-is_whole.false in
    let allowed = all_allowed m c.letters_in_front-good.result c.letters_in_front-good.ensures.allowed c.if-good-letters.false in
    let kept : take c.min.result bits.kept ≡ take KEPT g.bytes = ap (λ n. take n bits.kept) c.min.ensures ∙ sym g.kept in
    (allowed, (g.bytes, gathered_letters m bits g allowed whole.0 whole.1, kept_iscc KEPT g.bytes c.in-Ok.iscc (lit≤ tt) (subst (EncodesIscc c.in-Ok.iscc) kept c.in-Ok.ensures.found)))

pub returns-in-Err : goal.returns-in-Err
returns-in-Err c =
    let m = c.args.letters.now in
    let bits = c.gather-bits.result in
    let g = c.gather-bits.ensures in
    let whole = c.is_whole.ensures.0 c.if-not-is_whole.false in
    let allowed = all_allowed m c.letters_in_front-good.result c.letters_in_front-good.ensures.allowed c.if-good-letters.false in
    let kept : take c.min.result bits.kept ≡ take KEPT g.bytes = ap (λ n. take n bits.kept) c.min.ensures ∙ sym g.kept in
    let fault = c.in-Err.fault in
    (allowed, (g.bytes, gathered_letters m bits g allowed whole.0 whole.1, kept_fault KEPT g.bytes fault (lit≤ tt) (subst (λ t. HasFault t fault) kept ((c.in-Err.ensures.fault fault).0 refl))))
