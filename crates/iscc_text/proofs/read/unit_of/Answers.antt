use Rattle.std.proofs.Common.{◌≡◌, ◌/◌, ◌%◌, ◌∙◌, ap₂, Some, arith}
use Rattle.iscc_header.specs.Kinds.{main_of, sub_of}
use Rattle.iscc_header.proofs.KindFacts.{same_kind, small_pair, contains_kind}
use Rattle.iscc_text.proofs.LettersBack.{made}
use Rattle.iscc_text.proofs.read.unit_of.Goals as goal

pub returns-in_err-kind : goal.returns-in_err-kind
returns-in_err-kind c = λ unit h header body.
    let small = small_pair unit.kind h.kind in
    let main : c.args.header / 4096 ≡ main_of unit.kind = omega (arith, header, small.0, small.1) in
    let sub : c.args.header / 256 % 16 ≡ sub_of unit.kind = omega (arith, header, small.0, small.1) in
    absurd (c.in_err-kind.ensures.none (rw (c.in_ok-main.ensures.found, main, sub) (contains_kind unit.kind h.kind)))

pub returns : goal.returns
returns c = λ unit h header body.
    let small = small_pair unit.kind h.kind in
    let main : c.args.header / 4096 ≡ main_of unit.kind = omega (arith, header, small.0, small.1) in
    let sub : c.args.header / 256 % 16 ≡ sub_of unit.kind = omega (arith, header, small.0, small.1) in
    let kind : c.in_ok-kind.kind ≡ unit.kind = same_kind c.in_ok-kind.kind unit.kind h.kind (c.in_ok-kind.ensures.found ∙ ap₂ (λ m s. Some (m, s)) (c.in_ok-main.ensures.found ∙ main) sub) in
    ap₂ (λ k b. Some (made k b)) kind body
