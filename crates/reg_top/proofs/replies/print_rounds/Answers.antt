use Rattle.std.proofs.Common.{◌<◌, ◌++◌, length, refl, arith, ◌∙◌}
use Rattle.reg_top.specs.inner.RunRounds.{account_texts}
use Rattle.reg_top.proofs.AccountTexts.{rounds_more, rounds_done}
use Rattle.reg_top.proofs.replies.print_rounds.Goals as goal

pub loop-number-init : goal.loop-number-init
loop-number-init c = refl

pub loop-number-preserved : goal.loop-number-preserved
loop-number-preserved c =
    let lists = c.args.lists.now in
    let rounds = c.args.rounds.now in
    let k = c.loop-number.number in
    let low : k < length lists = omega (arith, c.loop-number-test.true) in
    let few : k < length rounds = omega (arith, c.loop-number-test.true) in
    let out = c.loop-number.out.items in
    let printed = c.in_ok-print_accounts.ensures ∙ (λ i. out ++ account_texts k 0 (c.as_slice.ensures i) (c.as_slice-in-loop-number.ensures i)) in
    rounds_more k lists rounds c.index-lists-number.result c.index-rounds-number.result out c.print_accounts.new.out.items _ low few
    c.index-lists-number.is c.index-rounds-number.is printed c.loop-number.invariant

pub returns : goal.returns
returns c = rounds_done c.loop-number.number c.args.lists.now c.args.rounds.now c.loop-number.out.items _ (omega (arith, c.min-number-end.ensures, c.loop-number-test.false)) c.loop-number.invariant
