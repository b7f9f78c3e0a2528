use Rattle.std.proofs.Common.{◌<◌, ◌∷◌, [], ◌++◌, length, refl, arith, ◌∙◌}
use Rattle.std.specs.Prelude.{codes}
use Rattle.std.specs.Fmt.{decimal}
use Rattle.reg_requests.specs.Lines.{line, spaced}
use Rattle.reg_top.specs.commands.Run.{item_lines}
use Rattle.reg_top.proofs.AccountTexts.{texts_more, texts_done}
use Rattle.reg_top.proofs.replies.print_accounts.Goals as goal

pub loop-session-init : goal.loop-session-init
loop-session-init c = refl

pub loop-session-preserved : goal.loop-session-preserved
loop-session-preserved c =
    let lists = c.args.lists.now in
    let accounts = c.args.accounts.now in
    let k = c.loop-session.session in
    let low : k < length lists = omega (arith, c.loop-session-test.true) in
    let few : k < length accounts = omega (arith, c.loop-session-test.true) in
    let out = c.loop-session.out.items in
    let head = line (spaced (codes "replies" ∷ decimal c.args.round ∷ decimal k ∷ [])) in
    let printed = c.in_ok-print_replies.ensures ∙ (λ i. out ++ (head ++ item_lines (c.as_slice.ensures i) (c.as_slice-in-loop-session.ensures i))) in
    texts_more c.args.round k lists accounts c.index-lists-session.result c.index-accounts-session.result out c.print_replies.new.out.items _ low few
    c.index-lists-session.is c.index-accounts-session.is printed c.loop-session.invariant

pub returns : goal.returns
returns c =
    texts_done c.args.round c.loop-session.session c.args.lists.now c.args.accounts.now c.loop-session.out.items _ (omega (arith, c.min-session-end.ensures, c.loop-session-test.false)) c.loop-session.invariant
