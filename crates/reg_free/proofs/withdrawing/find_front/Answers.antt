use Rattle.std.proofs.Common.{◌-◌, ap, ◌∙◌, sym, subst, arith}
use Rattle.reg_model.specs.Opening.{IsOpening}
use Rattle.reg_rule.specs.declared.view.Key.{Key}
use Rattle.reg_free.proofs.Ending.{front_first, front_behind}
use Rattle.reg_free.proofs.withdrawing.find_front.Goals as goal

pub returns-else-place-gt0-clause-at : goal.returns-else-place-gt0-clause-at
returns-else-place-gt0-clause-at c =
    let ok = subst IsOpening (c.carried.ensures.carried ∙ sym (ap (λ (z : Key). z.carried) c.requires.ready.own.1)) c.list-list.ensures.opening in let none = c.if-place-gt0.false in
    front_first c.args.words.now c.args.pass.now c.front-place.new.pass c.args.id c.front-place.result c.requires.ready c.front-place.ensures.own c.front-place.ensures.found ok (omega arith)

pub returns-then-place-gt0-clause-at : goal.returns-then-place-gt0-clause-at
returns-then-place-gt0-clause-at c =
    let ok = subst IsOpening (c.carried.ensures.carried ∙ sym (ap (λ (z : Key). z.carried) c.requires.ready.own.1)) c.list-list.ensures.opening in let some = c.if-place-gt0.true in
    let h = c.help.ensures.helped in
    front_behind c.args.words.now c.args.pass.now c.front-place.new.pass c.args.id c.front-place.result c.requires.ready c.front-place.ensures.own c.front-place.ensures.found
    (c.front-place.result - 1) c.help.new.pass (omega arith) h.0 h.2 ok
