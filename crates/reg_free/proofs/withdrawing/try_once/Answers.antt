use Rattle.std.proofs.Common.{◌≡◌, ℕ, ap, ◌∙◌, sym, arith}
use Rattle.reg_model.specs.Limits.{Limits}
use Rattle.reg_model.specs.Opening.{Opening}
use Rattle.reg_rule.specs.declared.view.Key.{Key}
use Rattle.reg_free.proofs.Withdraws.{still_front, undeclared_turn, dead_turn, full_turn, tried_turn}
use Rattle.reg_free.proofs.withdrawing.try_once.Goals as goal

pub returns-in_default-clause-ready : goal.returns-in_default-clause-ready
returns-in_default-clause-ready c = let w = c.args.words.now in let p = c.args.pass.now in let u = c.find_front-place.new.pass in let k : ℕ = c.find_front-place.result in let ready = c.requires.ready in let at = c.find_front-place.ensures.at in let f = c.find_front-place.ensures.found in let x = c.declared_in.new.pass in
    (still_front w c.args.id k p u x ready at f x.1.made c.in_default.ensures.view).ready

pub returns-in_default-clause-turn : goal.returns-in_default-clause-turn
returns-in_default-clause-turn c = let w = c.args.words.now in let p = c.args.pass.now in let u = c.find_front-place.new.pass in let k : ℕ = c.find_front-place.result in let ready = c.requires.ready in let at = c.find_front-place.ensures.at in let f = c.find_front-place.ensures.found in let x = c.declared_in.new.pass in
    let base = c.base.ensures ∙ (ap (λ (o : Opening). o.base) c.carried.ensures.carried ∙ sym (ap (λ (z : Key). z.carried.base) ready.own.1)) in
    undeclared_turn w c.args.id k p u x ready at f x.1.made c.in_default.ensures.view _ (omega arith) c.in_default.ensures.entry

pub live_in-requires-clause-at : goal.live_in-requires-clause-at
live_in-requires-clause-at c = let w = c.args.words.now in let p = c.args.pass.now in let u = c.find_front-place.new.pass in let k : ℕ = c.find_front-place.result in let ready = c.requires.ready in let at = c.find_front-place.ensures.at in let f = c.find_front-place.ensures.found in let x = c.declared_in.new.pass in
    still_front w c.args.id k p u x ready at f x.1.made c.in-Some.ensures.view

pub returns-then-not-live_in-clause-turn : goal.returns-then-not-live_in-clause-turn
returns-then-not-live_in-clause-turn c = let w = c.args.words.now in let p = c.args.pass.now in let u = c.find_front-place.new.pass in let k : ℕ = c.find_front-place.result in let ready = c.requires.ready in let at = c.find_front-place.ensures.at in let f = c.find_front-place.ensures.found in let x = c.declared_in.new.pass in
    let base = c.base.ensures ∙ (ap (λ (o : Opening). o.base) c.carried.ensures.carried ∙ sym (ap (λ (z : Key). z.carried.base) ready.own.1)) in
    dead_turn w c.args.id k p u x ready at f x.1.made c.in-Some.ensures.view c.in-Some.entry c.in-Some.ensures.entry c.live_in.new.pass c.live_in.ensures.at c.live_in.ensures.looked _ (omega arith) c.if-not-live_in.ensures.live

pub returns-then-place-log-clause-turn : goal.returns-then-place-log-clause-turn
returns-then-place-log-clause-turn c = let w = c.args.words.now in let p = c.args.pass.now in let u = c.find_front-place.new.pass in let k : ℕ = c.find_front-place.result in let ready = c.requires.ready in let at = c.find_front-place.ensures.at in let f = c.find_front-place.ensures.found in let x = c.declared_in.new.pass in
    let base = c.base.ensures ∙ (ap (λ (o : Opening). o.base) c.carried.ensures.carried ∙ sym (ap (λ (z : Key). z.carried.base) ready.own.1)) in
    let live = c.if-not-live_in.ensures.live in let still = still_front w c.args.id k p u x ready at f x.1.made c.in-Some.ensures.view in
    let full = c.if-place-log.true in let log = c.log.ensures in let sizes = ap (λ (z : Limits). z.log) c.sizes.ensures.sizes in let key = ap (λ (z : Key). z.sizes.log) still.ready.own.1 in
    full_turn w c.args.id k p u x ready at f x.1.made c.in-Some.ensures.view c.in-Some.entry c.in-Some.ensures.entry c.live_in.new.pass c.live_in.ensures.at c.live_in.ensures.looked _ live.0.0 (omega arith) live.0.1 (omega arith)

pub returns-clause-turn : goal.returns-clause-turn
returns-clause-turn c = let w = c.args.words.now in let p = c.args.pass.now in let u = c.find_front-place.new.pass in let k : ℕ = c.find_front-place.result in let ready = c.requires.ready in let at = c.find_front-place.ensures.at in let f = c.find_front-place.ensures.found in let x = c.declared_in.new.pass in
    let live = c.if-not-live_in.ensures.live in let still = still_front w c.args.id k p u x ready at f x.1.made c.in-Some.ensures.view in
    let other = c.if-place-log.false in let log = c.log.ensures in let sizes = ap (λ (z : Limits). z.log) c.sizes.ensures.sizes in let key = ap (λ (z : Key). z.sizes.log) still.ready.own.1 in
    tried_turn w c.args.id k p u x ready at f x.1.made c.in-Some.ensures.view c.in-Some.entry c.in-Some.ensures.entry c.live_in.new.pass c.live_in.ensures.at c.live_in.ensures.looked live.0.0 c.enter.new.pass.1 c.enter.result live.0.1 (λ (e : k ≡ x.1.key.sizes.log). omega arith) c.enter.ensures.turn
