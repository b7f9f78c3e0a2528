use Rattle.std.proofs.Common.{sym, ◌∙◌, arith}
use Rattle.reg_history.proofs.lines.HitReading.{none_so_far, one_more, no_hit, all_hits, some_left}
use Rattle.reg_history.proofs.lines.told_reply.hits_of.Goals as goal

pub loop-rest-init : goal.loop-rest-init
loop-rest-init c = rw c.new-hits.ensures (none_so_far c.args.words.now)

pub loop-rest-preserved : goal.loop-rest-preserved
loop-rest-preserved c =
    rw c.in_ok-push.ensures.ok
    (one_more c.args.words.now c.loop-rest.hits c.loop-rest.rest.now c.behind.result.now _ c.in-Some.hit c.loop-rest.invariant (sym c.first_byte.ensures ∙ c.loop-rest-test.true)
    c.behind.ensures.reads c.in-Some.ensures.value c.in-Some.ensures.reads)

pub loop-rest-smaller : goal.loop-rest-smaller
loop-rest-smaller c =
    let some = some_left c.loop-rest.rest.now (sym c.first_byte.ensures ∙ c.loop-rest-test.true) in
    omega (arith, some, c.in-Some.ensures.within, c.behind.ensures.within)

pub returns-in_default-clause-reads : goal.returns-in_default-clause-reads
returns-in_default-clause-reads c =
    no_hit c.args.words.now c.loop-rest.hits c.loop-rest.rest.now c.behind.result.now c.loop-rest.invariant (sym c.first_byte.ensures ∙ c.loop-rest-test.true) c.behind.ensures.reads
    (λ is left h low text. c.in_default.ensures.reads is left h low text)

pub returns-clause-reads : goal.returns-clause-reads
returns-clause-reads c = all_hits c.args.words.now c.loop-rest.hits c.loop-rest.rest.now c.loop-rest.invariant (λ e. c.loop-rest-test.false (c.first_byte.ensures ∙ e))

pub returns-clause-value : goal.returns-clause-value
returns-clause-value c = c.loop-rest.invariant.values
