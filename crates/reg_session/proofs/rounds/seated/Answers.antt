use Rattle.std.proofs.Common.{◌≡◌, ◌<◌, [], ◌∷◌, length, rules, arith, ap, ◌∙◌}
use Rattle.std.specs.List.{range_with_len}
use Rattle.std.specs.Vec.Iter.{into_iter_items}
use Rattle.std.proofs.lemmas.List.{length-append}
use Rattle.reg_session.proofs.RoundSteps.{all_taken, one_taken, seat_more, pass_more}
use Rattle.reg_session.proofs.rounds.seated.Goals as goal

pub overflow_cast-number : goal.overflow_cast-number
overflow_cast-number g c =
    let at = c.loop-pass in
    let number : c.len-number.result ≡ length at.seats.items = search rules in
    let low : c.len-number.result < 4294967296 =
    omega (arith, number, at.invariant.count, ap length at.invariant.split, length-append at.yielded (into_iter_items at.pass-iterator), c.requires) in
    search (rules, low)

pub loop-pass-preserved : goal.loop-pass-preserved
loop-pass-preserved g c =
    let at = c.loop-pass in
    let number : c.len-number.result ≡ length at.seats.items = search rules in
    record {
      split = one_taken at.yielded (into_iter_items at.pass-iterator) (into_iter_items c.next.new.self) c.args.passes.items c.in-Some.pass at.invariant.split c.in-Some.ensures.steps.0;
      left = omega (arith, at.invariant.left, c.in-Some.ensures.steps.1, ap length c.in-Some.ensures.steps.0);
      passes = pass_more at.seats.items c.push.new.self.items at.yielded c.len-number.result c.in-Some.pass c.in_ok-push.ensures.items at.invariant.passes;
      numbers = seat_more at.seats.items c.push.new.self.items at.yielded c.len-number.result c.in-Some.pass c.in_ok-push.ensures.items (number ∙ at.invariant.count) at.invariant.numbers;
      count = omega (arith, ap length c.in_ok-push.ensures.items, length-append at.seats.items (record { number = c.len-number.result; pass = c.in-Some.pass } ∷ []), at.invariant.count, length-append at.yielded (c.in-Some.pass ∷ []));
    }

pub returns-clause-passes : goal.returns-clause-passes
returns-clause-passes g c =
    let at = c.loop-pass in
    at.invariant.passes ∙ all_taken at.yielded (into_iter_items at.pass-iterator) c.args.passes.items (omega (arith, at.invariant.left, c.in-None.ensures.steps.0)) at.invariant.split

pub returns-clause-numbers : goal.returns-clause-numbers
returns-clause-numbers g c =
    let at = c.loop-pass in
    at.invariant.numbers
    ∙ ap (λ passes. range_with_len 0 (length passes)) (all_taken at.yielded (into_iter_items at.pass-iterator) c.args.passes.items (omega (arith, at.invariant.left, c.in-None.ensures.steps.0)) at.invariant.split)
