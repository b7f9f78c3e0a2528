use Rattle.std.proofs.Common.{◌≡◌, List, ◌∷◌, ◌++◌, length, map, arith, sym, ◌∙◌, ap, subst}
use Rattle.std.specs.Prelude.{take}
use Rattle.std.specs.List.{range_with_len}
use Rattle.std.specs.Vec.Iter.{into_iter_items}
use Rattle.std.proofs.lemmas.List.{length-map, take_all}
use Rattle.reg_model.specs.declared.call.Call.{Call}
use Rattle.reg_session.specs.inner.Rounds.{ServedFrom}
use Rattle.reg_session.proofs.RoundSteps.{many_passes, many_seats, seats_all, one_taken, all_taken, one_more, own_more}
use Rattle.reg_session.proofs.rounds.serve_all.Goals as goal

pub seated-requires : goal.seated-requires
seated-requires g c =
    let desk = g.D.Desk in
    omega (arith, c.requires.few, many_passes (desk.fit c.args.desk.now) desk.pass_view (length c.args.calls.now) c.args.passes.items (desk.opening c.args.desk.now).base c.requires.passes)

pub serve_each-requires-clause-seats : goal.serve_each-requires-clause-seats
serve_each-requires-clause-seats g c κs within =
    let desk = g.D.Desk in
    seats_all (desk.fit c.args.desk.now) desk.pass_view (length c.args.calls.now) c.in_ok-seats.seats.items c.args.passes.items (desk.opening c.args.desk.now).base c.in_ok-seats.ensures.passes
    c.in_ok-seats.ensures.numbers c.requires.passes c.requires.fit

pub loop-served-preserved : goal.loop-served-preserved
loop-served-preserved g c =
    let desk = g.D.Desk in
    let at = c.loop-served in
    let all = c.in_ok-served-items.served-items.items in
    let seats = c.in_ok-seats.seats.items in
    let lists : List (List Call) = map (λ list. list.items) c.args.calls.now in
    let rest = into_iter_items c.next.new.self in
    let x = c.in-Some.served in
    let fit = desk.fit c.args.desk.now in
    let many : length c.args.passes.items ≡ length lists =
    many_passes fit desk.pass_view (length c.args.calls.now) c.args.passes.items (desk.opening c.args.desk.now).base c.requires.passes ∙ sym (length-map c.args.calls.now (λ list. list.items)) in
    let nums = c.in_ok-seats.ensures.numbers ∙ ap (range_with_len 0) many in
    let step = c.in-Some.ensures.steps.0 in
    let is : at.yielded ++ x ∷ rest ≡ all = ap (λ l. at.yielded ++ l) (sym step) ∙ (at.invariant.split ∙ c.into_iter-served-iterator.ensures.into_iter_gives.0) in
    record {
      split = one_taken at.yielded (into_iter_items at.served-iterator) rest (into_iter_items c.into_iter-served-iterator.result) x at.invariant.split step;
      left = omega (arith, at.invariant.left, c.in-Some.ensures.steps.1, ap length step);
      fit = own_more (desk.limits c.args.desk.now) (desk.opening c.args.desk.now) fit desk.pass_view lists seats all c.in_ok-served-items.ensures.each c.in_ok-served-items.ensures.count nums
          at.yielded rest x c.in_ok-pass.field-0 c.in_ok-pass.was is at.passes.items c.push.new.self.items c.in_ok-push.ensures.items at.invariant.fit;
      served = one_more (desk.limits c.args.desk.now) (desk.opening c.args.desk.now) fit desk.pass_view lists seats all c.in_ok-served-items.ensures.each c.in_ok-served-items.ensures.count nums
          at.yielded rest x c.in_ok-pass.field-0 c.in_ok-pass.was is at.passes.items c.push.new.self.items at.accounts c.push-in-loop-served.new.self c.in_ok-push.ensures.items c.in_ok-push-2.ensures.ok at.invariant.served;
    }

pub returns-clause-served : goal.returns-clause-served
returns-clause-served g c =
    let desk = g.D.Desk in
    let at = c.loop-served in
    let all = c.in_ok-served-items.served-items.items in
    let lists : List (List Call) = map (λ list. list.items) c.args.calls.now in
    let whole = all_taken at.yielded (into_iter_items at.served-iterator) all (omega (arith, at.invariant.left, c.in-None.ensures.steps.0))
    (at.invariant.split ∙ c.into_iter-served-iterator.ensures.into_iter_gives.0) in
    let many = many_seats c.in_ok-seats.seats.items (length c.args.passes.items) c.in_ok-seats.ensures.numbers in
    let dealt = many_passes (desk.fit c.args.desk.now) desk.pass_view (length c.args.calls.now) c.args.passes.items (desk.opening c.args.desk.now).base c.requires.passes in
    let all_lists : length lists ≡ length at.yielded = omega (arith, many, dealt, ap length whole, c.in_ok-served-items.ensures.count, length-map c.args.calls.now (λ list. list.items)) in
    subst (λ (l : List (List Call)). ServedFrom (desk.limits c.args.desk.now) (desk.opening c.args.desk.now) 0 l (map desk.pass_view at.passes.items) at.accounts)
    (ap (λ n. take n lists) (sym all_lists) ∙ take_all (length lists) lists (omega arith)) at.invariant.served
