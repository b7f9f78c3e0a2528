use Rattle.std.proofs.Common.{◌≡◌, ◌≤◌, length, rules, arith}
use Rattle.std.specs.Prelude.{take, vec_len, vec_capacity}
use Rattle.reg_session.proofs.SessionSteps.{made_next, made_same, made_first, rows_kept}
use Rattle.reg_session.proofs.session.serve.Goals as goal

-- the calls before the one that was not answered
pub returns-in_err-answer-clause-first : goal.returns-in_err-answer-clause-first
returns-in_err-answer-clause-first g c =
    let desk = g.D.Desk in
    let limits = desk.limits c.args.desk.now in
    let opening = desk.opening c.args.desk.now in
    let calls = c.args.calls.now in
    let n = c.loop-call.call-index in
    let after = desk.pass_view c.serve_call.new.pass in
    let made = made_same limits opening c.args.session (take n calls) (desk.pass_view c.loop-call.pass) after c.loop-call.invariant.made c.in_err-answer.ensures.answered in
    search (rules, made_first limits opening c.args.session calls n after c.call-item.result c.loop-call-test.true c.call-item.is c.in_err-answer.ensures.wanting made)

-- there was room for the row
pub returns-in_err-push-clause-first : goal.returns-in_err-push-clause-first
returns-in_err-push-clause-first g c =
    let many : length c.loop-call.rows.items ≡ vec_len c.loop-call.rows = search rules in
    let full : vec_capacity c.loop-call.rows ≤ vec_len c.loop-call.rows = search rules in
    absurd (omega (arith, full, many, c.loop-call.invariant.count, c.loop-call.invariant.room, c.loop-call-test.true))

pub loop-call-preserved : goal.loop-call-preserved
loop-call-preserved g c =
    let desk = g.D.Desk in
    let limits = desk.limits c.args.desk.now in
    let opening = desk.opening c.args.desk.now in
    let calls = c.args.calls.now in
    let n = c.loop-call.call-index in
    let before = desk.pass_view c.loop-call.pass in
    let after = desk.pass_view c.serve_call.new.pass in
    let answer = c.in_ok-answer.answer in
    let number : c.len-number.result ≡ length c.loop-call.rows.items = search rules in
    record {
      fit = c.in_ok-answer.ensures.fit;
      made = made_next limits opening c.args.session calls n before after c.call-item.result answer c.loop-call-test.true c.call-item.is
          c.loop-call.invariant.made c.in_ok-answer.ensures.answered c.in_ok-answer.ensures.asks;
      rows_are = rows_kept limits opening before after c.call-item.result answer c.args.session c.len-number.result c.loop-call.rows.items c.push.new.self.items
          c.loop-call.invariant.rows_are c.loop-call.invariant.made.number number c.in_ok-push.ensures.items c.in_ok-answer.ensures.answered;
      count = search rules;
      room = search (rules, c.loop-call.invariant.room);
    }
