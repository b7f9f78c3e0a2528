use Rattle.std.proofs.Common.{◌≡◌, ◌≤◌, length}
use Rattle.std.specs.Prelude.{take, vec_capacity}
use Rattle.reg_session.specs.Sessions.{HasMade}
use Rattle.reg_session.proofs.session.serve.Given as goal

abbrev pub invariant-loop-call : goal.invariant-loop-call
invariant-loop-call g l =
    let desk = g.D.Desk in
    record {
      fit : desk.fit l.desk l.pass;
      made : HasMade (desk.limits l.desk) (desk.opening l.desk) l.session (take l.call-index l.calls) (desk.pass_view l.pass);
      rows_are : l.rows.items ≡ (desk.pass_view l.pass).account;
      count : length l.rows.items ≡ l.call-index;
      room : length l.calls ≤ vec_capacity l.rows;
    }
