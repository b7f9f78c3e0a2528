use Rattle.std.proofs.Common.{◌≡◌, ◌++◌, map, length}
use Rattle.std.specs.Prelude.{All, take}
use Rattle.std.specs.Vec.Iter.{into_iter_items, into_iter_len}
use Rattle.reg_session.specs.inner.Rounds.{ServedFrom}
use Rattle.reg_session.proofs.rounds.serve_all.Given as goal

abbrev pub invariant-loop-served : goal.invariant-loop-served
invariant-loop-served g l =
    let desk = g.D.Desk in
    record {
      split : l.yielded ++ into_iter_items l.served-iterator ≡ into_iter_items l.initial.served-iterator;
      left : into_iter_len l.served-iterator ≡ length (into_iter_items l.served-iterator);
      fit : All (desk.fit l.desk) l.passes.items;
      served : ServedFrom (desk.limits l.desk) (desk.opening l.desk) 0 (take (length l.yielded) (map (λ list. list.items) l.calls)) (map desk.pass_view l.passes.items) l.accounts;
    }
