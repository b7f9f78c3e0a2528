use Rattle.std.proofs.Common.{◌≡◌, ◌++◌, map, length}
use Rattle.std.specs.List.{range_with_len}
use Rattle.std.specs.Vec.Iter.{into_iter_items, into_iter_len}
use Rattle.reg_session.proofs.rounds.seated.Given as goal

abbrev pub invariant-loop-pass : goal.invariant-loop-pass
invariant-loop-pass g l = record {
  split : l.yielded ++ into_iter_items l.pass-iterator ≡ l.fn.passes.items;
  left : into_iter_len l.pass-iterator ≡ length (into_iter_items l.pass-iterator);
  passes : map (λ seat. seat.pass) l.seats.items ≡ l.yielded;
  numbers : map (λ seat. seat.number) l.seats.items ≡ range_with_len 0 (length l.yielded);
  count : length l.seats.items ≡ length l.yielded;
}
