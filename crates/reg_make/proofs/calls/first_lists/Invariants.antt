use Rattle.std.proofs.Common.{◌≡◌, ◌+◌, ◌*◌, map}
use Rattle.std.specs.List.{range_with_len}
use Rattle.reg_make.specs.Generator.{number_after}
use Rattle.reg_make.specs.Workloads.{declare_calls}
use Rattle.reg_make.proofs.calls.first_lists.Given as goal

abbrev pub invariant-loop-session : goal.invariant-loop-session
invariant-loop-session l = record {
  made : map (λ list. list.items) l.lists.items ≡ map (declare_calls l.work) (range_with_len 0 l.session);
  here : l.numbers.state ≡ number_after l.work.seed (16 + l.session * l.work.each);
}
