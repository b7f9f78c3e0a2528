use Rattle.std.proofs.Common.{◌≡◌, ◌+◌, ◌*◌, map}
use Rattle.std.specs.List.{range_with_len}
use Rattle.reg_model.specs.declared.call.Call.TheVariants as calls
use Rattle.reg_make.specs.Generator.{number_after, unit}
use Rattle.reg_make.proofs.calls.declare_list.Given as goal

abbrev pub invariant-loop-i : goal.invariant-loop-i
invariant-loop-i l = record {
  made : l.calls.items ≡ map (λ i. calls.Declare (unit l.work.seed i)) (range_with_len (l.session * l.each) l.i);
  here : l.numbers.state ≡ number_after l.work.seed (16 + (l.session * l.each + l.i));
}
