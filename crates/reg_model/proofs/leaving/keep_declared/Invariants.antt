use Rattle.std.proofs.Common.{◌≡◌, ◌≤◌, ◌+◌, ◌++◌, not, drop, filter, vec_capacity}
use Rattle.reg_model.specs.Live.{declared_from, is_withdrawn}
use Rattle.reg_model.proofs.leaving.keep_declared.Given as goal

-- what has been added, with what is left, is all
abbrev pub invariant-loop-place : goal.invariant-loop-place
invariant-loop-place l = record {
  all : l.list.items ++ filter (λ d. not (is_withdrawn l.updates d.id)) (declared_from (l.base + l.place) (drop l.place l.updates))
      ≡ l.initial.list.items ++ filter (λ d. not (is_withdrawn l.updates d.id)) (declared_from l.base l.updates);
  capacity : vec_capacity l.initial.list ≤ vec_capacity l.list;
}
