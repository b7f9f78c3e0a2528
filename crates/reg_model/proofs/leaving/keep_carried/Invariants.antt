use Rattle.std.proofs.Common.{◌≡◌, ◌≤◌, ◌++◌, drop, vec_capacity}
use Rattle.reg_model.specs.inner.Marks.{unmarked}
use Rattle.reg_model.proofs.leaving.keep_carried.Given as goal

-- what has been added, with what is left, is all
abbrev pub invariant-loop-place : goal.invariant-loop-place
invariant-loop-place l = record {
  all : l.list.items ++ unmarked (drop l.place l.carried) (drop l.place l.withdrawn) ≡ l.initial.list.items ++ unmarked l.carried l.withdrawn;
  capacity : vec_capacity l.initial.list ≤ vec_capacity l.list;
}
