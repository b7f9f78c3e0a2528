use Rattle.std.proofs.Common.{◌≡◌, length, take}
use Rattle.std.specs.List.{range_with_len}
use Rattle.reg_model.specs.inner.Marks.{ids_of, marks}
use Rattle.reg_model.proofs.leaving.mark_each.Given as goal

-- the marks are those of the updates that the loop has passed
abbrev pub invariant-loop-update : goal.invariant-loop-update
invariant-loop-update l = record {
  of_carried : l.of_carried ≡ marks (take l.update-index l.updates) (ids_of l.carried);
  of_places : l.of_places ≡ marks (take l.update-index l.updates) (range_with_len l.base (length l.initial.of_places));
}
