use Rattle.std.proofs.Common.{◌≡◌, ◌++◌, take}
use Rattle.std.specs.List.{flat_map}
use Rattle.reg_image.specs.Images.{declared_bytes}
use Rattle.reg_image.proofs.Listed.{AreUnits}
use Rattle.reg_image.proofs.image.append_list.Given as goal

abbrev pub invariant-loop-declared : goal.invariant-loop-declared
invariant-loop-declared l = record {
  bytes : l.out.items ≡ l.fn.out.items ++ flat_map declared_bytes (take l.declared-index l.list);
  units : AreUnits (take l.declared-index l.list);
}
