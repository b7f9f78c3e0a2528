use Rattle.std.proofs.Common.{refl}
use Rattle.blake3_core.specs.Tree.{node_value}
use Rattle.blake3_core.proofs.node.Output.value.Goals as goal

pub returns : goal.returns
unfolding node_value
returns c = rw (c.first_half.ensures, c.compress.ensures) refl
