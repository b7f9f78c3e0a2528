use Rattle.blake3_core.proofs.Trees.{tree-small, tree-large}
use Rattle.blake3_core.proofs.node.tree_laws.Goals as goal

pub returns : goal.returns
returns c = record { small = tree-small; large = tree-large }
