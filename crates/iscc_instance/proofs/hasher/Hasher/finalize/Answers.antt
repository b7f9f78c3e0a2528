use Rattle.std.proofs.Math.Logic.{∥∥₁_map}
use Rattle.iscc_instance.specs.Hasher.{HasTaken}
use Rattle.iscc_instance.proofs.hasher.Hasher.finalize.Goals as goal

pub returns : goal.returns
unfolding HasTaken
returns c = record {
  hash = c.hash.ensures;
  some = ∥∥₁_map c.args.self.now.has_bytes (λ w. (w.0, w.1, c.hash.ensures w.0 w.1));
}
