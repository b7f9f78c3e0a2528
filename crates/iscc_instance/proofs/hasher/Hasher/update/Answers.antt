use Rattle.std.proofs.Common.{◌++◌, arith}
use Rattle.std.proofs.Math.Logic.{∥∥₁_map}
use Rattle.iscc_instance.specs.Hasher.{hasher_len, HasTaken}
use Rattle.iscc_instance.proofs.hasher.Hasher.update.Goals as goal

pub update-requires-clause-fits : goal.update-requires-clause-fits
unfolding hasher_len
update-requires-clause-fits c = c.requires

pub invariant_of-self : goal.invariant_of-self
unfolding hasher_len
invariant_of-self c = record {
  in_chunk = c.update.ensures.in_chunk;
  fits = omega (arith, c.update.ensures.len);
  has_bytes = ∥∥₁_map c.args.self.now.has_bytes (λ w. (w.0 ++ c.args.piece.now, c.update.ensures.bytes w.0 w.1));
}

pub returns-clause-len : goal.returns-clause-len
unfolding hasher_len
returns-clause-len c = c.update.ensures.len

pub returns-clause-bytes : goal.returns-clause-bytes
unfolding HasTaken
returns-clause-bytes c = c.update.ensures.bytes
