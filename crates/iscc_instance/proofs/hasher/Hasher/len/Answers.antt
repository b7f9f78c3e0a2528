use Rattle.std.proofs.Common.{◌∙◌}
use Rattle.iscc_instance.specs.Hasher.{hasher_len, HasTaken}
use Rattle.iscc_instance.proofs.StateLemmas.{HasBytes-length}
use Rattle.iscc_instance.proofs.hasher.Hasher.len.Goals as goal

pub returns : goal.returns
unfolding hasher_len HasTaken
returns c = record { value = c.len.ensures; length = λ bytes has. c.len.ensures ∙ HasBytes-length c.args.self.now.state bytes has; some = c.args.self.now.has_bytes }
