use Rattle.iscc_instance.specs.Hasher.{hasher_len, HasTaken}
use Rattle.iscc_instance.proofs.hasher.Hasher.new.Goals as goal

pub returns : goal.returns
unfolding hasher_len HasTaken
returns c = record { len = c.new.ensures.len; bytes = c.new.ensures.bytes }
