use Rattle.std.proofs.Common.{arith, ap, ◌∙◌}
use Rattle.blake3_core.specs.Compression.{iv}
use Rattle.blake3_core.specs.Tree.{hash, root_bytes}
use Rattle.iscc_instance.proofs.StateLemmas.{HasBytes-length}
use Rattle.iscc_instance.proofs.state.State.hash.Goals as goal

pub returns : goal.returns
unfolding hash
returns c = λ bytes has.
    let len = HasBytes-length c.args.self.now bytes has in
    let last = c.output.ensures iv 0 c.args.self.now.subtrees.count _ has.chunk in
    c.root_hash.ensures ∙ ap root_bytes (c.root.ensures bytes has.stands last (omega (arith, has.in_chunk)) (λ some. omega (arith, has.more some)) (omega arith))
