use Rattle.std.proofs.Common.{List, ℕ, sym, ap, ◌∙◌, arith}
use Rattle.blake3_core.specs.Compression.{compress, feed_forward, initial_state, rounds}
use Rattle.blake3_core.proofs.Words.{drop-elements_from}
use Rattle.blake3_core.proofs.compression.compress.Goals as goal

pub returns : goal.returns
unfolding compress
returns c =
    let cv = c.args.cv.now in
    let after = λ (w : List ℕ). rounds (initial_state w c.args.counter c.args.len c.args.flags) c.args.block.now 7 in
    ap (feed_forward cv) (c.seven_rounds.ensures ∙ sym (ap after (drop-elements_from cv 0 8 (omega arith))))
