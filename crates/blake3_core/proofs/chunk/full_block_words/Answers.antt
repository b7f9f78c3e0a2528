use Rattle.std.proofs.Common.{◌≡◌, ◌-◌, length, refl, arith}
use Rattle.std.proofs.lemmas.List.{append-nil}
use Rattle.blake3_core.specs.Tree.{block_words}
use Rattle.blake3_core.proofs.chunk.full_block_words.Goals as goal

pub returns : goal.returns
unfolding block_words
returns c =
    let full : 64 - length c.args.block.now ≡ 0 = omega arith in
    rw (full, append-nil, c.word_at.ensures, c.word_at-2.ensures, c.word_at-3.ensures, c.word_at-4.ensures, c.word_at-5.ensures, c.word_at-6.ensures, c.word_at-7.ensures, c.word_at-8.ensures, c.word_at-9.ensures, c.word_at-10.ensures, c.word_at-11.ensures, c.word_at-12.ensures, c.word_at-13.ensures, c.word_at-14.ensures, c.word_at-15.ensures, c.word_at-16.ensures) refl
