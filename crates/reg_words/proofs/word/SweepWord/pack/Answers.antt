use Rattle.std.proofs.Common.{arith}
use Rattle.reg_words.specs.Packing.{sweep_word}
use Rattle.reg_words.proofs.SweepWords.{bit_small, byte_is}
use Rattle.reg_words.proofs.word.SweepWord.pack.Goals as goal

pub returns : goal.returns
unfolding sweep_word
returns c =
    let held = byte_is c.args.self.now.held in
    let limbo = byte_is c.args.self.now.limbo in
    let held_small = bit_small c.args.self.now.held in
    let limbo_small = bit_small c.args.self.now.limbo in
    omega arith
