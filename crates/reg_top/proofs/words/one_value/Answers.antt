use Rattle.std.proofs.Common.{◌≡◌, Some, length, rules}
use Rattle.std.specs.Prelude.{slice_get}
use Rattle.reg_top.proofs.RoundMarks.{two_words}
use Rattle.reg_top.proofs.words.one_value.Goals as goal

pub returns-then-is_value-clause-found : goal.returns-then-is_value-clause-found
returns-then-is_value-clause-found c =
    let words = c.args.words.now in
    let len : length words ≡ 2 = search rules in
    let first : slice_get words 0 ≡ Some c.args.first.now = search rules in
    record {
      words_are = two_words words c.args.first.now c.word-value.result.now len first c.word-value.ensures;
      is_value = c.is_value.ensures.0 c.if-is_value.true;
    }
