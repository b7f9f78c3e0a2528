use Rattle.reg_top.specs.inner.RunWords.{argument_of}
use Rattle.reg_top.proofs.RunWordsReading.{one_stands, no_value, no_option}
use Rattle.reg_top.proofs.run_words.argument_at.Goals as goal

pub returns-then-is_value-clause-found : goal.returns-then-is_value-clause-found
returns-then-is_value-clause-found c = one_stands c.args.words.now c.args.at c.word-word.result.now (argument_of c.placed_by.result) c.word-word.ensures c.placed_by.ensures

pub returns-in_err-option-clause-none : goal.returns-in_err-option-clause-none
returns-in_err-option-clause-none c =
    let word = c.word-word.result.now in
    let dashed = no_value c.is_value.result word c.is_value.ensures c.if-is_value.false in
    rw c.from_residual.ensures (no_option c.args.words.now c.args.at word c.word-word.ensures dashed c.in_default.ensures.none c.in_err-option.ensures.none)
