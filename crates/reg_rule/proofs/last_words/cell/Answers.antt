use Rattle.std.specs.Slots.{slots_items}
use Rattle.reg_rule.proofs.WordsRead.{word_there}
use Rattle.reg_rule.proofs.last_words.cell.Goals as goal

pub returns-clause-inside : goal.returns-clause-inside
returns-clause-inside c = λ lt. word_there (slots_items c.args.words.now.words) _ c.word.result c.word.ensures
