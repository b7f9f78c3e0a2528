use Rattle.std.proofs.Common.{subst}
use Rattle.reg_requests.specs.declared.items.Line.TheVariants as lines
use Rattle.reg_requests.specs.Words.{words_of, line_words}
use Rattle.reg_requests.specs.Requests.{ReadsWords}
use Rattle.reg_requests.proofs.OneReading.{reading}
use Rattle.reg_requests.proofs.line.read_line.Goals as goal

pub returns-clause-bad : goal.returns-clause-bad
returns-clause-bad c = λ why.
    let result = c.read_words.result in
    reading (line_words c.args.line.now) result (lines.Bad why) (subst (λ t. ReadsWords (words_of t) result) c.without_return.ensures c.read_words.ensures.reads)

pub returns-clause-calls : goal.returns-clause-calls
returns-clause-calls c = λ list.
    let result = c.read_words.result in
    reading (line_words c.args.line.now) result (lines.Calls list) (subst (λ t. ReadsWords (words_of t) result) c.without_return.ensures c.read_words.ensures.reads)
