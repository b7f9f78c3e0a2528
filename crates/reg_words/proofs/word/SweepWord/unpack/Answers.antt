use Rattle.std.proofs.Common.{ap, Some, arith}
use Rattle.reg_words.proofs.SweepWords.{mark_fits, state_word, state_back}
use Rattle.reg_words.proofs.word.SweepWord.unpack.Goals as goal

pub returns-then-mark-ge-PLACES-clause-none : goal.returns-then-mark-ge-PLACES-clause-none
returns-then-mark-ge-PLACES-clause-none c s f e = let low = mark_fits c.args.word s f e in omega arith

pub returns-then-mark-ge-PLACES-clause-back : goal.returns-then-mark-ge-PLACES-clause-back
returns-then-mark-ge-PLACES-clause-back c s f e = let low = mark_fits c.args.word s f e in absurd (omega arith)

pub returns-clause-found : goal.returns-clause-found
returns-clause-found c = (record { place = omega arith; mark = c.if-mark-ge-PLACES.false }, state_word c.args.word _ _ (omega arith) (omega arith))

pub returns-clause-back : goal.returns-clause-back
returns-clause-back c s f e = ap Some (state_back c.args.word _ _ s f e (omega arith) (omega arith))
