use Rattle.std.proofs.Common.{refl, sym, ap, ◌∙◌, Some, arith, rules}
use Rattle.reg_words.specs.Packing.{stamp_word}
use Rattle.reg_words.proofs.StampWords.{joined, born_fits, kind_fits, unborn_back, live_back, dead_back}
use Rattle.reg_words.proofs.word.StampWord.unpack.Goals as goal

pub returns-then-word-eq0-clause-found : goal.returns-then-word-eq0-clause-found
unfolding stamp_word
returns-then-word-eq0-clause-found c = (tt, sym c.if-word-eq0.true)

pub returns-then-word-eq0-clause-back : goal.returns-then-word-eq0-clause-back
returns-then-word-eq0-clause-back c s f e = ap Some (unborn_back s (e ∙ c.if-word-eq0.true))

pub returns-then-born-eq0-clause-none : goal.returns-then-born-eq0-clause-none
returns-then-born-eq0-clause-none c s f e = born_fits c.args.word s f e c.if-word-eq0.false c.if-born-eq0.true

pub returns-then-born-eq0-clause-back : goal.returns-then-born-eq0-clause-back
returns-then-born-eq0-clause-back c s f e = absurd (born_fits c.args.word s f e c.if-word-eq0.false c.if-born-eq0.true)

pub returns-in_err-kind-clause-none : goal.returns-in_err-kind-clause-none
returns-in_err-kind-clause-none c =
    rw c.from_residual.ensures (λ s f e. let low = kind_fits c.args.word s f e in let high = c.in_err-kind.ensures.none.0 refl in omega arith)

pub returns-in_err-kind-clause-back : goal.returns-in_err-kind-clause-back
returns-in_err-kind-clause-back c s f e = let low = kind_fits c.args.word s f e in let high = c.in_err-kind.ensures.none.0 refl in absurd (omega arith)

pub returns-then-dead-eq0-clause-found : goal.returns-then-dead-eq0-clause-found
unfolding stamp_word
returns-then-dead-eq0-clause-found c =
    let kind_is = c.in_ok-kind.ensures.found in
    let whole = joined c.args.word in
    ((search rules, omega arith), omega arith)

pub returns-then-dead-eq0-clause-back : goal.returns-then-dead-eq0-clause-back
returns-then-dead-eq0-clause-back c s f e =
    let kind_is = c.in_ok-kind.ensures.found in
    ap Some (live_back c.args.word _ _ s f e c.if-word-eq0.false (omega arith) (omega arith) (omega arith))

pub returns-clause-found : goal.returns-clause-found
unfolding stamp_word
returns-clause-found c =
    let kind_is = c.in_ok-kind.ensures.found in
    let whole = joined c.args.word in
    ((search rules, omega arith, omega arith), omega arith)

pub returns-clause-back : goal.returns-clause-back
returns-clause-back c s f e =
    let kind_is = c.in_ok-kind.ensures.found in
    ap Some (dead_back c.args.word _ _ _ s f e (omega arith) (omega arith) (omega arith))
