use Rattle.std.proofs.Common.{refl, ap, Some, arith, rules}
use Rattle.reg_words.specs.Packing.{log_word}
use Rattle.reg_words.proofs.LogWords.{joined, id_fits, kind_fits, low_fits, decl_back, wd_back}
use Rattle.reg_words.proofs.word.LogWord.unpack.Goals as goal

pub returns-then-id-ge-IDS-clause-none : goal.returns-then-id-ge-IDS-clause-none
returns-then-id-ge-IDS-clause-none c w f e = let low = id_fits c.args.word w f e in omega arith

pub returns-then-id-ge-IDS-clause-back : goal.returns-then-id-ge-IDS-clause-back
returns-then-id-ge-IDS-clause-back c w f e = let low = id_fits c.args.word w f e in absurd (omega arith)

pub returns-in_err-kind-clause-none : goal.returns-in_err-kind-clause-none
returns-in_err-kind-clause-none c =
    rw c.from_residual.ensures (λ w f e. let low = kind_fits c.args.word w f e in let high = c.in_err-kind.ensures.none.0 refl in omega arith)

pub returns-in_err-kind-clause-back : goal.returns-in_err-kind-clause-back
returns-in_err-kind-clause-back c w f e = let low = kind_fits c.args.word w f e in let high = c.in_err-kind.ensures.none.0 refl in absurd (omega arith)

pub returns-then-word-eq1-clause-found : goal.returns-then-word-eq1-clause-found
unfolding log_word
returns-then-word-eq1-clause-found c =
    let kind_is = c.in_ok-kind.ensures.found in
    let whole = joined c.args.word in
    ((search rules, omega arith, omega arith), omega arith)

pub returns-then-word-eq1-clause-back : goal.returns-then-word-eq1-clause-back
returns-then-word-eq1-clause-back c w f e =
    let kind_is = c.in_ok-kind.ensures.found in
    ap Some (decl_back c.args.word _ _ _ w f e (omega arith) (omega arith) (omega arith) (omega arith))

pub returns-then-word-eq2-clause-found : goal.returns-then-word-eq2-clause-found
unfolding log_word
returns-then-word-eq2-clause-found c = let whole = joined c.args.word in ((omega arith, omega arith), omega arith)

pub returns-then-word-eq2-clause-back : goal.returns-then-word-eq2-clause-back
returns-then-word-eq2-clause-back c w f e = ap Some (wd_back c.args.word _ _ w f e (omega arith) (omega arith) (omega arith))

pub returns-clause-none : goal.returns-clause-none
returns-clause-none c w f e = let low = low_fits c.args.word w f e c.if-word-eq1.false in c.if-word-eq2.false low

pub returns-clause-back : goal.returns-clause-back
returns-clause-back c w f e = let low = low_fits c.args.word w f e c.if-word-eq1.false in absurd (c.if-word-eq2.false low)
