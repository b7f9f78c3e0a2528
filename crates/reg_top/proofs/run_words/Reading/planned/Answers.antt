use Rattle.std.proofs.Common.{◌≡◌, [], ◌∷◌, ◌++◌, sym, subst, rules}
use Rattle.std.specs.Prelude.{unwrap_or}
use Rattle.reg_model.specs.declared.sizes.TheConstants.{ENTRIES_USUAL, LOG_USUAL, BITS_USUAL}
use Rattle.reg_top.proofs.RunWordsPlans.{AreInRange, rounds_of_kept}
use Rattle.reg_top.proofs.run_words.Reading.planned.Goals as goal

pub returns-in_err-sizes-clause-none : goal.returns-in_err-sizes-clause-none
returns-in_err-sizes-clause-none c =
    let reading = c.args.self in
    let entries : c.unwrap_or.result ≡ unwrap_or reading.entries ENTRIES_USUAL = search rules in
    let log : c.unwrap_or-2.result ≡ unwrap_or reading.log LOG_USUAL = search rules in
    let bits : c.unwrap_or-bits.result ≡ unwrap_or reading.bits BITS_USUAL = search rules in
    let rounds : c.as_slice.result.now ≡ reading.closed.items ++ reading.last ∷ [] = search rules in
    let same = rounds_of_kept reading c.unwrap_or.result c.unwrap_or-2.result c.unwrap_or-bits.result c.as_slice.result.now entries log bits rounds in
    rw c.from_residual.ensures (λ are. c.in_err-sizes.ensures.none (subst AreInRange (sym same) are))
