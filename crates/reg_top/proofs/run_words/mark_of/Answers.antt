use Rattle.std.proofs.Common.{◌≡◌, ◌≤◌, ℕ, List, ◌++◌, length, Bor, subst, sym, rules}
use Rattle.reg_requests.specs.Numbers.{IsNumber}
use Rattle.std.specs.Prelude.{codes}
use Rattle.reg_top.proofs.RoundMarks.{no_mark, mark_parts, mark_is, number_of}
use Rattle.reg_top.proofs.run_words.mark_of.Goals as goal

pub returns-in_err-entries-clause-none : goal.returns-in_err-entries-clause-none
returns-in_err-entries-clause-none c =
    let word = c.args.word.now in
    let text = c.in_ok-sizes.sizes.now in
    let begins : word ≡ codes "/" ++ text = search rules in
    let long : 1 ≤ length text = search rules in
    rw c.from_residual-in_err-entries.ensures (no_mark word text begins long c.in_err-entries.ensures.cases)

pub returns-in_err-entries-2-clause-none : goal.returns-in_err-entries-2-clause-none
returns-in_err-entries-2-clause-none c =
    let word = c.args.word.now in
    let text = c.in_ok-sizes.sizes.now in
    let sides : Bor (List ℕ) × Bor (List ℕ) = (c.in_ok-entries.entries, c.in_ok-entries.log) in
    let begins : word ≡ codes "/" ++ text = search rules in
    let long : 1 ≤ length text = search rules in
    let same : c.as_bytes.result.now ≡ c.in_ok-entries.entries.now = search rules in
    rw c.from_residual-in_err-entries-2.ensures
    (λ sizes mark. let parts = mark_parts word text sides begins long c.in_ok-entries.ensures.cases sizes mark in c.in_err-entries-2.ensures.none (subst IsNumber (sym same) parts.0))

pub returns-in_err-log-clause-none : goal.returns-in_err-log-clause-none
returns-in_err-log-clause-none c =
    let word = c.args.word.now in
    let text = c.in_ok-sizes.sizes.now in
    let sides : Bor (List ℕ) × Bor (List ℕ) = (c.in_ok-entries.entries, c.in_ok-entries.log) in
    let begins : word ≡ codes "/" ++ text = search rules in
    let long : 1 ≤ length text = search rules in
    let same : c.as_bytes-2.result.now ≡ c.in_ok-entries.log.now = search rules in
    rw c.from_residual-in_err-log.ensures
    (λ sizes mark. let parts = mark_parts word text sides begins long c.in_ok-entries.ensures.cases sizes mark in c.in_err-log.ensures.none (subst IsNumber (sym same) parts.1))

pub returns-clause-found : goal.returns-clause-found
returns-clause-found c =
    let word = c.args.word.now in
    let text = c.in_ok-sizes.sizes.now in
    let sides : Bor (List ℕ) × Bor (List ℕ) = (c.in_ok-entries.entries, c.in_ok-entries.log) in
    let begins : word ≡ codes "/" ++ text = search rules in
    let first : c.as_bytes.result.now ≡ c.in_ok-entries.entries.now = search rules in
    let second : c.as_bytes-2.result.now ≡ c.in_ok-entries.log.now = search rules in
    mark_is word text sides c.in_ok-entries-2.entries c.in_ok-log.log begins c.in_ok-entries.ensures.cases
    (number_of c.as_bytes.result.now c.in_ok-entries.entries.now c.in_ok-entries-2.entries first c.in_ok-entries-2.ensures.found c.in_ok-entries-2.ensures.value)
    (number_of c.as_bytes-2.result.now c.in_ok-entries.log.now c.in_ok-log.log second c.in_ok-log.ensures.found c.in_ok-log.ensures.value)
