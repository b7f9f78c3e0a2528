-- Numbers in a row that pass a test, and the probes from a place on.
use Rattle.std.proofs.Common.{◌≡◌, ℕ, zero, suc, ◌+◌, ◌-◌, ◌<◌, ◌≤◌, Bool, true, false, cond, [], ◌∷◌, ◌++◌, refl, ◌∙◌, ap, ap₂, filter, arith}
use Rattle.std.specs.List.{range_with_len}
use Rattle.std.proofs.lemmas.List.Elements.{filter-append}

pub range-append : (a m n : ℕ) → range_with_len a (m + n) ≡ range_with_len a m ++ range_with_len (a + m) n
range-append a zero n = ap₂ range_with_len (let same : a ≡ a + 0 = omega arith in same) (let same : 0 + n ≡ n = omega arith in same)
range-append a (suc m) n =
    ap (range_with_len a) (let next : suc m + n ≡ suc (m + n) = omega arith in next)
    ∙ ap (λ xs. a ∷ xs) (range-append (a + 1) m n ∙ ap (λ from. range_with_len (a + 1) m ++ range_with_len from n) (let same : a + 1 + m ≡ a + suc m = omega arith in same))

-- none of so many numbers passes
none_pass : (test : ℕ → Bool) (a n : ℕ) → ((x : ℕ) → a ≤ x → x < a + n → test x ≡ false) → filter test (range_with_len a n) ≡ []
none_pass test a zero fail = refl
none_pass test a (suc n) fail =
    ap (λ passes. cond passes (a ∷ filter test (range_with_len (a + 1) n)) (filter test (range_with_len (a + 1) n))) (fail a (omega arith) (omega arith))
    ∙ none_pass test (a + 1) n (λ x low high. fail x (omega arith) (omega arith))

-- from a later place on, where none before it passes
pub passed_over : (test : ℕ → Bool) (from to end : ℕ) → from ≤ to → to ≤ end → ((x : ℕ) → from ≤ x → x < to → test x ≡ false)
    → filter test (range_with_len from (end - from)) ≡ filter test (range_with_len to (end - to))
passed_over test from to end low high fail =
    ap (λ n. filter test (range_with_len from n)) (let parts : end - from ≡ to - from + (end - to) = omega arith in parts)
    ∙ ap (filter test) (range-append from (to - from) (end - to))
    ∙ filter-append test (range_with_len from (to - from)) (range_with_len (from + (to - from)) (end - to))
    ∙ ap₂ (λ xs start. xs ++ filter test (range_with_len start (end - to))) (none_pass test from (to - from) (λ x a b. fail x a (omega arith))) (let same : from + (to - from) ≡ to = omega arith in same)

-- the first passes
pub first_passes : (test : ℕ → Bool) (from end : ℕ) → from < end → test from ≡ true
    → filter test (range_with_len from (end - from)) ≡ from ∷ filter test (range_with_len (from + 1) (end - (from + 1)))
first_passes test from end low passes =
    ap (λ n. filter test (range_with_len from n)) (let one : end - from ≡ suc (end - (from + 1)) = omega arith in one)
    ∙ ap (λ p. cond p (from ∷ filter test (range_with_len (from + 1) (end - (from + 1)))) (filter test (range_with_len (from + 1) (end - (from + 1))))) passes
