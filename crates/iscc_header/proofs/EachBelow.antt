-- A test that holds of each number below a numeral, shown by computing it there.
use Rattle.std.proofs.Common.{◌≡◌, ℕ, zero, suc, ◌<◌, Bool, true, ◌&&◌, subst, sym, arith, inl, inr}
use Rattle.std.specs.Prelude.{◌⊎◌}
use Rattle.std.proofs.lemmas.Bool.{and_parts}

abbrev pub all_below : ℕ → (ℕ → Bool) → Bool
all_below zero test = true
all_below (suc n) test = test n && all_below n test

-- below, or at
last_or_below : (k n : ℕ) → k < suc n → (k ≡ n) ⊎ (k < n)
last_or_below k n low = grind arith

pub each_below : (n : ℕ) (test : ℕ → Bool) → all_below n test ≡ true → (k : ℕ) → k < n → test k ≡ true
each_below zero test h k low = absurd (omega arith)
each_below (suc n) test h k low =
    let parts = and_parts (test n) (all_below n test) h in
    elim (last_or_below k n low) [
      | inl at ↦ subst (λ m. test m ≡ true) (sym at) parts.0
      | inr below ↦ each_below n test parts.1 k below
    ]
