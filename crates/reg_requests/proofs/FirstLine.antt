-- The first line of a file.
use Rattle.std.proofs.Common.{◌≡◌, ℕ, zero, suc, ◌+◌, ◌-◌, ◌<◌, ◌≤◌, true, false, List, [], ◌∷◌, take, drop, get_or, length, refl, ◌∙◌, sym, ap, arith}
use Rattle.std.specs.Prelude.{if◌then◌else◌, ◌==◌}
use Rattle.reg_requests.specs.Words.{lines_of, onto_first}

not_ten : (x : ℕ) → (x ≡ 10 → ⊥) → (x == 10) ≡ false
not_ten x h = grind arith

is_ten : (x : ℕ) → x ≡ 10 → (x == 10) ≡ true
is_ten x h = rw h refl

pub cut_at : (xs : List ℕ) (i : ℕ) → ((k : ℕ) → k < i → get_or xs k 0 ≡ 10 → ⊥) → i < length xs → get_or xs i 0 ≡ 10 → lines_of xs ≡ take i xs ∷ lines_of (drop (i + 1) xs)
cut_at [] i before within at = absurd (omega arith)
cut_at (x ∷ xs) zero before within at = rw (is_ten x at) refl
cut_at (x ∷ xs) (suc i) before within at =
    let first : (x == 10) ≡ false = not_ten x (before 0 (omega arith)) in
    let rest : lines_of xs ≡ take i xs ∷ lines_of (drop (i + 1) xs) = cut_at xs i (λ k low. before (suc k) (omega arith)) (omega arith) at in
    let place : suc i + 1 ≡ suc (i + 1) = omega arith in
    rw (first, place, rest) refl

pub no_cut : (xs : List ℕ) → ((k : ℕ) → k < length xs → get_or xs k 0 ≡ 10 → ⊥) → 0 < length xs → lines_of xs ≡ xs ∷ []
no_cut [] before some = absurd (omega arith)
no_cut (x ∷ []) before some = rw (not_ten x (before 0 (omega arith))) refl
no_cut (x ∷ y ∷ ys) before some =
    let first : (x == 10) ≡ false = not_ten x (before 0 (omega arith)) in
    let rest : lines_of (y ∷ ys) ≡ (y ∷ ys) ∷ [] = no_cut (y ∷ ys) (λ k low. before (suc k) (omega arith)) (omega arith) in
    ap (λ b. if b then [] ∷ lines_of (y ∷ ys) else onto_first x (lines_of (y ∷ ys))) first ∙ ap (onto_first x) rest

pub ends_there : (file : List ℕ) (at : ℕ) → 0 < length file → length file ≤ at → ((k : ℕ) → k < at → get_or file k 0 ≡ 10 → ⊥) → lines_of file ≡ file ∷ lines_of (take (length file - at) (drop at file))
ends_there file at some end before =
    let none : length file - at ≡ 0 = omega arith in
    no_cut file (λ k low. before k (omega arith)) some ∙ ap (λ n. file ∷ lines_of (take n (drop at file))) (sym none)
