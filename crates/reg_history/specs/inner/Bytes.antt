-- The bytes of a text: which it hasn't, and the first.
use Rattle.std.specs.Prelude.{◌≡◌, ◌<◌, ◌==◌, ℕ, Bool, true, false, List, [], ◌∷◌, if◌then◌else◌}

-- the byte isn't in the text
abbrev pub free : ℕ → List ℕ → Bool
free c [] = true
free c (x ∷ xs) = if x == c then false else free c xs

-- the first byte
abbrev pub first : List ℕ → ℕ
first [] = 0
first (x ∷ xs) = x

-- a number or a unit: no byte is below the digits, as all that ends one is
abbrev pub IsValueText : List ℕ → Type 0
IsValueText text = (c : ℕ) → c < 48 → free c text ≡ true
