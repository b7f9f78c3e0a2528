-- Lists of entries, and the words that lead through one.
use Rattle.std.specs.Prelude.{◌≡◌, ℕ, ◌⊎◌, List, [], ◌∷◌}
use Rattle.reg_rule.specs.Links.{link_word}

abbrev pub Member : ℕ → List ℕ → Type 0
Member e [] = ⊥
Member e (x ∷ xs) = (e ≡ x) ⊎ Member e xs

abbrev pub Avoids : ℕ → List ℕ → Type 0
Avoids e [] = Unit {0}
Avoids e (x ∷ xs) = ((x ≡ e) → ⊥) × Avoids e xs

abbrev pub Once : List ℕ → Type 0
Once [] = Unit {0}
Once (x ∷ xs) = Avoids x xs × Once xs

-- these entries are met from the word on, by the next words, up to a 0
abbrev pub LeadsThrough : (ℕ → ℕ) → ℕ → List ℕ → Type 0
LeadsThrough next word [] = word ≡ 0
LeadsThrough next word (e ∷ es) = (word ≡ link_word e) × LeadsThrough next (next e) es
