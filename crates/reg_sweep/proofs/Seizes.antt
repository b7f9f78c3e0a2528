-- How the sweep is taken, exchange by exchange.
use Rattle.std.proofs.Common.{◌≡◌, ◌≢◌, ℕ, ◌+◌, ◌-◌, ◌%◌, ◌<◌, ◌≤◌, Bool, true, false, [], ◌∷◌, ◌++◌, sym, refl, ap, ◌∙◌, subst, arith}
use Rattle.reg_words.specs.declared.word.SweepWord.{SweepWord}
use Rattle.reg_words.specs.Packing.{bit, sweep_word}
use Rattle.reg_words.proofs.SweepWords.{bit_small}
use Rattle.reg_rule.specs.declared.told.Told.TheVariants.{Ends}
use Rattle.reg_rule.specs.declared.view.View.{View}
use Rattle.reg_rule.specs.SweepWords.{rank}
use Rattle.reg_rule.specs.Steps.{SweepSwapped}
use Rattle.reg_sweep.specs.inner.Turns.{refused}

-- ---- words

-- the word of the same state, held
pub held_word : (word : ℕ) (s : SweepWord) → word ≡ sweep_word s → word - word % 2 + 1 ≡ sweep_word (record s { held = true })
unfolding sweep_word
held_word word s is = let low = bit_small s.held in omega arith

-- the low bit says whether it is held
pub odd_held : (word : ℕ) (s : SweepWord) → word ≡ sweep_word s → word % 2 ≡ 1 → s.held ≡ true
unfolding sweep_word
odd_held word s is odd = by s.held refl where
  by : (b : Bool) → s.held ≡ b → s.held ≡ true
  by true e = e
  by false e = let bit_is : bit s.held ≡ 0 = ap bit e in absurd (omega arith)

pub even_free : (word : ℕ) (s : SweepWord) → word ≡ sweep_word s → word % 2 ≢ 1 → s.held ≡ false
unfolding sweep_word
even_free word s is even = by s.held refl where
  by : (b : Bool) → s.held ≡ b → s.held ≡ false
  by false e = e
  by true e = let bit_is : bit s.held ≡ 1 = ap bit e in absurd (even (omega arith))

-- ---- one exchange

pub held_one : (v w : View) (old found : ℕ) → SweepSwapped (Ends refused) old v found w → found % 2 ≡ 1 → (v.key.sizes.callers ≢ 1) × (w ≡ record v { sweeps = v.sweeps ++ refused ∷ []; made = v.made ++ 19 ∷ [] })
held_one v w old found told odd = let h = told.held (odd_held found told.word told.word_is odd) in (h.1, h.0)

pub moved_one : (v w : View) (old found : ℕ) → SweepSwapped (Ends refused) old v found w → found ≢ old → found % 2 ≢ 1 → (rank v.last_word < rank w.last_word) × (w.last_word.place ≤ v.key.sizes.log) × (w ≡ record v { last_word = w.last_word; made = v.made ++ 19 ∷ [] })
moved_one v w old found told other even =
    let m = told.moved other (even_free found told.word told.word_is even) in
    let word : w.last_word ≡ told.word = ap (λ (z : View). z.last_word) m.0 in (
      subst (λ (s : SweepWord). rank v.last_word < rank s) (sym word) m.1,
      subst (λ (s : SweepWord). s.place ≤ v.key.sizes.log) (sym word) m.2,
      m.0 ∙ (λ j. record v { last_word = sym word j; made = v.made ++ 19 ∷ [] }),
    )
