-- The fields of a word of the sweep, and the word of its fields.
use Rattle.std.proofs.Common.{◌≡◌, ℕ, zero, suc, ◌+◌, ◌*◌, ◌/◌, ◌%◌, ◌<◌, Bool, true, false, ◌==◌, sym, ap, ◌∙◌, refl, arith}
use mir.Val.{bool_byte}
use Rattle.reg_words.specs.declared.word.SweepWord.{SweepWord}
use Rattle.reg_words.specs.Packing.{FitsSweep, bit, sweep_word}

-- a bit is told by its number
pub bit_back : (b : Bool) → (bit b == 1) ≡ b
bit_back true = refl
bit_back false = refl

-- as the code makes a number of it
pub byte_is : (b : Bool) → bool_byte b ≡ bit b
byte_is true = refl
byte_is false = refl

pub bit_small : (b : Bool) → bit b < 2
bit_small true = omega arith
bit_small false = omega arith

-- and a number below 2 is that of a bit
pub bit_of : (n : ℕ) → n < 2 → bit (n == 1) ≡ n
bit_of zero low = refl
bit_of (suc zero) low = refl
bit_of (suc (suc n)) low = absurd (omega arith)

-- a number in four fields: of 1 bit, of 1, of 25, and the rest
pub record HasFields (word held limbo place mark : ℕ) : Type 0 where
  pub held_is : word % 2 ≡ held
  pub limbo_is : word / 2 % 2 ≡ limbo
  pub place_is : word / 4 % 33554432 ≡ place
  pub mark_is : word / 134217728 ≡ mark

fields_of : (word held limbo place mark : ℕ) → held < 2 → limbo < 2 → place < 33554432 → word ≡ held + 2 * limbo + 4 * place + 134217728 * mark → HasFields word held limbo place mark
fields_of word held limbo place mark h l p e = record { held_is = omega arith; limbo_is = omega arith; place_is = omega arith; mark_is = omega arith }

-- a number is the sum of its fields
pub joined : (word : ℕ) → word % 2 + 2 * (word / 2 % 2) + 4 * (word / 4 % 33554432) + 134217728 * (word / 134217728) ≡ word
joined word = omega arith

sweep_fields : (word : ℕ) (s : SweepWord) → FitsSweep s → sweep_word s ≡ word → HasFields word (bit s.held) (bit s.limbo) s.place s.mark
unfolding sweep_word
sweep_fields word s f e = fields_of word (bit s.held) (bit s.limbo) s.place s.mark (bit_small s.held) (bit_small s.limbo) f.place (sym e)

pub mark_fits : (word : ℕ) (s : SweepWord) → FitsSweep s → sweep_word s ≡ word → word / 134217728 < 33554432
mark_fits word s f e = let h = sweep_fields word s f e in let m = f.mark in omega arith

-- the state of these fields
abbrev pub state_of : ℕ → ℕ → ℕ → SweepWord
state_of word place mark = record { held = word % 2 == 1; limbo = word / 2 % 2 == 1; place = place; mark = mark }

-- the one state of a word
pub state_back :
    (word place mark : ℕ) (s : SweepWord) →
    FitsSweep s →
    sweep_word s ≡ word →
    place ≡ word / 4 % 33554432 →
    mark ≡ word / 134217728 →
    state_of word place mark ≡ s
state_back word place mark s f e p_is m_is =
    let h = sweep_fields word s f e in
    let held_is : (word % 2 == 1) ≡ s.held = ap (λ n. n == 1) h.held_is ∙ bit_back s.held in
    let limbo_is : (word / 2 % 2 == 1) ≡ s.limbo = ap (λ n. n == 1) h.limbo_is ∙ bit_back s.limbo in
    λ i. record { held = held_is i; limbo = limbo_is i; place = (p_is ∙ h.place_is) i; mark = (m_is ∙ h.mark_is) i }

-- its word
pub state_word : (word place mark : ℕ) → place ≡ word / 4 % 33554432 → mark ≡ word / 134217728 → sweep_word (state_of word place mark) ≡ word
unfolding sweep_word
state_word word place mark p_is m_is =
    let held = bit_of (word % 2) (omega arith) in
    let limbo = bit_of (word / 2 % 2) (omega arith) in
    let whole = joined word in
    omega arith

-- a word is of one state at most
pub one_state : (s t : SweepWord) → FitsSweep s → FitsSweep t → sweep_word s ≡ sweep_word t → s ≡ t
one_state s t f g e =
    let h = sweep_fields (sweep_word s) s f refl in
    sym (state_back (sweep_word s) s.place s.mark s f refl (sym h.place_is) (sym h.mark_is))
    ∙ state_back (sweep_word s) s.place s.mark t g (sym e) (sym h.place_is) (sym h.mark_is)
