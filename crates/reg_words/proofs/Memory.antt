-- The areas are apart, and what one write does to them.
use Rattle.std.proofs.Common.{◌≡◌, ◌≢◌, ℕ, zero, suc, ◌+◌, ◌<◌, ◌≤◌, List, [], ◌∷◌, length, get_or, set, cond, Bool, sym, ap, ◌∙◌, refl, arith, eq-eqb, ne_eqb, lt-ltb, le-ltb, get_or-set_same, get_or-set_other}
use mathlib.Core.Logic.{dite}
use native.Mathlib.Decide.{ℕ_discrete}
use Rattle.std.proofs.Math.Decide.{dec_lt}
use Rattle.reg_words.specs.Memory.{size, whole, before, start, AreApart, mem, set_at, write}

-- an area ends before the later ones begin
before_more : (ns : List ℕ) (a b : ℕ) → a < b → before ns a + get_or ns a 0 ≤ before ns b
before_more [] zero b h = let g : get_or {A = ℕ} [] 0 0 ≡ 0 = refl in omega arith
before_more [] (suc a) b h = let g : get_or {A = ℕ} [] (suc a) 0 ≡ 0 = refl in omega arith
before_more (n ∷ ns) a zero h = absurd (omega arith)
before_more (n ∷ ns) zero (suc b) h = let g : get_or (n ∷ ns) 0 0 ≡ n = refl in omega arith
before_more (n ∷ ns) (suc a) (suc b) h = let g : get_or (n ∷ ns) (suc a) 0 ≡ get_or ns a 0 = refl in let r = before_more ns a b (omega arith) in omega arith

-- and within the words of all
before_all : (ns : List ℕ) (a : ℕ) → before ns a + get_or ns a 0 ≤ whole ns
before_all [] zero = let g : get_or {A = ℕ} [] 0 0 ≡ 0 = refl in omega arith
before_all [] (suc a) = let g : get_or {A = ℕ} [] (suc a) 0 ≡ 0 = refl in omega arith
before_all (n ∷ ns) zero = let g : get_or (n ∷ ns) 0 0 ≡ n = refl in omega arith
before_all (n ∷ ns) (suc a) = let g : get_or (n ∷ ns) (suc a) 0 ≡ get_or ns a 0 = refl in let r = before_all ns a in omega arith

-- a cell is one of the words
pub inside : (ns : List ℕ) (a k : ℕ) → k < size ns a → start ns a + k < 1 + whole ns
inside ns a k h = let p = before_all ns a in omega arith

-- cells of two areas are two words
pub apart : (ns : List ℕ) (a b k j : ℕ) → k < size ns a → j < size ns b → b ≢ a → start ns b + j ≢ start ns a + k
apart ns a b k j hk hj ne e = dite (dec_lt a b) (λ l. let p = before_more ns a b l in omega arith) (λ g. dite (dec_lt b a) (λ l. let p = before_more ns b a l in omega arith) (λ g'. ne (omega arith)))

-- two cells that are one word are one cell
own_word : (ns : List ℕ) (a b k j : ℕ) → k < size ns a → j < size ns b → start ns a + k ≡ start ns b + j → (a ≡ b) × (k ≡ j)
own_word ns a b k j hk hj e = dite (ℕ_discrete a b)
    (λ same. let starts : start ns a ≡ start ns b = ap (start ns) same in (same, omega arith))
    (λ differ. absurd (apart ns a b k j hk hj (λ back. differ (sym back)) (sym e)))

-- each cell is a word of its own
pub are_apart : (ns : List ℕ) → AreApart ns
are_apart ns = record { own = own_word ns; spare = λ a k h. omega arith; inside = inside ns }

-- what is read within an area, and past its end
pub mem-read : (ns words : List ℕ) (a k : ℕ) → k < size ns a → mem ns words a k ≡ get_or words (start ns a + k) 0
unfolding mem
mem-read ns words a k h = ap (λ (b : Bool). cond b (get_or words (start ns a + k) 0) 0) (lt-ltb k (size ns a) h)

pub mem-past : (ns words : List ℕ) (a k : ℕ) → size ns a ≤ k → mem ns words a k ≡ 0
unfolding mem
mem-past ns words a k h = ap (λ (b : Bool). cond b (get_or words (start ns a + k) 0) 0) (le-ltb k (size ns a) h)

-- a function that is changed at one place: there, and elsewhere
pub set_at-here : {A : Type 0} (f : ℕ → A) (k : ℕ) (x : A) → set_at f k x k ≡ x
set_at-here f k x = ap (λ (b : Bool). cond b x (f k)) (eq-eqb k k refl)

pub set_at-else : {A : Type 0} (f : ℕ → A) (k : ℕ) (x : A) (j : ℕ) → j ≢ k → set_at f k x j ≡ f j
set_at-else f k x j ne = ap (λ (b : Bool). cond b x (f j)) (ne_eqb j k ne)

-- a cell of the area that is written
mem-write-here :
    (ns words : List ℕ) (a k x j : ℕ) →
    length words ≡ 1 + whole ns →
    k < size ns a →
    mem ns (set words (start ns a + k) x) a j ≡ set_at (mem ns words a) k x j
mem-write-here ns words a k x j wide h =
    let after = set words (start ns a + k) x in
    dite (ℕ_discrete j k)
    (λ at. let room : start ns a + k < length words = let p = inside ns a k h in omega arith in
    ap (mem ns after a) at ∙ mem-read ns after a k h ∙ get_or-set_same words (start ns a + k) x 0 room
    ∙ sym (ap (set_at (mem ns words a) k x) at ∙ set_at-here (mem ns words a) k x))
    (λ off. dite (dec_lt j (size ns a))
    (λ low. mem-read ns after a j low
    ∙ get_or-set_other words (start ns a + k) (start ns a + j) x 0 (λ e. off (omega arith))
    ∙ sym (mem-read ns words a j low) ∙ sym (set_at-else (mem ns words a) k x j off))
    (λ high. mem-past ns after a j (omega arith) ∙ sym (mem-past ns words a j (omega arith)) ∙ sym (set_at-else (mem ns words a) k x j off)))

-- and one of another area
mem-write-else :
    (ns words : List ℕ) (a k x b j : ℕ) →
    k < size ns a →
    b ≢ a →
    mem ns (set words (start ns a + k) x) b j ≡ mem ns words b j
mem-write-else ns words a k x b j h differ =
    let after = set words (start ns a + k) x in
    dite (dec_lt j (size ns b))
    (λ low. mem-read ns after b j low
    ∙ get_or-set_other words (start ns a + k) (start ns b + j) x 0 (apart ns a b k j h low differ)
    ∙ sym (mem-read ns words b j low))
    (λ high. mem-past ns after b j (omega arith) ∙ sym (mem-past ns words b j (omega arith)))

mem-write-at :
    (ns words : List ℕ) (a k x b j : ℕ) →
    length words ≡ 1 + whole ns →
    k < size ns a →
    mem ns (set words (start ns a + k) x) b j ≡ write (mem ns words) a k x b j
mem-write-at ns words a k x b j wide h = dite (ℕ_discrete b a)
    (λ same. rw (same, eq-eqb a a refl) (mem-write-here ns words a k x j wide h))
    (λ differ. rw (ne_eqb b a differ) (mem-write-else ns words a k x b j h differ))

-- the areas after one write are the areas with one cell changed
pub mem-write :
    (ns words : List ℕ) (a k x : ℕ) →
    length words ≡ 1 + whole ns →
    k < size ns a →
    mem ns (set words (start ns a + k) x) ≡ write (mem ns words) a k x
mem-write ns words a k x wide h = λ i b j. mem-write-at ns words a k x b j wide h i
