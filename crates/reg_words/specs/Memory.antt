-- The words of the table as areas, which follow each other from word 1 on. Word 0 is spare.
use Rattle.std.specs.Prelude.{◌≡◌, ℕ, zero, suc, ◌+◌, ◌*◌, ◌^◌, ◌<◌, List, [], ◌∷◌, cond, ◌==◌, nat_lt, slice_index}
use Rattle.reg_words.specs.declared.layout.Areas.{Areas}

-- how many entries were taken, in one word
abbrev pub TAKE : ℕ
TAKE = 0

-- how many entries were put, in one word
abbrev pub PUT : ℕ
PUT = 1

-- how far reclamation has come, in one word
abbrev pub SWEEP : ℕ
SWEEP = 2

-- by caller
abbrev pub PIN : ℕ
PIN = 3

-- by table, and then by bucket
abbrev pub HEAD : ℕ
HEAD = 4

-- by entry
abbrev pub CODE : ℕ
CODE = 5

-- by entry
abbrev pub STAMP : ℕ
STAMP = 6

-- by table, and then by entry
abbrev pub NEXT : ℕ
NEXT = 7

-- by place of the ring
abbrev pub GIVE : ℕ
GIVE = 8

-- by place of the log
abbrev pub LOG : ℕ
LOG = 9

-- by place of the log
abbrev pub NOTE : ℕ
NOTE = 10

-- the sizes of the areas in this order, for so many entries, places, bits of a bucket and callers
abbrev pub area_sizes : ℕ → ℕ → ℕ → ℕ → List ℕ
area_sizes entries places bits callers =
    1 ∷ 1 ∷ 1 ∷ callers ∷ 4 * 2 ^ bits ∷ entries ∷ entries ∷ 4 * entries ∷ entries ∷ places ∷ places ∷ []

-- the size of an area
abbrev pub size : List ℕ → ℕ → ℕ
size sizes a = slice_index sizes a

-- the words of all areas together
abbrev pub whole : List ℕ → ℕ
whole [] = 0
whole (n ∷ sizes) = n + whole sizes

-- the words of the areas before this one
abbrev pub before : List ℕ → ℕ → ℕ
before [] a = 0
before (n ∷ sizes) zero = 0
before (n ∷ sizes) (suc a) = n + before sizes a

-- the first word of an area
abbrev pub start : List ℕ → ℕ → ℕ
start sizes a = 1 + before sizes a

-- the first word of each area, and the number of all words
abbrev pub areas_of : List ℕ → Areas
areas_of sizes = record {
  take = start sizes TAKE;
  put = start sizes PUT;
  sweep = start sizes SWEEP;
  pin = start sizes PIN;
  head = start sizes HEAD;
  code = start sizes CODE;
  stamp = start sizes STAMP;
  next = start sizes NEXT;
  give = start sizes GIVE;
  log = start sizes LOG;
  note = start sizes NOTE;
  total = 1 + whole sizes;
}

-- Each cell, a place within an area, is a word of its own: none is word 0, and all are below the number of words.
pub record AreApart (sizes : List ℕ) : Type 0 where
  pub own : (a b k j : ℕ) → k < size sizes a → j < size sizes b → start sizes a + k ≡ start sizes b + j → (a ≡ b) × (k ≡ j)
  pub spare : (a k : ℕ) → k < size sizes a → 0 < start sizes a + k
  pub inside : (a k : ℕ) → k < size sizes a → start sizes a + k < 1 + whole sizes

-- the cells of such words, by area and then by place: 0 past the end of an area
unfoldable pub mem : List ℕ → List ℕ → ℕ → ℕ → ℕ
mem sizes words a k = cond (nat_lt k (size sizes a)) (slice_index words (start sizes a + k)) 0

-- one value of a function is changed
abbrev pub set_at : {A : Type 0} → (ℕ → A) → ℕ → A → ℕ → A
set_at f k x j = cond (j == k) x (f j)

-- one cell is changed: this place of this area
abbrev pub write : (ℕ → ℕ → ℕ) → ℕ → ℕ → ℕ → ℕ → ℕ → ℕ
write m a k x b = cond (b == a) (set_at (m b) k x) (m b)
