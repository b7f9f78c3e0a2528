-- Chains of entries, one for each bucket of each table.
use Rattle.std.specs.Prelude.{◌≡◌, ℕ, ◌+◌, ◌*◌, ◌^◌, ◌<◌, ◌⊎◌, Bool, true, false, ◌==◌, cond, List, [], ◌∷◌}
use Rattle.mih_plan.specs.Buckets.{bucket_of}
use Rattle.reg_rule.specs.Links.{link_word}
use Rattle.reg_rule.specs.declared.view.Key.{Key}
use Rattle.reg_rule.specs.declared.view.Place.{Place}
use Rattle.reg_rule.specs.inner.World.{Use, free, holds}
use Rattle.reg_rule.specs.Log.{IsKeptUpTo}
use Rattle.reg_rule.specs.Chains.{Member, Once, LeadsThrough}

-- what comes behind an entry
abbrev pub after : ℕ → List ℕ → List ℕ
after e [] = []
after e (x ∷ xs) = cond (x == e) xs (after e xs)

abbrev pub without : ℕ → List ℕ → List ℕ
without e [] = []
without e (x ∷ xs) = cond (x == e) xs (x ∷ without e xs)

-- the word is that of an entry of the list, or of none
abbrev pub Names : ℕ → List ℕ → Type 0
Names word list = (word ≡ 0) ⊎ ((e : ℕ) × (word ≡ link_word e) × Member e list)

-- the head of a bucket, and the next word of an entry
abbrev pub head_cell : ℕ → ℕ → ℕ → ℕ
head_cell bits table bucket = table * 2 ^ bits + bucket

abbrev pub next_cell : ℕ → ℕ → ℕ → ℕ
next_cell entries table entry = table * entries + entry

abbrev pub next_in : ℕ → (ℕ → ℕ) → ℕ → ℕ → ℕ
next_in entries nexts table entry = nexts (next_cell entries table entry)

-- The words lead along the chains, and each chain has just the entries of its bucket that are linked in its table.
pub record ChainsPart (key : Key) (heads nexts codes : ℕ → ℕ) (chains : ℕ → ℕ → List ℕ) (linked : ℕ → ℕ → Bool) : Type 0 where
  -- from the head of a bucket to the end
  pub leads : (table bucket : ℕ) → table < 4 → bucket < 2 ^ key.sizes.bits → LeadsThrough (next_in key.entries nexts table) (heads (head_cell key.sizes.bits table bucket)) (chains table bucket)
  -- no entry comes twice
  pub once : (table bucket : ℕ) → Once (chains table bucket)
  -- an entry of a chain is linked, and of that bucket
  pub inside : (table bucket entry : ℕ) → Member entry (chains table bucket) → (entry < key.entries) × (linked table entry ≡ true) × (bucket_of (codes entry) table key.sizes.bits ≡ bucket)
  -- there are four tables
  pub tables : (table bucket entry : ℕ) → Member entry (chains table bucket) → table < 4
  -- a linked entry is in the chain of its bucket
  pub whole : (table entry : ℕ) → table < 4 → entry < key.entries → linked table entry ≡ true → Member entry (chains table (bucket_of (codes entry) table key.sizes.bits))

-- Which entries are linked.
pub record LinksPart (key : Key) (log : List Place) (begun : ℕ) (uses : ℕ → Use) (linked : ℕ → ℕ → Bool) : Type 0 where
  -- one that holds a declaration whose unlinking has not begun, in all tables
  pub held : (table id entry : ℕ) → table < 4 → entry < key.entries → uses entry ≡ holds id → IsKeptUpTo log begun id → linked table entry ≡ true
  -- one in the ring, in none
  pub ring : (table entry j : ℕ) → table < 4 → entry < key.entries → uses entry ≡ free j → linked table entry ≡ false
