-- Entries: where each is, what its stamp and its code say, and the ring of those that may be taken.
use Rattle.std.specs.Prelude.{◌≡◌, ℕ, ◌+◌, ◌%◌, ◌<◌, ◌≤◌, List, length, take}
use Rattle.iscc_header.specs.declared.unit.Unit64.{Unit64}
use Rattle.reg_model.specs.Opening.{Opening}
use Rattle.reg_model.specs.Live.{declarations, withdrawals}
use Rattle.reg_words.specs.declared.word.StampWord.{StampWord}
use Rattle.reg_words.specs.declared.word.StampWord.TheVariants.{Unborn, Live, Dead}
use Rattle.reg_words.specs.Packing.{stamp_word}
use Rattle.reg_rule.specs.declared.view.Key.{Key}
use Rattle.reg_rule.specs.declared.view.Place.{Place}
use Rattle.reg_rule.specs.inner.World.{Use, free, holds}
use Rattle.reg_rule.specs.Log.{updates, Declares, IsWd, IsKeptUpTo}

-- An entry holds the declarations that were not given back.
pub record UsesPart (key : Key) (log : List Place) (returned : ℕ) (uses : ℕ → Use) : Type 0 where
  -- a declaration that was not given back is in its entry
  pub held : (id entry : ℕ) (unit : Unit64) → Declares key.carried log id unit entry → IsKeptUpTo log returned id → uses entry ≡ holds id
  -- an entry that holds an id is that of a declaration which was not given back
  pub holding : (id entry : ℕ) → entry < key.entries → uses entry ≡ holds id → ((unit : Unit64) × Declares key.carried log id unit entry) × IsKeptUpTo log returned id

-- the kind is that of the declaration
abbrev pub IsKindOf : Opening → List Place → ℕ → ℕ → ℕ → Type 0
IsKindOf opening log id entry kind = (unit : Unit64) → Declares opening log id unit entry → kind ≡ unit.kind

-- What an entry's stamp says, by where the entry is.
abbrev pub StampFits : Opening → List Place → ℕ → ℕ → Use → StampWord → Type 0
-- a declaration is born, unless it is at the last place; what is carried was born from the start
StampFits opening log returned entry (holds id) Unborn = (n : ℕ) × (id ≡ opening.base + n) × (n + 1 ≡ length log)
-- it is live, unless its withdrawal is at the last place
StampFits opening log returned entry (holds id) (Live kind other) = (other ≡ id) × IsKindOf opening log id entry kind × ((d e : ℕ) → IsWd log d id e → d + 1 ≡ length log)
-- it is dead from its withdrawal on
StampFits opening log returned entry (holds id) (Dead kind other d) = (other ≡ id) × IsKindOf opening log id entry kind × IsWd log d id entry
-- in the ring and in a hand an entry is unborn, or has the stamp of a declaration that was given back
StampFits opening log returned entry other Unborn = Unit {0}
StampFits opening log returned entry other (Live kind id) = ⊥
StampFits opening log returned entry other (Dead kind id d) = IsWd log d id entry × (d < returned)

-- the kind of a stamp is one
abbrev pub HasKind : StampWord → Type 0
HasKind Unborn = Unit {0}
HasKind (Live kind id) = kind < 13
HasKind (Dead kind id d) = kind < 13

-- The stamp words are the stamps.
pub record StampsPart (key : Key) (cells : ℕ → ℕ) (log : List Place) (returned : ℕ) (uses : ℕ → Use) (stamps : ℕ → StampWord) : Type 0 where
  pub words : (entry : ℕ) → entry < key.entries → cells entry ≡ stamp_word (stamps entry)
  -- so that a word is that of one stamp
  pub kinds : (entry : ℕ) → entry < key.entries → HasKind (stamps entry)
  -- each says what its entry is to say
  pub fits : (entry : ℕ) → entry < key.entries → StampFits key.carried log returned entry (uses entry) (stamps entry)

-- The codes.
pub record CodesPart (key : Key) (codes : ℕ → ℕ) (log : List Place) (uses : ℕ → Use) : Type 0 where
  -- the code of an entry that holds a declaration is its body
  pub bodies : (id entry : ℕ) (unit : Unit64) → uses entry ≡ holds id → Declares key.carried log id unit entry → codes entry ≡ unit.body

-- The counts of entries taken from the ring and put into it.
pub record CountsPart (key : Key) (takes puts : ℕ → ℕ) (log : List Place) (returned taken put hands : ℕ) : Type 0 where
  pub take_word : takes 0 ≡ taken
  pub put_word : puts 0 ≡ put
  -- each entry taken was declared in, or is in a hand
  pub took : taken ≡ declarations (updates log) + hands
  -- the ring began with the entries that nothing was carried in, and one was put into it for each withdrawal given back
  pub gave : put + length key.carried.list ≡ key.entries + withdrawals (updates (take returned log))
  -- no more are taken than were put
  pub room : taken ≤ put

-- The ring.
pub record RingPart (key : Key) (gives : ℕ → ℕ) (uses : ℕ → Use) (taken put : ℕ) (ring : ℕ → ℕ) : Type 0 where
  -- the words from the count taken to the count put name the entries that were put
  pub named : (j : ℕ) → taken ≤ j → j < put → gives (j % key.entries) ≡ ring j
  -- these entries are free
  pub rests : (j : ℕ) → taken ≤ j → j < put → (ring j < key.entries) × (uses (ring j) ≡ free j)
  -- and no others
  pub none_else : (entry j : ℕ) → entry < key.entries → uses entry ≡ free j → (taken ≤ j) × (j < put) × (ring j ≡ entry)
