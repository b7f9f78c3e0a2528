-- For readers: the log that the words of a table hold. `m` has the words by area and then by place.
use Rattle.std.specs.Prelude.{◌≡◌, ℕ, zero, suc, ◌+◌, ◌<◌, ◌≤◌, ◌⊎◌, ◌==◌, ◌||◌, Bool, false, cond, List, [], ◌∷◌, ◌++◌, length, take, count_by, Option, Some, None}
use mathlib.Core.Option.{some}
use lib.ListN.{get_elem?}
use Rattle.iscc_header.specs.declared.unit.Unit64.{Unit64}
use Rattle.reg_words.specs.declared.word.SweepWord.{SweepWord}
use Rattle.reg_words.specs.declared.word.StampWord.TheVariants.{Live, Dead}
use Rattle.reg_words.specs.Packing.{FitsLog, stamp_word, bit}
use Rattle.reg_words.specs.Memory.{CODE, STAMP, LOG, NOTE, area_sizes, mem}
use Rattle.reg_rule.specs.declared.view.Key.{Key}
use Rattle.reg_rule.specs.declared.view.Place.{Place}
use Rattle.reg_rule.specs.declared.view.Holding.{Holding}
use Rattle.reg_rule.specs.declared.view.View.{View}
use Rattle.reg_rule.specs.Log.{At, IsDecl, IsWd, IsLiveIn, IsKeptUpTo, Declares, place_word, record_at}

-- the words of a table that was made for this key
abbrev pub cells_of : Key → List ℕ → ℕ → ℕ → ℕ
cells_of key words = mem (area_sizes key.entries key.sizes.log key.sizes.bits key.sizes.callers) words

-- the view of this seat
abbrev pub IsSeatOf : List View → ℕ → View → Type 0
IsSeatOf views seat v = get_elem? views seat ≡ some v

-- how many words from this one on, of so many, stand before the first 0, counted from the first of all
abbrev pub front_from : (ℕ → ℕ) → ℕ → ℕ → ℕ
front_from cells n zero = n
front_from cells n (suc room) = cond (cells n == 0) n (front_from cells (n + 1) room)

-- the front: how many words of the log stand before the first 0
abbrev pub log_front : Key → (ℕ → ℕ → ℕ) → ℕ
log_front key m = front_from (m LOG) 0 key.sizes.log

-- The log of the words: the update at each place, the body of a declaration from its note, at the last place from the code of its entry.
pub record IsLogOf (key : Key) (m : ℕ → ℕ → ℕ) (log : List Place) : Type 0 where
  -- there is room for it
  pub room : length log ≤ key.sizes.log
  -- its places are filled from 0 without gaps: each has the word of its record, whose numbers fit their bits
  pub filled : (n : ℕ) (p : Place) → At log n p → (m LOG n ≡ place_word key.carried.base n p) × FitsLog (record_at key.carried.base n p.update p.entry)
  -- and no other word is filled
  pub empty : (n : ℕ) → length log ≤ n → m LOG n ≡ 0
  pub noted : (n : ℕ) (unit : Unit64) (entry : ℕ) → n + 1 < length log → IsDecl log n unit entry → m NOTE n ≡ unit.body
  pub coded : (n : ℕ) (unit : Unit64) (entry : ℕ) → n + 1 ≡ length log → IsDecl log n unit entry → m CODE entry ≡ unit.body

-- ---- which withdrawals were reclaimed

abbrev pub paid_of : Option Holding → Bool
paid_of None = false
paid_of (Some h) = h.paid

-- a holder of the sweep has raised PUT for an entry, and has not yet stored the word of the sweep
abbrev pub is_any_paid : List View → Bool
is_any_paid [] = false
is_any_paid (v ∷ views) = paid_of v.holding || is_any_paid views

-- the entries of just the withdrawals below this place were given back
abbrev pub given_back : SweepWord → List View → ℕ
given_back word views = word.place + bit (is_any_paid views)

-- The entry holds the declaration of the id: it was declared there, and was not given back since.
pub record HasDeclaration (key : Key) (log : List Place) (given entry id : ℕ) (unit : Unit64) : Type 0 where
  pub declared : Declares key.carried log id unit entry
  pub kept : IsKeptUpTo log given id

-- ---- completion

-- the stamp of the entry shows the birth of the declaration, or its death at its withdrawal
abbrev pub ShowsBirth : (ℕ → ℕ → ℕ) → List Place → ℕ → ℕ → Unit64 → Type 0
ShowsBirth m log entry id unit = (m STAMP entry ≡ stamp_word (Live unit.kind id)) ⊎ ((d : ℕ) × IsWd log d id entry × (m STAMP entry ≡ stamp_word (Dead unit.kind id d)))

-- The record of the place is complete: its entry shows it, unless the entry was given back.
pub record IsCompleteIn (key : Key) (m : ℕ → ℕ → ℕ) (log : List Place) (given n : ℕ) : Type 0 where
  pub born : (unit : Unit64) (entry : ℕ) → IsDecl log n unit entry → HasDeclaration key log given entry (key.carried.base + n) unit → ShowsBirth m log entry (key.carried.base + n) unit
  pub died : (id entry : ℕ) (unit : Unit64) → IsWd log n id entry → HasDeclaration key log given entry id unit → m STAMP entry ≡ stamp_word (Dead unit.kind id n)

-- *Log.* The words hold a lawful log, complete but for its last place, and each seat has seen a front of it.
pub record LogStands (key : Key) (m : ℕ → ℕ → ℕ) (views : List View) (log : List Place) (given : ℕ) : Type 0 where
  pub held : IsLogOf key m log
  -- a withdrawal names an id that is live before it, and its entry
  pub lawful : (d id entry : ℕ) → IsWd log d id entry → (unit : Unit64) × IsLiveIn key.carried (take d log) id unit entry
  pub complete : (n : ℕ) → n + 1 < length log → IsCompleteIn key m log given n
  -- what a seat has seen begins the log
  pub seen : (seat : ℕ) (v : View) → IsSeatOf views seat v → (more : List Place) × (log ≡ v.log ++ more)
  -- each exchange of the log that a seat has made has seen a place
  pub exchanges : (seat : ℕ) (v : View) → IsSeatOf views seat v → count_by (λ kind. kind == 2) v.made ≤ length v.log
