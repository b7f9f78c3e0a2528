-- For readers: pins, the cursors of walks, and what a snapshot needs.
use Rattle.std.specs.Prelude.{◌≡◌, ℕ, ◌+◌, ◌^◌, ◌<◌, ◌≤◌, ◌⊎◌, ◌==◌, true, cond, List, ◌++◌, length, take, Some}
use Rattle.iscc_header.specs.declared.unit.Unit64.{Unit64}
use Rattle.mih_plan.specs.Buckets.{bucket_of}
use Rattle.reg_words.specs.declared.word.SweepWord.{SweepWord}
use Rattle.reg_words.specs.Memory.{PIN}
use Rattle.reg_rule.specs.declared.view.Key.{Key}
use Rattle.reg_rule.specs.declared.view.Place.{Place}
use Rattle.reg_rule.specs.declared.view.Account.{Account}
use Rattle.reg_rule.specs.declared.view.Cursor.{Cursor}
use Rattle.reg_rule.specs.declared.view.Holding.{Holding}
use Rattle.reg_rule.specs.declared.view.View.{View}
use Rattle.reg_rule.specs.Log.{At, IsWd, IsLiveIn}
use Rattle.reg_rule.specs.Links.{link_word}
use Rattle.reg_rule.specs.Seats.{IsOf, ReliesOn}
use Rattle.reg_rule.specs.Chains.{Member, Once, LeadsThrough}
use Rattle.reg_rule.specs.ReadersLog.{IsSeatOf, HasDeclaration}
use Rattle.reg_rule.specs.ReadersChains.{IsChain, IsCutAt, next_link}

-- *Pins.* The word of a session is the pin of its seat, and a pinned seat has seen the places of its pin.
pub record PinsStand (m : ℕ → ℕ → ℕ) (views : List View) : Type 0 where
  -- of a seat with several accounts only the first session is pinned
  pub word : (seat i : ℕ) (v : View) (a : Account) → IsSeatOf views seat v → At v.accounts i a → m PIN a.number ≡ cond (i == 0) v.pin 0
  pub seen : (seat : ℕ) (v : View) → IsSeatOf views seat v → v.pin ≤ length v.log + 1
  -- a seat relies on a front while it is pinned, on none below its pin, and has seen the places below it
  pub relied : (seat k : ℕ) (v : View) → IsSeatOf views seat v → ReliesOn v k → (0 < v.pin) × (v.pin ≤ k + 1) × (k ≤ length v.log)

-- The entry of a cursor was taken out of its chain, and was not yet given back.
pub record StandsApart (key : Key) (m : ℕ → ℕ → ℕ) (views : List View) (log : List Place) (word : SweepWord) (given : ℕ) (v : View) (c : Cursor) (chain : List ℕ) : Type 0 where
  pub place : ℕ
  pub id : ℕ
  pub unit : Unit64
  pub withdrawn : IsWd log place id c.entry
  pub has : HasDeclaration key log given c.entry id unit
  pub cut : IsCutAt views word c.table place
  -- its next word leads back into the chain
  pub leads_back : (next_link key m c.table c.entry ≡ 0) ⊎ ((e : ℕ) × (next_link key m c.table c.entry ≡ link_word e) × Member e chain)
  -- in limbo the pin is no later than the mark, and the holder has not yet found this session free of the entry
  pub pinned : word.limbo ≡ true → v.pin ≤ word.mark + 1
  pub unscanned : word.limbo ≡ true → (seat n : ℕ) (u : View) (h : Holding) → IsSeatOf views seat u → u.holding ≡ Some h → IsOf v n → h.freed ≤ n

-- What lies ahead of a cursor, and where it stands.
pub record CursorStands (key : Key) (m : ℕ → ℕ → ℕ) (views : List View) (log : List Place) (word : SweepWord) (given : ℕ) (v : View) (c : Cursor) : Type 0 where
  pub pinned : 0 < v.pin
  pub table : c.table < 4
  pub bucket : c.bucket < 2 ^ key.sizes.bits
  -- it is in its chain, or apart from it
  pub chain : List ℕ
  pub chain_is : IsChain key m c.table c.bucket chain
  pub stands : Member c.entry chain ⊎ StandsApart key m views log word given v c chain
  -- the walk comes to an end, and meets no entry twice
  pub rest : List ℕ
  pub leads : LeadsThrough (next_link key m c.table) (next_link key m c.table c.entry) rest
  pub once : Once (v.visited ++ rest)

-- *Cursors.*
abbrev pub CursorsStand : Key → (ℕ → ℕ → ℕ) → List View → List Place → SweepWord → ℕ → Type 0
CursorsStand key m views log word given = (seat : ℕ) (v : View) (c : Cursor) → IsSeatOf views seat v → v.cursor ≡ Some c → CursorStands key m views log word given v c

-- *Needed.* No declaration that is live at an open snapshot is missed.
pub record NeededStand (key : Key) (m : ℕ → ℕ → ℕ) (views : List View) (log : List Place) (word : SweepWord) (given : ℕ) : Type 0 where
  -- it is in the chain of its bucket, in each table
  pub linked : (seat k id entry table : ℕ) (v : View) (unit : Unit64) (chain : List ℕ) → IsSeatOf views seat v → v.snapshot ≡ Some k → IsLiveIn key.carried (take k log) id unit entry
      → table < 4 → IsChain key m table (bucket_of unit.body table key.sizes.bits) chain → Member entry chain
  -- where that chain is walked, it was met or lies ahead of the cursor
  pub walked : (seat k id entry : ℕ) (v : View) (unit : Unit64) (c : Cursor) (rest : List ℕ) → IsSeatOf views seat v → v.snapshot ≡ Some k → IsLiveIn key.carried (take k log) id unit entry
      → v.cursor ≡ Some c → bucket_of unit.body c.table key.sizes.bits ≡ c.bucket → LeadsThrough (next_link key m c.table) (next_link key m c.table c.entry) rest → Member entry v.visited ⊎ Member entry rest
  -- a front on which a seat relies is above each withdrawal whose entry was taken out of a chain
  pub fronts : (seat k table d : ℕ) (v : View) → IsSeatOf views seat v → ReliesOn v k → IsCutAt views word table d → d < k
  -- and so is each that will be found
  pub ahead : (table d : ℕ) → IsCutAt views word table d → d < length log
  -- and above each withdrawal whose entry was given back
  pub reclaimed : (seat k d id entry : ℕ) (v : View) → IsSeatOf views seat v → ReliesOn v k → IsWd log d id entry → d < given → d < k
  pub given_within : given ≤ length log
