-- For readers: reclamation. What may be written again is met by nobody, and needed by nobody.
use Rattle.std.specs.Prelude.{◌≡◌, ℕ, ◌+◌, ◌^◌, ◌<◌, true, false, List, [], ◌∷◌, take, Some}
use Rattle.iscc_header.specs.declared.unit.Unit64.{Unit64}
use Rattle.reg_words.specs.declared.word.StampWord.TheVariants.{Live, Dead}
use Rattle.reg_words.specs.Packing.{stamp_word}
use Rattle.reg_words.specs.Memory.{STAMP}
use Rattle.reg_rule.specs.declared.view.Key.{Key}
use Rattle.reg_rule.specs.declared.view.Place.{Place}
use Rattle.reg_rule.specs.declared.view.Cursor.{Cursor}
use Rattle.reg_rule.specs.declared.view.Hand.{Hand}
use Rattle.reg_rule.specs.declared.view.View.{View}
use Rattle.reg_rule.specs.Log.{At, IsDecl, IsWd, IsLiveIn}
use Rattle.reg_rule.specs.Helping.{MayHelp}
use Rattle.reg_rule.specs.Conditions.{MayStoreHeld, MaySwapBirth, MaySwapDeath}
use Rattle.reg_rule.specs.Tables.{is_in}
use Rattle.reg_rule.specs.Chains.{Member}
use Rattle.reg_rule.specs.ReadersLog.{IsSeatOf, HasDeclaration}
use Rattle.reg_rule.specs.ReadersEntries.{IsInRing}
use Rattle.reg_rule.specs.ReadersChains.{IsChain}

-- The entry is out of reach in the table: it is in no chain of it, and no seat has its cursor there.
pub record IsOutOfReach (key : Key) (m : ℕ → ℕ → ℕ) (views : List View) (table entry : ℕ) : Type 0 where
  pub unchained : (bucket : ℕ) (chain : List ℕ) → bucket < 2 ^ key.sizes.bits → IsChain key m table bucket chain → Member entry chain → ⊥
  pub unwalked : (seat : ℕ) (v : View) (c : Cursor) → IsSeatOf views seat v → v.cursor ≡ Some c → c.table ≡ table → c.entry ≡ entry → ⊥

-- the entry is out of use: no declaration in it is live at an open snapshot
abbrev pub IsOutOfUse : Key → List View → List Place → ℕ → Type 0
IsOutOfUse key views log entry = (seat k id : ℕ) (v : View) (unit : Unit64) → IsSeatOf views seat v → v.snapshot ≡ Some k → IsLiveIn key.carried (take k log) id unit entry → ⊥

-- *Reclamation.*
pub record ReclamationStands (key : Key) (m : ℕ → ℕ → ℕ) (views : List View) (log : List Place) : Type 0 where
  -- an entry in the ring is out of reach in all tables, and out of use
  pub ring : (entry j : ℕ) → IsInRing key m entry j → ((table : ℕ) → table < 4 → IsOutOfReach key m views table entry) × IsOutOfUse key views log entry
  -- an entry in hand is out of use, and out of reach where it is not yet linked
  pub unlinked : (seat i table : ℕ) (v : View) (h : Hand) → IsSeatOf views seat v → At v.hands i h → table < 4 → is_in table h.linked ≡ false → IsOutOfReach key m views table h.entry
  pub unused : (seat i : ℕ) (v : View) (h : Hand) → IsSeatOf views seat v → At v.hands i h → IsOutOfUse key views log h.entry

-- an exchange of the stamp of this entry is to the birth of what is declared at the place that the seat helps, and the entry has that declaration
abbrev pub IsBirthOf : Key → List Place → ℕ → View → ℕ → ℕ → Type 0
IsBirthOf key log given v entry new = (place : ℕ) × (unit : Unit64) × MayHelp v place × IsDecl log place unit entry × HasDeclaration key log given entry (key.carried.base + place) unit × (new ≡ stamp_word (Live unit.kind (key.carried.base + place)))

-- or to the death, at the place that the seat helps, of what is withdrawn there, and the entry has that declaration
abbrev pub IsDeathOf : Key → List Place → ℕ → View → ℕ → ℕ → Type 0
IsDeathOf key log given v entry new = (place : ℕ) × (id : ℕ) × (unit : Unit64) × MayHelp v place × IsWd log place id entry × HasDeclaration key log given entry id unit × (new ≡ stamp_word (Dead unit.kind id place))

-- *Stores.* What a seat may write to an entry, where its step may be made.
pub record StoresStand (key : Key) (m : ℕ → ℕ → ℕ) (views : List View) (log : List Place) (given : ℕ) : Type 0 where
  -- code and stamp are stored while the entry is in hand, out of reach in all tables and out of use
  pub stored : (seat : ℕ) (v : View) → IsSeatOf views seat v → MayStoreHeld v → (h : Hand) × (v.hands ≡ h ∷ []) × ((table : ℕ) → table < 4 → IsOutOfReach key m views table h.entry) × IsOutOfUse key views log h.entry
  -- an exchange of a stamp is of the declaration that is helped; the entry still has it, at a death if the exchange wins
  pub birth : (seat entry old new : ℕ) (v : View) → IsSeatOf views seat v → v.live ≡ true → MaySwapBirth entry old new v → IsBirthOf key log given v entry new
  pub death : (seat entry old new : ℕ) (v : View) → IsSeatOf views seat v → v.live ≡ true → MaySwapDeath entry old new v → m STAMP entry ≡ old → IsDeathOf key log given v entry new
