-- For readers: where each entry is.
use Rattle.std.specs.Prelude.{◌≡◌, ℕ, ◌+◌, ◌%◌, ◌<◌, ◌≤◌, List, length, take, sum_by}
use Rattle.iscc_header.specs.declared.unit.Unit64.{Unit64}
use Rattle.reg_model.specs.Live.{declarations, withdrawals}
use Rattle.reg_words.specs.Memory.{TAKE, PUT, GIVE}
use Rattle.reg_rule.specs.declared.view.Key.{Key}
use Rattle.reg_rule.specs.declared.view.Place.{Place}
use Rattle.reg_rule.specs.declared.view.Hand.{Hand}
use Rattle.reg_rule.specs.declared.view.View.{View}
use Rattle.reg_rule.specs.Log.{At, updates}
use Rattle.reg_rule.specs.ReadersLog.{IsSeatOf, HasDeclaration}

-- in the ring, under this count of entries put; in the hand of this seat, at this place of its hands; with the declaration of this id
pub data Whereabouts : Type 0 where
  in_ring : ℕ → Whereabouts
  with_seat : ℕ → ℕ → Whereabouts
  with_id : ℕ → Whereabouts

-- GIVE names the entry at a count from TAKE on and below PUT
pub record IsInRing (key : Key) (m : ℕ → ℕ → ℕ) (entry j : ℕ) : Type 0 where
  pub from : m TAKE 0 ≤ j
  pub below : j < m PUT 0
  pub named : m GIVE (j % key.entries) ≡ entry

abbrev pub IsHeldBy : List View → ℕ → ℕ → ℕ → Type 0
IsHeldBy views entry seat i = (v : View) × (h : Hand) × IsSeatOf views seat v × At v.hands i h × (h.entry ≡ entry)

abbrev pub IsThere : Key → (ℕ → ℕ → ℕ) → List View → List Place → ℕ → ℕ → Whereabouts → Type 0
IsThere key m views log given entry (in_ring j) = IsInRing key m entry j
IsThere key m views log given entry (with_seat seat i) = IsHeldBy views entry seat i
IsThere key m views log given entry (with_id id) = (unit : Unit64) × HasDeclaration key log given entry id unit

-- *Entries.* Each entry is in exactly one place, and the counts are those of the log.
pub record EntriesStand (key : Key) (m : ℕ → ℕ → ℕ) (views : List View) (log : List Place) (given : ℕ) : Type 0 where
  pub one_place : (entry : ℕ) → entry < key.entries → (x : Whereabouts) × IsThere key m views log given entry x × ((y : Whereabouts) → IsThere key m views log given entry y → y ≡ x)
  -- each entry taken was declared in, or is in a hand
  pub taken : m TAKE 0 ≡ declarations (updates log) + sum_by (λ (v : View). length v.hands) views
  -- the ring began with the entries that nothing was carried in, and has one more for each withdrawal that was given back
  pub put : m PUT 0 + length key.carried.list ≡ key.entries + withdrawals (updates (take given log))
  -- a seat has more than one entry in hand only if it has more than one account
  pub hands : (seat : ℕ) (v : View) → IsSeatOf views seat v → length v.hands ≤ length v.accounts
