-- Walks along chains: where a cursor may be while an entry is unlinked, and what a walk has not missed.
use Rattle.std.specs.Prelude.{◌≡◌, ℕ, zero, suc, ◌+◌, ◌^◌, ◌<◌, ◌≤◌, ◌⊎◌, Bool, false, List, [], ◌∷◌, ◌++◌, take, Option, Some}
use Rattle.iscc_header.specs.declared.unit.Unit64.{Unit64}
use Rattle.mih_plan.specs.Buckets.{bucket_of}
use Rattle.reg_rule.specs.declared.view.Key.{Key}
use Rattle.reg_rule.specs.declared.view.Place.{Place}
use Rattle.reg_rule.specs.declared.view.Account.{Account}
use Rattle.reg_rule.specs.declared.view.Cursor.{Cursor}
use Rattle.reg_rule.specs.declared.view.View.{View}
use Rattle.reg_rule.specs.Log.{IsLiveIn, IsWd, Declares}
use Rattle.reg_rule.specs.Seats.{IsFirst}
use Rattle.reg_rule.specs.inner.Sweeping.{IsReclaimed}
use Rattle.reg_rule.specs.Chains.{Member, Once}
use Rattle.reg_rule.specs.inner.ChainParts.{Names, after, next_in}

-- The entry of a cursor was cut from its chain, and is not yet given back.
pub record IsLoose (key : Key) (c : Cursor) (log : List Place) (next : ℕ) (chain : List ℕ) (linked : ℕ → Bool) (begun returned : ℕ) (mark : Option ℕ) (freed : ℕ → ℕ) (pin : ℕ) (accounts : List Account) : Type 0 where
  -- it is the entry that is being reclaimed
  pub reclaimed : (d : ℕ) × (id : ℕ) × IsReclaimed log begun returned d id c.entry
  -- whose declaration is of this bucket
  pub bucket : (d id : ℕ) (unit : Unit64) → IsWd log d id c.entry → begun ≡ d + 1 → Declares key.carried log id unit c.entry → bucket_of unit.body c.table key.sizes.bits ≡ c.bucket
  pub cut : linked c.entry ≡ false
  -- its next word leads back into the chain
  pub leads_back : Names next chain
  -- its seat was pinned at or below the mark
  pub pinned : (m : ℕ) → mark ≡ Some m → pin ≤ m + 1
  -- and was not yet found free of it
  pub unscanned : (n : ℕ) → IsFirst accounts n → freed n < begun

-- what a word leads to in a chain
abbrev pub from : ℕ → List ℕ → List ℕ
from zero chain = []
from (suc e) chain = e ∷ after e chain

pub record CursorFits (key : Key) (nexts : ℕ → ℕ) (log : List Place) (chains : ℕ → ℕ → List ℕ) (linked : ℕ → ℕ → Bool) (begun returned : ℕ) (mark : Option ℕ) (freed : ℕ → ℕ) (pin : ℕ) (accounts : List Account) (visited : List ℕ) (c : Cursor) : Type 0 where
  pub table : c.table < 4
  pub bucket : c.bucket < 2 ^ key.sizes.bits
  -- it is in its chain, or was cut from it
  pub stands : Member c.entry (chains c.table c.bucket) ⊎ IsLoose key c log (next_in key.entries nexts c.table c.entry) (chains c.table c.bucket) (linked c.table) begun returned mark freed pin accounts
  -- the walk meets no entry twice
  pub once : Once (visited ++ from (next_in key.entries nexts c.table c.entry) (chains c.table c.bucket))

abbrev pub Cursors : Key → (ℕ → ℕ) → List Place → (ℕ → ℕ → List ℕ) → (ℕ → ℕ → Bool) → ℕ → ℕ → Option ℕ → (ℕ → ℕ) → ℕ → View → Type 0
Cursors key nexts log chains linked begun returned mark freed id v = (c : Cursor) → v.cursor ≡ Some c → CursorFits key nexts log chains linked begun returned mark freed v.pin v.accounts v.visited c

-- Each declaration of the bucket that is live at the open snapshot was visited, or lies behind the cursor.
abbrev pub Covers : Key → (ℕ → ℕ) → (ℕ → ℕ → List ℕ) → ℕ → View → Type 0
Covers key nexts chains id v = (c : Cursor) (k declared entry : ℕ) (unit : Unit64) → v.cursor ≡ Some c → v.snapshot ≡ Some k
    → IsLiveIn key.carried (take k v.log) declared unit entry → bucket_of unit.body c.table key.sizes.bits ≡ c.bucket
    → Member entry v.visited ⊎ Member entry (from (next_in key.entries nexts c.table c.entry) (chains c.table c.bucket))
