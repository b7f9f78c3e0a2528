-- What a query looks at. Its looks are counted against the declarations of the probed buckets.
use Rattle.std.specs.Prelude.{◌≡◌, ℕ, ◌+◌, ◌*◌, ◌<◌, ◌≤◌, ◌⊎◌, Bool, true, List, None, Some}
use Rattle.iscc_header.specs.declared.unit.Unit64.{Unit64}
use Rattle.mih_plan.specs.Buckets.{bucket_of}
use Rattle.reg_rule.specs.declared.view.Key.{Key}
use Rattle.reg_rule.specs.declared.view.Place.{Place}
use Rattle.reg_rule.specs.declared.view.Met.{Met}
use Rattle.reg_rule.specs.declared.view.Cost.{Cost}
use Rattle.reg_rule.specs.declared.view.View.{View}
use Rattle.reg_rule.specs.Log.{At, updates, Declares}
use Rattle.reg_rule.specs.Candidates.{candidates}
use Rattle.reg_rule.specs.inner.World.{Use, in_hand, holds}

-- the entry is in a hand, or its declaration was not yet complete when the snapshot was opened
abbrev pub IsYoung : ℕ → ℕ → Use → Type 0
IsYoung base k place = ((id : ℕ) × (i : ℕ) × (place ≡ in_hand id i)) ⊎ ((id : ℕ) × (place ≡ holds id) × (base + k ≤ id + 1))

-- What a query has met is of the bucket in which it was met.
pub record MetFits (key : Key) (codes : ℕ → ℕ) (log : List Place) (uses : ℕ → Use) (linked : ℕ → ℕ → Bool) (k : ℕ) (m : Met) : Type 0 where
  pub table : m.table < 4
  pub inside : m.entry < key.entries
  -- where its stamp named an id, that is a declaration of the bucket
  pub named : (id : ℕ) → m.id ≡ Some id → (unit : Unit64) × Declares key.carried log id unit m.entry × (bucket_of unit.body m.table key.sizes.bits ≡ m.bucket)
  -- where it was unborn, it is still linked there: in a hand, or as a declaration that the snapshot keeps
  pub unborn : m.id ≡ None → IsYoung key.carried.base k (uses m.entry) × (linked m.table m.entry ≡ true) × (bucket_of (codes m.entry) m.table key.sizes.bits ≡ m.bucket)

abbrev pub Meets : Key → (ℕ → ℕ) → List Place → (ℕ → Use) → (ℕ → ℕ → Bool) → ℕ → View → Type 0
Meets key codes log uses linked id v = (i k : ℕ) (m : Met) → v.snapshot ≡ Some k → At v.met i m → MetFits key codes log uses linked k m

-- The looks of each answered query are at most two for each candidate, and one for each entry in a hand in each table.
abbrev pub Costs : Key → List Place → ℕ → View → Type 0
Costs key log id v = (i : ℕ) (c : Cost) → At v.costs i c → c.looked ≤ 2 * candidates key.carried (updates log) key.sizes.bits c.unit c.radius + 4 * key.sizes.callers
