-- Counts of faults.
use Rattle.std.specs.Prelude.{◌≡◌, ℕ, ◌+◌, ◌-◌, ◌^◌, ◌<◌, ◌≤◌, min}

-- one more, up to the greatest number that a count can have
abbrev pub one_more : ℕ → ℕ
one_more count = min (count + 1) (2 ^ 64 - 1)

-- a count has risen, or stands at the greatest number that it can have
abbrev pub Rose : ℕ → ℕ → Type 0
Rose before now = one_more before ≤ now

-- no fault came, where a fault would show
abbrev pub Quiet : ℕ → ℕ → Type 0
Quiet before now = (before < 2 ^ 64 - 1) × (now ≡ before)

-- a call says that it failed only where the count of faults rose in it, and no other answer raises the count
pub record HasCause (before now : ℕ) (Failed : Type 0) : Type 0 where
  pub later : before ≤ now
  pub failed : Failed → Rose before now
  pub kept : (Failed → ⊥) → now ≡ before
