-- What a seat knows that takes an entry from the ring.
use Rattle.std.specs.Prelude.{◌≡◌, ℕ, ◌+◌, ◌<◌, ◌≤◌, List, length, take, Some}
use Rattle.reg_model.specs.Live.{declarations, withdrawals}
use Rattle.reg_rule.specs.declared.view.Key.{Key}
use Rattle.reg_rule.specs.declared.view.Place.{Place}
use Rattle.reg_rule.specs.declared.view.Taking.{Taking}
use Rattle.reg_rule.specs.declared.view.Taking.TheVariants.{Idle, Begun, Room, Named}
use Rattle.reg_rule.specs.declared.view.Empty.{Empty}
use Rattle.reg_rule.specs.declared.view.View.{View}
use Rattle.reg_rule.specs.Log.{updates, NoneWithdrawn}

-- The counts only rise, and an entry put under a count that was not yet taken stays there.
abbrev pub TakingFits : ℕ → ℕ → (ℕ → ℕ) → Taking → Type 0
TakingFits taken put ring Idle = Unit {0}
TakingFits taken put ring (Begun t) = t ≤ taken
TakingFits taken put ring (Room t p) = (t ≤ taken) × (t < p) × (p ≤ put)
TakingFits taken put ring (Named t p entry) = (t ≤ taken) × (t < p) × (p ≤ put) × (taken ≡ t → entry ≡ ring t)

abbrev pub Takes : ℕ → ℕ → (ℕ → ℕ) → ℕ → View → Type 0
Takes taken put ring id v = TakingFits taken put ring v.taking

-- The ring was found empty once: every entry that was given back by then was in a hand of another seat, or declared in.
pub record EmptyFits (key : Key) (log : List Place) (e : Empty) : Type 0 where
  -- there was the front then
  pub front : e.front ≤ length log
  pub stop : e.stopped ≤ length log
  -- what was taken was declared in, or in the hands of the other seats
  pub declared : declarations (updates (take e.front log)) ≤ e.taken
  pub hands : e.taken < declarations (updates (take e.front log)) + key.sizes.callers
  -- no more were given back than withdrawn
  pub given : e.taken + length key.carried.list ≤ key.sizes.entries + withdrawals (updates (take e.front log))
  -- and no fewer than withdrawn below the stop of the seat's last sweep
  pub swept : key.sizes.entries + withdrawals (updates (take e.stopped log)) ≤ e.taken + length key.carried.list

abbrev pub FoundEmpty : Key → List Place → ℕ → View → Type 0
FoundEmpty key log id v = (e : Empty) → v.empty ≡ Some e → EmptyFits key log e

-- Each withdrawal below the stop of a seat's last sweep was given back, and the log reaches that far.
abbrev pub Stopped : List Place → ℕ → ℕ → View → Type 0
Stopped log returned id v = (v.stopped ≤ length log) × NoneWithdrawn log returned v.stopped
