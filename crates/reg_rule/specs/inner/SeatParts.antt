-- The views of all seats.
use Rattle.std.specs.Prelude.{◌≡◌, ℕ, ◌+◌, ◌<◌, ◌≤◌, Bool, is_some, List, [], ◌∷◌, ◌++◌, length, true, false, Option, Some}
use mathlib.Core.Option.{some}
use lib.ListN.{get_elem?}
use Rattle.reg_model.specs.declared.reply.Row.{Row}
use Rattle.reg_rule.specs.declared.view.Key.{Key}
use Rattle.reg_rule.specs.declared.view.Place.{Place}
use Rattle.reg_rule.specs.declared.view.Account.{Account}
use Rattle.reg_rule.specs.declared.view.Hand.{Hand}
use Rattle.reg_rule.specs.declared.view.View.{View}
use Rattle.reg_rule.specs.Log.{At}
use Rattle.reg_rule.specs.inner.World.{Use, in_hand}

abbrev pub Each : {V : Type 0} → List V → (ℕ → V → Type 0) → Type 0
Each {V} views F = (id : ℕ) (v : V) → get_elem? views id ≡ some v → F id v

abbrev pub total : (View → ℕ) → List View → ℕ
total f [] = 0
total f (v ∷ views) = f v + total f views

-- A live seat has the key.
abbrev pub Knows : Key → ℕ → View → Type 0
Knows key id v = v.live ≡ true → v.key ≡ key

-- the account is that of its session, and the seat is its owner
pub record Owned (callers : ℕ) (accounts : ℕ → List Row) (owner : ℕ → ℕ × ℕ) (id i : ℕ) (a : Account) : Type 0 where
  pub below : a.number < callers
  pub owner_is : owner a.number ≡ (id, i)
  pub rows_are : accounts a.number ≡ a.rows

-- A seat has the accounts of the sessions that it owns, and no two seats own one session.
abbrev pub Owns : ℕ → (ℕ → List Row) → (ℕ → ℕ × ℕ) → ℕ → View → Type 0
Owns callers accounts owner id v = (i : ℕ) (a : Account) → At v.accounts i a → Owned callers accounts owner id i a

-- The places that a seat has seen begin the log.
abbrev pub Saw : List Place → ℕ → View → Type 0
Saw log id v = (more : List Place) × (log ≡ v.log ++ more)

-- An entry in a hand is in the hand of some seat.
abbrev pub InHands : (ℕ → Use) → List View → Type 0
InHands uses views = (entry id i : ℕ) → uses entry ≡ in_hand id i → (v : View) × (h : Hand) × (get_elem? views id ≡ some v) × At v.hands i h × (h.entry ≡ entry)

-- The holder of the sweep is a seat.
abbrev pub IsSeat : Option ℕ → List View → Type 0
IsSeat holder views = (id : ℕ) → holder ≡ Some id → (v : View) × (get_elem? views id ≡ some v)

-- A seat has no more entries in hand than sessions, and where it holds the sweep it has one. One that is no caller's has none.
pub record SessionsFit (live : Bool) (seen accounts hands : ℕ) (sweeps : Bool) : Type 0 where
  pub hands_most : hands ≤ accounts
  pub holding : sweeps ≡ true → 0 < accounts
  -- and it has seen nothing
  pub spent : live ≡ false → (accounts ≡ 0) × (seen ≡ 0)

abbrev pub HasSessions : ℕ → View → Type 0
HasSessions id v = SessionsFit v.live (length v.log) (length v.accounts) (length v.hands) (is_some v.holding)
