-- Pins (hazards), the fronts that a seat relies on, and what was found free of them.
use Rattle.std.specs.Prelude.{◌≡◌, ℕ, ◌+◌, ◌<◌, ◌≤◌, ◌⊎◌, ◌==◌, cond, length, take, count_by, List, Option, Some}
use Rattle.iscc_header.specs.declared.unit.Unit64.{Unit64}
use Rattle.reg_model.specs.declared.reply.Row.{Row}
use Rattle.reg_rule.specs.declared.view.Key.{Key}
use Rattle.reg_rule.specs.declared.view.Account.{Account}
use Rattle.reg_rule.specs.declared.view.Found.{Found}
use Rattle.reg_rule.specs.declared.view.Cursor.{Cursor}
use Rattle.reg_rule.specs.declared.view.View.{View}
use Rattle.reg_rule.specs.Log.{At, IsLiveIn}
use Rattle.reg_rule.specs.Seats.{IsOf, ReliesOn}

-- the same, of the two fronts themselves
abbrev pub IsOneOf : Option ℕ → Option ℕ → ℕ → Type 0
IsOneOf front snapshot k = (front ≡ Some k) ⊎ (snapshot ≡ Some k)

-- What a pin says of what the seat has seen.
pub record PinFits (accounts seen pin : ℕ) (front snapshot : Option ℕ) (cursor : Option Cursor) : Type 0 where
  -- a pinned seat is of a session
  pub session : 0 < pin → 0 < accounts
  -- it has seen the places of its pin
  pub covers : pin ≤ seen + 1
  -- a front is relied on under a pin that is no later, and was seen
  pub fronts : (k : ℕ) → IsOneOf front snapshot k → (0 < pin) × (pin ≤ k + 1) × (k ≤ seen)
  pub cursor_pinned : (c : Cursor) → cursor ≡ Some c → 0 < pin

abbrev pub FitsPin : ℕ → View → Type 0
FitsPin id v = PinFits (length v.accounts) (length v.log) v.pin v.front v.snapshot v.cursor

-- No row stands above what the seat has seen, nor above its open snapshot.
pub record RowsFit (base seen : ℕ) (snapshot : Option ℕ) (accounts : List Account) : Type 0 where
  pub below : (i j : ℕ) (a : Account) (row : Row) → At accounts i a → At a.rows j row → row.point ≤ base + seen
  pub opened : (i j k : ℕ) (a : Account) (row : Row) → snapshot ≡ Some k → At accounts i a → At a.rows j row → row.point ≤ base + k

abbrev pub FitsRows : Key → ℕ → View → Type 0
FitsRows key id v = RowsFit key.carried.base (length v.log) v.snapshot v.accounts

-- The declaration that a seat found live was so at its place.
abbrev pub FoundLive : Key → ℕ → View → Type 0
FoundLive key id v = (f : Found) → v.found ≡ Some f → (f.place ≤ length v.log) × ((unit : Unit64) × IsLiveIn key.carried (take f.place v.log) f.id unit f.entry)

-- Each exchange of the log has seen a place.
abbrev pub FewExchanges : ℕ → View → Type 0
FewExchanges id v = count_by (λ kind. kind == 2) v.made ≤ length v.log

-- A seat's pin stands in the word of its session, and the other sessions whose accounts it has are not pinned.
abbrev pub Pinned : (ℕ → ℕ) → ℕ → View → Type 0
Pinned pins id v = (i : ℕ) (a : Account) → At v.accounts i a → pins a.number ≡ cond (i == 0) v.pin 0

-- No front that a seat relies on is below the floor of its session.
abbrev pub AboveFloor : (ℕ → ℕ) → ℕ → View → Type 0
AboveFloor floor id v = (n k : ℕ) → IsOf v n → ReliesOn v k → floor n ≤ k
