-- The session of a seat, its entry in hand, and the fronts that it relies on.
use Rattle.reg_rule.specs.declared.view.Account.{Account}
use Rattle.reg_rule.specs.declared.view.Hand.{Hand}
use Rattle.reg_rule.specs.declared.view.View.{View}
use Rattle.reg_rule.specs.Log.{At}
use Rattle.std.specs.Prelude.{◌≡◌, ℕ, ◌⊎◌, List, [], ◌∷◌, Option, None, Some}

-- the session of a seat is that of its first account
abbrev pub IsFirst : List Account → ℕ → Type 0
IsFirst accounts n = (a : Account) × At accounts 0 a × (n ≡ a.number)

abbrev pub IsOf : View → ℕ → Type 0
IsOf v n = IsFirst v.accounts n

-- the front is one that the seat relies on: the last that it has found since it was pinned, or that of its open snapshot
abbrev pub ReliesOn : View → ℕ → Type 0
ReliesOn v k = (v.front ≡ Some k) ⊎ (v.snapshot ≡ Some k)

abbrev pub first_entry : List Hand → Option ℕ
first_entry [] = None
first_entry (h ∷ hands) = Some h.entry

-- the entry in hand
abbrev pub hand_of : View → Option ℕ
hand_of v = first_entry v.hands

-- A seat that is no caller's, as one that was joined into another: it has no account, nothing in hand, no pin, not the sweep, and no place seen.
pub record IsSpent (v : View) : Type 0 where
  pub accounts : v.accounts ≡ []
  pub hands : v.hands ≡ []
  pub pin : v.pin ≡ 0
  pub holding : v.holding ≡ None
  pub log : v.log ≡ []
