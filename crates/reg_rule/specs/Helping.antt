-- Helping: who completes the record of a place.
use Rattle.std.specs.Prelude.{◌≡◌, ℕ, ◌+◌, ◌⊎◌, ◌==◌, nat_le, Bool, true, length, Option, None, Some}
use Rattle.reg_rule.specs.declared.view.View.{View}

-- the seat knows that all places below are complete: it has helped the last of them, or a later one
abbrev pub helped_up_to : Option ℕ → ℕ → Bool
helped_up_to None k = k == 0
helped_up_to (Some n) k = nat_le k (n + 1)

abbrev pub HasHelped : View → ℕ → Type 0
HasHelped v k = helped_up_to v.helped k ≡ true

-- the seat may complete the place: it has seen no more, and since it was pinned it has found the front behind it, or has filled it
abbrev pub MayHelp : View → ℕ → Type 0
MayHelp v n = (length v.log ≡ n + 1) × ((v.front ≡ Some (n + 1)) ⊎ ((v.front ≡ Some n) × (v.committed ≡ Some n)))
