-- What the tests know of a pass after a few steps, whatever these were.
use Rattle.std.specs.Prelude.{◌≡◌, ℕ, List, [], ◌∷◌}
use Rattle.reg_rule.specs.declared.view.Key.{Key}
use Rattle.reg_rule.specs.declared.view.Taking.TheVariants.{Idle}
use Rattle.reg_rule.specs.declared.view.View.{View}
use Rattle.reg_rule.specs.inner.Trials.{written_hand}

-- a pass of these words that knows this
abbrev pub Knows : {T : Type 0} → T × Key → T × View → View → Type 0
Knows words pass v = (made : List ℕ) × (pass ≡ (words.0, record v { made = made }))

-- an entry in hand that was written with this code, and linked in the first tables
abbrev pub with_entry : View → ℕ → ℕ → ℕ → View
with_entry v entry code tables = record v { taking = Idle; hands = written_hand entry code tables ∷ [] }
