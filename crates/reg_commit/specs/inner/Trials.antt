-- What the tests know of the rounds that they play: what a pass knows after a few calls, whatever steps these made.
use Rattle.std.specs.Prelude.{◌≡◌, ℕ, List, [], ◌∷◌, Some}
use Rattle.reg_rule.specs.declared.told.Told.TheVariants.{Nothing}
use Rattle.reg_model.specs.Opening.{Opening}
use Rattle.reg_rule.specs.declared.view.Key.{Key}
use Rattle.reg_rule.specs.declared.view.Taking.TheVariants.{Idle}
use Rattle.reg_rule.specs.declared.view.View.{View}
use Rattle.reg_rule.specs.Fresh.{fresh}
use Rattle.reg_rule.specs.Moves.{at_front, passed}
use Rattle.reg_rule.specs.inner.Trials.{two_callers, written_hand, meta_place}
use Rattle.reg_commit.specs.Helps.{completed}

-- a pass of these words that knows this
abbrev pub Knows : {T : Type 0} → T × Key → T × View → View → Type 0
Knows words pass v = (made : List ℕ) × (pass ≡ (words.0, record v { made = made }))

-- an entry in hand that was written with this code, and linked in the first tables
abbrev pub with_entry : View → ℕ → ℕ → ℕ → View
with_entry v entry code tables = record v { taking = Idle; hands = written_hand entry code tables ∷ [] }

-- a seat that is pinned, has found the front 0, and has an entry in hand
abbrev pub prepared : ℕ → ℕ → View
prepared log seat = record (fresh (two_callers 4 log) seat 1) { pin = 1; front = Some 0; hands = written_hand seat 0 4 ∷ [] }

-- the second one was too late for the first place, and knows the kind and the entry that are declared there
abbrev pub overtaken : ℕ → View
overtaken body = passed (prepared 2 1) 2 (meta_place body 0)

-- it has found the front behind that place, and has completed it
abbrev pub caught_up : ℕ → View
caught_up body = completed (at_front Nothing (overtaken body) 1) 0 (meta_place body 0)

-- ---- a round in which two seats withdraw one id

-- the id 7 is carried, of the kind META
abbrev pub seven : Opening
seven = record { base = 9; list = record { id = 7; unit = record { kind = 0; body = 1 } } ∷ [] }

abbrev pub carrying : Key
carrying = record { sizes = record { entries = 4; log = 4; bits = 4; callers = 2 }; carried = seven; entries = 4 }

-- a seat that is pinned, and has found the id live at the front 0
abbrev pub found_live : ℕ → View
found_live seat = record (fresh carrying seat 1) { pin = 1; front = Some 0; found = Some (record { id = 7; entry = 0; place = 0 }) }
