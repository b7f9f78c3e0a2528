-- The start and the end of a round.
use Rattle.std.specs.Prelude.{◌≡◌, ℕ, List, slice_get, Some, None}
use Rattle.atomic_table.specs.Seated.{TableId}
use Rattle.reg_model.specs.Limits.{Limits}
use Rattle.reg_model.specs.Opening.{Opening}
use Rattle.reg_rule.specs.declared.view.Key.{Key}
use Rattle.reg_rule.specs.declared.view.View.{View}
use Rattle.reg_rule.specs.Fresh.{fresh}

-- what the words of a round are made for
abbrev pub key_of : Limits → Opening → Key
key_of sizes carried = record { sizes = sizes; carried = carried; entries = sizes.entries }

-- a pass of these words, which has their key
abbrev pub IsWordsPass : TableId × Key → TableId × View → Type 0
IsWordsPass words pass = (pass.0 ≡ words.0) × (pass.1.key ≡ words.1)

-- each pass is new, in the order of the sessions
abbrev pub AllFresh : TableId × Key → List (TableId × View) → Type 0
AllFresh words passes = (k : ℕ) (p : TableId × View) → slice_get passes k ≡ Some p → p ≡ (words.0, fresh words.1 k 1)

-- a seat that may be joined into another, and take one in: it is not pinned, and does not hold the sweep
abbrev pub IsAtRest : View → Type 0
IsAtRest v = (v.pin ≡ 0) × (v.holding ≡ None)
