-- What a program may ask of a pass.
use Rattle.std.specs.Prelude.{ℕ, ◌+◌, List, length, map, option_map}
use Rattle.atomic_table.specs.Seated.{TableId}
use Rattle.reg_model.specs.Desks.{PassView}
use Rattle.reg_rule.specs.declared.view.View.{View}
use Rattle.reg_rule.specs.Moves.{head_number, head_rows}

-- the session of a pass is that of its first account
abbrev pub number_of : View → ℕ
number_of v = head_number v.accounts

-- the number of updates before the round, and those of so many places
abbrev pub point_of : View → ℕ → ℕ
point_of v places = v.key.carried.base + places

-- a pass as a desk shows it
abbrev pub pass_view : View → PassView
pass_view v = record { number = number_of v; seen = point_of v (length v.log); snapshot = option_map (point_of v) v.snapshot; account = head_rows v.accounts }

-- passes as a desk shows them
abbrev pub passes_shown : List (TableId × View) → List PassView
passes_shown passes = map (λ (p : TableId × View). pass_view p.1) passes
