-- The number of a kind by its pair.
use Rattle.std.specs.Prelude.{ℕ, ◌+◌, ◌==◌, if◌then◌else◌}

-- the number of the kind with this MainType and this SubType
abbrev pub kind_from : ℕ → ℕ → ℕ
kind_from main sub = if main == 0 then 0 else if main == 1 then 1 + sub else if main == 2 then 6 + sub else if main == 3 then 11 else 12
