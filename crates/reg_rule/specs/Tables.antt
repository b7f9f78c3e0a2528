-- Which of the four tables a list has.
use Rattle.std.specs.Prelude.{ℕ, ◌==◌, Bool, List, ◌&&◌}
use Rattle.std.specs.List.{list_any}

abbrev pub is_in : ℕ → List ℕ → Bool
is_in n list = list_any (λ m. m == n) list

-- the tables are all four
abbrev pub are_all : List ℕ → Bool
are_all tables = is_in 0 tables && is_in 1 tables && is_in 2 tables && is_in 3 tables
