-- The bodies of the centres, in one list.
use Rattle.std.specs.Prelude.{ℕ, ◌+◌, List, map}
use Rattle.std.specs.List.{range_with_len}
use Rattle.reg_make.specs.Generator.{number_after}

-- those behind this seed
abbrev pub centre_bodies : ℕ → List ℕ
centre_bodies seed = map (λ j. number_after seed (j + 1)) (range_with_len 0 16)
