-- The words that a round of these sizes left.
use Rattle.std.specs.Prelude.{ℕ, List}
use Rattle.reg_model.specs.Limits.{Limits}
use Rattle.reg_words.specs.Memory.{area_sizes, mem}

abbrev pub areas_in : Limits → List ℕ
areas_in sizes = area_sizes sizes.entries sizes.log sizes.bits sizes.callers

abbrev pub cells_in : Limits → List ℕ → ℕ → ℕ → ℕ
cells_in sizes words = mem (areas_in sizes) words
