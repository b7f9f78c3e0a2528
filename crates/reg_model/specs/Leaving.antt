-- What the memory has room for in which the end of a round makes the list that is carried on.
use Rattle.std.specs.Prelude.{ℕ}

-- how many declarations the round began with, how many updates it may have, and how many declarations may be live then
pub record LeavingRoom : Type 0 where
  pub carried : ℕ
  pub updates : ℕ
  pub live : ℕ

abbrev pub leaving_room : ℕ → ℕ → ℕ → LeavingRoom
leaving_room carried updates live = record { carried = carried; updates = updates; live = live }
