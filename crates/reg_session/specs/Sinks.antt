-- A sink in memory.
use Rattle.std.specs.Prelude.{ℕ, ◌-◌, min, List, length}

-- the bytes that it has taken, how many it takes at most in a call and in all, for how many it has room, and how often it failed
pub record ByteList : Type 0 where
  pub bytes : List ℕ
  pub most : ℕ
  pub stop : ℕ
  pub room : ℕ
  pub faults : ℕ

-- how many bytes of a piece it takes
abbrev pub taken_of : ByteList → List ℕ → ℕ
taken_of sink piece = min (min (min (length piece) sink.most) (sink.stop - length sink.bytes)) (sink.room - length sink.bytes)
