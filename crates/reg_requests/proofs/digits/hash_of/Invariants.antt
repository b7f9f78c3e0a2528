use Rattle.std.proofs.Common.{◌≡◌, ◌+◌, ◌≤◌, ◌%◌, ◌++◌, List, ℕ, length, Ok}
use Rattle.hex.specs.Hex.{decode_of}
use Rattle.iscc_instance.specs.Hasher.{HasTaken, hasher_len}
use Rattle.reg_requests.proofs.digits.hash_of.Given as goal

-- the bytes of the digits so far are taken; with those of the rest they are the bytes of all digits, and all digits read only if the rest do
abbrev pub invariant-loop-rest : goal.invariant-loop-rest
invariant-loop-rest l = record {
  bytes : List ℕ;
  taken : HasTaken l.hasher bytes;
  joined : (more : List ℕ) → decode_of l.rest ≡ Ok more → decode_of l.digits ≡ Ok (bytes ++ more);
  parted : (all : List ℕ) → decode_of l.digits ≡ Ok all → (more : List ℕ) × (decode_of l.rest ≡ Ok more);
  even : length l.rest % 2 ≡ 0;
  room : hasher_len l.hasher + length l.rest ≤ length l.digits;
}

abbrev pub decreases-loop-rest : goal.decreases-loop-rest
decreases-loop-rest l = length l.rest
