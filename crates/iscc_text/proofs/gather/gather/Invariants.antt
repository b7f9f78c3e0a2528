use Rattle.std.proofs.Common.{◌≤◌, take}
use Rattle.iscc_text.specs.inner.Gathering.{Gathers, letter_bits}
use Rattle.iscc_text.proofs.gather.gather.Given as goal

-- the bits of the letters so far
abbrev pub invariant-loop-byte : goal.invariant-loop-byte
invariant-loop-byte l = Gathers l.bits (letter_bits (take l.byte-index l.letters)) × (l.bits.count ≤ l.byte-index)
