-- The units of a workload, from its seed.
use Rattle.std.specs.Prelude.{ℕ, zero, suc, ◌+◌, ◌*◌, ◌/◌, ◌%◌, ◌^◌, bit_xor}
use Rattle.iscc_header.specs.declared.unit.Unit64.{Unit64}

-- the number after this one: Knuth's linear congruential generator of 64 bits (that of MMIX)
abbrev pub next_number : ℕ → ℕ
next_number x = (x * 6364136223846793005 + 1442695040888963407) % 2 ^ 64

-- the number so many steps behind the seed
unfoldable pub number_after : ℕ → ℕ → ℕ
number_after seed zero = seed
number_after seed (suc i) = next_number (number_after seed i)

-- the centre with this number, 0 to 15; all units are of one kind, that of a text's content
abbrev pub centre : ℕ → ℕ → Unit64
centre seed j = record { kind = 6; body = number_after seed (j + 1) }

-- the unit with this number: one centre after the other, with one bit turned over, whose place has the weight 2^0 to 2^63
abbrev pub unit : ℕ → ℕ → Unit64
unit seed i = record { kind = 6; body = bit_xor (centre seed (i % 16)).body (2 ^ (number_after seed (17 + i) / 2 ^ 58)) }
