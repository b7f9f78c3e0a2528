-- Worked examples: distances of bodies, and the bits of headers.
use Rattle.std.proofs.Common.{◌≡◌, refl}
use Rattle.iscc_header.specs.Bits.{bits_of, distance}
use Rattle.iscc_header.specs.Headers.{header_bits}

apart_by_one : distance 0 1 ≡ 1
unfolding bits_of distance
apart_by_one = refl

apart_by_all : distance 0 0xFFFF_FFFF_FFFF_FFFF ≡ 64
unfolding bits_of distance
apart_by_all = refl

spread_over_four_parts : distance 0 0x0007_000F_000F_000F ≡ 15
unfolding bits_of distance
spread_over_four_parts = refl

-- a META unit of 64 bits: the nibbles 0, 0, 0, 1
meta_header : header_bits 0 0 0 1 ≡ bits_of 16 0x0001
unfolding bits_of
meta_header = refl

-- a length of 8 takes two nibbles, and a padding nibble makes the bytes whole
padded_header : header_bits 0 0 0 8 ≡ bits_of 24 0x000800
unfolding bits_of
padded_header = refl

-- the greatest number takes four nibbles
greatest_number : header_bits 4679 0 0 0 ≡ bits_of 32 0xEFFF0000
unfolding bits_of
greatest_number = refl
