-- The bits of a header: four numbers, each encoded in nibbles (ISO 24138:2024, header encoding).
use Rattle.std.specs.Prelude.{◌≡◌, ◌≢◌, ◌<◌, ℕ, ◌-◌, ◌*◌, ◌%◌, nat_lt, ◌==◌, if◌then◌else◌, List, [], ◌∷◌, ◌++◌, length, take, drop, All}
use Rattle.std.specs.List.{flat_map}
use Rattle.iscc_header.specs.Bits.{bits_of, byte_bits, IsByte}

-- A number below 4680: a prefix that says how long its encoding is, and the number in the bits that are left.
abbrev pub number_bits : ℕ → List ℕ
number_bits n =
    if nat_lt n 8 then 0 ∷ bits_of 3 n
    else if nat_lt n 72 then 1 ∷ 0 ∷ bits_of 6 (n - 8)
    else if nat_lt n 584 then 1 ∷ 1 ∷ 0 ∷ bits_of 9 (n - 72)
    else 1 ∷ 1 ∷ 1 ∷ 0 ∷ bits_of 12 (n - 584)

-- the numbers that have an encoding
abbrev pub IsEncodable : ℕ → Type 0
IsEncodable n = n < 4680

-- these bits are the encoding of the number
pub record EncodesNumber (bits : List ℕ) (n : ℕ) : Type 0 where
  pub encodable : IsEncodable n
  pub encoded : bits ≡ number_bits n

-- the bits begin with the encoding of the number, and go on with the rest
pub record BeginsWithNumber (bits : List ℕ) (n : ℕ) (rest : List ℕ) : Type 0 where
  pub encodable : IsEncodable n
  pub encoded : bits ≡ number_bits n ++ rest

-- the bits end within the encoding of a number: more are wanted
pub record EndsWithinNumber (bits : List ℕ) : Type 0 where
  pub number : ℕ
  pub more : List ℕ
  pub encodable : IsEncodable number
  pub wanted : 0 < length more
  pub encoded : number_bits number ≡ bits ++ more

-- the bits begin with the nibble 15, with which no encoding begins
pub record BeginsWithNoNumber (bits : List ℕ) : Type 0 where
  pub rest : List ℕ
  pub fifteen : bits ≡ 1 ∷ 1 ∷ 1 ∷ 1 ∷ rest

-- the bits of these bytes from a nibble place on
abbrev pub bits_from : List ℕ → ℕ → List ℕ
bits_from bytes at = drop (4 * at) (byte_bits bytes)

-- an odd number of nibbles gets one nibble 0 more, so that bytes are whole
abbrev pub padded : List ℕ → List ℕ
padded bits = if length bits % 8 == 0 then bits else bits ++ 0 ∷ 0 ∷ 0 ∷ 0 ∷ []

-- MainType, SubType, Version and Length, in this order
abbrev pub header_bits : ℕ → ℕ → ℕ → ℕ → List ℕ
header_bits main sub version len = padded (flat_map number_bits (main ∷ sub ∷ version ∷ len ∷ []))

-- the four numbers of a header
pub record Numbers : Type 0 where
  pub main : ℕ
  pub sub : ℕ
  pub version : ℕ
  pub len : ℕ

-- a header's numbers each have an encoding
pub record IsHeader (header : Numbers) : Type 0 where
  pub main : IsEncodable header.main
  pub sub : IsEncodable header.sub
  pub version : IsEncodable header.version
  pub len : IsEncodable header.len

-- these bytes are the encoding of the header
pub record EncodesHeader (header : Numbers) (bytes : List ℕ) : Type 0 where
  pub numbers : IsHeader header
  pub range : All IsByte bytes
  pub encoded : byte_bits bytes ≡ header_bits header.main header.sub header.version header.len

-- the bits are the encodings of these numbers, and the rest
pub record BeginsWithNumbers (bits numbers rest : List ℕ) : Type 0 where
  pub encodable : All IsEncodable numbers
  pub encoded : bits ≡ flat_map number_bits numbers ++ rest

-- where a header's next number should stand, the bits end within it
pub record EndsWithinHeader (bits : List ℕ) : Type 0 where
  pub before : List ℕ
  pub rest : List ℕ
  pub fewer : length before < 4
  pub numbers : BeginsWithNumbers bits before rest
  pub ends : EndsWithinNumber rest

-- where a header's next number should stand, there is none
pub record LacksNumber (bits : List ℕ) : Type 0 where
  pub before : List ℕ
  pub rest : List ℕ
  pub fewer : length before < 4
  pub numbers : BeginsWithNumbers bits before rest
  pub lacks : BeginsWithNoNumber rest

-- the four numbers have an odd number of nibbles, and the nibble after them isn't 0
pub record IsPaddedWrongly (bits : List ℕ) : Type 0 where
  pub all : List ℕ
  pub rest : List ℕ
  pub four : length all ≡ 4
  pub numbers : BeginsWithNumbers bits all rest
  pub odd : length (flat_map number_bits all) % 8 ≡ 4
  pub other : take 4 rest ≢ 0 ∷ 0 ∷ 0 ∷ 0 ∷ []
