-- The bytes that letters give, gathered five bits at a time.
use Rattle.std.specs.Prelude.{◌≡◌, ◌<◌, ◌^◌, ◌++◌, ℕ, List, length, take, min, map, All}
use Rattle.std.specs.List.{flat_map}
use Rattle.iscc_header.specs.Bits.{bits_of, byte_bits, IsByte}
use Rattle.iscc_text.specs.inner.Letters.{digit}
use Rattle.iscc_text.specs.Texts.{capitals}
use Rattle.iscc_text.specs.declared.gather.Gathered.{Gathered}
use Rattle.iscc_text.specs.declared.gather.TheConstants.{KEPT}

-- the bits of letters, five for each
unfoldable pub letter_bits : List ℕ → List ℕ
letter_bits m = flat_map (bits_of 5) (map digit (capitals m))

-- the bits are those of whole bytes, of which the first are kept, and of less than a byte behind them
pub record Gathers (bits : Gathered) (all : List ℕ) : Type 0 where
  pub bytes : List ℕ
  pub range : All IsByte bytes
  pub count : bits.count ≡ length bytes
  pub array : length bits.kept ≡ KEPT
  pub kept : take KEPT bytes ≡ take (min bits.count KEPT) bits.kept
  pub narrow : bits.width < 8
  pub fits : bits.pending < 2 ^ bits.width
  pub whole : all ≡ byte_bits bytes ++ bits_of bits.width bits.pending
