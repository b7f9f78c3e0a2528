-- The printed text of an ISCC (ISO 24138:2024, canonical form).
use Rattle.std.specs.Prelude.{◌≡◌, ◌++◌, ℕ, List, codes}
use Rattle.iscc_header.specs.Bits.{byte_bits}
use Rattle.iscc_code.specs.Codes.{EncodesIscc}
use Rattle.iscc_code.specs.declared.iscc.Iscc.{Iscc}
use Rattle.iscc_text.specs.Base32.{letters}

-- the text is the printed one of the ISCC: `ISCC:` and the letters of its encoding, without padding characters
pub record IsPrintedText (iscc : Iscc) (text : List ℕ) : Type 0 where
  pub encoding : List ℕ
  pub encoded : EncodesIscc iscc encoding
  pub same : text ≡ codes "ISCC:" ++ letters (byte_bits encoding)
