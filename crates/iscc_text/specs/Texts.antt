-- Texts of ISCCs: what a text stands for, and the fault of every other text (ISO 24138:2024; RFC 4648, section 6).
use Rattle.std.specs.Prelude.{◌≡◌, ◌≢◌, ◌+◌, ◌-◌, ℕ, List, [], ◌∷◌, ◌++◌, length, slice_index_or, map, filter, codes, ◌==◌, ◌&&◌, ◌||◌, not, nat_le, Bool, false, All, ◌⊎◌}
use Rattle.std.specs.List.{AllPass}
use Rattle.std.specs.Char.{to_ascii_uppercase}
use Rattle.iscc_header.specs.Bits.{byte_bits, IsByte}
use Rattle.iscc_code.specs.Codes.{EncodesIscc, HasFault}
use Rattle.iscc_code.specs.declared.iscc.Iscc.{Iscc}
use Rattle.iscc_text.specs.Base32.{letters}
use Rattle.iscc_text.specs.declared.read.TextFault.{TextFault}
use Rattle.iscc_text.specs.declared.read.TextFault.TheVariants as faults

-- a space or a tab
unfoldable pub is_blank : ℕ → Bool
is_blank b = (b == 32) || (b == 9)

-- a small letter as its capital, any other byte as it is
unfoldable pub capital : ℕ → ℕ
capital b = to_ascii_uppercase b

-- `A` to `Z` or `2` to `7`
unfoldable pub is_letter : ℕ → Bool
is_letter b = (nat_le 65 b && nat_le b 90) || (nat_le 50 b && nat_le b 55)

-- what may stand among the letters: letters in either case, and hyphens
unfoldable pub is_allowed : ℕ → Bool
is_allowed b = (b == 45) || is_letter (capital b)

-- any byte but a colon
abbrev pub is_no_colon : ℕ → Bool
is_no_colon b = not (b == 58)

-- any byte but a hyphen
abbrev pub is_no_hyphen : ℕ → Bool
is_no_hyphen b = not (b == 45)

-- the letters as capitals, without the hyphens
unfoldable pub capitals : List ℕ → List ℕ
capitals m = map capital (filter is_no_hyphen m)

-- `iscc:` in any mixture of cases
abbrev pub IsScheme : List ℕ → Type 0
IsScheme scheme = map capital scheme ≡ codes "ISCC:"

-- the letters are those of these bytes
pub record AreLetters (m bytes : List ℕ) : Type 0 where
  pub range : All IsByte bytes
  pub same : capitals m ≡ letters (byte_bits bytes)

-- The text stands for the ISCC: blanks, then nothing or the scheme, then the letters of its encoding, then blanks.
pub record StandsFor (text : List ℕ) (iscc : Iscc) : Type 0 where
  pub before : List ℕ
  pub scheme : List ℕ
  pub m : List ℕ
  pub after : List ℕ
  pub encoding : List ℕ
  pub whole : text ≡ before ++ (scheme ++ m ++ after)
  pub blanks : AllPass is_blank before × AllPass is_blank after
  pub named : (scheme ≡ []) ⊎ IsScheme scheme
  pub allowed : AllPass is_allowed m
  pub same : capitals m ≡ letters (byte_bits encoding)
  pub encoded : EncodesIscc iscc encoding

-- The text without the blanks at its ends. A text of blanks alone has them all before.
pub record IsTrimmed (text before core after : List ℕ) : Type 0 where
  pub whole : text ≡ before ++ (core ++ after)
  pub blank_before : AllPass is_blank before
  pub blank_after : AllPass is_blank after
  pub first : is_blank (slice_index_or (core ++ after) 0 0) ≡ false
  pub last : is_blank (slice_index_or core (length core - 1) 0) ≡ false

-- a colon stands there, and before the first one something other than `iscc`
pub record LacksScheme (text : List ℕ) : Type 0 where
  pub before : List ℕ
  pub name : List ℕ
  pub rest : List ℕ
  pub after : List ℕ
  pub trimmed : IsTrimmed text before (name ++ 58 ∷ rest) after
  pub first : AllPass is_no_colon name
  pub other : map capital name ≢ codes "ISCC"

-- what is left behind the blanks and the scheme, and its place in the text
pub record IsBehindScheme (text m : List ℕ) (place : ℕ) : Type 0 where
  pub before : List ℕ
  pub scheme : List ℕ
  pub after : List ℕ
  pub trimmed : IsTrimmed text before (scheme ++ m) after
  pub named : (scheme ≡ [] × AllPass is_no_colon m) ⊎ IsScheme scheme
  pub at : place ≡ length before + length scheme

-- the first byte that may not stand among the letters stands at this place
pub record HasOther (m : List ℕ) (place at : ℕ) : Type 0 where
  pub good : List ℕ
  pub other : ℕ
  pub rest : List ℕ
  pub whole : m ≡ good ++ other ∷ rest
  pub allowed : AllPass is_allowed good
  pub unallowed : is_allowed other ≡ false
  pub is : at ≡ place + length good

-- the letters from this place on have this first fault
abbrev pub HasLetterFault : List ℕ → ℕ → TextFault → Type 0
HasLetterFault m place faults.Scheme = ⊥
HasLetterFault m place (faults.Letter at) = HasOther m place at
HasLetterFault m place faults.Bits = AllPass is_allowed m × ((bytes : List ℕ) → AreLetters m bytes → ⊥)
HasLetterFault m place (faults.Iscc fault) = AllPass is_allowed m × ((bytes : List ℕ) × AreLetters m bytes × HasFault bytes fault)

-- the text stands for no ISCC, and this is its first fault
abbrev pub HasTextFault : List ℕ → TextFault → Type 0
HasTextFault text faults.Scheme = LacksScheme text
HasTextFault text fault = (m : List ℕ) × (place : ℕ) × IsBehindScheme text m place × HasLetterFault m place fault
