-- The encoding of an ISCC as bytes, and the fault of bytes that encode none (ISO 24138:2024).
use Rattle.std.specs.Prelude.{◌≡◌, ◌+◌, ◌*◌, ℕ, List, [], ◌∷◌, ◌++◌, length, nat_lt, ◌==◌, not, if◌then◌else◌, Bool, Option, Some, None}
use Rattle.iscc_header.specs.Bits.{byte_bits}
use Rattle.iscc_header.specs.Headers.{Numbers, EncodesHeader, EndsWithinHeader, LacksNumber, IsPaddedWrongly}
use Rattle.iscc_header.specs.declared.header.HeaderFault.{HeaderFault}
use Rattle.iscc_header.specs.declared.header.HeaderFault.TheVariants as header_faults
use Rattle.iscc_header.specs.declared.unit.Unit64.{Unit64}
use Rattle.iscc_code.specs.Units.{IsUnit, unit_header, is_kind, first64_of}
use Rattle.iscc_code.specs.Composites.{IsCode, code_header, code_body, code_units, unit_count, is_code_sub}
use Rattle.iscc_code.specs.declared.iscc.Iscc.{Iscc}
use Rattle.iscc_code.specs.declared.iscc.Iscc.TheVariants as codes
use Rattle.iscc_code.specs.declared.iscc.IsccFault.{IsccFault}
use Rattle.iscc_code.specs.declared.iscc.IsccFault.TheVariants as faults

-- the bytes are this header and this body
pub record IsHeaderAndBody (bytes : List ℕ) (header : Numbers) (body : List ℕ) : Type 0 where
  pub front : List ℕ
  pub encoded : EncodesHeader header front
  pub whole : bytes ≡ front ++ body

-- the values that an ISCC has: here its numbers have no range of their own
abbrev pub IsIscc : Iscc → Type 0
IsIscc (codes.Unit unit) = IsUnit unit
IsIscc (codes.Code code) = IsCode code

-- the numbers of its header
abbrev pub header_of : Iscc → Numbers
header_of (codes.Unit unit) = unit_header unit
header_of (codes.Code code) = code_header code

-- what stands behind its header
abbrev pub body_of : Iscc → List ℕ
body_of (codes.Unit unit) = unit.body
body_of (codes.Code code) = code_body code

-- these bytes are the encoding of the ISCC: its header, and its body
pub record EncodesIscc (iscc : Iscc) (bytes : List ℕ) : Type 0 where
  pub valid : IsIscc iscc
  pub parts : IsHeaderAndBody bytes (header_of iscc) (body_of iscc)

-- the units of an ISCC as units of 64 bits, each by its first bits; a unit of 32 bits has none
abbrev pub units_of : Iscc → Option (List Unit64)
units_of (codes.Unit unit) = if nat_lt (length unit.body) 8 then None else Some (first64_of unit ∷ [])
units_of (codes.Code code) = Some (code_units code)

-- a unit's or an ISCC-CODE's header may have this SubType
unfoldable pub is_sub : ℕ → ℕ → ℕ → Bool
is_sub main sub len = if main == 5 then is_code_sub len sub else is_kind main sub

-- how many bytes a body has, by the MainType and the Length of its header
unfoldable pub body_len : ℕ → ℕ → ℕ
body_len main len = if main == 5 then 8 * unit_count len else 4 * (len + 1)

-- the first fault of a header and its body, in the order of the causes
unfoldable pub fault_of : Numbers → List ℕ → Option IsccFault
fault_of header body =
    if nat_lt 5 header.main then Some faults.MainType
    else if not (header.version == 0) then Some faults.Version
    else if nat_lt 7 header.len then Some faults.Length
    else if not (is_sub header.main header.sub header.len) then Some faults.SubType
    else if nat_lt (length body) (body_len header.main header.len) then Some faults.Short
    else if nat_lt (body_len header.main header.len) (length body) then Some faults.Long
    else None

-- the bytes begin with no header, and this is why
abbrev pub HasHeaderFault : List ℕ → HeaderFault → Type 0
HasHeaderFault bytes header_faults.Short = EndsWithinHeader (byte_bits bytes)
HasHeaderFault bytes header_faults.NoCode = LacksNumber (byte_bits bytes)
HasHeaderFault bytes header_faults.Padding = IsPaddedWrongly (byte_bits bytes)

-- the bytes are a header and a body with this first fault
pub record HasBodyFault (bytes : List ℕ) (fault : IsccFault) : Type 0 where
  pub header : Numbers
  pub body : List ℕ
  pub parts : IsHeaderAndBody bytes header body
  pub first : fault_of header body ≡ Some fault

-- the bytes encode no ISCC, and this is the first fault
abbrev pub HasFault : List ℕ → IsccFault → Type 0
HasFault bytes (faults.Header fault) = HasHeaderFault bytes fault
HasFault bytes fault = HasBodyFault bytes fault
