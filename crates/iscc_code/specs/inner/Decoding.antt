-- What the steps of decoding tell each other.
use Rattle.std.specs.Prelude.{◌≡◌, ℕ, List, Some, None, Result, Ok, Err}
use Rattle.iscc_header.specs.Headers.{Numbers}
use Rattle.iscc_code.specs.Codes.{IsIscc, header_of, body_of, EncodesIscc, fault_of, HasFault}
use Rattle.iscc_code.specs.declared.iscc.Iscc.{Iscc}
use Rattle.iscc_code.specs.declared.iscc.IsccFault.{IsccFault}
use Rattle.iscc_code.specs.declared.iscc.IsccFault.TheVariants as faults

-- a fault of what stands behind the header, or of its numbers
abbrev pub IsBehindHeader : IsccFault → Type 0
IsBehindHeader (faults.Header fault) = ⊥
IsBehindHeader fault = Unit {0}

-- the ISCC that the bytes encode, or their fault
abbrev pub DecodesTo : List ℕ → Result Iscc IsccFault → Type 0
DecodesTo bytes (Ok iscc) = EncodesIscc iscc bytes
DecodesTo bytes (Err fault) = HasFault bytes fault

-- the ISCC has this header and this body
pub record HasParts (header : Numbers) (body : List ℕ) (iscc : Iscc) : Type 0 where
  pub valid : IsIscc iscc
  pub its_header : header_of iscc ≡ header
  pub its_body : body_of iscc ≡ body
  pub faultless : fault_of header body ≡ None

-- the first fault of this header and this body
pub record IsFirstFault (header : Numbers) (body : List ℕ) (fault : IsccFault) : Type 0 where
  pub behind : IsBehindHeader fault
  pub first : fault_of header body ≡ Some fault
