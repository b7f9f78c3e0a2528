-- How a unit lies in its fields.
use Rattle.std.specs.Prelude.{◌≡◌, ◌≤◌, ◌-◌, ◌++◌, ℕ, List, length, take, drop, replicate}
use Rattle.std.proofs.Common.{sym, ◌∙◌, ap, arith}
use Rattle.std.proofs.lemmas.List.{length-take-le, take-append-drop}
use Rattle.iscc_code.specs.Units.{IsUnit}

-- the body stands at the front, and behind it only zeros
pub record IsStored (kind len : ℕ) (bytes : List ℕ) : Type 0 where
  pub unit : IsUnit (record { kind = kind; body = take len bytes })
  pub array : length bytes ≡ 32
  pub fits : len ≤ 32
  pub zeros : drop len bytes ≡ replicate (32 - len) 0

-- the fields can be told from what contracts see
pub stored_len : (kind len : ℕ) (bytes : List ℕ) → IsStored kind len bytes → length (take len bytes) ≡ len
stored_len kind len bytes h = length-take-le len bytes (omega (arith, h.array, h.fits))

pub stored_bytes : (kind len : ℕ) (bytes : List ℕ) → IsStored kind len bytes → take len bytes ++ replicate (32 - length (take len bytes)) 0 ≡ bytes
stored_bytes kind len bytes h =
    ap (λ n. take len bytes ++ replicate (32 - n) 0) (stored_len kind len bytes h)
    ∙ ap (λ rest. take len bytes ++ rest) (sym h.zeros)
    ∙ take-append-drop len bytes
