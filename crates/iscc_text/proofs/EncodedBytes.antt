-- An encoding is bytes.
use Rattle.std.proofs.Common.{ℕ, ◌≤◌, List, [], ◌∷◌, length, length-append, sym, ap, arith, subst}
use Rattle.std.specs.Prelude.{All}
use Rattle.std.specs.List.{flat_map}
use Rattle.std.proofs.lemmas.List.Elements.{All-append, All-nil}
use Rattle.iscc_header.specs.Bits.{IsByte}
use Rattle.iscc_header.specs.declared.unit.Unit64.{Unit64}
use Rattle.iscc_code.specs.Composites.{body_bytes, code_units, code_body}
use Rattle.iscc_code.specs.Codes.{IsIscc, EncodesIscc, body_of}
use Rattle.iscc_code.specs.declared.iscc.Iscc.{Iscc}
use Rattle.iscc_code.specs.declared.iscc.Iscc.TheVariants as codes
use Rattle.iscc_code.proofs.BodyBytes.{high_first-bytes}
use Rattle.iscc_code.proofs.CodeBodies.{length-code_body}

bodies_bytes : (units : List Unit64) → All IsByte (flat_map body_bytes units)
bodies_bytes [] = All-nil IsByte
bodies_bytes (u ∷ us) = All-append IsByte (body_bytes u) (flat_map body_bytes us) (high_first-bytes 8 u.body) (bodies_bytes us)

-- a body is bytes, and not few
body_bytes_of : (iscc : Iscc) → IsIscc iscc → All IsByte (body_of iscc) × (4 ≤ length (body_of iscc))
unfolding code_body
body_bytes_of (codes.Unit u) h = (h.bytes, h.len.least)
body_bytes_of (codes.Code c) h = (bodies_bytes (code_units c), omega (arith, length-code_body c))

-- an encoding is bytes, and not few
pub encoded_bytes : (iscc : Iscc) (s : List ℕ) → EncodesIscc iscc s → All IsByte s × (4 ≤ length s)
encoded_bytes iscc s h =
    let front = h.parts.front in
    let body = body_bytes_of iscc h.valid in
    let P : List ℕ → Type 0 = λ t. All IsByte t in (
      subst P (sym h.parts.whole) (All-append IsByte front (body_of iscc) h.parts.encoded.range body.0),
      omega (arith, ap length h.parts.whole, length-append front (body_of iscc), body.1),
    )
