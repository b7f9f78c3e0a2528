-- From the text of a call back to the call.
use Rattle.std.proofs.Common.{◌≡◌, ℕ, ◌^◌, ◌<◌, List, [], ◌∷◌, ◌++◌, drop, refl, sym, ◌∙◌, ap, ap₂, lit<, arith, append_assoc}
use Rattle.std.specs.Fmt.{decimal}
use Rattle.std.proofs.lemmas.Fmt.{decimal_injective}
use Rattle.iscc_header.specs.declared.unit.Unit64.{Unit64}
use Rattle.iscc_header.specs.Unit64s.{IsUnit64}
use Rattle.iscc_text.specs.UnitText.{unit_text}
use Rattle.iscc_text.proofs.OneUnit.{same_unit}
use Rattle.reg_model.specs.declared.call.Call.{Call}
use Rattle.reg_model.specs.declared.call.Call.TheVariants as calls
use Rattle.reg_requests.specs.Lines.{call_text}
use Rattle.reg_model.specs.Calls.{IsRequest}
use Rattle.reg_history.proofs.lines.WordsBack.{first, cut, decimal_free, unit_free}

-- ---- a word and a space

-- a number before a space
pub number_then : (m n : ℕ) (r s : List ℕ) → m < 2 ^ 64 → n < 2 ^ 64 → decimal m ++ 32 ∷ r ≡ decimal n ++ 32 ∷ s → (m ≡ n) × (r ≡ s)
number_then m n r s h k e =
    let parts = cut 32 (decimal m) (decimal n) r s (decimal_free 32 m (lit< tt)) (decimal_free 32 n (lit< tt)) e in
    (decimal_injective m n h k parts.0, parts.1)

-- a unit before a space
pub unit_then : (u v : Unit64) (r s : List ℕ) → IsUnit64 u → IsUnit64 v → unit_text u ++ 32 ∷ r ≡ unit_text v ++ 32 ∷ s → (u ≡ v) × (r ≡ s)
unit_then u v r s h k e =
    let parts = cut 32 (unit_text u) (unit_text v) r s (unit_free 32 u (lit< tt)) (unit_free 32 v (lit< tt)) e in
    (same_unit u v h k parts.0, parts.1)

-- ---- calls

-- two queries before a space
near_then : (u v : Unit64) (m n : ℕ) (r s : List ℕ) → IsUnit64 u → IsUnit64 v → m < 2 ^ 64 → n < 2 ^ 64
    → (unit_text u ++ 32 ∷ decimal m) ++ 32 ∷ r ≡ (unit_text v ++ 32 ∷ decimal n) ++ 32 ∷ s → (calls.Near u m ≡ calls.Near v n) × (r ≡ s)
near_then u v m n r s h k i j e =
    let unit = unit_then u v (decimal m ++ 32 ∷ r) (decimal n ++ 32 ∷ s) h k
    (sym (append_assoc (unit_text u) (32 ∷ decimal m) (32 ∷ r)) ∙ e ∙ append_assoc (unit_text v) (32 ∷ decimal n) (32 ∷ s)) in
    let radius = number_then m n r s i j unit.1 in
    (ap₂ (λ w k. calls.Near w k) unit.0 radius.0, radius.1)

-- a call before a space
pub call_then : (a b : Call) (r s : List ℕ) → IsRequest a → IsRequest b → call_text a ++ 32 ∷ r ≡ call_text b ++ 32 ∷ s → (a ≡ b) × (r ≡ s)
call_then (calls.Declare u) (calls.Declare v) r s h k e = let is = unit_then u v r s h k (ap (drop 8) e) in (ap (λ w. calls.Declare w) is.0, is.1)
call_then (calls.Withdraw m) (calls.Withdraw n) r s h k e = let is = number_then m n r s h k (ap (drop 9) e) in (ap (λ w. calls.Withdraw w) is.0, is.1)
call_then (calls.Near u m) (calls.Near v n) r s h k e = near_then u v m n r s h.0 k.0 (omega (arith, h.1)) (omega (arith, k.1)) (ap (drop 5) e)
call_then (calls.Show m) (calls.Show n) r s h k e = let is = number_then m n r s h k (ap (drop 5) e) in (ap (λ w. calls.Show w) is.0, is.1)
call_then calls.Count calls.Count r s h k e = (refl, ap (drop 6) e)
call_then (calls.After m) (calls.After n) r s h k e = let is = number_then m n r s h k (ap (drop 6) e) in (ap (λ w. calls.After w) is.0, is.1)
call_then a b r s h k e = absurd (omega (arith, ap first e))

pub same_call : (a b : Call) → IsRequest a → IsRequest b → call_text a ≡ call_text b → a ≡ b
same_call a b h k e = let is = call_then a b [] [] h k (ap (λ t. t ++ 32 ∷ []) e) in is.0
