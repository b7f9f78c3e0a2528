-- The first fault of a header and its body, cause by cause.
use Rattle.std.proofs.Common.{◌≡◌, ◌≢◌, ℕ, ◌+◌, ◌-◌, ◌*◌, ◌/◌, ◌<◌, ◌≤◌, List, length, get_or, true, false, Some, None, refl, sym, ◌∙◌, ap, ap₂, arith, inl, inr, subst, lit≤}
use Rattle.std.specs.Prelude.{Contains, ◌==◌, ◌&&◌, slice_get}
use Rattle.std.proofs.lemmas.Bool.{lt-ltb, le-ltb, eq-eqb, ne_eqb, eqb-true, cases_Bool, and_parts}
use Rattle.std.proofs.lemmas.Option.{get_or_from_slice_get, slice_get_within}
use Rattle.std.proofs.lemmas.List.Folds.{Any-from_list_any}
use Rattle.std.proofs.lemmas.List.{get_or_default}
use Rattle.iscc_header.specs.Headers.{Numbers}
use Rattle.iscc_header.specs.Kinds.{kinds, main_of, sub_of}
use Rattle.iscc_header.proofs.EachBelow.{each_below}
use Rattle.iscc_header.proofs.KindFacts.{small_pair}
use Rattle.iscc_code.specs.Units.{UnitParts, IsBodyLength, IsUnit, unit_header, is_kind}
use Rattle.iscc_code.specs.Composites.{CodeParts, IsCode, code_header, code_len, code_body, unit_count, is_code_sub}
use Rattle.iscc_code.specs.Codes.{IsIscc, header_of, body_of, is_sub, body_len, fault_of}
use Rattle.iscc_code.specs.declared.iscc.Iscc.{Iscc}
use Rattle.iscc_code.specs.declared.iscc.Iscc.TheVariants as codes
use Rattle.iscc_code.specs.declared.iscc.IsccFault.TheVariants as faults
use Rattle.iscc_code.proofs.CodeBodies.{code_len-small, length-code_body}

-- a header that some ISCC has
pub record IsIsccHeader (header : Numbers) : Type 0 where
  pub main : header.main ≤ 5
  pub version : header.version ≡ 0
  pub len : header.len ≤ 7
  pub sub : is_sub header.main header.sub header.len ≡ true

pub main_fault : (h : Numbers) (body : List ℕ) → 5 < h.main → fault_of h body ≡ Some faults.MainType
unfolding fault_of
main_fault h body l = rw (lt-ltb 5 h.main l) refl

pub version_fault : (h : Numbers) (body : List ℕ) → h.main ≤ 5 → h.version ≢ 0 → fault_of h body ≡ Some faults.Version
unfolding fault_of
version_fault h body m v = rw (le-ltb 5 h.main m, ne_eqb h.version 0 v) refl

pub length_fault : (h : Numbers) (body : List ℕ) → h.main ≤ 5 → h.version ≡ 0 → 7 < h.len → fault_of h body ≡ Some faults.Length
unfolding fault_of
length_fault h body m v l = rw (le-ltb 5 h.main m, eq-eqb h.version 0 v, lt-ltb 7 h.len l) refl

pub sub_fault : (h : Numbers) (body : List ℕ) → h.main ≤ 5 → h.version ≡ 0 → h.len ≤ 7 → is_sub h.main h.sub h.len ≡ false → fault_of h body ≡ Some faults.SubType
unfolding fault_of
sub_fault h body m v l k = rw (le-ltb 5 h.main m, eq-eqb h.version 0 v, le-ltb 7 h.len l, k) refl

pub short_fault : (h : Numbers) (body : List ℕ) → IsIsccHeader h → length body < body_len h.main h.len → fault_of h body ≡ Some faults.Short
unfolding fault_of
short_fault h body u s = rw (le-ltb 5 h.main u.main, eq-eqb h.version 0 u.version, le-ltb 7 h.len u.len, u.sub, lt-ltb (length body) (body_len h.main h.len) s) refl

pub long_fault : (h : Numbers) (body : List ℕ) → IsIsccHeader h → body_len h.main h.len < length body → fault_of h body ≡ Some faults.Long
unfolding fault_of
long_fault h body u s =
    rw (le-ltb 5 h.main u.main, eq-eqb h.version 0 u.version, le-ltb 7 h.len u.len, u.sub, le-ltb (length body) (body_len h.main h.len) (omega arith), lt-ltb (body_len h.main h.len) (length body) s) refl

pub no_fault : (h : Numbers) (body : List ℕ) → IsIsccHeader h → length body ≡ body_len h.main h.len → fault_of h body ≡ None
unfolding fault_of
no_fault h body u s =
    rw (le-ltb 5 h.main u.main, eq-eqb h.version 0 u.version, le-ltb 7 h.len u.len, u.sub, le-ltb (length body) (body_len h.main h.len) (omega arith), le-ltb (body_len h.main h.len) (length body) (omega arith)) refl

-- the headers of units
pub unit_sub : (main sub len : ℕ) → main ≤ 4 → is_sub main sub len ≡ is_kind main sub
unfolding is_sub
unit_sub main sub len m = rw (ne_eqb main 5 (λ e. omega arith)) refl

pub unit_body_len : (main len : ℕ) → main ≤ 4 → body_len main len ≡ 4 * (len + 1)
unfolding body_len
unit_body_len main len m = rw (ne_eqb main 5 (λ e. omega arith)) refl

-- the headers of ISCC-CODEs
pub composite_sub : (main sub len : ℕ) → main ≡ 5 → is_sub main sub len ≡ is_code_sub len sub
unfolding is_sub
composite_sub main sub len m = rw (eq-eqb main 5 m) refl

pub composite_body_len : (main len : ℕ) → main ≡ 5 → body_len main len ≡ 8 * unit_count len
unfolding body_len
composite_body_len main len m = rw (eq-eqb main 5 m) refl

pub unit_header_from : (h : Numbers) → h.main ≤ 4 → h.version ≡ 0 → h.len ≤ 7 → is_kind h.main h.sub ≡ true → IsIsccHeader h
unit_header_from h m v l k = record { main = omega arith; version = v; len = l; sub = unit_sub h.main h.sub h.len m ∙ k }

pub composite_header_from : (h : Numbers) → h.main ≡ 5 → h.version ≡ 0 → h.len ≤ 7 → is_code_sub h.len h.sub ≡ true → IsIsccHeader h
composite_header_from h m v l k = record { main = omega arith; version = v; len = l; sub = composite_sub h.main h.sub h.len m ∙ k }

-- each kind's pair is one of the table
pub is_kind-pair : (k : ℕ) → k < 13 → is_kind (main_of k) (sub_of k) ≡ true
unfolding is_kind
is_kind-pair k h = each_below 13 (λ k. is_kind (main_of k) (sub_of k)) refl k h

-- a pair that the test finds stands in the table
is_kind-contains : (main sub : ℕ) → is_kind main sub ≡ true → Contains kinds (main, sub)
unfolding is_kind
is_kind-contains main sub h =
    let found = Any-from_list_any (λ pair. (pair.0 == main) && (pair.1 == sub)) kinds h in
    let tests = and_parts (found.1.0 == main) (found.1.1 == sub) found.4 in
    let same : found.1 ≡ (main, sub) = ap₂ (λ m s. (m, s)) (eqb-true found.1.0 main tests.0) (eqb-true found.1.1 sub tests.1) in
    let P : ℕ × ℕ → Type 0 = λ p. get_or kinds found.0 p ≡ p in
    (found.0, found.2, subst P same found.3)

-- what the table says of a kind that stands there with a pair
pub kind_found : (kind main sub : ℕ) → slice_get kinds kind ≡ Some (main, sub) → (kind < 13) × (main_of kind ≡ main) × (sub_of kind ≡ sub) × (is_kind main sub ≡ true)
kind_found kind main sub e =
    let low : kind < 13 = slice_get_within kinds kind (main, sub) e in
    let pair : (main_of kind, sub_of kind) ≡ (main, sub) = get_or_from_slice_get kinds kind (main, sub) (0, 0) e in
    let m : main_of kind ≡ main = ap (λ (p : ℕ × ℕ). p.0) pair in
    let s : sub_of kind ≡ sub = ap (λ (p : ℕ × ℕ). p.1) pair in
    (low, m, s, ap₂ is_kind (sym m) (sym s) ∙ is_kind-pair kind low)

-- a pair that isn't in the table
pub kind_missing : (main sub : ℕ) → (Contains kinds (main, sub) → ⊥) → is_kind main sub ≡ false
kind_missing main sub none =
    elim (cases_Bool (is_kind main sub)) [
      | inl found ↦ absurd (none (is_kind-contains main sub found))
      | inr missing ↦ missing
    ]

-- no kind has a MainType above that of the table
pub kind_above : (main sub : ℕ) → 5 < main → is_kind main sub ≡ false
kind_above main sub h =
    kind_missing main sub (λ found.
    let main_is : main_of found.0 ≡ main = ap (λ (p : ℕ × ℕ). p.0) (get_or_default kinds found.0 (0, 0) (main, sub) found.1 ∙ found.2) in
    omega (arith, main_is, (small_pair found.0 found.1).0))

-- the length of a header, from that of the body
pub length_of_body : (n : ℕ) → IsBodyLength n → (n ≡ 4 * (n / 4 - 1 + 1)) × (n / 4 - 1 ≤ 7)
length_of_body n h = (omega (arith, h.least, h.most, h.fours), omega (arith, h.least, h.most, h.fours))

unit_header_is : (unit : UnitParts) → IsUnit unit → IsIsccHeader (unit_header unit)
unit_header_is unit h =
    let small = small_pair unit.kind h.kind in
    record {
      main = omega (arith, small.0);
      version = refl;
      len = (length_of_body (length unit.body) h.len).1;
      sub = unit_sub (main_of unit.kind) (sub_of unit.kind) (length unit.body / 4 - 1) (omega (arith, small.0)) ∙ is_kind-pair unit.kind h.kind;
    }

composite_header_is : (code : CodeParts) → IsCode code → IsIsccHeader (code_header code)
composite_header_is code h = record {
  main = lit≤ tt;
  version = refl;
  len = code_len-small code;
  sub = composite_sub 5 code.sub (code_len code) refl ∙ h.sub;
}

pub no_fault_in : (iscc : Iscc) → IsIscc iscc → fault_of (header_of iscc) (body_of iscc) ≡ None
no_fault_in (codes.Unit unit) h =
    no_fault (unit_header unit) unit.body (unit_header_is unit h)
    ((length_of_body (length unit.body) h.len).0 ∙ sym (unit_body_len (main_of unit.kind) (length unit.body / 4 - 1) (omega (arith, (small_pair unit.kind h.kind).0))))
no_fault_in (codes.Code code) h =
    no_fault (code_header code) (code_body code) (composite_header_is code h) (length-code_body code ∙ sym (composite_body_len 5 (code_len code) refl))

-- headers with the same four numbers
pub same_numbers_of : (g h : Numbers) → g.main ≡ h.main → g.sub ≡ h.sub → g.version ≡ h.version → g.len ≡ h.len → g ≡ h
same_numbers_of g h m s v l =
    let makes : ℕ → ℕ → ℕ → ℕ → Numbers = λ m s v l. record { main = m; sub = s; version = v; len = l } in
    ap₂ (λ a b. makes a b g.version g.len) m s ∙ ap₂ (λ a b. makes h.main h.sub a b) v l
