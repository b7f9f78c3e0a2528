-- The units of an ISCC-CODE: their kinds, and that they have values of the program's types.
use Rattle.std.proofs.Common.{◌≡◌, ℕ, ◌+◌, ◌<◌, Bool, true, false, List, [], ◌∷◌, ◌++◌, Option, Some, None, refl, sym, ◌∙◌, ap₂, subst, inl, inr, arith, lit<}
use Rattle.std.specs.Prelude.{All, Contains, IfSome, is_some, slice_get, ◌==◌, ◌⊎◌, if◌then◌else◌}
use Rattle.std.proofs.lemmas.List.Elements.{All-nil, All-cons, All-append}
use Rattle.std.proofs.lemmas.Bool.{eqb-true, ltb-true}
use Rattle.iscc_header.specs.declared.unit.Unit64.{Unit64}
use Rattle.iscc_header.specs.Kinds.{kinds, main_of, sub_of}
use Rattle.iscc_header.specs.Unit64s.{IsUnit64}
use Rattle.iscc_header.proofs.EachBelow.{each_below}
use Rattle.iscc_header.proofs.KindFacts.{contains_kind}
use Rattle.iscc_code.specs.Composites.{CodeParts, IsCode, IsBody, code_units, code_len, is_code_sub, unit_if}
use Rattle.iscc_code.specs.inner.KindNumbers.{kind_from}
use Rattle.iscc_code.proofs.CodeFaults.{kind_found}

-- an ISCC-CODE with SEMANTIC or CONTENT units has their SubType
small_sub : (content semantic meta : Bool) (sub : ℕ) → is_code_sub ((if content then 1 else 0) + (if semantic then 2 else 0) + (if meta then 4 else 0)) sub ≡ true
    → (content ≡ true) ⊎ (semantic ≡ true) → sub < 5
unfolding is_code_sub
small_sub true true true sub h there = ltb-true sub 5 h
small_sub true true false sub h there = ltb-true sub 5 h
small_sub true false true sub h there = ltb-true sub 5 h
small_sub true false false sub h there = ltb-true sub 5 h
small_sub false true true sub h there = ltb-true sub 5 h
small_sub false true false sub h there = ltb-true sub 5 h
small_sub false false meta sub h (inl there) = absurd (cc)
small_sub false false meta sub h (inr there) = absurd (cc)

-- the SubType of an ISCC-CODE with SEMANTIC or CONTENT units
pub sub_small : (code : CodeParts) → IsCode code → (is_some code.content_body ≡ true) ⊎ (is_some code.semantic_body ≡ true) → code.sub < 5
unfolding code_len
sub_small code h there = small_sub (is_some code.content_body) (is_some code.semantic_body) (is_some code.meta_body) code.sub h.sub there

-- the kinds of SEMANTIC and CONTENT units
pub semantic_main : (sub : ℕ) → sub < 5 → main_of (1 + sub) ≡ 1
semantic_main sub h = eqb-true _ _ (each_below 5 (λ s. main_of (1 + s) == 1) refl sub h)

pub content_main : (sub : ℕ) → sub < 5 → main_of (6 + sub) ≡ 2
content_main sub h = eqb-true _ _ (each_below 5 (λ s. main_of (6 + s) == 2) refl sub h)

contains_pair : (kind main sub : ℕ) → kind < 13 → main_of kind ≡ main → sub_of kind ≡ sub → Contains kinds (main, sub)
contains_pair kind main sub h m s =
    let P : ℕ × ℕ → Type 0 = λ pair. Contains kinds pair in
    subst P (ap₂ (λ m s. (m, s)) m s) (contains_kind kind h)

if_there : (body : Option ℕ) (P : Type 0) → (is_some body ≡ true → P) → IfSome body (λ b. P)
if_there None P h = tt
if_there (Some b) P h = h refl

-- the pairs of an ISCC-CODE's SEMANTIC and CONTENT units stand in the table of kinds
pub semantic_kind : (code : CodeParts) → IsCode code → IfSome code.semantic_body (λ b. Contains kinds (1, code.sub))
semantic_kind code h =
    if_there code.semantic_body (Contains kinds (1, code.sub)) (λ there.
    let low = sub_small code h (inr there) in
    contains_pair (1 + code.sub) 1 code.sub (omega arith) (semantic_main code.sub low)
    (eqb-true _ _ (each_below 5 (λ s. sub_of (1 + s) == s) refl code.sub low)))

pub content_kind : (code : CodeParts) → IsCode code → IfSome code.content_body (λ b. Contains kinds (2, code.sub))
content_kind code h =
    if_there code.content_body (Contains kinds (2, code.sub)) (λ there.
    let low = sub_small code h (inl there) in
    contains_pair (6 + code.sub) 2 code.sub (omega arith) (content_main code.sub low)
    (eqb-true _ _ (each_below 5 (λ s. sub_of (6 + s) == s) refl code.sub low)))

-- the number of a kind that stands in the table with a pair
pub kind_from-pair : (kind : ℕ) → kind < 13 → kind_from (main_of kind) (sub_of kind) ≡ kind
kind_from-pair kind h = eqb-true _ _ (each_below 13 (λ k. kind_from (main_of k) (sub_of k) == k) refl kind h)

pub kind_from-found : (kind main sub : ℕ) → slice_get kinds kind ≡ Some (main, sub) → kind ≡ kind_from main sub
kind_from-found kind main sub found =
    let is = kind_found kind main sub found in
    sym (kind_from-pair kind is.0) ∙ ap₂ kind_from is.1 is.2

unit_if-valid : (kind : ℕ) (body : Option ℕ) → (is_some body ≡ true → kind < 13) → IfSome body IsBody → All IsUnit64 (unit_if kind body)
unit_if-valid kind None k h = All-nil IsUnit64
unit_if-valid kind (Some body) k h = All-cons IsUnit64 (record { kind = kind; body = body }) [] (record { kind = k refl; body = h }) (All-nil IsUnit64)

pub code_units-valid : (code : CodeParts) → IsCode code → All IsUnit64 (code_units code)
unfolding code_units
code_units-valid code h =
    let sub = sub_small code h in
    let last : List Unit64 = record { kind = 11; body = code.data_body } ∷ record { kind = 12; body = code.instance_body } ∷ [] in
    All-append IsUnit64 (unit_if 0 code.meta_body) (unit_if (1 + code.sub) code.semantic_body ++ (unit_if (6 + code.sub) code.content_body ++ last))
    (unit_if-valid 0 code.meta_body (λ there. lit< tt) h.meta_body)
    (All-append IsUnit64 (unit_if (1 + code.sub) code.semantic_body) (unit_if (6 + code.sub) code.content_body ++ last)
    (unit_if-valid (1 + code.sub) code.semantic_body (λ there. let small = sub (inr there) in omega arith) h.semantic_body)
    (All-append IsUnit64 (unit_if (6 + code.sub) code.content_body) last
    (unit_if-valid (6 + code.sub) code.content_body (λ there. let small = sub (inl there) in omega arith) h.content_body)
    (All-cons IsUnit64 (record { kind = 11; body = code.data_body }) (record { kind = 12; body = code.instance_body } ∷ []) (record { kind = lit< tt; body = h.data_body })
    (All-cons IsUnit64 (record { kind = 12; body = code.instance_body }) [] (record { kind = lit< tt; body = h.instance_body }) (All-nil IsUnit64)))))
