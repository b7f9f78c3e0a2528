-- The composite of units that were found by their MainTypes.
use Rattle.std.proofs.Common.{◌≡◌, ℕ, ◌+◌, List, [], ◌∷◌, ◌++◌, map, Bool, true, false, Option, Some, None, Result, Ok, Err, refl, sym, ◌∙◌, ap, ap₂, subst}
use Rattle.std.specs.Prelude.{◌==◌, ◌||◌, not, nat_lt, IfSome, IfOk, ◌↔◌, IsPermutation, is_some}
use Rattle.std.specs.Option.{option_map, option_to_list}
use Rattle.std.proofs.lemmas.Bool.{eqb-true, lt-ltb, false≢true}
use Rattle.std.proofs.lemmas.List.{map-append}
use Rattle.std.proofs.lemmas.List.Sorted.{IsPermutation-map}
use Rattle.iscc_header.specs.Kinds.{sub_of}
use Rattle.iscc_header.specs.declared.unit.Unit64.{Unit64}
use Rattle.iscc_header.proofs.KindFacts.{small_pair}
use Rattle.iscc_code.specs.Units.{UnitParts, IsUnit, first_bits, first64_of}
use Rattle.iscc_code.specs.Composites.{CodeParts, IsCode, unit_if, code_units, code_len, is_code_sub, of_main, subs_differ, has_narrow, compose_fault, has_twice, IsComposite}
use Rattle.iscc_code.specs.inner.Joined.{ComposesTo, FitsMain, in_order, sub_from}
use Rattle.iscc_code.specs.declared.composing.ComposeFault.{ComposeFault}
use Rattle.iscc_code.specs.declared.composing.ComposeFault.TheVariants as faults
use Rattle.iscc_code.specs.inner.KindNumbers.{kind_from}
use Rattle.iscc_code.proofs.CodeUnits.{kind_from-pair}
use Rattle.iscc_code.proofs.GivenUnits.{by_main, by_main-permutation, main_found, wide_found}
use Rattle.std.proofs.lemmas.Option.{none-some, same_Some}

kind_is : (main : ℕ) (u : UnitParts) → FitsMain main u → kind_from main (sub_of u.kind) ≡ u.kind
kind_is main u f = ap (λ m. kind_from m (sub_of u.kind)) (sym f.its_main) ∙ kind_from-pair u.kind f.valid.kind

-- a unit of an ISCC-CODE, and the unit that it came from
unit_if-first64 : (kind : ℕ) (o : Option UnitParts) → IfSome o (λ u. kind ≡ u.kind) → unit_if kind (option_map (λ (u : UnitParts). first_bits u.body) o) ≡ map first64_of (option_to_list o)
unit_if-first64 kind None h = refl
unit_if-first64 kind (Some u) h = ap (λ k. record { kind = k; body = first_bits u.body } ∷ []) h

-- the ISCC-CODE of these units
unfoldable pub code_of_units : Option UnitParts → Option UnitParts → Option UnitParts → UnitParts → UnitParts → CodeParts
code_of_units meta semantic content d i = record {
  meta_body = option_map (λ (u : UnitParts). first_bits u.body) meta;
  semantic_body = option_map (λ (u : UnitParts). first_bits u.body) semantic;
  content_body = option_map (λ (u : UnitParts). first_bits u.body) content;
  data_body = first_bits d.body;
  instance_body = first_bits i.body;
  sub = sub_from (is_some meta) semantic content;
}

-- units that found their MainTypes, with one SubType
pub record AreFound (meta semantic content : Option UnitParts) (d i : UnitParts) : Type 0 where
  pub meta_fits : IfSome meta (FitsMain 0)
  pub semantic_fits : IfSome semantic (FitsMain 1)
  pub content_fits : IfSome content (FitsMain 2)
  pub data_fits : FitsMain 3 d
  pub instance_fits : FitsMain 4 i
  pub same : subs_differ (option_to_list semantic) (option_to_list content) ≡ false

same_sub : (b : Bool) → ((not b || false) || false) ≡ false → b ≡ true
same_sub true e = refl
same_sub false e = absurd (false≢true (sym e))

meta_kind : (o : Option UnitParts) → IfSome o (FitsMain 0) → IfSome o (λ u. 0 ≡ u.kind)
meta_kind None h = h
meta_kind (Some u) h = kind_is 0 u h

semantic_kind : (has_meta : Bool) (semantic content : Option UnitParts) → IfSome semantic (FitsMain 1) → IfSome semantic (λ u. 1 + sub_from has_meta semantic content ≡ u.kind)
semantic_kind has_meta None content h = h
semantic_kind has_meta (Some u) content h = kind_is 1 u h

content_kind : (has_meta : Bool) (semantic content : Option UnitParts) → IfSome content (FitsMain 2) → subs_differ (option_to_list semantic) (option_to_list content) ≡ false
    → IfSome content (λ u. 6 + sub_from has_meta semantic content ≡ u.kind)
content_kind has_meta semantic None h e = h
content_kind has_meta None (Some v) h e = kind_is 2 v h
content_kind has_meta (Some u) (Some v) h e = ap (λ s. 6 + s) (eqb-true (sub_of u.kind) (sub_of v.kind) (same_sub (sub_of u.kind == sub_of v.kind) e)) ∙ kind_is 2 v h

pub found_units : (meta semantic content : Option UnitParts) (d i : UnitParts) → AreFound meta semantic content d i
    → code_units (code_of_units meta semantic content d i) ≡ map first64_of (in_order meta semantic content d i)
unfolding code_units code_of_units
found_units meta semantic content d i f =
    let m = option_to_list meta in
    let s = option_to_list semantic in
    let c = option_to_list content in
    let last : List UnitParts = d ∷ i ∷ [] in
    let units : ℕ → ℕ → List Unit64 = λ k l. record { kind = k; body = first_bits d.body } ∷ record { kind = l; body = first_bits i.body } ∷ [] in
    let join : List Unit64 → List Unit64 → List Unit64 → List Unit64 → List Unit64 = λ a b t e. a ++ (b ++ (t ++ e)) in
    ap₂ (λ a b. join a b (unit_if (6 + sub_from (is_some meta) semantic content) (option_map (λ (u : UnitParts). first_bits u.body) content)) (units 11 12))
    (unit_if-first64 0 meta (meta_kind meta f.meta_fits))
    (unit_if-first64 (1 + sub_from (is_some meta) semantic content) semantic (semantic_kind (is_some meta) semantic content f.semantic_fits))
    ∙ ap₂ (join (map first64_of m) (map first64_of s))
    (unit_if-first64 (6 + sub_from (is_some meta) semantic content) content (content_kind (is_some meta) semantic content f.content_fits f.same))
    (ap₂ units (kind_is 3 d f.data_fits) (kind_is 4 i f.instance_fits))
    ∙ ap (λ rest. map first64_of m ++ (map first64_of s ++ rest)) (sym (map-append first64_of c last))
    ∙ ap (λ rest. map first64_of m ++ rest) (sym (map-append first64_of s (c ++ last)))
    ∙ sym (map-append first64_of m (s ++ (c ++ last)))

small_sub : (main : ℕ) (u : UnitParts) → FitsMain main u → nat_lt (sub_of u.kind) 5 ≡ true
small_sub main u f = lt-ltb (sub_of u.kind) 5 (small_pair u.kind f.valid.kind).1

pub found_sub : (meta semantic content : Option UnitParts) (d i : UnitParts) → AreFound meta semantic content d i
    → is_code_sub (code_len (code_of_units meta semantic content d i)) (code_of_units meta semantic content d i).sub ≡ true
unfolding is_code_sub code_len code_of_units
found_sub None None None d i f = refl
found_sub (Some m) None None d i f = refl
found_sub None None (Some v) d i f = small_sub 2 v f.content_fits
found_sub (Some m) None (Some v) d i f = small_sub 2 v f.content_fits
found_sub None (Some u) None d i f = small_sub 1 u f.semantic_fits
found_sub (Some m) (Some u) None d i f = small_sub 1 u f.semantic_fits
found_sub None (Some u) (Some v) d i f = small_sub 1 u f.semantic_fits
found_sub (Some m) (Some u) (Some v) d i f = small_sub 1 u f.semantic_fits

-- what was found among the given units
pub found_fits : (main : ℕ) (given : List UnitParts) (o : Option UnitParts) → has_narrow given ≡ false → of_main main given ≡ option_to_list o → IfSome o IsUnit → IfSome o (FitsMain main)
found_fits main given None wide e h = h
found_fits main given (Some u) wide e h = record { valid = h; its_main = main_found main given [] u e; wide = wide_found main given [] u wide e }

pub twice_fault : (given : List UnitParts) → has_twice given ≡ true → compose_fault given ≡ Some faults.Twice
unfolding compose_fault
twice_fault given t = rw t refl

pub no_data_fault : (given : List UnitParts) → has_twice given ≡ false → of_main 3 given ≡ [] → compose_fault given ≡ Some faults.NoData
unfolding compose_fault
no_data_fault given t d = rw (t, d) refl

pub no_instance_fault : (given : List UnitParts) (d : UnitParts) → has_twice given ≡ false → of_main 3 given ≡ d ∷ [] → of_main 4 given ≡ [] → compose_fault given ≡ Some faults.NoInstance
unfolding compose_fault
no_instance_fault given d t is_d is_i = rw (t, is_d, is_i) refl

pub narrow_fault : (given : List UnitParts) (d i : UnitParts) → has_twice given ≡ false → of_main 3 given ≡ d ∷ [] → of_main 4 given ≡ i ∷ [] → has_narrow given ≡ true → compose_fault given ≡ Some faults.Narrow
unfolding compose_fault
narrow_fault given d i t is_d is_i n = rw (t, is_d, is_i, n) refl

pub subs_fault : (given : List UnitParts) (d i : UnitParts) (semantic content : Option UnitParts) → has_twice given ≡ false → of_main 3 given ≡ d ∷ [] → of_main 4 given ≡ i ∷ [] → has_narrow given ≡ false
    → of_main 1 given ≡ option_to_list semantic → of_main 2 given ≡ option_to_list content → subs_differ (option_to_list semantic) (option_to_list content) ≡ true
    → compose_fault given ≡ Some faults.SubTypes
unfolding compose_fault
subs_fault given d i semantic content t is_d is_i n is_s is_c e = rw (t, is_d, is_i, n, is_s, is_c, e) refl

pub no_compose_fault : (given : List UnitParts) (d i : UnitParts) (semantic content : Option UnitParts) → has_twice given ≡ false → of_main 3 given ≡ d ∷ [] → of_main 4 given ≡ i ∷ [] → has_narrow given ≡ false
    → of_main 1 given ≡ option_to_list semantic → of_main 2 given ≡ option_to_list content → subs_differ (option_to_list semantic) (option_to_list content) ≡ false
    → compose_fault given ≡ None
unfolding compose_fault
no_compose_fault given d i semantic content t is_d is_i n is_s is_c e = rw (t, is_d, is_i, n, is_s, is_c, e) refl

-- the given units are those that were found
pub all_found : (given : List UnitParts) (meta semantic content : Option UnitParts) (d i : UnitParts) → of_main 0 given ≡ option_to_list meta → of_main 1 given ≡ option_to_list semantic → of_main 2 given ≡ option_to_list content
    → of_main 3 given ≡ d ∷ [] → of_main 4 given ≡ i ∷ [] → IsPermutation given (in_order meta semantic content d i)
unfolding by_main
all_found given meta semantic content d i is_m is_s is_c is_d is_i =
    let join : List UnitParts → List UnitParts → List UnitParts → List UnitParts → List UnitParts → List UnitParts = λ a b t u v. a ++ (b ++ (t ++ (u ++ (v ++ [])))) in
    let same : by_main (0 ∷ 1 ∷ 2 ∷ 3 ∷ 4 ∷ []) given ≡ in_order meta semantic content d i =
    ap₂ (λ a b. join a b (of_main 2 given) (of_main 3 given) (of_main 4 given)) is_m is_s
    ∙ ap₂ (λ t u. join (option_to_list meta) (option_to_list semantic) t u (of_main 4 given)) is_c is_d
    ∙ ap (join (option_to_list meta) (option_to_list semantic) (option_to_list content) (d ∷ [])) is_i in
    subst (IsPermutation given) same (by_main-permutation given)

pub composite_from : (given : List UnitParts) (meta semantic content : Option UnitParts) (d i : UnitParts) (code : CodeParts) → IsPermutation given (in_order meta semantic content d i)
    → IsCode code → code_units code ≡ map first64_of (in_order meta semantic content d i) → IsComposite given code
composite_from given meta semantic content d i code found valid units = record {
  valid = valid;
  units = subst (IsPermutation (map first64_of given)) (sym units) (IsPermutation-map first64_of given (in_order meta semantic content d i) found);
}

-- given units have one composite, or one fault
composes_once : (given : List UnitParts) (r : Result CodeParts ComposeFault) (fault : ComposeFault) → ComposesTo given r → compose_fault given ≡ Some fault → r ≡ Err fault
composes_once given (Ok code) fault has e = absurd (none-some fault (sym has.0 ∙ e))
composes_once given (Err other) fault has e = ap Err (same_Some other fault (sym has ∙ e))

pub composes_exactly : (given : List UnitParts) (r : Result CodeParts ComposeFault) (fault : ComposeFault) → ComposesTo given r → (r ≡ Err fault) ↔ (compose_fault given ≡ Some fault)
composes_exactly given r fault has = (λ e. subst (ComposesTo given) e has, λ e. composes_once given r fault has e)

pub composes_found : (given : List UnitParts) (r : Result CodeParts ComposeFault) → ComposesTo given r → IfOk r (λ code. IsComposite given code)
composes_found given (Ok code) has = has.1
composes_found given (Err fault) has = tt
