-- Units have one composite: what the units of each MainType weigh tells its parts.
use Rattle.std.proofs.Common.{◌≡◌, ℕ, suc, ◌+◌, Bool, true, false, List, [], ◌∷◌, ◌++◌, map, Option, Some, None, refl, sym, ◌∙◌, ap, ap₂, inl, inr, arith}
use Rattle.std.specs.Prelude.{IsPermutation, is_some, ◌==◌, sum_by, if◌then◌else◌}
use Rattle.std.proofs.lemmas.Bool.{eqb-true}
use Rattle.std.proofs.lemmas.List.Sums.{sum_by-append}
use Rattle.std.proofs.lemmas.List.Sorted.{IsPermutation-map, IsPermutation-sym, IsPermutation-trans, sum_by-IsPermutation}
use Rattle.iscc_header.specs.Kinds.{main_of}
use Rattle.iscc_header.specs.declared.unit.Unit64.{Unit64}
use Rattle.iscc_code.specs.Units.{UnitParts, first64_of}
use Rattle.iscc_code.specs.Composites.{CodeParts, IsCode, unit_if, code_units, code_len, is_code_sub, IsComposite}
use Rattle.iscc_code.proofs.CodeBodies.{same_parts}
use Rattle.iscc_code.proofs.CodeUnits.{sub_small, semantic_main, content_main}

abbrev unit : ℕ → ℕ → Unit64
unit kind body = record { kind = kind; body = body }

-- a number where a test holds, and else 0
abbrev pick : Bool → ℕ → ℕ
pick b n = if b then n else 0

-- what a unit weighs where it has the MainType: more than nothing
abbrev weight : ℕ → (Unit64 → ℕ) → Unit64 → ℕ
weight main f u = pick (main_of u.kind == main) (suc (f u))

-- what a body weighs, which may not be there
abbrev told : (ℕ → ℕ) → Option ℕ → ℕ
told g None = 0
told g (Some b) = suc (g b)

no_weight : (b : Bool) → pick b 0 ≡ 0
no_weight true = refl
no_weight false = refl

weight_if : (main its kind : ℕ) (f : Unit64 → ℕ) (body : Option ℕ) → (is_some body ≡ true → main_of kind ≡ its)
    → sum_by (weight main f) (unit_if kind body) ≡ pick (its == main) (told (λ b. f (unit kind b)) body)
weight_if main its kind f None h = sym (no_weight (its == main))
weight_if main its kind f (Some b) h =
    let one : 0 + weight main f (unit kind b) ≡ weight main f (unit kind b) = omega arith in
    one ∙ ap (λ m. pick (m == main) (suc (f (unit kind b)))) (h refl)

-- what the units of an ISCC-CODE weigh for a MainType
weights : ℕ → (Unit64 → ℕ) → CodeParts → ℕ
weights main f code =
    pick (0 == main) (told (λ b. f (unit 0 b)) code.meta_body)
    + (pick (1 == main) (told (λ b. f (unit (1 + code.sub) b)) code.semantic_body)
    + (pick (2 == main) (told (λ b. f (unit (6 + code.sub) b)) code.content_body)
    + (pick (3 == main) (suc (f (unit 11 code.data_body))) + pick (4 == main) (suc (f (unit 12 code.instance_body))))))

weights_are : (main : ℕ) (f : Unit64 → ℕ) (code : CodeParts) → IsCode code → sum_by (weight main f) (code_units code) ≡ weights main f code
unfolding code_units weights
weights_are main f code h =
    let w = weight main f in
    let s = unit_if (1 + code.sub) code.semantic_body in
    let t = unit_if (6 + code.sub) code.content_body in
    let last : List Unit64 = unit 11 code.data_body ∷ unit 12 code.instance_body ∷ [] in
    let two : 0 + w (unit 11 code.data_body) + w (unit 12 code.instance_body) ≡ w (unit 11 code.data_body) + w (unit 12 code.instance_body) = omega arith in
    sum_by-append w (unit_if 0 code.meta_body) (s ++ (t ++ last))
    ∙ ap₂ (λ m n. m + n) (weight_if main 0 0 f code.meta_body (λ there. refl))
    (sum_by-append w s (t ++ last)
    ∙ ap₂ (λ m n. m + n) (weight_if main 1 (1 + code.sub) f code.semantic_body (λ there. semantic_main code.sub (sub_small code h (inr there))))
    (sum_by-append w t last
    ∙ ap₂ (λ m n. m + n) (weight_if main 2 (6 + code.sub) f code.content_body (λ there. content_main code.sub (sub_small code h (inl there)))) two))

same_body_from : (o p : Option ℕ) → told (λ b. b) o ≡ told (λ b. b) p → o ≡ p
same_body_from None None e = refl
same_body_from None (Some c) e = absurd (omega arith)
same_body_from (Some b) None e = absurd (omega arith)
same_body_from (Some b) (Some c) e = ap Some (omega arith)

same_kind_from : (k l : ℕ) (o p : Option ℕ) → o ≡ p → told (λ b. k) o ≡ told (λ b. l) p → is_some o ≡ true → k ≡ l
same_kind_from k l None p s e there = absurd (cc)
same_kind_from k l (Some b) None s e there = absurd (omega arith)
same_kind_from k l (Some b) (Some c) s e there = omega arith

-- the SubType of an ISCC-CODE, by the units that it has
same_sub_from : (content semantic meta : Bool) (x y : ℕ)
    → is_code_sub ((if content then 1 else 0) + (if semantic then 2 else 0) + (if meta then 4 else 0)) x ≡ true
    → is_code_sub ((if content then 1 else 0) + (if semantic then 2 else 0) + (if meta then 4 else 0)) y ≡ true
    → (content ≡ true → x ≡ y) → (semantic ≡ true → x ≡ y) → x ≡ y
unfolding is_code_sub
same_sub_from true semantic meta x y h k c s = c refl
same_sub_from false true meta x y h k c s = s refl
same_sub_from false false true x y h k c s = eqb-true x 6 h ∙ sym (eqb-true y 6 k)
same_sub_from false false false x y h k c s = eqb-true x 5 h ∙ sym (eqb-true y 5 k)

module _ (a b : CodeParts) (h : IsCode a) (k : IsCode b) (same : IsPermutation (code_units a) (code_units b)) where
  same_weights : (main : ℕ) (f : Unit64 → ℕ) → weights main f a ≡ weights main f b
  same_weights main f =
      sym (weights_are main f a h) ∙ sym (sum_by-IsPermutation (weight main f) (code_units a) (code_units b) same) ∙ weights_are main f b k

  -- ISCC-CODEs with the same units are the same
  pub one_code : a ≡ b
  unfolding weights code_len
  one_code =
      let bodies : Unit64 → ℕ = λ u. u.body in
      let numbers : Unit64 → ℕ = λ u. u.kind in
      let meta : a.meta_body ≡ b.meta_body = same_body_from a.meta_body b.meta_body (omega (arith, same_weights 0 bodies)) in
      let semantic : a.semantic_body ≡ b.semantic_body = same_body_from a.semantic_body b.semantic_body (omega (arith, same_weights 1 bodies)) in
      let content : a.content_body ≡ b.content_body = same_body_from a.content_body b.content_body (omega (arith, same_weights 2 bodies)) in
      let first_kind : is_some a.semantic_body ≡ true → 1 + a.sub ≡ 1 + b.sub =
      same_kind_from (1 + a.sub) (1 + b.sub) a.semantic_body b.semantic_body semantic (omega (arith, same_weights 1 numbers)) in
      let second_kind : is_some a.content_body ≡ true → 6 + a.sub ≡ 6 + b.sub =
      same_kind_from (6 + a.sub) (6 + b.sub) a.content_body b.content_body content (omega (arith, same_weights 2 numbers)) in
      let len : Option ℕ → Option ℕ → Option ℕ → ℕ =
      λ c s m. (if is_some c then 1 else 0) + (if is_some s then 2 else 0) + (if is_some m then 4 else 0) in
      let same_len : len a.content_body a.semantic_body a.meta_body ≡ len b.content_body b.semantic_body b.meta_body =
      ap₂ (λ c s. len c s a.meta_body) content semantic ∙ ap (len b.content_body b.semantic_body) meta in
      let sub : a.sub ≡ b.sub =
      same_sub_from (is_some a.content_body) (is_some a.semantic_body) (is_some a.meta_body) a.sub b.sub h.sub (ap (λ n. is_code_sub n b.sub) same_len ∙ k.sub)
      (λ there. (let e = second_kind there in omega arith)) (λ there. (let e = first_kind there in omega arith)) in
      same_parts a b meta semantic content (omega (arith, same_weights 3 bodies)) (omega (arith, same_weights 4 bodies)) sub

pub one_composite : (given other : List UnitParts) (a b : CodeParts) → IsPermutation given other → IsComposite given a → IsComposite other b → a ≡ b
one_composite given other a b order s t =
    one_code a b s.valid t.valid
    (IsPermutation-trans (code_units a) (map first64_of given) (code_units b)
    (IsPermutation-sym (map first64_of given) (code_units a) s.units)
    (IsPermutation-trans (map first64_of given) (map first64_of other) (code_units b) (IsPermutation-map first64_of given other order) t.units))
