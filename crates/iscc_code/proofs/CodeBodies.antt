-- The body of an ISCC-CODE: its length, and the code that it tells.
use Rattle.std.proofs.Common.{◌≡◌, ℕ, ◌+◌, ◌*◌, ◌/◌, ◌%◌, ◌≤◌, ◌<◌, List, [], ◌∷◌, ◌++◌, length, length-append, append_assoc, append-nil, get_or, take, refl, sym, ◌∙◌, ap, ap₂, arith, inl, inr, true, false, Some, None, Option}
use Rattle.std.specs.Prelude.{is_some, IfSome, Bool, if◌then◌else◌}
use Rattle.std.specs.List.{flat_map}
use Rattle.std.specs.Int.{w64, to_be_bytes, from_be_bytes}
use Rattle.std.proofs.lemmas.Nat.{from_be_bytes-to_be_bytes_8}
use Rattle.std.proofs.lemmas.List.Concat.{flat_map-append}
use Rattle.std.proofs.lemmas.List.{nil_from_length, take_more}
use Rattle.iscc_header.specs.declared.unit.Unit64.{Unit64}
use Rattle.iscc_header.proofs.BitLists.{same_fronts}
use Rattle.iscc_code.specs.Composites.{CodeParts, IsCode, IsBody, unit_if, code_units, code_len, code_body, body_bytes, unit_count, is_code_sub}
use Rattle.std.proofs.lemmas.Bool.{false≢true, cases_eq, eqb-true, ltb-true, eq-eqb, ne_eqb}

-- where a flag is set, its worth in a Length
abbrev pub flag : Bool → ℕ → ℕ
flag b n = if b then n else 0

-- the three flags of a Length
flags : Bool → Bool → Bool → ℕ
flags content semantic meta = flag content 1 + flag semantic 2 + flag meta 4

small_flags : (c s m : Bool) → flags c s m ≤ 7
unfolding flags
small_flags true true true = omega arith
small_flags true true false = omega arith
small_flags true false true = omega arith
small_flags true false false = omega arith
small_flags false true true = omega arith
small_flags false true false = omega arith
small_flags false false true = omega arith
small_flags false false false = omega arith

pub code_len-small : (code : CodeParts) → code_len code ≤ 7
unfolding code_len flags
code_len-small code = small_flags (is_some code.content_body) (is_some code.semantic_body) (is_some code.meta_body)

length-body : (u : Unit64) → length (body_bytes u) ≡ 8
length-body u = refl

pub length-bodies : (us : List Unit64) → length (flat_map body_bytes us) ≡ 8 * length us
length-bodies [] = refl
length-bodies (u ∷ us) = length-append (body_bytes u) (flat_map body_bytes us) ∙ omega (arith, length-bodies us)

-- how many units a Length says
count_flags : (c s m : Bool) → unit_count (flags c s m) ≡ 2 + flag c 1 + flag s 1 + flag m 1
unfolding flags
count_flags true true true = refl
count_flags true true false = refl
count_flags true false true = refl
count_flags true false false = refl
count_flags false true true = refl
count_flags false true false = refl
count_flags false false true = refl
count_flags false false false = refl

length-unit_if : (kind : ℕ) (o : Option ℕ) → length (unit_if kind o) ≡ flag (is_some o) 1
length-unit_if kind None = refl
length-unit_if kind (Some b) = refl

pub length-code_units : (code : CodeParts) → length (code_units code) ≡ unit_count (code_len code)
unfolding code_units code_len flags
length-code_units code =
    let m = unit_if 0 code.meta_body in
    let s = unit_if (1 + code.sub) code.semantic_body in
    let c = unit_if (6 + code.sub) code.content_body in
    let last : List Unit64 = record { kind = 11; body = code.data_body } ∷ record { kind = 12; body = code.instance_body } ∷ [] in
    length-append m (s ++ (c ++ last))
    ∙ omega (
      arith,
      length-append s (c ++ last),
      length-append c last,
      length-unit_if 0 code.meta_body,
      length-unit_if (1 + code.sub) code.semantic_body,
      length-unit_if (6 + code.sub) code.content_body,
      count_flags (is_some code.content_body) (is_some code.semantic_body) (is_some code.meta_body),
    )

pub length-code_body : (code : CodeParts) → length (code_body code) ≡ 8 * unit_count (code_len code)
unfolding code_body
length-code_body code = length-bodies (code_units code) ∙ ap (λ n. 8 * n) (length-code_units code)

-- an ISCC-CODE's SubType is small
pub code_sub-small : (len sub : ℕ) → is_code_sub len sub ≡ true → sub ≤ 6
unfolding is_code_sub
code_sub-small len sub h =
    elim (cases_eq len 0) [
      | inl none ↦ (let five : sub ≡ 5 = eqb-true sub 5 (rw (eq-eqb len 0 none) at h) in omega arith)
      | inr some ↦
          elim (cases_eq len 4) [
            | inl meta ↦ (let six : sub ≡ 6 = eqb-true sub 6 (rw (ne_eqb len 0 some, eq-eqb len 4 meta) at h) in omega arith)
            | inr media ↦ (let low : sub < 5 = ltb-true sub 5 (rw (ne_eqb len 0 some, ne_eqb len 4 media) at h) in omega arith)
          ]
    ]

-- the worth of a flag
flag_worth : (b : Bool) (n : ℕ) → flag b n ≡ flag b 1 * n
flag_worth true n = omega arith
flag_worth false n = omega arith

-- a Length is told by its flags
pub len_from_flags : (content semantic meta : Option ℕ) (len : ℕ) → len < 8 → flag (is_some content) 1 ≡ len % 2 → flag (is_some semantic) 1 ≡ len / 2 % 2 → flag (is_some meta) 1 ≡ len / 4 % 2
    → flag (is_some content) 1 + flag (is_some semantic) 2 + flag (is_some meta) 4 ≡ len
len_from_flags content semantic meta len h c s m = omega (arith, flag_worth (is_some semantic) 2, flag_worth (is_some meta) 4)

-- a body that was taken apart from its front on
pub bodies_joined : (code : CodeParts) (body r1 r2 r3 r4 r5 : List ℕ) → body ≡ flat_map body_bytes (unit_if 0 code.meta_body) ++ r1
    → r1 ≡ flat_map body_bytes (unit_if (1 + code.sub) code.semantic_body) ++ r2
    → r2 ≡ flat_map body_bytes (unit_if (6 + code.sub) code.content_body) ++ r3
    → r3 ≡ body_bytes (record { kind = 11; body = code.data_body }) ++ r4
    → r4 ≡ body_bytes (record { kind = 12; body = code.instance_body }) ++ r5
    → length r5 ≡ 0 → code_body code ≡ body
unfolding code_body code_units
bodies_joined code body r1 r2 r3 r4 r5 a b c d e none =
    let m = unit_if 0 code.meta_body in
    let s = unit_if (1 + code.sub) code.semantic_body in
    let t = unit_if (6 + code.sub) code.content_body in
    let u : Unit64 = record { kind = 11; body = code.data_body } in
    let v : Unit64 = record { kind = 12; body = code.instance_body } in
    flat_map-append body_bytes m (s ++ (t ++ u ∷ v ∷ []))
    ∙ ap (λ rest. flat_map body_bytes m ++ rest)
    (flat_map-append body_bytes s (t ++ u ∷ v ∷ [])
    ∙ ap (λ rest. flat_map body_bytes s ++ rest)
    (flat_map-append body_bytes t (u ∷ v ∷ [])
    ∙ ap (λ rest. flat_map body_bytes t ++ rest)
    (ap (λ rest. body_bytes u ++ (body_bytes v ++ rest)) (sym (nil_from_length r5 none)) ∙ ap (λ rest. body_bytes u ++ rest) (sym e) ∙ sym d)
    ∙ sym c)
    ∙ sym b)
    ∙ sym a

-- a list of units that was made unit by unit
pub units_joined : (code : CodeParts) (i0 i1 i2 i3 i4 i5 : List Unit64) → i0 ≡ [] → i1 ≡ i0 ++ unit_if 0 code.meta_body
    → i2 ≡ i1 ++ unit_if (1 + code.sub) code.semantic_body
    → i3 ≡ i2 ++ unit_if (6 + code.sub) code.content_body
    → i4 ≡ i3 ++ unit_if 11 (Some code.data_body)
    → i5 ≡ i4 ++ unit_if 12 (Some code.instance_body)
    → i5 ≡ code_units code
unfolding code_units
units_joined code i0 i1 i2 i3 i4 i5 none a b c d e =
    let m = unit_if 0 code.meta_body in
    let s = unit_if (1 + code.sub) code.semantic_body in
    let t = unit_if (6 + code.sub) code.content_body in
    let u : Unit64 = record { kind = 11; body = code.data_body } in
    let v : Unit64 = record { kind = 12; body = code.instance_body } in
    let front : i1 ≡ m = a ∙ ap (λ xs. xs ++ m) none in
    let all : i5 ≡ m ++ s ++ t ++ u ∷ [] ++ v ∷ [] =
    e ∙ ap (λ xs. xs ++ v ∷ []) (d ∙ ap (λ xs. xs ++ u ∷ []) (c ∙ ap (λ xs. xs ++ t) (b ∙ ap (λ xs. xs ++ s) front))) in
    all ∙ simp append_assoc

-- bodies are told by their bytes
same_body : (a b : ℕ) (x y : List ℕ) → IsBody a → IsBody b → to_be_bytes w64 a ++ x ≡ to_be_bytes w64 b ++ y → (a ≡ b) × (x ≡ y)
same_body a b x y h k e =
    let parts = same_fronts (to_be_bytes w64 a) (to_be_bytes w64 b) x y refl e in
    (sym (from_be_bytes-to_be_bytes_8 a h) ∙ ap (from_be_bytes w64) parts.0 ∙ from_be_bytes-to_be_bytes_8 b k, parts.1)

same_if : (k l : ℕ) (a b : Option ℕ) (x y : List ℕ) → is_some a ≡ is_some b → IfSome a IsBody → IfSome b IsBody
    → flat_map body_bytes (unit_if k a) ++ x ≡ flat_map body_bytes (unit_if l b) ++ y → (a ≡ b) × (x ≡ y)
same_if k l None None x y there h i e = (refl, e)
same_if k l None (Some b) x y there h i e = absurd (false≢true there)
same_if k l (Some a) None x y there h i e = absurd (false≢true (sym there))
same_if k l (Some a) (Some b) x y there h i e =
    let same = same_body a b x y h i (ap (λ t. t ++ x) (sym (append-nil (to_be_bytes w64 a))) ∙ e ∙ ap (λ t. t ++ y) (append-nil (to_be_bytes w64 b))) in
    (ap Some same.0, same.1)

flag_small : (b : Bool) → flag b 1 ≤ 1
flag_small true = omega arith
flag_small false = omega arith

same_flag : (a b : Bool) → flag a 1 ≡ flag b 1 → a ≡ b
same_flag true true e = refl
same_flag true false e = absurd (omega (arith, e))
same_flag false true e = absurd (omega (arith, e))
same_flag false false e = refl

-- a Length tells which bodies are there
same_flags : (c s m d t n : Bool) → flags c s m ≡ flags d t n → (c ≡ d) × (s ≡ t) × (m ≡ n)
unfolding flags
same_flags c s m d t n e =
    let a = flag_small c in
    let b = flag_small d in
    let f = flag_small s in
    let g = flag_small t in
    let p = flag_worth s 2 in
    let q = flag_worth m 4 in
    let r = flag_worth t 2 in
    let u = flag_worth n 4 in
    (same_flag c d (omega arith), same_flag s t (omega arith), same_flag m n (omega arith))

pub same_parts : (a b : CodeParts) → a.meta_body ≡ b.meta_body → a.semantic_body ≡ b.semantic_body → a.content_body ≡ b.content_body → a.data_body ≡ b.data_body → a.instance_body ≡ b.instance_body → a.sub ≡ b.sub → a ≡ b
same_parts a b m s c d i sub =
    let makes : Option ℕ → Option ℕ → Option ℕ → ℕ → ℕ → ℕ → CodeParts =
    λ m s c d i t. record { meta_body = m; semantic_body = s; content_body = c; data_body = d; instance_body = i; sub = t } in
    ap₂ (λ m s. makes m s a.content_body a.data_body a.instance_body a.sub) m s
    ∙ ap₂ (λ c d. makes b.meta_body b.semantic_body c d a.instance_body a.sub) c d
    ∙ ap₂ (λ i t. makes b.meta_body b.semantic_body b.content_body b.data_body i t) i sub

-- the bytes of an ISCC-CODE, unit by unit
in_turn : CodeParts → List ℕ
in_turn code =
    flat_map body_bytes (unit_if 0 code.meta_body)
    ++ (flat_map body_bytes (unit_if (1 + code.sub) code.semantic_body)
    ++ (flat_map body_bytes (unit_if (6 + code.sub) code.content_body)
    ++ (to_be_bytes w64 code.data_body ++ (to_be_bytes w64 code.instance_body ++ []))))

body_in_turn : (code : CodeParts) → code_body code ≡ in_turn code
unfolding in_turn
body_in_turn code = bodies_joined code (in_turn code) _ _ _ _ [] refl refl refl refl refl refl

-- an ISCC-CODE is told by its Length, its SubType and its body
pub same_composite : (a b : CodeParts) → IsCode a → IsCode b → code_len a ≡ code_len b → a.sub ≡ b.sub → code_body a ≡ code_body b → a ≡ b
unfolding in_turn code_len flags
same_composite a b h k len sub body =
    let there = same_flags (is_some a.content_body) (is_some a.semantic_body) (is_some a.meta_body) (is_some b.content_body) (is_some b.semantic_body) (is_some b.meta_body) len in
    let m = same_if 0 0 a.meta_body b.meta_body _ _ there.2 h.meta_body k.meta_body (sym (body_in_turn a) ∙ body ∙ body_in_turn b) in
    let s = same_if (1 + a.sub) (1 + b.sub) a.semantic_body b.semantic_body _ _ there.1 h.semantic_body k.semantic_body m.1 in
    let c = same_if (6 + a.sub) (6 + b.sub) a.content_body b.content_body _ _ there.0 h.content_body k.content_body s.1 in
    let d = same_body a.data_body b.data_body _ _ h.data_body k.data_body c.1 in
    let i = same_body a.instance_body b.instance_body _ _ h.instance_body k.instance_body d.1 in
    same_parts a b m.0 s.0 c.0 d.0 i.0 sub

-- one unit more stands in the body
pub more_bodies : (units : List Unit64) (i : ℕ) (front before after : List ℕ) (u : Unit64) → i < length units → u ≡ get_or units i u
    → before ≡ front ++ flat_map body_bytes (take i units) → after ≡ before ++ body_bytes u
    → after ≡ front ++ flat_map body_bytes (take (i + 1) units)
more_bodies units i front before after u h is before_is after_is =
    after_is
    ∙ ap (λ xs. xs ++ body_bytes u) before_is
    ∙ append_assoc front (flat_map body_bytes (take i units)) (body_bytes u)
    ∙ ap (λ xs. front ++ xs)
    (ap (λ xs. flat_map body_bytes (take i units) ++ xs) (sym (append-nil (body_bytes u)))
    ∙ sym (flat_map-append body_bytes (take i units) (u ∷ []))
    ∙ ap (flat_map body_bytes) (ap (λ v. take i units ++ v ∷ []) is ∙ sym (take_more units i u h)))
