-- Declarations in bytes: what is read at their places, and when it can stand.
use Rattle.std.proofs.Common.{◌≡◌, ℕ, zero, suc, refl, ◌+◌, ◌-◌, ◌*◌, ◌^◌, ◌<◌, ◌≤◌, Bool, true, false, not, List, [], ◌∷◌, ◌++◌, length, get_or, take, drop, Option, Some, None, sym, ◌∙◌, ap, ap₂, subst, append_assoc, length-append, arith}
use Rattle.std.specs.Prelude.{All, nat_lt, if◌then◌else◌}
use Rattle.std.specs.List.{flat_map}
use Rattle.std.specs.Int.{w64, to_be_bytes}
use Rattle.std.proofs.lemmas.Bool.Decides.{nat_tests}
use Rattle.std.proofs.lemmas.List.{flat_map_more, take_more}
use Rattle.std.proofs.lemmas.List.Elements.{All-nil, All-cons, All-append, All-head, All-tail}
use Rattle.iscc_header.specs.Unit64s.{IsUnit64}
use Rattle.reg_model.specs.declared.update.Declared.{Declared}
use Rattle.reg_model.proofs.Rising.{Within}
use Rattle.reg_image.specs.declared.fault.ImageFault.{ImageFault}
use Rattle.reg_image.specs.Images.{declared_bytes}
use Rattle.reg_image.specs.ImageFaults.{number_at, is_above, or_else, declared_fault}
use Rattle.reg_image.specs.inner.Reading.{declared_at, declared_list, one_fault}
use Rattle.reg_image.proofs.Pieces.{AreBytes, number-rest, byte-rest, number-small, number-found, byte-found}

-- the units have values of their type
abbrev pub AreUnits : List Declared → Type 0
AreUnits list = All (λ (d : Declared). IsUnit64 d.unit) list

-- ---- one declaration after the other

-- what stands before the first declaration that has a fault makes none
pub fault_after : (base : ℕ) (before : Option ℕ) (place count : ℕ) (bytes : List ℕ)
    → declared_fault base before place (suc count) bytes
    ≡ or_else (one_fault base before place (declared_at place bytes)) (declared_fault base (Some (number_at w64 place bytes)) (place + 17) count bytes)
unfolding declared_fault one_fault
fault_after base before place count bytes =
    by_tests (nat_lt 12 (get_or bytes (place + 8) 0)) (not (is_above before (number_at w64 place bytes))) (not (nat_lt (number_at w64 place bytes) base)) _ _ _ _
  where
    by_tests : (a b c : Bool) (f g h : ImageFault) (rest : Option ImageFault)
        → (if a then Some f else if b then Some g else if c then Some h else rest) ≡ or_else (if a then Some f else if b then Some g else if c then Some h else None) rest
    by_tests true b c f g h rest = refl
    by_tests false true c f g h rest = refl
    by_tests false false true f g h rest = refl
    by_tests false false false f g h rest = refl

-- one declaration more, at the end
pub one_more : (place count : ℕ) (bytes : List ℕ) → declared_list place (suc count) bytes ≡ declared_list place count bytes ++ declared_at (place + 17 * count) bytes ∷ []
unfolding declared_list
one_more place zero bytes =
    let here : place ≡ place + 17 * zero = omega arith in
    ap (λ n. declared_at n bytes ∷ []) here
one_more place (suc count) bytes =
    let there : place + 17 + 17 * count ≡ place + 17 * suc count = omega arith in
    ap (λ ds. declared_at place bytes ∷ ds) (one_more (place + 17) count bytes ∙ ap (λ n. declared_list (place + 17) count bytes ++ declared_at n bytes ∷ []) there)

pub length-listed : (place count : ℕ) (bytes : List ℕ) → length (declared_list place count bytes) ≡ count
unfolding declared_list
length-listed place zero bytes = refl
length-listed place (suc count) bytes = omega (arith, length-listed (place + 17) count bytes)

length-declared : (d : Declared) → length (declared_bytes d) ≡ 17
unfolding declared_bytes
length-declared d = refl

-- ---- from bytes to declarations and back

-- the bytes of what is read at a place, and those behind it
declared-rest : (place : ℕ) (bytes : List ℕ) → AreBytes bytes → place + 17 ≤ length bytes → declared_bytes (declared_at place bytes) ++ drop (place + 17) bytes ≡ drop place bytes
unfolding declared_bytes
declared-rest place bytes range long =
    let id = to_be_bytes w64 (number_at w64 place bytes) in
    let kind = get_or bytes (place + 8) 0 in
    let body = to_be_bytes w64 (number_at w64 (place + 9) bytes) in
    let to_body : place + 8 + 1 ≡ place + 9 = omega arith in
    let to_end : place + 9 + 8 ≡ place + 17 = omega arith in
    append_assoc id (kind ∷ body) (drop (place + 17) bytes)
    ∙ ap (λ n. id ++ (kind ∷ (body ++ drop n bytes))) (sym to_end)
    ∙ ap (λ rest. id ++ (kind ∷ rest)) (number-rest (place + 9) bytes range (omega (arith, long)))
    ∙ ap (λ n. id ++ (kind ∷ drop n bytes)) (sym to_body)
    ∙ ap (λ rest. id ++ rest) (byte-rest (place + 8) bytes (omega (arith, long)))
    ∙ number-rest place bytes range (omega (arith, long))

pub listed-rest : (place count : ℕ) (bytes : List ℕ) → AreBytes bytes → place + 17 * count ≤ length bytes
    → flat_map declared_bytes (declared_list place count bytes) ++ drop (place + 17 * count) bytes ≡ drop place bytes
unfolding declared_list
listed-rest place zero bytes range long =
    let here : place + 17 * zero ≡ place = omega arith in
    ap (λ n. drop n bytes) here
listed-rest place (suc count) bytes range long =
    let there : place + 17 * suc count ≡ place + 17 + 17 * count = omega arith in
    let others = flat_map declared_bytes (declared_list (place + 17) count bytes) in
    append_assoc (declared_bytes (declared_at place bytes)) others (drop (place + 17 * suc count) bytes)
    ∙ ap (λ n. declared_bytes (declared_at place bytes) ++ (others ++ drop n bytes)) there
    ∙ ap (λ rest. declared_bytes (declared_at place bytes) ++ rest) (listed-rest (place + 17) count bytes range (omega (arith, long)))
    ∙ declared-rest place bytes range (omega (arith, long))

-- ---- from declarations to bytes and back

-- ids of 64 bits
abbrev pub AreIds : List Declared → Type 0
AreIds list = All (λ (d : Declared). d.id < 2 ^ 64) list

declared-found : (front rest bytes : List ℕ) (place : ℕ) (d : Declared) → d.id < 2 ^ 64 → IsUnit64 d.unit → length front ≡ place
    → bytes ≡ front ++ (declared_bytes d ++ rest) → declared_at place bytes ≡ d
unfolding declared_bytes
declared-found front rest bytes place d id unit len is =
    let first = to_be_bytes w64 d.id in
    let last = to_be_bytes w64 d.unit.body in
    let whole : bytes ≡ front ++ (first ++ (d.unit.kind ∷ (last ++ rest))) = is ∙ ap (λ xs. front ++ xs) (append_assoc first (d.unit.kind ∷ last) rest) in
    let behind : bytes ≡ (front ++ first) ++ (d.unit.kind ∷ (last ++ rest)) = whole ∙ sym (append_assoc front first (d.unit.kind ∷ (last ++ rest))) in
    let further : bytes ≡ ((front ++ first) ++ d.unit.kind ∷ []) ++ (last ++ rest) = behind ∙ sym (append_assoc (front ++ first) (d.unit.kind ∷ []) (last ++ rest)) in
    let eight : length (front ++ first) ≡ place + 8 = omega (arith, length-append front first, len) in
    let nine : length ((front ++ first) ++ d.unit.kind ∷ []) ≡ place + 9 = omega (arith, length-append (front ++ first) (d.unit.kind ∷ []), eight) in
    same (number-found front (d.unit.kind ∷ (last ++ rest)) bytes place d.id id len whole)
    (byte-found (front ++ first) (last ++ rest) bytes (place + 8) d.unit.kind eight behind)
    (number-found ((front ++ first) ++ d.unit.kind ∷ []) rest bytes (place + 9) d.unit.body unit.body nine further)
  where
    same : {e : Declared} → e.id ≡ d.id → e.unit.kind ≡ d.unit.kind → e.unit.body ≡ d.unit.body → e ≡ d
    same a b c = λ i. record { id = a i; unit = record { kind = b i; body = c i } }

pub listed-found : (front rest bytes : List ℕ) (place : ℕ) (list : List Declared) → AreIds list → AreUnits list → length front ≡ place
    → bytes ≡ front ++ (flat_map declared_bytes list ++ rest) → declared_list place (length list) bytes ≡ list
unfolding declared_list
listed-found front rest bytes place [] ids units len is = refl
listed-found front rest bytes place (d ∷ ds) ids units len is =
    let others = flat_map declared_bytes ds in
    let whole : bytes ≡ front ++ (declared_bytes d ++ (others ++ rest)) = is ∙ ap (λ xs. front ++ xs) (append_assoc (declared_bytes d) others rest) in
    let behind : bytes ≡ (front ++ declared_bytes d) ++ (others ++ rest) = whole ∙ sym (append_assoc front (declared_bytes d) (others ++ rest)) in
    let next : length (front ++ declared_bytes d) ≡ place + 17 = omega (arith, length-append front (declared_bytes d), length-declared d, len) in
    ap₂ (λ e es. e ∷ es)
    (declared-found front (others ++ rest) bytes place d (All-head (λ (e : Declared). e.id < 2 ^ 64) d ds ids) (All-head (λ (e : Declared). IsUnit64 e.unit) d ds units) len whole)
    (listed-found (front ++ declared_bytes d) rest bytes (place + 17) ds (All-tail (λ (e : Declared). e.id < 2 ^ 64) d ds ids) (All-tail (λ (e : Declared). IsUnit64 e.unit) d ds units) next behind)

pub length-bytes : (list : List Declared) → length (flat_map declared_bytes list) ≡ 17 * length list
length-bytes [] = refl
length-bytes (d ∷ ds) = omega (arith, length-append (declared_bytes d) (flat_map declared_bytes ds), length-declared d, length-bytes ds)

-- ---- which declarations can stand

-- the least id above the one before
abbrev pub lowest : Option ℕ → ℕ
lowest None = 0
lowest (Some id) = id + 1

-- a declaration without a fault
record IsSound (base : ℕ) (before : Option ℕ) (d : Declared) : Type 0 where
  kind : d.unit.kind < 13
  above : lowest before ≤ d.id
  below : d.id < base

above-lowest : (before : Option ℕ) (id : ℕ) → not (is_above before id) ≡ false → lowest before ≤ id
above-lowest None id h = omega arith
above-lowest (Some other) id h = grind (arith, nat_tests, h)

lowest-above : (before : Option ℕ) (id : ℕ) → lowest before ≤ id → not (is_above before id) ≡ false
lowest-above None id h = refl
lowest-above (Some other) id h = grind (arith, nat_tests, h)

-- a test that brings no fault, before more tests
pub passed : (test : Bool) (fault : ImageFault) (rest : Option ImageFault) → (if test then Some fault else rest) ≡ None → (test ≡ false) × (rest ≡ None)
passed true fault rest h = absurd cc
passed false fault rest h = (refl, h)

pub both_none : (first later : Option ImageFault) → or_else first later ≡ None → (first ≡ None) × (later ≡ None)
both_none None later h = (refl, h)
both_none (Some fault) later h = absurd cc

sound : (base : ℕ) (before : Option ℕ) (place : ℕ) (d : Declared) → one_fault base before place d ≡ None → IsSound base before d
unfolding one_fault
sound base before place d h =
    let first = passed (nat_lt 12 d.unit.kind) _ _ h in
    let second = passed (not (is_above before d.id)) _ _ first.1 in
    let third = passed (not (nat_lt d.id base)) _ _ second.1 in
    record {
      kind = grind (arith, nat_tests, first.0);
      above = above-lowest before d.id second.0;
      below = grind (arith, nat_tests, third.0);
    }

faultless : (base : ℕ) (before : Option ℕ) (place : ℕ) (d : Declared) → IsSound base before d → one_fault base before place d ≡ None
unfolding one_fault
faultless base before place d s =
    let first : nat_lt 12 d.unit.kind ≡ false = grind (arith, nat_tests, s.kind) in
    let second : not (is_above before d.id) ≡ false = lowest-above before d.id s.above in
    let third : not (nat_lt d.id base) ≡ false = grind (arith, nat_tests, s.below) in
    rw (first, second, third) refl

-- what is read where no declaration has a fault
pub record IsRead (base low : ℕ) (list : List Declared) : Type 0 where
  pub within : Within low base list
  pub units : AreUnits list

pub read_sound : (base : ℕ) (before : Option ℕ) (place count : ℕ) (bytes : List ℕ) → AreBytes bytes → lowest before ≤ base
    → declared_fault base before place count bytes ≡ None → IsRead base (lowest before) (declared_list place count bytes)
unfolding declared_list
read_sound base before place zero bytes range low h = record { within = low; units = All-nil (λ (d : Declared). IsUnit64 d.unit) }
read_sound base before place (suc count) bytes range low h =
    let d = declared_at place bytes in
    let parts = both_none (one_fault base before place d) _ (sym (fault_after base before place count bytes) ∙ h) in
    let this = sound base before place d parts.0 in
    let others = read_sound base (Some d.id) (place + 17) count bytes range (omega (arith, this.below)) parts.1 in
    record {
      within = (this.above, others.within);
      units = All-cons (λ (d : Declared). IsUnit64 d.unit) d (declared_list (place + 17) count bytes) (record { kind = this.kind; body = number-small (place + 9) bytes range }) others.units;
    }

-- and back: declarations that can stand have no fault, wherever they are read
pub no_fault : (base : ℕ) (before : Option ℕ) (place : ℕ) (list : List Declared) (bytes : List ℕ) → Within (lowest before) base list → AreUnits list
    → declared_list place (length list) bytes ≡ list → declared_fault base before place (length list) bytes ≡ None
unfolding declared_list declared_fault
no_fault base before place [] bytes within units read = refl
no_fault base before place (d ∷ ds) bytes within units read =
    let this : declared_at place bytes ≡ d = heads read in
    let unit = All-head (λ (e : Declared). IsUnit64 e.unit) d ds units in
    let one : one_fault base before place d ≡ None = faultless base before place d (record { kind = unit.kind; above = within.0; below = below_end d.id base ds within.1 }) in
    let others = no_fault base (Some d.id) (place + 17) ds bytes within.1 (All-tail (λ (e : Declared). IsUnit64 e.unit) d ds units) (tails read) in
    fault_after base before place (length ds) bytes
    ∙ ap (λ e. or_else (one_fault base before place e) (declared_fault base (Some e.id) (place + 17) (length ds) bytes)) this
    ∙ ap (λ f. or_else f (declared_fault base (Some d.id) (place + 17) (length ds) bytes)) one
    ∙ others
  where
    head_or : Declared → List Declared → Declared
    head_or e [] = e
    head_or e (x ∷ xs) = x

    heads : {a b : Declared} {xs ys : List Declared} → a ∷ xs ≡ b ∷ ys → a ≡ b
    heads {a} e = ap (head_or a) e

    tails : {a b : Declared} {xs ys : List Declared} → a ∷ xs ≡ b ∷ ys → xs ≡ ys
    tails e = ap (drop 1) e

    below_end : (id high : ℕ) (ds : List Declared) → Within (id + 1) high ds → id < high
    below_end id high [] h = omega (arith, h)
    below_end id high (d ∷ ds) h = omega (arith, h.0, below_end d.id high ds h.1)

-- ---- steps of loops

-- one declaration more is written
pub more_written : (list : List Declared) (i : ℕ) (front old new : List ℕ) (d : Declared) → i < length list → d ≡ get_or list i d
    → old ≡ front ++ flat_map declared_bytes (take i list) → new ≡ old ++ declared_bytes d → new ≡ front ++ flat_map declared_bytes (take (i + 1) list)
more_written list i front old new d within is old_is new_is =
    new_is
    ∙ ap (λ xs. xs ++ declared_bytes d) old_is
    ∙ flat_map_more declared_bytes front (take i list) d
    ∙ ap (λ ds. front ++ flat_map declared_bytes ds) (ap (λ e. take i list ++ e ∷ []) is ∙ sym (take_more list i d within))

pub more_units : (list : List Declared) (i : ℕ) (d : Declared) → i < length list → d ≡ get_or list i d → IsUnit64 d.unit → AreUnits (take i list) → AreUnits (take (i + 1) list)
more_units list i d within is unit units =
    subst AreUnits (ap (λ e. take i list ++ e ∷ []) is ∙ sym (take_more list i d within)) (All-append (λ (e : Declared). IsUnit64 e.unit) (take i list) (d ∷ []) units (All-cons (λ (e : Declared). IsUnit64 e.unit) d [] unit (All-nil (λ (e : Declared). IsUnit64 e.unit))))

-- one declaration more is read, which has no fault
pub record IsReadTo (base : ℕ) (before : Option ℕ) (count i : ℕ) (list : List Declared) (bytes : List ℕ) : Type 0 where
  pub list_is : list ≡ declared_list 28 i bytes
  pub rest : (more : ℕ) → i + more ≡ count → declared_fault base None 28 count bytes ≡ declared_fault base before (28 + 17 * i) more bytes

pub none_read : (base count : ℕ) (list : List Declared) (bytes : List ℕ) → list ≡ [] → IsReadTo base None count 0 list bytes
unfolding declared_list
none_read base count list bytes empty = record {
  list_is = empty;
  rest = λ more is. (let all : count ≡ more = omega (arith, is) in ap (λ n. declared_fault base None 28 n bytes) all);
}

pub more_read : (base : ℕ) (before : Option ℕ) (count i : ℕ) (list new : List Declared) (bytes : List ℕ) (d : Declared) → IsReadTo base before count i list bytes
    → d ≡ declared_at (28 + 17 * i) bytes → one_fault base before (28 + 17 * i) (declared_at (28 + 17 * i) bytes) ≡ None → new ≡ list ++ d ∷ [] → IsReadTo base (Some d.id) count (i + 1) new bytes
more_read base before count i list new bytes d so_far is sound new_is = record {
  list_is =
      (let next : suc i ≡ i + 1 = omega arith in
      new_is ∙ ap₂ (λ ds e. ds ++ e ∷ []) so_far.list_is is ∙ sym (one_more 28 i bytes) ∙ ap (λ n. declared_list 28 n bytes) next);
  rest = λ more there.
      (let place : 28 + 17 * i + 17 ≡ 28 + 17 * (i + 1) = omega arith in
      so_far.rest (suc more) (omega (arith, there))
      ∙ fault_after base before (28 + 17 * i) more bytes
      ∙ ap (λ f. or_else f (declared_fault base (Some (number_at w64 (28 + 17 * i) bytes)) (28 + 17 * i + 17) more bytes)) sound
      ∙ ap₂ (λ id n. declared_fault base (Some id) n more bytes) (sym (ap (λ (e : Declared). e.id) is)) place);
}

-- one that has a fault is the first
pub first_read : (base : ℕ) (before : Option ℕ) (count i : ℕ) (list : List Declared) (bytes : List ℕ) (fault : ImageFault) → IsReadTo base before count i list bytes → i < count
    → one_fault base before (28 + 17 * i) (declared_at (28 + 17 * i) bytes) ≡ Some fault → declared_fault base None 28 count bytes ≡ Some fault
first_read base before count i list bytes fault so_far within found =
    let left = count - i - 1 in
    so_far.rest (suc left) (omega (arith, within))
    ∙ fault_after base before (28 + 17 * i) left bytes
    ∙ ap (λ f. or_else f (declared_fault base (Some (number_at w64 (28 + 17 * i) bytes)) (28 + 17 * i + 17) left bytes)) found

pub all_read : (base : ℕ) (before : Option ℕ) (count i : ℕ) (list : List Declared) (bytes : List ℕ) → IsReadTo base before count i list bytes → i ≡ count
    → (list ≡ declared_list 28 count bytes) × (declared_fault base None 28 count bytes ≡ None)
unfolding declared_fault
all_read base before count i list bytes so_far end =
    (so_far.list_is ∙ ap (λ n. declared_list 28 n bytes) end, so_far.rest 0 (omega (arith, end)))

-- a declaration that is written in three pieces
pub three_pieces : (d : Declared) (old first second third id body : List ℕ) (kind : ℕ) → first ≡ old ++ id → second ≡ first ++ kind ∷ [] → third ≡ second ++ body
    → id ≡ to_be_bytes w64 d.id → kind ≡ d.unit.kind → body ≡ to_be_bytes w64 d.unit.body → third ≡ old ++ declared_bytes d
unfolding declared_bytes
three_pieces d old first second third id body kind a b c id_is kind_is body_is =
    c ∙ ap (λ xs. xs ++ body) (b ∙ ap (λ xs. xs ++ kind ∷ []) a)
    ∙ append_assoc (old ++ id) (kind ∷ []) body ∙ append_assoc old id (kind ∷ body)
    ∙ ap (λ xs. old ++ (xs ++ (kind ∷ body))) id_is
    ∙ ap₂ (λ k xs. old ++ (to_be_bytes w64 d.id ++ (k ∷ xs))) kind_is body_is
