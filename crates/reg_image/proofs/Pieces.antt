-- Numbers and bytes at a place of bytes.
use Rattle.std.proofs.Common.{◌≡◌, ℕ, suc, refl, ◌+◌, ◌^◌, ◌<◌, ◌≤◌, List, ◌∷◌, ◌++◌, length, get_or, take, drop, sym, ◌∙◌, ap, ap₂, subst, length-drop, drop-cons, arith, inl, inr}
use Rattle.std.specs.Int.{w32, w64, to_be_bytes, from_be_bytes}
use Rattle.std.proofs.lemmas.Nat.{be_bytes_4, be_bytes_8, from_be_bytes-to_be_bytes_4, from_be_bytes-to_be_bytes_8}
use Rattle.std.proofs.lemmas.Bool.{cases_lt}
use Rattle.std.proofs.lemmas.List.{take_at, drop_at, drop-drop, take-append-drop, length-take, length-take-le, get_or-drop, get_or-take, get_or_past, get_or-append-add}
use Rattle.reg_image.specs.ImageFaults.{number_at}

-- each is a byte, also the 0 that stands for those behind the end
abbrev pub AreBytes : List ℕ → Type 0
AreBytes bytes = (i : ℕ) → get_or bytes i 0 < 256

-- so many bytes from a place on
abbrev pub piece : ℕ → ℕ → List ℕ → List ℕ
piece len place bytes = take len (drop place bytes)

piece-range : (len place : ℕ) (bytes : List ℕ) → AreBytes bytes → AreBytes (piece len place bytes)
piece-range len place bytes range i =
    elim (cases_lt i len) [
      | inl lt ↦ subst (λ n. n < 256) (sym (get_or-take len (drop place bytes) i 0 lt ∙ get_or-drop place bytes i 0)) (range (place + i))
      | inr le ↦ subst (λ n. n < 256) (sym (get_or_past (piece len place bytes) i 0 (omega (arith, length-take len (drop place bytes), le)))) (omega arith)
    ]

length-piece : (len place : ℕ) (bytes : List ℕ) → place + len ≤ length bytes → length (piece len place bytes) ≡ len
length-piece len place bytes long = length-take-le len (drop place bytes) (omega (arith, length-drop place bytes, long))

-- ---- from bytes to numbers and back

-- a piece, and what stands behind it
pub piece-rest : (len place : ℕ) (bytes : List ℕ) → piece len place bytes ++ drop (place + len) bytes ≡ drop place bytes
piece-rest len place bytes = ap (λ rest. piece len place bytes ++ rest) (sym (drop-drop len place bytes)) ∙ take-append-drop len (drop place bytes)

pub number-rest : (place : ℕ) (bytes : List ℕ) → AreBytes bytes → place + 8 ≤ length bytes → to_be_bytes w64 (number_at w64 place bytes) ++ drop (place + 8) bytes ≡ drop place bytes
unfolding number_at
number-rest place bytes range long =
    ap (λ front. front ++ drop (place + 8) bytes) (be_bytes_8 (piece 8 place bytes) _ (length-piece 8 place bytes long) (piece-range 8 place bytes range) refl)
    ∙ piece-rest 8 place bytes

pub version-rest : (place : ℕ) (bytes : List ℕ) → AreBytes bytes → place + 4 ≤ length bytes → to_be_bytes w32 (number_at w32 place bytes) ++ drop (place + 4) bytes ≡ drop place bytes
unfolding number_at
version-rest place bytes range long =
    ap (λ front. front ++ drop (place + 4) bytes) (be_bytes_4 (piece 4 place bytes) _ (length-piece 4 place bytes long) (piece-range 4 place bytes range) refl)
    ∙ piece-rest 4 place bytes

pub byte-rest : (place : ℕ) (bytes : List ℕ) → place + 1 ≤ length bytes → get_or bytes place 0 ∷ drop (place + 1) bytes ≡ drop place bytes
byte-rest place bytes long =
    let next : suc place ≡ place + 1 = omega arith in
    ap (λ n. get_or bytes place 0 ∷ drop n bytes) (sym next) ∙ sym (drop-cons bytes place 0 (omega (arith, long)))

-- a number of eight bytes is below 2^64
pub number-small : (place : ℕ) (bytes : List ℕ) → AreBytes bytes → number_at w64 place bytes < 2 ^ 64
unfolding number_at
number-small place bytes range =
    let part = piece-range 8 place bytes range in
    omega (arith, part 0, part 1, part 2, part 3, part 4, part 5, part 6, part 7)

-- ---- from numbers to bytes and back

-- a number that was written is read at its place
pub number-found : (front rest bytes : List ℕ) (place n : ℕ) → n < 2 ^ 64 → length front ≡ place → bytes ≡ front ++ (to_be_bytes w64 n ++ rest) → number_at w64 place bytes ≡ n
unfolding number_at
number-found front rest bytes place n small len is =
    let there : piece 8 place bytes ≡ to_be_bytes w64 n = ap (λ xs. take 8 (drop place xs)) is ∙ ap (take 8) (drop_at front (to_be_bytes w64 n ++ rest) place len) ∙ take_at (to_be_bytes w64 n) rest 8 refl in
    ap (from_be_bytes w64) there ∙ from_be_bytes-to_be_bytes_8 n small

pub version-found : (front rest bytes : List ℕ) (place n : ℕ) → n < 2 ^ 32 → length front ≡ place → bytes ≡ front ++ (to_be_bytes w32 n ++ rest) → number_at w32 place bytes ≡ n
unfolding number_at
version-found front rest bytes place n small len is =
    let there : piece 4 place bytes ≡ to_be_bytes w32 n = ap (λ xs. take 4 (drop place xs)) is ∙ ap (take 4) (drop_at front (to_be_bytes w32 n ++ rest) place len) ∙ take_at (to_be_bytes w32 n) rest 4 refl in
    ap (from_be_bytes w32) there ∙ from_be_bytes-to_be_bytes_4 n small

pub byte-found : (front rest bytes : List ℕ) (place b : ℕ) → length front ≡ place → bytes ≡ front ++ (b ∷ rest) → get_or bytes place 0 ≡ b
byte-found front rest bytes place b len is =
    let there : place ≡ length front + 0 = omega (arith, len) in
    ap₂ (λ xs i. get_or xs i 0) is there ∙ get_or-append-add front (b ∷ rest) 0 0
