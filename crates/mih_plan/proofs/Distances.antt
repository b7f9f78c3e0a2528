-- Distances of the high and the low bits of numbers.
use Rattle.std.proofs.Common.{◌≡◌, ℕ, ◌+◌, ◌-◌, ◌/◌, ◌%◌, ◌^◌, ◌<◌, ◌≤◌, List, [], ◌∷◌, ◌++◌, cond, refl, sym, ◌∙◌, ap, ap₂, subst, length, arith, inl, inr}
use Rattle.std.specs.Prelude.{◌==◌, Bool, true, false, not, count_by}
use Rattle.std.specs.List.{zip}
use Rattle.std.proofs.Math.Nat.{mod-lt, div-eq_of_lt, div-one}
use Rattle.std.proofs.lemmas.Nat.{pow_pos, shr_below}
use Rattle.std.proofs.lemmas.Bool.{cases_Bool}
use Rattle.std.proofs.lemmas.Bool.Decides.{same_from_decides, Decides-eqb, Decides-like}
use Rattle.std.proofs.lemmas.List.Sums.{sum_by-append, sum_by-cons}
use Rattle.iscc_header.specs.Bits.{bits_of, differs, hamming_distance, distance}
use Rattle.iscc_header.proofs.BitLists.{length-bits_of, bits_of-mod, bits_of_split, same_from_bits_of}

-- how many of the low bits of two numbers differ
abbrev pub apart : ℕ → ℕ → ℕ → ℕ
apart width a b = hamming_distance (bits_of width a) (bits_of width b)

zip-append : (a b c d : List ℕ) → length a ≡ length b → zip (a ++ c) (b ++ d) ≡ zip a b ++ zip c d
zip-append [] [] c d same = refl
zip-append [] (y ∷ b) c d same = absurd (omega (arith, same))
zip-append (x ∷ a) [] c d same = absurd (omega (arith, same))
zip-append (x ∷ a) (y ∷ b) c d same = ap (λ pairs. (x, y) ∷ pairs) (zip-append a b c d (omega (arith, same)))

-- the bits before, and those behind
hamming-append : (a b c d : List ℕ) → length a ≡ length b → hamming_distance (a ++ c) (b ++ d) ≡ hamming_distance a b + hamming_distance c d
hamming-append a b c d same =
    ap (count_by differs) (zip-append a b c d same) ∙ sum_by-append (λ pair. cond (differs pair) 1 0) (zip a b) (zip c d)

differs-sym : (x y : ℕ) → differs (x, y) ≡ differs (y, x)
differs-sym x y = ap not (same_from_decides (x == y) (y == x) (Decides-eqb x y) (Decides-like (y == x) (λ e. sym e) (λ e. sym e) (Decides-eqb y x)))

hamming-sym : (a b : List ℕ) → hamming_distance a b ≡ hamming_distance b a
hamming-sym [] [] = refl
hamming-sym [] (y ∷ b) = refl
hamming-sym (x ∷ a) [] = refl
hamming-sym (x ∷ a) (y ∷ b) =
    sum_by-cons (λ pair. cond (differs pair) 1 0) (x, y) (zip a b)
    ∙ ap₂ (λ test more. cond test 1 0 + more) (differs-sym x y) (hamming-sym a b)
    ∙ sym (sum_by-cons (λ pair. cond (differs pair) 1 0) (y, x) (zip b a))

hamming-same : (a : List ℕ) → hamming_distance a a ≡ 0
hamming-same [] = refl
hamming-same (x ∷ a) =
    sum_by-cons (λ pair. cond (differs pair) 1 0) (x, x) (zip a a) ∙ ap₂ (λ test more. cond (not test) 1 0 + more) (let at : x ≡ x = refl in (Decides-eqb x x).1 at) (hamming-same a)

-- the high bits, and the low ones
pub apart-split : (high low both a b : ℕ) → both ≡ high + low → apart both a b ≡ apart high (a / 2 ^ low) (b / 2 ^ low) + apart low a b
apart-split high low both a b is =
    ap₂ hamming_distance (bits_of_split high low both a is) (bits_of_split high low both b is)
    ∙ hamming-append (bits_of high (a / 2 ^ low)) (bits_of high (b / 2 ^ low)) (bits_of low a) (bits_of low b) (length-bits_of high (a / 2 ^ low) ∙ sym (length-bits_of high (b / 2 ^ low)))

pub distance-sym : (a b : ℕ) → distance a b ≡ distance b a
unfolding distance
distance-sym a b = hamming-sym (bits_of 64 a) (bits_of 64 b)

-- numbers of few bits differ in their low bits alone
pub distance-low : (width a b : ℕ) → width ≤ 64 → a < 2 ^ width → b < 2 ^ width → distance a b ≡ apart width a b
unfolding distance
distance-low width a b short a_low b_low =
    apart-split (64 - width) width 64 a b (omega arith)
    ∙ ap₂ (λ x y. apart (64 - width) x y + apart width a b) (div-eq_of_lt a_low) (div-eq_of_lt b_low)
    ∙ ap (λ none. none + apart width a b) (hamming-same (bits_of (64 - width) 0))
    ∙ omega arith

-- the low bits alone
pub distance-mod : (width a b : ℕ) → width ≤ 64 → distance (a % 2 ^ width) (b % 2 ^ width) ≡ apart width a b
distance-mod width a b short =
    distance-low width (a % 2 ^ width) (b % 2 ^ width) short (mod-lt a (pow_pos width)) (mod-lt b (pow_pos width))
    ∙ ap₂ hamming_distance (bits_of-mod width a) (bits_of-mod width b)

-- fewer bits differ no more
pub apart-le : (few many a b : ℕ) → few ≤ many → apart few a b ≤ apart many a b
apart-le few many a b le = omega (arith, apart-split (many - few) few many a b (omega arith))

-- the high bits, and the low ones
pub distance-split : (low a b : ℕ) → low ≤ 64 → a < 2 ^ 64 → b < 2 ^ 64 → distance a b ≡ distance (a / 2 ^ low) (b / 2 ^ low) + apart low a b
unfolding distance
distance-split low a b short a_range b_range =
    let whole : 64 ≡ 64 - low + low = omega arith in
    let a_high : a / 2 ^ low < 2 ^ (64 - low) = shr_below a (64 - low) low (subst (λ n. a < 2 ^ n) whole a_range) in
    let b_high : b / 2 ^ low < 2 ^ (64 - low) = shr_below b (64 - low) low (subst (λ n. b < 2 ^ n) whole b_range) in
    omega (arith, apart-split (64 - low) low 64 a b whole, distance-low (64 - low) (a / 2 ^ low) (b / 2 ^ low) (omega arith) a_high b_high)

-- one more place
one_more : (x y : ℕ) (a b : List ℕ) (same : Bool) → (x == y) ≡ same → hamming_distance (x ∷ a) (y ∷ b) ≡ cond (not same) 1 0 + hamming_distance a b
one_more x y a b same is = sum_by-cons (λ pair. cond (differs pair) 1 0) (x, y) (zip a b) ∙ ap (λ test. cond (not test) 1 0 + hamming_distance a b) is

-- bits that differ nowhere are the same
no_difference : (a b : List ℕ) → length a ≡ length b → hamming_distance a b ≡ 0 → a ≡ b
no_difference [] [] same none = refl
no_difference [] (y ∷ b) same none = absurd (omega (arith, same))
no_difference (x ∷ a) [] same none = absurd (omega (arith, same))
no_difference (x ∷ a) (y ∷ b) same none =
    elim (cases_Bool (x == y)) [
      | inl equal ↦ ap₂ (λ n ns. n ∷ ns) ((Decides-eqb x y).0 equal) (no_difference a b (omega (arith, same)) (omega (arith, one_more x y a b true equal, none)))
      | inr other ↦ absurd (omega (arith, one_more x y a b false other, none))
    ]

-- no low bit differs in numbers with the same low bits, and in no others
pub apart-none : (width a b : ℕ) → apart width a b ≡ 0 → a % 2 ^ width ≡ b % 2 ^ width
apart-none width a b none =
    same_from_bits_of width (a % 2 ^ width) (b % 2 ^ width) (mod-lt a (pow_pos width)) (mod-lt b (pow_pos width))
    (bits_of-mod width a ∙ no_difference (bits_of width a) (bits_of width b) (length-bits_of width a ∙ sym (length-bits_of width b)) none ∙ sym (bits_of-mod width b))

pub apart-same : (width a b : ℕ) → a % 2 ^ width ≡ b % 2 ^ width → apart width a b ≡ 0
apart-same width a b same =
    ap (λ bits. hamming_distance bits (bits_of width b)) (sym (bits_of-mod width a) ∙ ap (bits_of width) same ∙ bits_of-mod width b) ∙ hamming-same (bits_of width b)

-- the four substrings
pub four_substrings : (a b : ℕ) → distance a b
    ≡ apart 16 (a / 2 ^ 48) (b / 2 ^ 48) + apart 16 (a / 2 ^ 32) (b / 2 ^ 32) + apart 16 (a / 2 ^ 16) (b / 2 ^ 16) + apart 16 (a / 2 ^ 0) (b / 2 ^ 0)
unfolding distance
four_substrings a b =
    let last : apart 16 (a / 2 ^ 0) (b / 2 ^ 0) ≡ apart 16 a b = ap₂ (apart 16) (div-one a) (div-one b) in
    omega (arith, apart-split 16 48 64 a b refl, apart-split 16 32 48 a b refl, apart-split 16 16 32 a b refl, last)
