-- A list of words as its elements, each read at its place.
use Rattle.std.proofs.Common.{◌≡◌, ℕ, zero, suc, ◌+◌, ◌*◌, ◌<◌, ◌≤◌, List, [], ◌∷◌, ◌++◌, length, take, drop, slice_index, arith, add-one, drop-cons, refl}
use Rattle.std.proofs.lemmas.List.{drop_all, take_more, append-nil}
use Rattle.std.proofs.lemmas.Slice.{take-put_mid}
use Rattle.std.proofs.lemmas.Grind.{flat_map-append}
use Rattle.std.specs.List.{flat_map}
use Rattle.std.specs.Int.{to_le_bytes, w32}
use borrow.Rule.Slice.PartMut.{put_mid}

-- the n elements from place i on
abbrev pub elements_from : List ℕ → ℕ → ℕ → List ℕ
elements_from xs i zero = []
elements_from xs i (suc n) = slice_index xs i ∷ elements_from xs (i + 1) n

pub drop-elements_from : (xs : List ℕ) (i n : ℕ) → i + n ≡ length xs → drop i xs ≡ elements_from xs i n
drop-elements_from xs i zero h = drop_all i xs (omega arith)
drop-elements_from xs i (suc n) h =
    let within : i < length xs = omega arith in
    let rest : drop (i + 1) xs ≡ elements_from xs (i + 1) n = drop-elements_from xs (i + 1) n (omega arith) in
    rw (drop-cons xs i 0, ← add-one, rest) refl

-- the bytes of one word more
pub to_le_bytes-more : (out words ys : List ℕ) (i k : ℕ) → take (4 * i) out ≡ flat_map (to_le_bytes w32) (take i words)
    → 4 * i ≤ length out → i < length words → ys ≡ to_le_bytes w32 (slice_index words i)
    → take (4 * (i + 1)) (put_mid (4 * i) k out ys) ≡ flat_map (to_le_bytes w32) (take (i + 1) words)
to_le_bytes-more out words ys i k held fits within e =
    let four : length ys ≡ 4 = rw e refl in
    let front : take (4 * (i + 1)) (put_mid (4 * i) k out ys) ≡ take (4 * i) out ++ ys = take-put_mid (4 * i) k out ys (4 * (i + 1)) (omega arith) fits in
    rw (front, held, e, take_more words i 0 within, flat_map-append, append-nil) refl
