-- The generator's numbers, and the units that they make.
use Rattle.std.proofs.Common.{◌≡◌, ℕ, suc, ◌+◌, ◌*◌, ◌/◌, ◌%◌, ◌^◌, ◌<◌, List, [], ◌∷◌, ◌++◌, map, refl, sym, ◌∙◌, ap, ap₂, subst, arith, lit≤}
use Rattle.std.specs.Prelude.{slice_index, bit_xor}
use Rattle.std.specs.List.{range_with_len}
use Rattle.std.proofs.lemmas.List.FromFn.{get_or-map-range_with_len, map-range_with_len_more}
use Rattle.std.proofs.lemmas.Nat.{xor_lt}
use Rattle.std.proofs.Math.Nat.{mod-lt}
use Rattle.std.proofs.Math.Pow.{pow-lt, shr_lt}
use Rattle.iscc_header.specs.declared.unit.Unit64.{Unit64}
use Rattle.iscc_header.specs.Unit64s.{IsUnit64}
use Rattle.reg_model.specs.declared.call.Call.{Call}
use Rattle.reg_model.specs.declared.call.Call.TheVariants as calls
use Rattle.reg_make.specs.Generator.{next_number, number_after, centre, unit}
use Rattle.reg_make.specs.inner.Bodies.{centre_bodies}

-- one number more
pub next_after : (seed i : ℕ) → next_number (number_after seed i) ≡ number_after seed (i + 1)
unfolding number_after
next_after seed i = let same : i + 1 ≡ suc i = omega arith in sym (ap (number_after seed) same)

pub number_start : (seed : ℕ) → number_after seed 0 ≡ seed
unfolding number_after
number_start seed = refl

-- behind so many numbers, from the one before
pub number_next : (seed n m state next : ℕ) → state ≡ number_after seed n → next ≡ next_number state → n + 1 ≡ m → next ≡ number_after seed m
number_next seed n m state next here is more = is ∙ ap next_number here ∙ next_after seed n ∙ ap (number_after seed) more

-- a number behind the seed has 64 bits
pub number_below : (seed i j : ℕ) → i + 1 ≡ j → number_after seed j < 2 ^ 64
number_below seed i j more = subst (λ n. n < 2 ^ 64) (next_after seed i ∙ ap (number_after seed) more) (mod-lt (number_after seed i * 6364136223846793005 + 1442695040888963407) (lit≤ tt))

abbrev text_unit : ℕ → Unit64
text_unit body = record { kind = 6; body = body }

-- a unit, from the bodies of the centres and the number that its place comes from
pub unit_is : (seed i j state : ℕ) (bodies : List ℕ) → bodies ≡ centre_bodies seed → state ≡ number_after seed (16 + i) → j ≡ i
    → text_unit (bit_xor (slice_index bodies (j % 16)) (2 ^ (next_number state / 2 ^ 58))) ≡ unit seed i
unit_is seed i j state bodies are here same =
    let centre_body = get_or-map-range_with_len (λ k. number_after seed (k + 1)) 0 16 (i % 16) (i % 16) 0 (omega arith) (omega arith) in
    let body : slice_index bodies (j % 16) ≡ number_after seed (i % 16 + 1) = ap₂ (λ xs k. slice_index xs (k % 16)) are same ∙ centre_body in
    let more : 16 + i + 1 ≡ 17 + i = omega arith in
    let next : next_number state ≡ number_after seed (17 + i) = number_next seed (16 + i) (17 + i) state (next_number state) here refl more in
    ap₂ (λ b n. text_unit (bit_xor b (2 ^ (n / 2 ^ 58)))) body next

-- the calls of one declaration more
pub calls_more : (seed start i : ℕ) (old new : List Call) (declared : Unit64) → old ≡ map (λ j. calls.Declare (unit seed j)) (range_with_len start i) → declared ≡ unit seed (start + i)
    → new ≡ old ++ calls.Declare declared ∷ [] → new ≡ map (λ j. calls.Declare (unit seed j)) (range_with_len start (i + 1))
calls_more seed start i old new declared made is more =
    more ∙ ap₂ (λ xs u. xs ++ calls.Declare u ∷ []) made is ∙ sym (map-range_with_len_more (λ j. calls.Declare (unit seed j)) start i (start + i) refl)

place_below : (n : ℕ) → n < 2 ^ 64 → n / 2 ^ 58 < 64
place_below n low = shr_lt 6 58 low

-- units and centres are units of 64 bits
pub centre_fits : (seed j : ℕ) → IsUnit64 (centre seed j)
centre_fits seed j = record { kind = lit≤ tt; body = number_below seed j (j + 1) refl }

pub unit_fits : (seed i : ℕ) → IsUnit64 (unit seed i)
unit_fits seed i = record {
  kind = lit≤ tt;
  body = xor_lt 64 (number_after seed (i % 16 + 1)) (2 ^ (number_after seed (17 + i) / 2 ^ 58)) (number_below seed (i % 16) (i % 16 + 1) refl)
      (pow-lt (place_below (number_after seed (17 + i)) (number_below seed (16 + i) (17 + i) (omega arith))));
}
