-- Blocks of buckets: a search goes over them from left to right.
use Rattle.std.proofs.Common.{◌≡◌, ℕ, suc, ◌+◌, ◌-◌, ◌*◌, ◌/◌, ◌%◌, ◌^◌, ◌<◌, ◌≤◌, ◌≢◌, false, [], ◌∷◌, refl, sym, ◌∙◌, ap, ap₂, filter, arith, inl, inr}
use Rattle.std.specs.Prelude.{nat_lt, ◌⊎◌}
use Rattle.std.specs.List.{range_with_len}
use Rattle.std.proofs.Math.Nat.{mod-lt, pow-suc}
use Rattle.std.proofs.lemmas.Nat.{pow_pos, pow-add, div_below, le-div, row_fits, mod_low, shr_split}
use Rattle.std.proofs.lemmas.Bool.{lt-ltb, le-ltb, cases_lt}
use Rattle.iscc_header.specs.Bits.{distance}
use Rattle.mih_plan.specs.inner.Walks.{near_from}
use Rattle.mih_plan.proofs.Distances.{apart, distance-split, apart-none, apart-same}
use Rattle.mih_plan.proofs.Walking.{passed_over, first_passes}

-- no bucket before this block is near
pub record IsSearched (centre limit from bits common height : ℕ) : Type 0 where
  pub low : height ≤ bits
  pub within : common * 2 ^ height ≤ 2 ^ bits
  pub rest : near_from centre limit from bits ≡ near_from centre limit (common * 2 ^ height) bits

double : (n k : ℕ) → n * 2 ^ suc k ≡ n * 2 * 2 ^ k
double n k = ap (λ p. n * p) (pow-suc 2 k) ∙ omega arith

-- two blocks together begin where the first does
joined : (common height : ℕ) → common % 2 ≡ 0 → common * 2 ^ height ≡ common / 2 * 2 ^ (height + 1)
joined common height even =
    ap (λ b. b * 2 ^ height) (let halves : common ≡ common / 2 * 2 = omega (arith, even) in halves)
    ∙ sym (double (common / 2) height)
    ∙ ap (λ h. common / 2 * 2 ^ h) (let next : suc height ≡ height + 1 = omega arith in next)

-- the first half of a block begins where it does
entered : (common height : ℕ) → 0 < height → common * 2 ^ height ≡ common * 2 * 2 ^ (height - 1)
entered common height high =
    ap (λ h. common * 2 ^ h) (let next : height ≡ suc (height - 1) = omega (arith, high) in next) ∙ double common (height - 1)

-- the powers of two up to 16 bits
pub pow_most : (bits : ℕ) → bits ≤ 16 → 2 ^ bits ≤ 65536
pow_most bits few =
    let parts : 2 ^ 16 ≡ 2 ^ (16 - bits) * 2 ^ bits = ap (λ n. 2 ^ n) (let sum : 16 ≡ 16 - bits + bits = omega arith in sum) ∙ pow-add 2 (16 - bits) bits in
    omega (arith, parts, row_fits 0 (2 ^ bits) (2 ^ (16 - bits)) (2 ^ bits) (pow_pos (16 - bits)) (omega arith))

-- nothing is searched
pub begin_search : (centre limit bits common height : ℕ) → height ≤ bits → common * 2 ^ height ≤ 2 ^ bits → IsSearched centre limit (common * 2 ^ height) bits common height
begin_search centre limit bits common height low within = record { low = low; within = within; rest = refl }

-- a block that begins below the end ends there at most
pub block_fits : (bits common height : ℕ) → height ≤ bits → common * 2 ^ height < 2 ^ bits → common * 2 ^ height + 2 ^ height ≤ 2 ^ bits
block_fits bits common height low inside =
    let size = 2 ^ height in
    let blocks : 2 ^ bits ≡ 2 ^ (bits - height) * size =
    ap (λ n. 2 ^ n) (let sum : bits ≡ bits - height + height = omega (arith, low) in sum) ∙ pow-add 2 (bits - height) height in
    omega (arith, blocks, row_fits common size (2 ^ (bits - height)) size (column common size (2 ^ (bits - height)) (pow_pos height) (omega arith)) (omega arith))
  where
    column : (b s n : ℕ) → 0 < s → b * s < n * s → b < n
    column b s n pos lt = grind arith

-- what numbers of a block have in common
block_of : (x size common : ℕ) → 0 < size → common * size ≤ x → x < common * size + size → x / size ≡ common
block_of x size common pos low high = omega (arith, le-div common x size pos low, div_below x size (common + 1) pos (omega arith))

-- how many bits differ in a bucket of a block: the common ones, and the others
in_block : (centre bits common height x : ℕ) → bits ≤ 16 → centre < 2 ^ bits → height ≤ bits → common * 2 ^ height < 2 ^ bits
    → common * 2 ^ height ≤ x → x < common * 2 ^ height + 2 ^ height → distance x centre ≡ distance common (centre / 2 ^ height) + apart height x centre
in_block centre bits common height x few centre_range low inside above below =
    let most : 2 ^ bits ≤ 65536 = pow_most bits few in
    let fits = block_fits bits common height low inside in
    distance-split height x centre (omega arith) (omega arith) (omega arith)
    ∙ ap (λ b. distance b (centre / 2 ^ height) + apart height x centre) (block_of x (2 ^ height) common (pow_pos height) above below)

-- a block whose common bits differ in too many places is passed
pub pass_block : (centre limit from bits common height common' height' : ℕ) → bits ≤ 16 → centre < 2 ^ bits → IsSearched centre limit from bits common height → common * 2 ^ height < 2 ^ bits
    → limit ≤ distance common (centre / 2 ^ height) → common' * 2 ^ height' ≡ common * 2 ^ height + 2 ^ height → height' ≤ bits → IsSearched centre limit from bits common' height'
unfolding near_from
pass_block centre limit from bits common height common' height' few centre_range so_far inside far next low =
    let fits = block_fits bits common height so_far.low inside in
    record {
      low = low;
      within = omega (arith, next, fits);
      rest =
          so_far.rest
          ∙ passed_over (λ bucket. nat_lt (distance bucket centre) limit) (common * 2 ^ height) (common' * 2 ^ height') (2 ^ bits) (omega arith) (omega (arith, next, fits))
          (λ x above below. le-ltb (distance x centre) limit (omega (arith, far, in_block centre bits common height x few centre_range so_far.low inside above (omega arith))));
    }

-- the first half of a block
pub enter_block : (centre limit from bits common height : ℕ) → IsSearched centre limit from bits common height → 0 < height
    → IsSearched centre limit from bits (common * 2) (height - 1)
enter_block centre limit from bits common height so_far high =
    let same = entered common height high in
    record { low = omega (arith, so_far.low); within = omega (arith, same, so_far.within); rest = so_far.rest ∙ ap (λ start. near_from centre limit start bits) same }

-- in a block where no more bits may differ, or none is left, the bucket with the lowest bits of the centre is the one that is near
pub one_near : (centre limit from bits common height : ℕ) → bits ≤ 16 → centre < 2 ^ bits → IsSearched centre limit from bits common height → common * 2 ^ height < 2 ^ bits
    → distance common (centre / 2 ^ height) < limit → (distance common (centre / 2 ^ height) + 1 ≡ limit) ⊎ (height ≡ 0)
    → near_from centre limit from bits ≡ (common * 2 ^ height + centre % 2 ^ height) ∷ near_from centre limit (common * 2 ^ height + 2 ^ height) bits
unfolding near_from
one_near centre limit from bits common height few centre_range so_far inside near one =
    let size = 2 ^ height in
    let start = common * size in
    let bucket = start + centre % size in
    let test = λ (x : ℕ). nat_lt (distance x centre) limit in
    let fits : start + size ≤ 2 ^ bits = block_fits bits common height so_far.low inside in
    let low : centre % size < size = mod-lt centre (pow_pos height) in
    let its_bits : apart height bucket centre ≡ 0 = apart-same height bucket centre (mod_low common height (centre % size) low) in
    let is_near : distance bucket centre < limit = omega (arith, its_bits, near, in_block centre bits common height bucket few centre_range so_far.low inside (omega arith) (omega arith)) in
    let others : (x : ℕ) → start ≤ x → x < start + size → x ≢ bucket → test x ≡ false =
    λ x above below other. le-ltb (distance x centre) limit
    (omega (arith, in_block centre bits common height x few centre_range so_far.low inside above below, only x above below other one)) in
    so_far.rest
    ∙ passed_over test start bucket (2 ^ bits) (omega arith) (omega arith) (λ x above below. others x above (omega arith) (omega arith))
    ∙ first_passes test bucket (2 ^ bits) (omega arith) (lt-ltb (distance bucket centre) limit is_near)
    ∙ ap (λ xs. bucket ∷ xs) (passed_over test (bucket + 1) (start + size) (2 ^ bits) (omega arith) fits (λ x above below. others x (omega arith) below (omega arith)))
  where
    some_differ : (x : ℕ) → common * 2 ^ height ≤ x → x < common * 2 ^ height + 2 ^ height → x ≢ common * 2 ^ height + centre % 2 ^ height → 0 < apart height x centre
    some_differ x above below other =
        elim (cases_lt 0 (apart height x centre)) [
          | inl some ↦ some
          | inr none ↦ absurd (other
              (let same : x % 2 ^ height ≡ centre % 2 ^ height = apart-none height x centre (omega (arith, none)) in
              let high : x / 2 ^ height ≡ common = block_of x (2 ^ height) common (pow_pos height) above below in
              sym (shr_split x height) ∙ ap₂ (λ h l. h * 2 ^ height + l) high same))
        ]

    only : (x : ℕ) → common * 2 ^ height ≤ x → x < common * 2 ^ height + 2 ^ height → x ≢ common * 2 ^ height + centre % 2 ^ height
        → (distance common (centre / 2 ^ height) + 1 ≡ limit) ⊎ (height ≡ 0) → limit ≤ distance common (centre / 2 ^ height) + apart height x centre
    only x above below other (inl last) = omega (arith, last, some_differ x above below other)
    only x above below other (inr bottom) = absurd (other (let one : 2 ^ height ≡ 1 = ap (λ h. 2 ^ h) bottom in omega (arith, mod-lt centre (pow_pos height), above, below, one)))

-- its bucket as the program counts it
pub bucket_is : (bits common height centre : ℕ) → bits ≤ 16 → height ≤ bits → common * 2 ^ height < 2 ^ bits
    → common * 2 ^ height % 2 ^ 32 + centre % (1 * 2 ^ height % 2 ^ 32) ≡ common * 2 ^ height + centre % 2 ^ height
bucket_is bits common height centre few low inside =
    let most : 2 ^ bits ≤ 65536 = pow_most bits few in
    let size_most : 2 ^ height ≤ 65536 = pow_most height (omega arith) in
    let size : 1 * 2 ^ height % 2 ^ 32 ≡ 2 ^ height = omega arith in
    let start : common * 2 ^ height % 2 ^ 32 ≡ common * 2 ^ height = omega arith in
    ap₂ (λ s n. s + centre % n) start size

pub bucket_low : (bits common height centre : ℕ) → height ≤ bits → common * 2 ^ height < 2 ^ bits → common * 2 ^ height + centre % 2 ^ height < 2 ^ bits
bucket_low bits common height centre low inside = omega (arith, block_fits bits common height low inside, mod-lt centre (pow_pos height))

-- the block behind one
behind : (common height : ℕ) → (common + 1) * 2 ^ height ≡ common * 2 ^ height + 2 ^ height
behind common height = omega arith

-- of two halves together
pub behind_joined : (common height next : ℕ) → next % 2 ≡ 0 → next ≡ common + 1 → next / 2 * 2 ^ (height + 1) ≡ common * 2 ^ height + 2 ^ height
behind_joined common height next even is = sym (joined next height even) ∙ ap (λ n. n * 2 ^ height) is ∙ behind common height

-- no block is left
pub none_left : (centre limit from bits common height : ℕ) → IsSearched centre limit from bits common height → 2 ^ bits ≤ common * 2 ^ height → near_from centre limit from bits ≡ []
unfolding near_from
none_left centre limit from bits common height so_far past =
    so_far.rest
    ∙ ap (λ n. filter (λ bucket. nat_lt (distance bucket centre) limit) (range_with_len (common * 2 ^ height) n)) (let none : 2 ^ bits - common * 2 ^ height ≡ 0 = omega arith in none)

-- the test of the search's loop
pub inside : (bits pos : ℕ) → bits ≤ 16 → pos ≤ 2 ^ bits → pos % 2 ^ 32 < 1 * 2 ^ bits % 2 ^ 32 → pos < 2 ^ bits
inside bits pos few within test = omega (arith, pow_most bits few, within, test)

pub outside : (bits pos : ℕ) → bits ≤ 16 → pos ≤ 2 ^ bits → 1 * 2 ^ bits % 2 ^ 32 ≤ pos % 2 ^ 32 → 2 ^ bits ≤ pos
outside bits pos few within test = omega (arith, pow_most bits few, within, test)

-- how far the end is: twice the buckets that are left, and the height
abbrev pub steps_left : ℕ → ℕ → ℕ → ℕ
steps_left bits common height = (2 ^ bits - common * 2 ^ height) * 2 + height

pub pass_steps : (bits common height common' height' : ℕ) → common * 2 ^ height < 2 ^ bits → common' * 2 ^ height' ≡ common * 2 ^ height + 2 ^ height → height' ≤ height + 1
    → steps_left bits common' height' < steps_left bits common height
pass_steps bits common height common' height' inside next step = omega (arith, next, pow_pos height, inside, step)

pub enter_steps : (bits common height : ℕ) → 0 < height → steps_left bits (common * 2) (height - 1) < steps_left bits common height
enter_steps bits common height high = omega (arith, entered common height high, high)
