use Rattle.std.proofs.Common.{◌≡◌, true, false, ℕ, zero, suc, refl, ◌+◌, ◌<◌, ◌≤◌, ◌^◌, ◌/◌, ◌∷◌, ◌∙◌, sym, ap₂, subst, arith, inr}
use Rattle.std.specs.Prelude.{◌⊎◌}
use Rattle.std.proofs.lemmas.Bool.{false≢true}
use Rattle.iscc_header.specs.Bits.{distance}
use Rattle.mih_plan.specs.inner.Walks.{near_from, start_of}
use Rattle.mih_plan.proofs.Blocks.{pass_block, enter_block, one_near, bucket_is, bucket_low, block_fits, none_left, inside, outside, pass_steps, enter_steps}
use Rattle.mih_plan.proofs.search.first_near.Goals as goal

pub loop-block-preserved-then-apart-limit : goal.loop-block-preserved-then-apart-limit
loop-block-preserved-then-apart-limit c =
    let block = c.loop-block.block in
    let after = c.block_after-block.result in
    let far : c.args.limit ≤ distance block.common (c.args.centre / 2 ^ block.height) = omega (arith, c.distance-apart.ensures.value, c.if-apart-limit.true) in
    pass_block c.args.centre c.args.limit (start_of c.args.from) c.args.bits block.common block.height after.common after.height c.requires.bits c.requires.centre c.loop-block.invariant
    (inside c.args.bits (start_of block) c.requires.bits c.loop-block.invariant.within c.loop-block-test.true) far c.block_after-block.ensures.start c.block_after-block.ensures.height

pub returns-then-has_one_near-clause-found : goal.returns-then-has_one_near-clause-found
returns-then-has_one_near-clause-found c =
    let block = c.loop-block.block in
    let low = inside c.args.bits (start_of block) c.requires.bits c.loop-block.invariant.within c.loop-block-test.true in
    let near : distance block.common (c.args.centre / 2 ^ block.height) < c.args.limit = omega (arith, c.distance-apart.ensures.value, c.if-apart-limit.false) in
    let one : (distance block.common (c.args.centre / 2 ^ block.height) + 1 ≡ c.args.limit) ⊎ (block.height ≡ 0) =
    subst (λ apart. (apart + 1 ≡ c.args.limit) ⊎ (block.height ≡ 0)) c.distance-apart.ensures.value (c.if-has_one_near.ensures.0 refl) in
    one_near c.args.centre c.args.limit (start_of c.args.from) c.args.bits block.common block.height c.requires.bits c.requires.centre c.loop-block.invariant low near one
    ∙ ap₂ (λ bucket start. bucket ∷ near_from c.args.centre c.args.limit start c.args.bits) (sym (bucket_is c.args.bits block.common block.height c.args.centre c.requires.bits c.loop-block.invariant.low low))
    (sym c.block_after-next.ensures.start)

pub returns-then-has_one_near-clause-bucket : goal.returns-then-has_one_near-clause-bucket
returns-then-has_one_near-clause-bucket c =
    let block = c.loop-block.block in
    let low = inside c.args.bits (start_of block) c.requires.bits c.loop-block.invariant.within c.loop-block-test.true in
    subst (λ bucket. bucket < 2 ^ c.args.bits) (sym (bucket_is c.args.bits block.common block.height c.args.centre c.requires.bits c.loop-block.invariant.low low))
    (bucket_low c.args.bits block.common block.height c.args.centre c.loop-block.invariant.low low)

pub returns-then-has_one_near-clause-start : goal.returns-then-has_one_near-clause-start
returns-then-has_one_near-clause-start c =
    let block = c.loop-block.block in
    let low = inside c.args.bits (start_of block) c.requires.bits c.loop-block.invariant.within c.loop-block-test.true in
    subst (λ start. start ≤ 2 ^ c.args.bits) (sym c.block_after-next.ensures.start) (block_fits c.args.bits block.common block.height c.loop-block.invariant.low low)

pub loop-block-smaller-then-apart-limit : goal.loop-block-smaller-then-apart-limit
loop-block-smaller-then-apart-limit c =
    let block = c.loop-block.block in
    let after = c.block_after-block.result in
    pass_steps c.args.bits block.common block.height after.common after.height (inside c.args.bits (start_of block) c.requires.bits c.loop-block.invariant.within c.loop-block-test.true)
    c.block_after-block.ensures.start c.block_after-block.ensures.step

-- a height that isn't 0
some_left : (height : ℕ) → (height ≡ 0 → false ≡ true) → 0 < height
some_left zero other = absurd (let none : zero ≡ 0 = refl in false≢true (other none))
some_left (suc height) other = omega arith

pub loop-block-smaller : goal.loop-block-smaller
loop-block-smaller c = enter_steps c.args.bits c.loop-block.block.common c.loop-block.block.height (some_left c.loop-block.block.height (λ bottom. c.if-has_one_near.ensures.1 (inr bottom)))

pub loop-block-preserved : goal.loop-block-preserved
loop-block-preserved c =
    enter_block c.args.centre c.args.limit (start_of c.args.from) c.args.bits c.loop-block.block.common c.loop-block.block.height c.loop-block.invariant
    (some_left c.loop-block.block.height (λ bottom. c.if-has_one_near.ensures.1 (inr bottom)))

pub returns-clause-none : goal.returns-clause-none
returns-clause-none c =
    none_left c.args.centre c.args.limit (start_of c.args.from) c.args.bits c.loop-block.block.common c.loop-block.block.height c.loop-block.invariant
    (outside c.args.bits (start_of c.loop-block.block) c.requires.bits c.loop-block.invariant.within c.loop-block-test.false)
