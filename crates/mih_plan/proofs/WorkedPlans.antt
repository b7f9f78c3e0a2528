-- Worked examples: buckets of a body, and small plans.
use Rattle.std.proofs.Common.{◌≡◌, [], ◌∷◌, refl}
use Rattle.iscc_header.specs.Bits.{bits_of, distance}
use Rattle.mih_plan.specs.Buckets.{bucket_of, probe, plan}

first_bucket : bucket_of 0xFEDC_BA98_7654_3210 0 12 ≡ 0xEDC
first_bucket = refl

last_bucket : bucket_of 0xFEDC_BA98_7654_3210 3 12 ≡ 0x210
last_bucket = refl

-- the first table within one bit, and the own bucket in each other
radius_four : plan 0 4 4 ≡ probe 0 0 ∷ probe 0 1 ∷ probe 0 2 ∷ probe 0 4 ∷ probe 0 8 ∷ probe 1 0 ∷ probe 2 0 ∷ probe 3 0 ∷ []
unfolding plan distance bits_of
radius_four = refl

-- the own bucket in the first three tables
radius_two : plan 0xFEDC_BA98_7654_3210 2 4 ≡ probe 0 12 ∷ probe 1 8 ∷ probe 2 4 ∷ []
unfolding plan distance bits_of
radius_two = refl
