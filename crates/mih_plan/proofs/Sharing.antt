-- Near bodies share a probe.
use Rattle.std.proofs.Common.{◌≡◌, ℕ, zero, suc, ◌+◌, ◌-◌, ◌*◌, ◌/◌, ◌%◌, ◌^◌, ◌<◌, ◌≤◌, true, [], ◌∷◌, ◌++◌, sym, ◌∙◌, ap, subst, map, filter, arith, inl, inr}
use Rattle.std.specs.Prelude.{nat_le, if◌then◌else◌, Contains}
use Rattle.std.specs.List.{range_with_len}
use Rattle.std.proofs.Math.Nat.{mod-lt}
use Rattle.std.proofs.lemmas.Nat.{pow_pos}
use Rattle.std.proofs.lemmas.Bool.{cases_lt, lt-ltb}
use Rattle.std.proofs.lemmas.List.{map-append}
use Rattle.std.proofs.lemmas.List.Elements.{filter-append, Contains-get_or, Contains-append_left, Contains-append_right}
use Rattle.iscc_header.specs.Bits.{distance}
use Rattle.mih_plan.specs.declared.probe.Probe.{Probe}
use Rattle.mih_plan.specs.Buckets.{bucket_of, is_probe, probe, table_probes, plan}
use Rattle.mih_plan.specs.Laws.{PlanMeets}
use Rattle.mih_plan.specs.inner.Walks.{limit_of}
use Rattle.mih_plan.proofs.Distances.{apart, apart-le, distance-mod, distance-sym, four_substrings}
use Rattle.mih_plan.proofs.Walking.{range-append, first_passes}
use Rattle.mih_plan.proofs.Tables.{probe_by_limit}

-- the limits of the four tables are one more than the radius together
limits : (q a : ℕ) → a < 4
    → (if nat_le 0 a then q + 1 else q) + (if nat_le 1 a then q + 1 else q) + (if nat_le 2 a then q + 1 else q) + (if nat_le 3 a then q + 1 else q) ≡ 4 * q + a + 1
limits q zero low = omega arith
limits q (suc zero) low = omega arith
limits q (suc (suc zero)) low = omega arith
limits q (suc (suc (suc zero))) low = omega arith
limits q (suc (suc (suc (suc a)))) low = absurd (omega arith)

four_limits : (radius : ℕ) → limit_of radius 0 + limit_of radius 1 + limit_of radius 2 + limit_of radius 3 ≡ radius + 1
four_limits radius = limits (radius / 4) (radius % 4) (omega arith) ∙ omega arith

-- a bucket that passes is a probe of its table
pub in_table : (body radius bits table bucket : ℕ) → bucket < 2 ^ bits → is_probe body radius bits table bucket ≡ true → Contains (table_probes body radius bits table) (probe table bucket)
in_table body radius bits table bucket low passes =
    let test = is_probe body radius bits table in
    let before = filter test (range_with_len 0 bucket) in
    let behind = filter test (range_with_len (bucket + 1) (2 ^ bits - (bucket + 1))) in
    let parts : filter test (range_with_len 0 (2 ^ bits)) ≡ before ++ bucket ∷ behind =
    ap (λ n. filter test (range_with_len 0 n)) (let sum : 2 ^ bits ≡ bucket + (2 ^ bits - bucket) = omega arith in sum)
    ∙ ap (filter test) (range-append 0 bucket (2 ^ bits - bucket))
    ∙ filter-append test (range_with_len 0 bucket) (range_with_len (0 + bucket) (2 ^ bits - bucket))
    ∙ ap (λ from. before ++ filter test (range_with_len from (2 ^ bits - bucket))) (let same : 0 + bucket ≡ bucket = omega arith in same)
    ∙ ap (λ xs. before ++ xs) (first_passes test bucket (2 ^ bits) low passes) in
    subst (λ xs. Contains xs (probe table bucket)) (sym (ap (map (probe table)) parts ∙ map-append (probe table) before (bucket ∷ behind)))
    (Contains-append_right (map (probe table) before) (probe table bucket ∷ map (probe table) behind) (probe table bucket)
    (Contains-get_or (probe table bucket ∷ map (probe table) behind) 0 (probe table bucket) (omega arith)))

-- and of the plan
pub in_plan : (body radius bits table : ℕ) (found : Probe) → table < 4 → Contains (table_probes body radius bits table) found → Contains (plan body radius bits) found
unfolding plan
in_plan body radius bits zero found low has =
    Contains-append_left (table_probes body radius bits 0) (table_probes body radius bits 1 ++ (table_probes body radius bits 2 ++ (table_probes body radius bits 3 ++ []))) found has
in_plan body radius bits (suc zero) found low has =
    Contains-append_right (table_probes body radius bits 0) (table_probes body radius bits 1 ++ (table_probes body radius bits 2 ++ (table_probes body radius bits 3 ++ []))) found
    (Contains-append_left (table_probes body radius bits 1) (table_probes body radius bits 2 ++ (table_probes body radius bits 3 ++ [])) found has)
in_plan body radius bits (suc (suc zero)) found low has =
    Contains-append_right (table_probes body radius bits 0) (table_probes body radius bits 1 ++ (table_probes body radius bits 2 ++ (table_probes body radius bits 3 ++ []))) found
    (Contains-append_right (table_probes body radius bits 1) (table_probes body radius bits 2 ++ (table_probes body radius bits 3 ++ [])) found
    (Contains-append_left (table_probes body radius bits 2) (table_probes body radius bits 3 ++ []) found has))
in_plan body radius bits (suc (suc (suc zero))) found low has =
    Contains-append_right (table_probes body radius bits 0) (table_probes body radius bits 1 ++ (table_probes body radius bits 2 ++ (table_probes body radius bits 3 ++ []))) found
    (Contains-append_right (table_probes body radius bits 1) (table_probes body radius bits 2 ++ (table_probes body radius bits 3 ++ [])) found
    (Contains-append_right (table_probes body radius bits 2) (table_probes body radius bits 3 ++ []) found
    (Contains-append_left (table_probes body radius bits 3) [] found has)))
in_plan body radius bits (suc (suc (suc (suc table)))) found low has = absurd (omega arith)

-- substrings that differ in fewer bits than the limit
meets_in : (body other radius bits table : ℕ) → bits ≤ 16 → table < 4 → apart 16 (other / 2 ^ (48 - 16 * table)) (body / 2 ^ (48 - 16 * table)) < limit_of radius table → PlanMeets radius bits body other
meets_in body other radius bits table few low near =
    let mine = body / 2 ^ (48 - 16 * table) in
    let its = other / 2 ^ (48 - 16 * table) in
    let nearer : distance (bucket_of other table bits) (bucket_of body table bits) < limit_of radius table =
    omega (arith, distance-mod bits its mine (omega arith), apart-le bits 16 its mine few, near) in (
      table,
      low,
      in_plan body radius bits table (probe table (bucket_of other table bits)) low
          (in_table body radius bits table (bucket_of other table bits) (mod-lt its (pow_pos bits))
          (probe_by_limit body radius bits table (bucket_of other table bits) ∙ lt-ltb (distance (bucket_of other table bits) (bucket_of body table bits)) (limit_of radius table) nearer)),
    )

-- substrings that all differ in the limit of their table or more are those of bodies farther apart
meets : (body other radius bits : ℕ) → bits ≤ 16 → distance other body ≤ radius → PlanMeets radius bits body other
meets body other radius bits few near =
    elim (cases_lt (apart 16 (other / 2 ^ 48) (body / 2 ^ 48)) (limit_of radius 0)) [
      | inl first ↦ meets_in body other radius bits 0 few (omega arith) first
      | inr far_0 ↦ elim (cases_lt (apart 16 (other / 2 ^ 32) (body / 2 ^ 32)) (limit_of radius 1)) [
        | inl second ↦ meets_in body other radius bits 1 few (omega arith) second
        | inr far_1 ↦ elim (cases_lt (apart 16 (other / 2 ^ 16) (body / 2 ^ 16)) (limit_of radius 2)) [
          | inl third ↦ meets_in body other radius bits 2 few (omega arith) third
          | inr far_2 ↦ elim (cases_lt (apart 16 (other / 2 ^ 0) (body / 2 ^ 0)) (limit_of radius 3)) [
            | inl fourth ↦ meets_in body other radius bits 3 few (omega arith) fourth
            | inr far_3 ↦ absurd (omega (arith, four_substrings other body, four_limits radius, near, far_0, far_1, far_2, far_3))
          ]
        ]
      ]
    ]

pub both_meet : (a b radius bits : ℕ) → bits ≤ 16 → distance a b ≤ radius → PlanMeets radius bits a b × PlanMeets radius bits b a
both_meet a b radius bits few near = (meets a b radius bits few (omega (arith, distance-sym a b, near)), meets b a radius bits few near)
