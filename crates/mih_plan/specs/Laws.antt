-- What plans tell.
use Rattle.std.specs.Prelude.{◌≡◌, ◌⊎◌, ◌↔◌, ℕ, ◌<◌, ◌≤◌, ◌^◌, AllPairs, Contains, IsTrue}
use Rattle.iscc_header.specs.Bits.{distance}
use Rattle.mih_plan.specs.declared.probe.Probe.{Probe}
use Rattle.mih_plan.specs.Buckets.{bucket_of, is_probe, probe, plan}

-- the plan of one body has a probe whose bucket is the other's in that table
abbrev pub PlanMeets : ℕ → ℕ → ℕ → ℕ → Type 0
PlanMeets radius bits body other = (table : ℕ) × (table < 4) × Contains (plan body radius bits) (probe table (bucket_of other table bits))

-- two bodies that differ in no more bits than the radius: the plan of either meets the other
abbrev pub NearBodiesShareAProbe : Type 0
NearBodiesShareAProbe = (a b radius bits : ℕ) → bits ≤ 16 → distance a b ≤ radius → PlanMeets radius bits a b × PlanMeets radius bits b a

-- a probe in an earlier table, or of a lower bucket in the same
abbrev pub IsBefore : Probe → Probe → Type 0
IsBefore p q = (p.table < q.table) ⊎ ((p.table ≡ q.table) × (p.bucket < q.bucket))

-- each probe of a plan is before those behind it, so none stands twice
abbrev pub PlansAreInOrder : Type 0
PlansAreInOrder = (body radius bits : ℕ) → AllPairs IsBefore (plan body radius bits)

-- a plan has a bucket of a table exactly where that is near enough to the body's own
abbrev pub PlansHaveNearBuckets : Type 0
PlansHaveNearBuckets = (body radius bits table bucket : ℕ)
    → Contains (plan body radius bits) (probe table bucket) ↔ ((table < 4) × (bucket < 2 ^ bits) × IsTrue (is_probe body radius bits table bucket))
