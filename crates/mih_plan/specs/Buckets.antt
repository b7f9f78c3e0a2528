-- Buckets of a body, and the probes of a query (multi-index hashing, Norouzi, Punjani and Fleet 2012).
use Rattle.std.specs.Prelude.{ℕ, ◌-◌, ◌*◌, ◌/◌, ◌%◌, ◌^◌, Bool, List, nat_lt, nat_le, if◌then◌else◌, filter, map}
use Rattle.std.specs.List.{flat_map, range_with_len}
use Rattle.iscc_header.specs.Bits.{distance}
use Rattle.mih_plan.specs.declared.probe.Probe.{Probe}

-- the low bits of the body's substring for a table; each has 16 bits, and the first the highest of the body
abbrev pub bucket_of : ℕ → ℕ → ℕ → ℕ
bucket_of body table bits = body / 2 ^ (48 - 16 * table) % 2 ^ bits

-- a bucket within a quarter of the radius of the body's own, in the first tables, which are one more than the radius modulo 4;
-- nearer than that quarter in the others
abbrev pub is_probe : ℕ → ℕ → ℕ → ℕ → ℕ → Bool
is_probe body radius bits table bucket =
    let apart = distance bucket (bucket_of body table bits) in
    if nat_le table (radius % 4) then nat_le apart (radius / 4) else nat_lt apart (radius / 4)

-- the probe of a bucket
abbrev pub probe : ℕ → ℕ → Probe
probe table bucket = record { table = table; bucket = bucket }

-- the probes in one table, by bucket
abbrev pub table_probes : ℕ → ℕ → ℕ → ℕ → List Probe
table_probes body radius bits table = map (probe table) (filter (is_probe body radius bits table) (range_with_len 0 (2 ^ bits)))

-- the probes of a query, by table and then by bucket
unfoldable pub plan : ℕ → ℕ → ℕ → List Probe
plan body radius bits = flat_map (table_probes body radius bits) (range_with_len 0 4)
