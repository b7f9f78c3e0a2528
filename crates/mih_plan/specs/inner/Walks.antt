-- Blocks, and buckets and probes from a place on.
use Rattle.std.specs.Prelude.{ℕ, ◌+◌, ◌-◌, ◌*◌, ◌/◌, ◌%◌, ◌^◌, List, ◌++◌, nat_lt, nat_le, if◌then◌else◌, filter, map}
use Rattle.std.specs.List.{flat_map, range_with_len}
use Rattle.iscc_header.specs.Bits.{distance}
use Rattle.mih_plan.specs.declared.probe.Probe.{Probe}
use Rattle.mih_plan.specs.declared.search.Block.{Block}
use Rattle.mih_plan.specs.Buckets.{is_probe, probe, table_probes}

-- the first bucket of a block
abbrev pub start_of : Block → ℕ
start_of block = block.common * 2 ^ block.height

-- the buckets from one on that differ from the centre in fewer bits than the limit
unfoldable pub near_from : ℕ → ℕ → ℕ → ℕ → List ℕ
near_from centre limit from bits = filter (λ bucket. nat_lt (distance bucket centre) limit) (range_with_len from (2 ^ bits - from))

-- fewer bits than this differ in a table's probes
abbrev pub limit_of : ℕ → ℕ → ℕ
limit_of radius table = if nat_le table (radius % 4) then radius / 4 + 1 else radius / 4

-- the probes of a table from a bucket on
abbrev pub table_probes_from : ℕ → ℕ → ℕ → ℕ → ℕ → List Probe
table_probes_from body radius bits table from =
    map (probe table) (filter (is_probe body radius bits table) (range_with_len from (2 ^ bits - from)))

-- the probes from a bucket of a table on
unfoldable pub probes_from : ℕ → ℕ → ℕ → ℕ → ℕ → List Probe
probes_from body radius bits table from =
    table_probes_from body radius bits table from ++ flat_map (table_probes body radius bits) (range_with_len (table + 1) (3 - table))
