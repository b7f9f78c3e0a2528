-- The probes from a bucket of a table on: one more, the next table, and all.
use Rattle.std.proofs.Common.{◌≡◌, ℕ, suc, ◌+◌, ◌-◌, ◌/◌, ◌%◌, ◌^◌, ◌<◌, Bool, true, false, [], ◌∷◌, ◌++◌, refl, sym, ◌∙◌, ap, ap₂, map, filter, arith}
use Rattle.std.specs.Prelude.{nat_lt, nat_le, if◌then◌else◌}
use Rattle.std.specs.List.{range_with_len, flat_map}
use Rattle.std.proofs.lemmas.Bool.Decides.{nat_tests}
use Rattle.std.proofs.lemmas.List.Elements.{filter_agree}
use Rattle.iscc_header.specs.Bits.{distance}
use Rattle.mih_plan.specs.Buckets.{bucket_of, is_probe, probe, table_probes, plan}
use Rattle.mih_plan.specs.inner.Walks.{near_from, limit_of, table_probes_from, probes_from}

within_or_nearer : (first : Bool) (q d : ℕ) → (if first then nat_le d q else nat_lt d q) ≡ nat_lt d (if first then q + 1 else q)
within_or_nearer true q d = grind (arith, nat_tests)
within_or_nearer false q d = refl

-- a bucket is a probe where fewer bits differ than the table's limit
pub probe_by_limit : (body radius bits table bucket : ℕ) → is_probe body radius bits table bucket ≡ nat_lt (distance bucket (bucket_of body table bits)) (limit_of radius table)
probe_by_limit body radius bits table bucket = within_or_nearer (nat_le table (radius % 4)) (radius / 4) (distance bucket (bucket_of body table bits))

-- the probes of a table are the buckets near the body's own
table_is : (body radius bits table from centre limit : ℕ) → centre ≡ bucket_of body table bits → limit ≡ limit_of radius table
    → table_probes_from body radius bits table from ≡ map (probe table) (near_from centre limit from bits)
unfolding near_from
table_is body radius bits table from centre limit centre_is limit_is =
    ap (map (probe table))
    (filter_agree (is_probe body radius bits table) (λ bucket. nat_lt (distance bucket centre) limit)
    (λ bucket. probe_by_limit body radius bits table bucket ∙ ap₂ (λ c l. nat_lt (distance bucket c) l) (sym centre_is) (sym limit_is))
    (range_with_len from (2 ^ bits - from)))

-- one more probe in the table
pub one_more : (body radius bits table from next bucket centre limit : ℕ) → centre ≡ bucket_of body table bits → limit ≡ limit_of radius table
    → near_from centre limit from bits ≡ bucket ∷ near_from centre limit next bits
    → probes_from body radius bits table from ≡ probe table bucket ∷ probes_from body radius bits table next
unfolding probes_from
one_more body radius bits table from next bucket centre limit centre_is limit_is is =
    let later = flat_map (table_probes body radius bits) (range_with_len (table + 1) (3 - table)) in
    ap (λ xs. xs ++ later)
    (table_is body radius bits table from centre limit centre_is limit_is
    ∙ ap (map (probe table)) is
    ∙ ap (λ xs. probe table bucket ∷ xs) (sym (table_is body radius bits table next centre limit centre_is limit_is)))

-- no more in this table
pub next_table : (body radius bits table from centre limit : ℕ) → centre ≡ bucket_of body table bits → limit ≡ limit_of radius table → table < 3
    → near_from centre limit from bits ≡ [] → probes_from body radius bits table from ≡ probes_from body radius bits (table + 1) 0
unfolding probes_from
next_table body radius bits table from centre limit centre_is limit_is early is =
    let later = flat_map (table_probes body radius bits) (range_with_len (table + 1) (3 - table)) in
    ap (λ xs. xs ++ later) (table_is body radius bits table from centre limit centre_is limit_is ∙ ap (map (probe table)) is)
    ∙ ap (λ n. flat_map (table_probes body radius bits) (range_with_len (table + 1) n)) (let one : 3 - table ≡ suc (3 - (table + 1)) = omega arith in one)
    ∙ ap (λ n. map (probe (table + 1)) (filter (is_probe body radius bits (table + 1)) (range_with_len 0 n)) ++ flat_map (table_probes body radius bits) (range_with_len (table + 1 + 1) (3 - (table + 1))))
    (let all : 2 ^ bits ≡ 2 ^ bits - 0 = omega arith in all)

-- no more at all
pub no_more : (body radius bits table from centre limit : ℕ) → centre ≡ bucket_of body table bits → limit ≡ limit_of radius table → table ≡ 3
    → near_from centre limit from bits ≡ [] → probes_from body radius bits table from ≡ []
unfolding probes_from
no_more body radius bits table from centre limit centre_is limit_is last is =
    ap₂ (λ xs n. xs ++ flat_map (table_probes body radius bits) (range_with_len (table + 1) n))
    (table_is body radius bits table from centre limit centre_is limit_is ∙ ap (map (probe table)) is)
    (let none : 3 - table ≡ 0 = omega arith in none)

-- all of them
pub whole_plan : (body radius bits : ℕ) → probes_from body radius bits 0 0 ≡ plan body radius bits
unfolding probes_from plan
whole_plan body radius bits =
    ap (λ n. map (probe 0) (filter (is_probe body radius bits 0) (range_with_len 0 n)) ++ flat_map (table_probes body radius bits) (range_with_len 1 3)) (let all : 2 ^ bits - 0 ≡ 2 ^ bits = omega arith in all)
