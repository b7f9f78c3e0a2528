-- Plans by order and by what they have.
use Rattle.std.proofs.Common.{◌≡◌, ℕ, zero, suc, ◌+◌, ◌^◌, ◌<◌, ◌≤◌, Bool, true, cond, List, [], ◌∷◌, ◌++◌, refl, sym, subst, map, filter, arith, inl, inr}
use Rattle.std.specs.Prelude.{All, AllPairs, Contains}
use Rattle.std.specs.List.{range_with_len}
use Rattle.std.proofs.lemmas.Bool.{cases_Bool}
use Rattle.std.proofs.lemmas.List.Elements.{All-nil, All-cons, All-append, All-weaker, All-contains}
use Rattle.std.proofs.lemmas.List.Kept.{AllPairs-cons}
use Rattle.mih_plan.specs.declared.probe.Probe.{Probe}
use Rattle.mih_plan.specs.Buckets.{is_probe, probe, table_probes, plan}
use Rattle.mih_plan.specs.Laws.{IsBefore}

-- what holds of each number in a row that passes holds of each probe
all_passing : (test : ℕ → Bool) (table : ℕ) (P : Probe → Type 0) (a n : ℕ) → ((x : ℕ) → a ≤ x → x < a + n → test x ≡ true → P (probe table x))
    → All P (map (probe table) (filter test (range_with_len a n)))
all_passing test table P a zero each = All-nil P
all_passing test table P a (suc n) each =
    let rest = filter test (range_with_len (a + 1) n) in
    let later = all_passing test table P (a + 1) n (λ x low high. each x (omega arith) (omega arith)) in
    elim (cases_Bool (test a)) [
      | inl passes ↦ subst (λ p. All P (map (probe table) (cond p (a ∷ rest) rest))) (sym passes)
          (All-cons P (probe table a) (map (probe table) rest) (each a (omega arith) (omega arith) passes) later)
      | inr fails ↦ subst (λ p. All P (map (probe table) (cond p (a ∷ rest) rest))) (sym fails) later
    ]

-- the probes of a table, and then those of later ones
in_order : (test : ℕ → Bool) (table a n : ℕ) (later : List Probe) → AllPairs IsBefore later → All (λ (q : Probe). table < q.table) later
    → AllPairs IsBefore (map (probe table) (filter test (range_with_len a n)) ++ later)
in_order test table a zero later ordered behind = ordered
in_order test table a (suc n) later ordered behind =
    let rest = filter test (range_with_len (a + 1) n) in
    let tail = in_order test table (a + 1) n later ordered behind in
    elim (cases_Bool (test a)) [
      | inl passes ↦ subst (λ p. AllPairs IsBefore (map (probe table) (cond p (a ∷ rest) rest) ++ later)) (sym passes)
          (AllPairs-cons IsBefore (probe table a) (map (probe table) rest ++ later)
          (All-append (IsBefore (probe table a)) (map (probe table) rest) later
          (all_passing test table (IsBefore (probe table a)) (a + 1) n (λ x low high passes'. inr (refl, omega arith)))
          (All-weaker (λ (q : Probe). table < q.table) (IsBefore (probe table a)) (λ q above. inl above) later behind))
          tail)
      | inr fails ↦ subst (λ p. AllPairs IsBefore (map (probe table) (cond p (a ∷ rest) rest) ++ later)) (sym fails) tail
    ]

-- each probe comes before those behind it
pub plan_in_order : (body radius bits : ℕ) → AllPairs IsBefore (plan body radius bits)
unfolding plan
plan_in_order body radius bits =
    let third = table_probes body radius bits 3 ++ [] in
    let second = table_probes body radius bits 2 ++ third in
    let first = table_probes body radius bits 1 ++ second in
    in_order (is_probe body radius bits 0) 0 0 (2 ^ bits) first
    (in_order (is_probe body radius bits 1) 1 0 (2 ^ bits) second
    (in_order (is_probe body radius bits 2) 2 0 (2 ^ bits) third
    (in_order (is_probe body radius bits 3) 3 0 (2 ^ bits) [] none (All-nil (λ (q : Probe). 3 < q.table)))
    (behind_2 2 (omega arith)))
    (behind_1 1 (omega arith)))
    (All-append (λ (q : Probe). 0 < q.table) (table_probes body radius bits 1) second (above 0 1 (omega arith)) (behind_1 0 (omega arith)))
  where
    none : AllPairs IsBefore []
    none = λ i j d low past. absurd (omega arith)

    above : (table later : ℕ) → table < later → All (λ (q : Probe). table < q.table) (table_probes body radius bits later)
    above table later low = all_passing (is_probe body radius bits later) later (λ (q : Probe). table < q.table) 0 (2 ^ bits) (λ x a b passes. low)

    behind_2 : (table : ℕ) → table < 3 → All (λ (q : Probe). table < q.table) (table_probes body radius bits 3 ++ [])
    behind_2 table low = All-append (λ (q : Probe). table < q.table) (table_probes body radius bits 3) [] (above table 3 low) (All-nil (λ (q : Probe). table < q.table))

    behind_1 : (table : ℕ) → table < 2 → All (λ (q : Probe). table < q.table) (table_probes body radius bits 2 ++ (table_probes body radius bits 3 ++ []))
    behind_1 table low =
        All-append (λ (q : Probe). table < q.table) (table_probes body radius bits 2) (table_probes body radius bits 3 ++ []) (above table 2 low) (behind_2 table (omega arith))

-- what each probe of a plan is
abbrev pub IsOf : ℕ → ℕ → ℕ → Probe → Type 0
IsOf body radius bits found = (found.table < 4) × (found.bucket < 2 ^ bits) × (is_probe body radius bits found.table found.bucket ≡ true)

pub of_plan : (body radius bits : ℕ) (found : Probe) → Contains (plan body radius bits) found → IsOf body radius bits found
unfolding plan
of_plan body radius bits found has =
    let third = table_probes body radius bits 3 ++ [] in
    let second = table_probes body radius bits 2 ++ third in
    let first = table_probes body radius bits 1 ++ second in
    All-contains (IsOf body radius bits) (table_probes body radius bits 0 ++ first) found
    (All-append (IsOf body radius bits) (table_probes body radius bits 0) first (in_table 0 (omega arith))
    (All-append (IsOf body radius bits) (table_probes body radius bits 1) second (in_table 1 (omega arith))
    (All-append (IsOf body radius bits) (table_probes body radius bits 2) third (in_table 2 (omega arith))
    (All-append (IsOf body radius bits) (table_probes body radius bits 3) [] (in_table 3 (omega arith)) (All-nil (IsOf body radius bits))))))
    has
  where
    in_table : (table : ℕ) → table < 4 → All (IsOf body radius bits) (table_probes body radius bits table)
    in_table table low = all_passing (is_probe body radius bits table) table (IsOf body radius bits) 0 (2 ^ bits) (λ x a b passes. (low, omega arith, passes))
