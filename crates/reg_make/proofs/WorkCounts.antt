-- The rows of a workload have its counts.
use Rattle.std.proofs.Common.{◌≡◌, ℕ, ◌+◌, ◌-◌, ◌<◌, ◌≤◌, true, ◌&&◌, ◌==◌, cond, nat_le, List, [], ◌∷◌, ◌++◌, map, length, refl, sym, ◌∙◌, ap, ap₂, subst, arith, length-append}
use Rattle.std.specs.Prelude.{sum_by, count_by}
use Rattle.std.specs.List.{AllByRecursion, range_with_len}
use Rattle.std.proofs.lemmas.Bool.Decides.{nat_tests}
use Rattle.std.proofs.lemmas.List.{length-map}
use Rattle.std.proofs.lemmas.List.FromFn.{length-range_with_len, length-map-range_with_len}
use Rattle.iscc_header.specs.declared.unit.Unit64.{Unit64}
use Rattle.iscc_header.specs.Bits.{distance}
use Rattle.reg_model.specs.declared.update.Update.{Update}
use Rattle.reg_model.specs.declared.update.Update.TheVariants.{Decl, Wd}
use Rattle.reg_model.specs.declared.update.Declared.{Declared}
use Rattle.reg_model.specs.declared.call.Call.{Call}
use Rattle.reg_model.specs.declared.call.Call.TheVariants as calls
use Rattle.reg_model.specs.declared.reply.Row.{Row}
use Rattle.reg_model.specs.Limits.{Limits}
use Rattle.reg_model.specs.Live.{live}
use Rattle.reg_model.specs.Opening.{Opening}
use Rattle.reg_model.specs.Rows.{session_rows, is_accepted, log_of, MayFollow, EachAfter, IsLawful}
use Rattle.reg_model.specs.Runs.{RoundRows, nothing, next_opening}
use Rattle.reg_make.specs.Generator.{centre, unit}
use Rattle.reg_make.specs.Workloads.{Work, IsWork, IsWorkRun, unit_count, withdrawal_count, work_limits, first_calls, second_calls, MakesLists, hit_count, counted, pair_count, work_counts}
use Rattle.reg_make.proofs.CallSums.{sum_agree, sum_none, sum_map, sum_ones, each_none, calls_sum}
use Rattle.reg_make.proofs.Declaring.{is_other, all_taken, taken_accepted, taken_hits, log_sum, log_declares, all_live, ids_in_row, units_sum}
use Rattle.reg_make.proofs.Withdrawing.{AreIds, many_left, near_count, second_rows}

-- each session is one of the round's
sessions_known : (limits : Limits) (opening : Opening) (before rows : List Row) → EachAfter (MayFollow limits opening) before rows → AllByRecursion (λ (row : Row). row.session < limits.callers) rows
sessions_known limits opening before [] each = tt
sessions_known limits opening before (row ∷ rows) each = let follows : MayFollow limits opening before row = each.0 in (follows.session, sessions_known limits opening (before ++ row ∷ []) rows each.1)

-- the rows of a lone session are all
lone_rows : (rows : List Row) → AllByRecursion (λ (row : Row). row.session < 1) rows → session_rows 0 rows ≡ rows
lone_rows [] known = refl
lone_rows (row ∷ rows) known =
    let this : (row.session == 0) ≡ true = grind (arith, nat_tests, known.0) in
    rw this (ap (λ rs. row ∷ rs) (lone_rows rows known.1))

-- ---- the first round

-- the round has declared all units of the workload
record DeclaresAll (work : Work) (round : RoundRows) : Type 0 where
  many : length round.rows ≡ unit_count work
  accepted : count_by is_accepted round.rows ≡ unit_count work
  hits : sum_by (λ (row : Row). hit_count row.reply) round.rows ≡ 0
  -- the declarations that are live then have the ids 0, 1, 2, .. and the units of the workload
  ids : AreIds 0 (unit_count work) (live nothing (log_of round.rows))
  units : (v : Unit64 → ℕ) → sum_by (λ (d : Declared). v d.unit) (live nothing (log_of round.rows)) ≡ sum_by (λ i. v (unit work.seed i)) (range_with_len 0 (unit_count work))

-- what a call declares, and what an update does
abbrev of_call : (Unit64 → ℕ) → Call → ℕ
of_call v (calls.Declare unit) = v unit
of_call v call = 0

abbrev of_update : (Unit64 → ℕ) → Update → ℕ
of_update v (Decl unit) = v unit
of_update v (Wd id) = 0

first_round : (work : Work) (round : RoundRows) → IsWork work → MakesLists (first_calls work) round → IsLawful (work_limits work work.sessions) nothing round.rows → DeclaresAll work round
first_round work round is made lawful =
    let limits = work_limits work work.sessions in
    let n = unit_count work in
    let known = sessions_known limits nothing [] round.rows lawful in
    let many : length round.rows ≡ n = sym (sum_ones round.rows) ∙ (calls_sum work round (λ call. 1) known made ∙ (sum_ones (range_with_len 0 n) ∙ length-range_with_len 0 n)) in
    let others : sum_by (λ (row : Row). is_other row.call) round.rows ≡ 0 = calls_sum work round is_other known made ∙ sum_none (λ (i : ℕ). 0) (λ i. refl) (range_with_len 0 n) in
    let taken = all_taken limits n [] round.rows lawful (each_none (λ (row : Row). is_other row.call) round.rows others) (omega (arith, many)) (omega arith) (omega (arith, is.sessions)) in
    let declares = log_declares round.rows taken in
    let long : length (log_of round.rows) ≡ n = sym (sum_ones (log_of round.rows)) ∙ (log_sum (λ update. 1) (λ call. 1) (λ u. refl) round.rows taken ∙ (sum_ones round.rows ∙ many)) in
    record {
      many = many;
      accepted = taken_accepted round.rows taken ∙ many;
      hits = taken_hits round.rows taken;
      ids = ap (map (λ (d : Declared). d.id)) (all_live (log_of round.rows) declares) ∙ ids_in_row 0 (log_of round.rows) declares ∙ ap (range_with_len 0) long;
      units = λ v.
          ap (sum_by (λ (d : Declared). v d.unit)) (all_live (log_of round.rows) declares)
          ∙ units_sum v (of_update v) (λ u. refl) 0 (log_of round.rows) declares
          ∙ log_sum (of_update v) (of_call v) (λ u. refl) round.rows taken
          ∙ calls_sum work round (of_call v) known made;
    }

-- ---- both rounds

abbrev centres : Work → List Unit64
centres work = map (centre work.seed) (range_with_len 0 16)

-- the hits near a centre are pairs of it and a unit
near_centre : (work : Work) (round : RoundRows) → DeclaresAll work round → (j : ℕ)
    → near_count (next_opening nothing round.rows) (centre work.seed j) ≡ count_by (λ i. nat_le (distance (centre work.seed j).body (unit work.seed i).body) 1) (range_with_len 0 (unit_count work))
near_centre work round first j = first.units (λ u. cond ((u.kind == 6) && nat_le (distance (centre work.seed j).body u.body) 1) 1 0)

pub both_rounds : (work : Work) (first second : RoundRows) → IsWork work → MakesLists (first_calls work) first → MakesLists (second_calls work) second
    → IsLawful (work_limits work work.sessions) nothing first.rows → IsLawful (work_limits work 1) (next_opening nothing first.rows) second.rows
    → counted (first ∷ second ∷ []) ≡ work_counts work
both_rounds work first second is made made' lawful lawful' =
    let limits = work_limits work 1 in
    let opening = next_opening nothing first.rows in
    let n = unit_count work in
    let m = withdrawal_count work in
    let half : m ≤ n = omega arith in
    let declared = first_round work first is made lawful in
    let all = lone_rows second.rows (sessions_known limits opening [] second.rows lawful') in
    let calls_are : map (λ (row : Row). row.call) second.rows ≡ map (λ j. calls.Near (centre work.seed j) 1) (range_with_len 0 16) ++ map calls.Withdraw (range_with_len 0 m) = ap (map (λ (row : Row). row.call)) (sym all) ∙ made' 0 _ refl in
    let told = second_rows limits opening n m (centres work) [] second.rows lawful' declared.ids refl calls_are half (omega arith) in
    let many : length second.rows ≡ 16 + m =
    sym (length-map second.rows (λ (row : Row). row.call))
    ∙ (ap length calls_are
    ∙ (length-append (map (λ j. calls.Near (centre work.seed j) 1) (range_with_len 0 16)) (map calls.Withdraw (range_with_len 0 m))
    ∙ ap₂ (λ a b. a + b) (length-map-range_with_len (λ j. calls.Near (centre work.seed j) 1) 0 16) (length-map-range_with_len calls.Withdraw 0 m))) in
    let left : length (live opening (log_of second.rows)) ≡ n - m = ap (λ log. length (live opening log)) told.log_is ∙ many_left opening n m declared.ids in
    let pairs : sum_by (near_count opening) (centres work) ≡ pair_count work =
    sum_map (near_count opening) (centre work.seed) (range_with_len 0 16)
    ∙ sum_agree (λ j. near_count opening (centre work.seed j)) (λ j. count_by (λ i. nat_le (distance (centre work.seed j).body (unit work.seed i).body) 1) (range_with_len 0 n)) (near_centre work first declared) (range_with_len 0 16) in
    let calls_count : 0 + length first.rows + length second.rows ≡ n + 16 + m = omega (arith, declared.many, many) in
    let accepted_count : 0 + count_by is_accepted first.rows + count_by is_accepted second.rows ≡ n + m = omega (arith, declared.accepted, told.accepted_are) in
    let hits_count : 0 + sum_by (λ (row : Row). hit_count row.reply) first.rows + sum_by (λ (row : Row). hit_count row.reply) second.rows ≡ pair_count work = omega (arith, declared.hits, told.hits_are, pairs) in
    λ i. record { calls = calls_count i; accepted = accepted_count i; live = left i; hits = hits_count i }

-- two rounds with these sizes
pub tells_counts : (work : Work) (rounds : List RoundRows) → IsWork work → IsWorkRun work rounds → counted rounds ≡ work_counts work
tells_counts work [] is run = absurd run.made
tells_counts work (first ∷ []) is run = absurd run.made.1
tells_counts work (first ∷ second ∷ []) is run =
    let lawful = run.lawful.lawful in
    let one : first.limits ≡ work_limits work work.sessions = cc (run.sizes) in
    let two : second.limits ≡ work_limits work 1 = cc (run.sizes) in
    both_rounds work first second is run.made.0 run.made.1.0
    (subst (λ limits. IsLawful limits nothing first.rows) one lawful.0.rows)
    (subst (λ limits. IsLawful limits (next_opening nothing first.rows) second.rows) two lawful.1.0.rows)
tells_counts work (first ∷ second ∷ third ∷ rounds) is run = absurd run.made.1.1
