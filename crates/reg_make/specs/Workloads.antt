-- A workload: a round in which some sessions declare generated units, and one that asks for all that is near the centres, and withdraws
-- the first half.
use Rattle.std.specs.Prelude.{◌≡◌, ℕ, ◌+◌, ◌-◌, ◌*◌, ◌/◌, ◌<◌, ◌≤◌, ◌^◌, nat_le, List, [], ◌∷◌, ◌++◌, length, map, count_by, sum_by, slice_get, Some}
use Rattle.std.specs.List.{AllZip, range_with_len}
use Rattle.iscc_header.specs.Bits.{distance}
use Rattle.reg_model.specs.declared.call.Call.{Call}
use Rattle.reg_model.specs.declared.call.Call.TheVariants as calls
use Rattle.reg_model.specs.declared.reply.Reply.{Reply}
use Rattle.reg_model.specs.declared.reply.Reply.TheVariants as replies
use Rattle.reg_model.specs.declared.reply.Row.{Row}
use Rattle.reg_model.specs.Limits.{Limits}
use Rattle.reg_model.specs.Rows.{session_rows, is_accepted}
use Rattle.reg_model.specs.Runs.{RoundRows, IsHistory, nothing, closing}
use Rattle.reg_make.specs.declared.counts.Counts.{Counts}
use Rattle.reg_make.specs.Generator.{centre, unit}

-- the seed, how many units each session declares, and how many sessions there are
pub record Work : Type 0 where
  pub seed : ℕ
  pub each : ℕ
  pub sessions : ℕ

abbrev pub unit_count : Work → ℕ
unit_count work = work.each * work.sessions

abbrev pub withdrawal_count : Work → ℕ
withdrawal_count work = unit_count work / 2

pub record IsWork (work : Work) : Type 0 where
  pub seed : work.seed < 2 ^ 64
  pub each : 1 ≤ work.each
  pub sessions : (1 ≤ work.sessions) × (work.sessions ≤ 16)
  pub units : unit_count work ≤ 1000000

-- the sizes of a round: so large that no call finds it full
abbrev pub work_limits : Work → ℕ → Limits
work_limits work callers = record { entries = unit_count work + 16; log = unit_count work + 16; bits = 12; callers = callers }

-- so many units from a number on
abbrev pub declare_calls : Work → ℕ → List Call
declare_calls work session = map (λ i. calls.Declare (unit work.seed i)) (range_with_len (session * work.each) work.each)

-- the calls of the sessions of the first round, and of the one session of the second
abbrev pub first_calls : Work → List (List Call)
first_calls work = map (declare_calls work) (range_with_len 0 work.sessions)

abbrev pub second_calls : Work → List (List Call)
second_calls work = (map (λ j. calls.Near (centre work.seed j) 1) (range_with_len 0 16) ++ map calls.Withdraw (range_with_len 0 (withdrawal_count work))) ∷ []

-- the rows of each session are these calls, each once and in order
abbrev pub MakesLists : List (List Call) → RoundRows → Type 0
MakesLists lists round = (session : ℕ) (list : List Call) → slice_get lists session ≡ Some list → map (λ (row : Row). row.call) (session_rows session round.rows) ≡ list

-- The rounds are a lawful run with these sizes and calls, which begins with nothing.
pub record IsWorkRun (work : Work) (rounds : List RoundRows) : Type 0 where
  pub sizes : map (λ (round : RoundRows). round.limits) rounds ≡ work_limits work work.sessions ∷ work_limits work 1 ∷ []
  pub made : AllZip MakesLists (first_calls work ∷ second_calls work ∷ []) rounds
  pub lawful : IsHistory nothing rounds

-- ---- what is counted

-- the hits that a reply has
abbrev pub hit_count : Reply → ℕ
hit_count (replies.Hits hits) = length hits
hit_count reply = 0

-- the counts of the rows of some rounds
abbrev pub counted : List RoundRows → Counts
counted rounds = record {
  calls = sum_by (λ (round : RoundRows). length round.rows) rounds;
  accepted = sum_by (λ (round : RoundRows). count_by is_accepted round.rows) rounds;
  live = length (let left = closing nothing rounds in left.list);
  hits = sum_by (λ (round : RoundRows). sum_by (λ (row : Row). hit_count row.reply) round.rows) rounds;
}

-- how many pairs of a centre and a unit are at most one bit apart
abbrev pub pair_count : Work → ℕ
pair_count work =
    sum_by (λ j. count_by (λ i. nat_le (distance (centre work.seed j).body (unit work.seed i).body) 1) (range_with_len 0 (unit_count work))) (range_with_len 0 16)

-- the counts of a workload, whatever order its calls are served in
abbrev pub work_counts : Work → Counts
work_counts work = record {
  calls = unit_count work + 16 + withdrawal_count work;
  accepted = unit_count work + withdrawal_count work;
  live = unit_count work - withdrawal_count work;
  hits = pair_count work;
}
