-- What is counted in the rows of two rounds.
use Rattle.std.specs.Prelude.{ℕ, ◌+◌, ◌-◌, ◌^◌, min, length, count_by, sum_by, List}
use Rattle.reg_model.specs.declared.reply.Row.{Row}
use Rattle.reg_model.specs.declared.round.Round.{Round}
use Rattle.reg_model.specs.Rows.{is_accepted}
use Rattle.reg_make.specs.declared.counts.Counts.{Counts}
use Rattle.reg_make.specs.Workloads.{hit_count}

-- the rows of a round's accounts
abbrev pub row_count : Round → ℕ
row_count round = sum_by (λ (account : List Row). length account) round.accounts

-- those that are accepted
abbrev pub accepted_count : Round → ℕ
accepted_count round = sum_by (λ (account : List Row). count_by is_accepted account) round.accounts

-- the hits of all of them
abbrev pub hits_count : Round → ℕ
hits_count round = sum_by (λ (account : List Row). sum_by (λ (row : Row). hit_count row.reply) account) round.accounts

-- the counts of two rounds, the second of which was served behind the first
abbrev pub counts_of : Round → Round → Counts
counts_of first second = record {
  calls = row_count first + row_count second;
  accepted = accepted_count first + accepted_count second;
  live = length (let left = second.carried in left.list);
  hits = hits_count first + hits_count second;
}

-- the same, where a count of 2^64 or more stays at 2^64 - 1
abbrev pub capped : Counts → Counts
capped counts = record {
  calls = min counts.calls (2 ^ 64 - 1);
  accepted = min counts.accepted (2 ^ 64 - 1);
  live = min counts.live (2 ^ 64 - 1);
  hits = min counts.hits (2 ^ 64 - 1);
}
