-- Rounds, one after another.
use Rattle.std.specs.Prelude.{◌+◌, ◌^◌, ◌≤◌, List, [], ◌∷◌, length}
use Rattle.reg_model.specs.declared.round.TheConstants.{ROUNDS_MOST}
use Rattle.reg_model.specs.declared.reply.Row.{Row}
use Rattle.reg_model.specs.Limits.{Limits, IsInRange}
use Rattle.reg_model.specs.Opening.{Opening, IsOpening, opening_of}
use Rattle.reg_model.specs.Live.{opening_after}
use Rattle.reg_model.specs.Rows.{log_of, IsLawful}

-- a round's sizes, and its rows in order
pub record RoundRows : Type 0 where
  pub limits : Limits
  pub rows : List Row

-- what the next round begins with
abbrev pub next_opening : Opening → List Row → Opening
next_opening opening rows = opening_after opening (log_of rows)

-- what the last round leaves
abbrev pub closing : Opening → List RoundRows → Opening
closing opening [] = opening
closing opening (round ∷ rounds) = closing (next_opening opening round.rows) rounds

pub record IsLawfulRound (opening : Opening) (round : RoundRows) : Type 0 where
  pub sizes : IsInRange round.limits
  pub room : length opening.list ≤ round.limits.entries
  pub ids : opening.base + round.limits.log ≤ 2 ^ 34
  pub rows : IsLawful round.limits opening round.rows

-- each round is lawful, and begins with what the one before it leaves
abbrev pub IsLawfulRun : Opening → List RoundRows → Type 0
IsLawfulRun opening [] = Unit {0}
IsLawfulRun opening (round ∷ rounds) = IsLawfulRound opening round × IsLawfulRun (next_opening opening round.rows) rounds

-- what a run begins with where nothing is loaded
abbrev pub nothing : Opening
nothing = opening_of 0 []

-- A history: one to eight (`ROUNDS_MOST`) rounds of a lawful run.
pub record IsHistory (opening : Opening) (rounds : List RoundRows) : Type 0 where
  pub opens : IsOpening opening
  pub some : 1 ≤ length rounds
  pub few : length rounds ≤ ROUNDS_MOST
  pub lawful : IsLawfulRun opening rounds
