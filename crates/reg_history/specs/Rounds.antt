-- Rounds as sessions leave them, and the rows of a history.
use Rattle.std.specs.Prelude.{◌≡◌, List, [], ◌∷◌}
use Rattle.reg_model.specs.declared.round.Round.{Round}
use Rattle.reg_model.specs.Opening.{Opening}
use Rattle.reg_model.specs.Merge.{AreAccounts}
use Rattle.reg_model.specs.Rows.{IsMerge}
use Rattle.reg_model.specs.Runs.{RoundRows, next_opening}

-- The round began with this opening, its accounts merge to these rows, and it leaves what the next round begins with.
pub record IsRoundOf (opening : Opening) (round : Round) (rows : RoundRows) : Type 0 where
  pub base : round.base ≡ opening.base
  pub sizes : round.sizes ≡ rows.limits
  pub accounts : AreAccounts round.accounts
  pub merge : IsMerge round.accounts rows.rows
  pub leaves : round.carried ≡ next_opening opening rows.rows

-- each of the rounds began with what the one before it leaves, and these are their rows
abbrev pub AreRoundsOf : Opening → List Round → List RoundRows → Type 0
AreRoundsOf opening [] [] = Unit {0}
AreRoundsOf opening (round ∷ rounds) (rows ∷ more) = IsRoundOf opening round rows × AreRoundsOf (next_opening opening rows.rows) rounds more
AreRoundsOf opening rounds more = ⊥

-- the rounds are those of a history
abbrev pub IsRunOf : Opening → List Round → Type 0
IsRunOf opening rounds = (rows : List RoundRows) × AreRoundsOf opening rounds rows
