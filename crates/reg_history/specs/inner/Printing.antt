-- What the parts of the printing tell each other.
use Rattle.std.specs.Prelude.{◌≡◌, ℕ, List, ◌++◌, length, sum_by}
use Rattle.reg_model.specs.Opening.{Opening}
use Rattle.reg_model.specs.Runs.{RoundRows, closing}
use Rattle.reg_history.specs.History.{rounds_text}

-- the rounds' lines stand behind the old text; they have so many rows, and the last of them leaves what is left
pub record PrintsRounds (opening : Opening) (rounds : List RoundRows) (old new : List ℕ) (count : ℕ) (left : Opening) : Type 0 where
  pub text : new ≡ old ++ rounds_text 0 opening rounds
  pub rows : count ≡ sum_by (λ (round : RoundRows). length round.rows) rounds
  pub leaves : left ≡ closing opening rounds
