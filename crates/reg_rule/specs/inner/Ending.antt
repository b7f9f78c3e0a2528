-- The end of a round: one seat has the accounts of all passes, and the seal keeps them by session.
use Rattle.std.specs.Prelude.{◌≡◌, ℕ, ◌==◌, if◌then◌else◌, List, [], ◌∷◌, map}
use Rattle.std.specs.List.{range_with_len}
use Rattle.reg_model.specs.declared.reply.Row.{Row}
use Rattle.reg_model.specs.Desks.{PassView}
use Rattle.reg_rule.specs.declared.view.Key.{Key}
use Rattle.reg_rule.specs.declared.view.Account.{Account}
use Rattle.reg_rule.specs.declared.view.View.{View}
use Rattle.reg_rule.specs.inner.Plays.{Sat}

-- the account of a pass
abbrev pub account_in : PassView → Account
account_in pass = record { number = pass.number; rows = pass.account }

-- The seat has the accounts of these passes.
pub record Gathered (key : Key) (passes : List PassView) (me : Sat) : Type 0 where
  pub knows : me.0.key ≡ key
  pub empty : me.1 ≡ []
  pub accounts : me.0.accounts ≡ map account_in passes

-- the rows of the session with this number
abbrev pub rows_of : List Account → ℕ → List Row
rows_of [] number = []
rows_of (a ∷ others) number = if a.number == number then a.rows else rows_of others number

-- the accounts of the sessions 0, 1, 2, ..
abbrev pub by_number : ℕ → List Account → List (List Row)
by_number callers accounts = map (rows_of accounts) (range_with_len 0 callers)

-- the accounts that a seal keeps
abbrev pub sealed_accounts : List View → List (List Row)
sealed_accounts [] = []
sealed_accounts (v ∷ _) = by_number v.key.sizes.callers v.sealed
