-- The rows of all sessions stand in the one log.
use Rattle.std.specs.Prelude.{◌≡◌, ℕ, zero, suc, ◌+◌, ◌<◌, ◌≤◌, if◌then◌else◌, List, length, take, count_by, AllPairs, Some}
use Rattle.reg_model.specs.declared.update.Update.{Update}
use Rattle.reg_model.specs.declared.reply.Row.{Row}
use Rattle.reg_model.specs.Accounts.{claims}
use Rattle.reg_model.specs.Limits.{Limits}
use Rattle.reg_model.specs.Opening.{Opening}
use Rattle.reg_model.specs.Replies.{Replies}
use Rattle.reg_model.specs.Rows.{is_accepted, update_of, IsSeenBy}
use Rattle.reg_rule.specs.declared.view.Key.{Key}
use Rattle.reg_rule.specs.declared.view.Place.{Place}
use Rattle.reg_rule.specs.Log.{At, updates}

abbrev pub total_below : ℕ → (ℕ → ℕ) → ℕ
total_below zero f = 0
total_below (suc n) f = f n + total_below n f

-- The row's reply is the registry's over a log of the round, at the place that the row's point names.
pub record IsAnswered (limits : Limits) (opening : Opening) (log : List Update) (row : Row) : Type 0 where
  -- how many updates stand before the row
  pub place : ℕ
  pub within : place ≤ length log
  pub point : row.point ≡ opening.base + place + (if is_accepted row then 1 else 0)
  pub reply : Replies limits opening (take place log) row.call row.reply

pub record RowFits (key : Key) (log : List Place) (session number : ℕ) (row : Row) : Type 0 where
  pub session_is : row.session ≡ session
  pub number_is : row.number ≡ number
  -- its reply is the registry's at its point
  pub answered : IsAnswered key.sizes key.carried (updates log) row
  -- an accepted row made the update of the place that it takes
  pub made : (p : ℕ) (update : Update) → update_of row.call row.reply ≡ Some update → row.point ≡ key.carried.base + p + 1 → At (updates log) p update

-- The accounts of the sessions.
pub record AccountsPart (key : Key) (log : List Place) (accounts : ℕ → List Row) : Type 0 where
  pub fits : (n i : ℕ) (row : Row) → n < key.sizes.callers → At (accounts n) i row → RowFits key log n i row
  pub rising : (n : ℕ) → n < key.sizes.callers → AllPairs IsSeenBy (accounts n)
  -- each place is taken by one row
  pub claimed : (p : ℕ) → p < length log → total_below key.sizes.callers (λ n. count_by (claims key.carried.base p) (accounts n)) ≡ 1
