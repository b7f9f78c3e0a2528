-- For readers: the rows of all seats are one history.
use Rattle.std.specs.Prelude.{◌≡◌, ℕ, ◌+◌, ◌<◌, ◌≤◌, List, length, slice_get, Some}
use Rattle.reg_model.specs.declared.reply.Row.{Row}
use Rattle.reg_model.specs.Accounts.{ShareLog}
use Rattle.reg_rule.specs.declared.view.Key.{Key}
use Rattle.reg_rule.specs.declared.view.Place.{Place}
use Rattle.reg_rule.specs.declared.view.Account.{Account}
use Rattle.reg_rule.specs.declared.view.View.{View}
use Rattle.reg_rule.specs.Log.{At, updates}
use Rattle.reg_rule.specs.ReadersLog.{IsSeatOf}

-- *Accounts.* The rows of all sessions stand in the one log.
pub record AccountsStand (key : Key) (views : List View) (log : List Place) : Type 0 where
  -- by session: each reply is the registry's at its point, points never fall, and each place is taken by one accepted row
  pub accounts : List (List Row)
  pub shared : ShareLog key.sizes key.carried (updates log) accounts
  -- these are the accounts of the seats
  pub own : (seat i : ℕ) (v : View) (a : Account) → IsSeatOf views seat v → At v.accounts i a → slice_get accounts a.number ≡ Some a.rows
  -- each session has a seat, and no other
  pub all : length accounts ≡ key.sizes.callers
  pub a_seat : (n : ℕ) → n < key.sizes.callers → (seat : ℕ) × (i : ℕ) × (v : View) × (a : Account) × IsSeatOf views seat v × At v.accounts i a × (a.number ≡ n)
  pub one_seat : (seat other i j : ℕ) (v u : View) (a b : Account) → IsSeatOf views seat v → At v.accounts i a → IsSeatOf views other u → At u.accounts j b → a.number ≡ b.number → (seat ≡ other) × (i ≡ j)
  -- no row stands above what its seat has seen
  pub seen : (seat i j : ℕ) (v : View) (a : Account) (row : Row) → IsSeatOf views seat v → At v.accounts i a → At a.rows j row → row.point ≤ key.carried.base + length v.log
