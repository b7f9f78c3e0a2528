-- What the slow registry keeps between two calls.
use Rattle.std.specs.Prelude.{◌≡◌, ℕ, ◌+◌, ◌<◌, ◌≤◌, ◌^◌, true, List, length}
use Rattle.reg_model.specs.declared.update.Declared.{Declared}
use Rattle.reg_model.specs.Limits.{IsInRange}
use Rattle.reg_model.specs.Opening.{IsOpening}
use Rattle.reg_model.specs.Live.{live, is_withdrawn, declarations, withdrawals}
use Rattle.reg_model.specs.Registry.{Registry}

-- what holds of a registry between two calls, with the list of its live declarations and the count of its withdrawals
pub record IsCurrent (r : Registry) (live_list : List Declared) (withdrawn : ℕ) : Type 0 where
  pub limits : IsInRange r.limits
  pub opening : IsOpening r.opening
  pub ids : r.opening.base + r.limits.log ≤ 2 ^ 34
  pub within : length r.log ≤ r.limits.log
  pub room : length live_list ≤ r.limits.entries
  pub kept : live_list ≡ live r.opening r.log
  pub counted : withdrawn ≡ withdrawals r.log
  -- a withdrawn id is one that was given
  pub below : (id : ℕ) → is_withdrawn r.log id ≡ true → id < r.opening.base + length r.log
  -- each withdrawal ends one declaration
  pub balance : length live_list + withdrawals r.log ≡ length r.opening.list + declarations r.log
