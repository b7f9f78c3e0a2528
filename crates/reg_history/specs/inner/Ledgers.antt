-- What the replies of a round depend on, without its log.
use Rattle.std.specs.Prelude.{◌≡◌, ℕ, ◌+◌, ◌<◌, ◌≤◌, ◌^◌, List, length}
use Rattle.reg_model.specs.declared.update.Update.{Update}
use Rattle.reg_model.specs.declared.update.Update.TheVariants.{Decl, Wd}
use Rattle.reg_model.specs.declared.update.Declared.{Declared}
use Rattle.reg_model.specs.Limits.{Limits, IsInRange}
use Rattle.reg_model.specs.Opening.{IsOpening, opening_of}
use Rattle.reg_model.specs.Live.{live, IsLive, declarations, withdrawals}
use Rattle.reg_model.specs.Registry.{Registry}
use Rattle.reg_model.specs.inner.Current.{IsCurrent}
use Rattle.reg_history.specs.inner.LiveSets.{AreByKind}

-- sizes, what the round began with, how many updates of each form it had, and the live declarations by kind
pub record LedgerParts : Type 0 where
  pub limits : Limits
  pub base : ℕ
  pub carried : ℕ
  pub declared : ℕ
  pub withdrawn : ℕ
  pub kinds : List (List Declared)

-- the id of the next update
abbrev pub point_of : LedgerParts → ℕ
point_of parts = parts.base + parts.declared + parts.withdrawn

-- what holds of every ledger, with a list of the declarations in it
pub record IsLedger (parts : LedgerParts) : Type 0 where
  pub limits : IsInRange parts.limits
  pub ids : parts.base + parts.limits.log ≤ 2 ^ 34
  pub within : parts.declared + parts.withdrawn ≤ parts.limits.log
  pub few : parts.carried ≤ 2 ^ 34
  pub list : List Declared
  pub by_kind : AreByKind parts.kinds list
  pub opens : IsOpening (opening_of (point_of parts) list)

-- the ledger is that of a registry: of its sizes, what it began with, and its updates
pub record Keeps (parts : LedgerParts) (r : Registry) : Type 0 where
  pub limits : parts.limits ≡ r.limits
  pub base : parts.base ≡ r.opening.base
  pub carried : parts.carried ≡ length r.opening.list
  pub declared : parts.declared ≡ declarations r.log
  pub withdrawn : parts.withdrawn ≡ withdrawals r.log
  pub current : IsCurrent r (live r.opening r.log) parts.withdrawn
  pub live : AreByKind parts.kinds (live r.opening r.log)

-- the update may be the next: the log has room, and a declaration an entry, or a withdrawal a live declaration
abbrev pub MayAdd : Registry → Update → Type 0
MayAdd r (Decl unit) = (length r.log < r.limits.log) × (length (live r.opening r.log) < r.limits.entries) × (unit.kind < 13)
MayAdd r (Wd id) = (length r.log < r.limits.log) × IsLive r.opening r.log id
