-- The slow registry: what it keeps, and what one call does.
use Rattle.std.specs.Prelude.{◌≡◌, ℕ, ◌+◌, ◌≤◌, ◌^◌, ◌==◌, nat_lt, if◌then◌else◌, List, ◌++◌, length, Option, Some, None, is_none}
use Rattle.std.specs.Option.{option_to_list}
use Rattle.reg_model.specs.declared.update.Update.{Update}
use Rattle.reg_model.specs.declared.call.Call.{Call}
use Rattle.reg_model.specs.declared.reply.Answer.{Answer}
use Rattle.reg_model.specs.declared.reply.Reply.{Reply}
use Rattle.reg_model.specs.declared.reply.Reply.TheVariants.{Id, Withdrawn, Absent, Full}
use Rattle.reg_model.specs.declared.reply.FullCause.TheVariants.{Log, Entries}
use Rattle.reg_model.specs.declared.start.StartFault.{StartFault}
use Rattle.reg_model.specs.declared.start.StartFault.TheVariants.{TooSmall, IdsSpent}
use Rattle.reg_model.specs.Limits.{Limits}
use Rattle.reg_model.specs.Opening.{Opening}
use Rattle.reg_model.specs.Live.{live, live_at, withdrawals}
use Rattle.reg_model.specs.Replies.{Replies}
use Rattle.reg_model.specs.Rows.{update_of}

-- sizes, what the round began with, and the updates since
pub record Registry : Type 0 where
  pub limits : Limits
  pub opening : Opening
  pub log : List Update

-- that of a round after these updates
abbrev pub registry_at : Limits → Opening → List Update → Registry
registry_at limits opening log = record { limits = limits; opening = opening; log = log }

-- The answer is that of the next row of a round with this log: its reply, its point, and the update that it makes.
pub record Serves (old : Registry) (call : Call) (answer : Answer) (new : Registry) : Type 0 where
  pub reply : Replies old.limits old.opening old.log call answer.reply
  pub update : new ≡ record old { log = old.log ++ option_to_list (update_of call answer.reply) }
  pub point : answer.point ≡ new.opening.base + length new.log
  pub within : length new.log ≤ new.limits.log

-- what a declaration gets, where one caller at a time is served: the log is asked before the entries
abbrev pub declare_reply : Registry → Reply
declare_reply r =
    if length r.log == r.limits.log then Full Log
    else if length (live r.opening r.log) == r.limits.entries then Full (Entries (withdrawals r.log))
    else Id (r.opening.base + length r.log)

-- what a withdrawal gets, where one caller at a time is served: an id that isn't live is told also where the log is full
abbrev pub withdraw_reply : Registry → ℕ → Reply
withdraw_reply r id =
    if is_none (live_at r.opening r.log id) then Absent id
    else if length r.log == r.limits.log then Full Log
    else Withdrawn id

-- why a round can't begin
abbrev pub start_refusal : Limits → Opening → Option StartFault
start_refusal limits opening =
    if nat_lt limits.entries (length opening.list) then Some (TooSmall (length opening.list) limits.entries)
    else if nat_lt (2 ^ 34) (opening.base + limits.log) then Some (IdsSpent opening.base limits.log)
    else None
