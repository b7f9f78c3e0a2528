-- Rows of a desk that serves one caller at a time: each has the one reply that the slow registry gives there.
use Rattle.std.specs.Prelude.{◌≡◌, List, take}
use Rattle.reg_model.specs.declared.update.Update.{Update}
use Rattle.reg_model.specs.declared.call.Call.{Call}
use Rattle.reg_model.specs.declared.call.Call.TheVariants as calls
use Rattle.reg_model.specs.declared.reply.Reply.{Reply}
use Rattle.reg_model.specs.declared.reply.Row.{Row}
use Rattle.reg_model.specs.Limits.{Limits}
use Rattle.reg_model.specs.Opening.{Opening}
use Rattle.reg_model.specs.Replies.{Replies}
use Rattle.reg_model.specs.Accounts.{StandsInLog}
use Rattle.reg_model.specs.Registry.{Registry, registry_at, declare_reply, withdraw_reply}

-- The reply is that of a registry which serves one caller at a time: a declaration, or the withdrawal of a live id, is refused for want
-- of a place in the log exactly where the log is full, and a declaration for want of entries exactly where the log isn't full and every
-- entry has a live declaration.
abbrev pub IsPlainReply : Registry → Call → Reply → Type 0
IsPlainReply registry (calls.Declare unit) reply = reply ≡ declare_reply registry
IsPlainReply registry (calls.Withdraw id) reply = reply ≡ withdraw_reply registry id
IsPlainReply registry (calls.Near unit radius) reply = Replies registry.limits registry.opening registry.log (calls.Near unit radius) reply
IsPlainReply registry (calls.Show id) reply = Replies registry.limits registry.opening registry.log (calls.Show id) reply
IsPlainReply registry calls.Count reply = Replies registry.limits registry.opening registry.log calls.Count reply
IsPlainReply registry (calls.After point) reply = Replies registry.limits registry.opening registry.log (calls.After point) reply

-- The row stands in the log, and its reply is the plain registry's after the updates before its place.
pub record IsPlainRow (limits : Limits) (opening : Opening) (log : List Update) (row : Row) : Type 0 where
  pub stands : StandsInLog limits opening log row
  pub reply : IsPlainReply (registry_at limits opening (take stands.place log)) row.call row.reply
