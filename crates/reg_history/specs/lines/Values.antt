-- The values that a text can have: numbers of 64 bits, and the calls of request lines. In the other definitions a number has no
-- range of its own.
use Rattle.std.specs.Prelude.{◌^◌, ◌<◌, List, All}
use Rattle.iscc_header.specs.Unit64s.{IsUnit64}
use Rattle.reg_model.specs.declared.update.Declared.{Declared}
use Rattle.reg_model.specs.declared.reply.Hit.{Hit}
use Rattle.reg_model.specs.declared.reply.Reply.{Reply}
use Rattle.reg_model.specs.declared.reply.Reply.TheVariants as replies
use Rattle.reg_model.specs.declared.reply.FullCause.TheVariants.{Log, Entries}
use Rattle.reg_model.specs.declared.reply.Row.{Row}
use Rattle.reg_model.specs.Opening.{Opening}
use Rattle.reg_model.specs.Runs.{RoundRows}
use Rattle.reg_model.specs.Calls.{IsRequest}

-- an id of 64 bits, and a unit
pub record IsDeclaredValue (d : Declared) : Type 0 where
  pub id : d.id < 2 ^ 64
  pub unit : IsUnit64 d.unit

-- a hit whose numbers have 64 bits
pub record IsHitValue (hit : Hit) : Type 0 where
  pub id : hit.id < 2 ^ 64
  pub body : hit.body < 2 ^ 64
  pub distance : hit.distance < 2 ^ 64

-- ids and counts of 64 bits
abbrev pub IsReplyValue : Reply → Type 0
IsReplyValue (replies.Id id) = id < 2 ^ 64
IsReplyValue (replies.Withdrawn id) = id < 2 ^ 64
IsReplyValue (replies.Absent id) = id < 2 ^ 64
IsReplyValue (replies.Hits hits) = All IsHitValue hits
IsReplyValue (replies.Live unit) = IsUnit64 unit
IsReplyValue (replies.Count count) = count < 2 ^ 64
IsReplyValue replies.Reached = Unit {0}
IsReplyValue replies.Ahead = Unit {0}
IsReplyValue (replies.Full Log) = Unit {0}
IsReplyValue (replies.Full (Entries given)) = given < 2 ^ 64

-- numbers of 64 bits, and a call that may be asked for
pub record IsRowValue (row : Row) : Type 0 where
  pub session : row.session < 2 ^ 64
  pub number : row.number < 2 ^ 64
  pub call : IsRequest row.call
  pub point : row.point < 2 ^ 64
  pub reply : IsReplyValue row.reply

-- the declarations that a run begins with are such values, and so are its rows
pub record IsRunValue (opening : Opening) (rounds : List RoundRows) : Type 0 where
  pub carried : All IsDeclaredValue opening.list
  pub rows : All (λ (round : RoundRows). All IsRowValue round.rows) rounds
