-- The lines of a history: what each tells, and its one text.
use Rattle.std.specs.Prelude.{ℕ, ◌^◌, ◌<◌, List, [], ◌∷◌, ◌++◌, length, map, All, codes}
use Rattle.std.specs.Fmt.{decimal}
use Rattle.iscc_header.specs.Unit64s.{IsUnit64}
use Rattle.iscc_text.specs.UnitText.{unit_text}
use Rattle.reg_model.specs.declared.sizes.TheConstants.{BITS_USUAL}
use Rattle.reg_model.specs.declared.reply.Hit.{Hit}
use Rattle.reg_model.specs.declared.reply.Reply.{Reply}
use Rattle.reg_model.specs.declared.reply.Reply.TheVariants as replies
use Rattle.reg_model.specs.declared.reply.Row.{Row}
use Rattle.reg_model.specs.Limits.{Limits}
use Rattle.reg_requests.specs.Lines.{line, spaced, call_text, reply_text}
use Rattle.reg_model.specs.Calls.{IsRequest}
use Rattle.reg_history.specs.declared.lines.told.HistoryLine.{HistoryLine}
use Rattle.reg_history.specs.declared.lines.told.HistoryLine.TheVariants as lines
use Rattle.reg_history.specs.declared.lines.told.ToldRound.{ToldRound}
use Rattle.reg_history.specs.declared.lines.told.ToldRow.{ToldRow}
use Rattle.reg_history.specs.declared.lines.told.ToldReply.{ToldReply}
use Rattle.reg_history.specs.declared.lines.told.ToldReply.TheVariants.{Hits, Plain}
use Rattle.reg_history.specs.declared.lines.told.ToldHit.{ToldHit}
use Rattle.reg_history.specs.History.{carry_line, round_line, end_line}
use Rattle.reg_history.specs.lines.Values.{IsDeclaredValue, IsReplyValue}

-- ---- texts

-- the sizes that a round's line tells; a text doesn't name the bits of a bucket
abbrev pub told_limits : ToldRound → Limits
told_limits told = record { entries = told.entries; log = told.log; bits = BITS_USUAL; callers = told.callers }

abbrev pub told_hit_text : ToldHit → List ℕ
told_hit_text hit = decimal hit.id ++ codes "," ++ decimal hit.distance ++ codes "," ++ unit_text hit.unit

abbrev pub told_reply_text : ToldReply → List ℕ
told_reply_text (Hits hits) = spaced (codes "hits" ∷ decimal (length hits) ∷ map told_hit_text hits)
told_reply_text (Plain reply) = reply_text 0 reply

-- session and number, point, call and reply
abbrev pub told_row_line : ToldRow → List ℕ
told_row_line row = line (spaced (
    (decimal row.session ++ codes "." ++ decimal row.number)
    ∷ (codes "@" ++ decimal row.point)
    ∷ call_text row.call
    ∷ codes "="
    ∷ told_reply_text row.reply
    ∷ []))

-- the text of a line, with its line feed
abbrev pub whole_line : HistoryLine → List ℕ
whole_line lines.Head = line (codes "iscc-history 1")
whole_line (lines.Carry declared) = carry_line declared
whole_line (lines.Round told) = round_line told.number told.base (told_limits told)
whole_line (lines.Row row) = told_row_line row
whole_line (lines.End rows live) = end_line rows live

-- ---- values

pub record IsToldHitValue (hit : ToldHit) : Type 0 where
  pub id : hit.id < 2 ^ 64
  pub distance : hit.distance < 2 ^ 64
  pub unit : IsUnit64 hit.unit

-- hits are told with their units
abbrev pub IsToldReplyValue : ToldReply → Type 0
IsToldReplyValue (Hits hits) = All IsToldHitValue hits
IsToldReplyValue (Plain (replies.Hits hits)) = ⊥
IsToldReplyValue (Plain reply) = IsReplyValue reply

pub record IsToldRoundValue (told : ToldRound) : Type 0 where
  pub number : told.number < 2 ^ 64
  pub base : told.base < 2 ^ 64
  pub entries : told.entries < 2 ^ 64
  pub log : told.log < 2 ^ 64
  pub callers : told.callers < 2 ^ 64

pub record IsToldRowValue (row : ToldRow) : Type 0 where
  pub session : row.session < 2 ^ 64
  pub number : row.number < 2 ^ 64
  pub point : row.point < 2 ^ 64
  pub call : IsRequest row.call
  pub reply : IsToldReplyValue row.reply

-- every number of the line has 64 bits, its units are of 64 bits, and a radius is one that may be asked for
abbrev pub IsLineValue : HistoryLine → Type 0
IsLineValue lines.Head = Unit {0}
IsLineValue (lines.Carry declared) = IsDeclaredValue declared
IsLineValue (lines.Round told) = IsToldRoundValue told
IsLineValue (lines.Row row) = IsToldRowValue row
IsLineValue (lines.End rows live) = (rows < 2 ^ 64) × (live < 2 ^ 64)

-- ---- rows

abbrev pub hit_in : ToldHit → Hit
hit_in hit = record { id = hit.id; body = hit.unit.body; distance = hit.distance }

-- the reply, whatever the kinds of its hits
abbrev pub reply_in : ToldReply → Reply
reply_in (Hits hits) = replies.Hits (map hit_in hits)
reply_in (Plain reply) = reply

abbrev pub row_in : ToldRow → Row
row_in row = record { session = row.session; number = row.number; call = row.call; point = row.point; reply = reply_in row.reply }
