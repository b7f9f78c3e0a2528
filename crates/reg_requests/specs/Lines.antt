-- The text of calls and replies.
use Rattle.std.specs.Prelude.{ℕ, List, [], ◌∷◌, ◌++◌, length, map, codes}
use Rattle.std.specs.Fmt.{decimal}
use Rattle.iscc_text.specs.UnitText.{unit_text}
use Rattle.reg_model.specs.declared.call.Call.{Call}
use Rattle.reg_model.specs.declared.call.Call.TheVariants as calls
use Rattle.reg_model.specs.declared.reply.Hit.{Hit}
use Rattle.reg_model.specs.declared.reply.Reply.{Reply}
use Rattle.reg_model.specs.declared.reply.Reply.TheVariants as replies
use Rattle.reg_model.specs.declared.reply.FullCause.TheVariants.{Log, Entries}
use Rattle.reg_requests.specs.declared.items.BadLine.{BadLine}
use Rattle.reg_requests.specs.declared.items.BadLine.TheVariants as bad

-- a text and a line feed
abbrev pub line : List ℕ → List ℕ
line text = text ++ 10 ∷ []

-- words with a space between each two
abbrev pub spaced : List (List ℕ) → List ℕ
spaced [] = []
spaced (word ∷ []) = word
spaced (word ∷ next ∷ words) = word ++ 32 ∷ spaced (next ∷ words)

abbrev pub call_text : Call → List ℕ
call_text (calls.Declare unit) = spaced (codes "declare" ∷ unit_text unit ∷ [])
call_text (calls.Withdraw id) = spaced (codes "withdraw" ∷ decimal id ∷ [])
call_text (calls.Near unit radius) = spaced (codes "near" ∷ unit_text unit ∷ decimal radius ∷ [])
call_text (calls.Show id) = spaced (codes "show" ∷ decimal id ∷ [])
call_text calls.Count = codes "count"
call_text (calls.After point) = spaced (codes "after" ∷ decimal point ∷ [])

-- a hit of a query for units of a kind
abbrev pub hit_text : ℕ → Hit → List ℕ
hit_text kind hit = decimal hit.id ++ codes "," ++ decimal hit.distance ++ codes "," ++ unit_text (record { kind = kind; body = hit.body })

-- the kind is that of the hits
abbrev pub reply_text : ℕ → Reply → List ℕ
reply_text kind (replies.Id id) = spaced (codes "id" ∷ decimal id ∷ [])
reply_text kind (replies.Withdrawn id) = spaced (codes "withdrawn" ∷ decimal id ∷ [])
reply_text kind (replies.Absent id) = spaced (codes "none" ∷ decimal id ∷ [])
reply_text kind (replies.Hits hits) = spaced (codes "hits" ∷ decimal (length hits) ∷ map (hit_text kind) hits)
reply_text kind (replies.Live unit) = spaced (codes "live" ∷ unit_text unit ∷ [])
reply_text kind (replies.Count count) = spaced (codes "count" ∷ decimal count ∷ [])
reply_text kind replies.Reached = codes "reached"
reply_text kind replies.Ahead = codes "ahead"
reply_text kind (replies.Full Log) = codes "full log"
reply_text kind (replies.Full (Entries given)) = spaced (codes "full" ∷ codes "entries" ∷ decimal given ∷ [])

-- the kind of the unit that a query names
abbrev pub kind_of : Call → ℕ
kind_of (calls.Near unit radius) = unit.kind
kind_of call = 0

-- the text of a refused line
abbrev pub bad_text : BadLine → List ℕ
bad_text bad.Line = codes "bad line"
bad_text bad.Text = codes "bad text"
bad_text bad.Short = codes "bad short"
bad_text bad.Number = codes "bad number"
bad_text bad.Radius = codes "bad radius"
bad_text bad.Hex = codes "bad hex"
