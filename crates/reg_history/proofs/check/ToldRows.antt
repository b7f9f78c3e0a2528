-- The line of each row of a lawful round: it tells the row and nothing else, and it can stand.
use Rattle.std.proofs.Common.{◌≡◌, ℕ, ◌<◌, List, [], ◌∷◌, ◌++◌, map, refl, sym, ap, ap₂, subst, append_assoc, append-nil}
use Rattle.std.specs.Prelude.{All, codes}
use Rattle.std.specs.List.{flat_map}
use Rattle.std.specs.Fmt.{decimal}
use Rattle.std.proofs.lemmas.List.{length-map}
use Rattle.std.proofs.lemmas.List.Elements.{All-head, All-tail, All-map, All-weaker}
use Rattle.reg_model.specs.declared.update.Update.{Update}
use Rattle.reg_model.specs.declared.call.Call.{Call}
use Rattle.reg_model.specs.declared.call.Call.TheVariants as calls
use Rattle.reg_model.specs.declared.reply.Hit.{Hit}
use Rattle.reg_model.specs.declared.reply.Reply.{Reply}
use Rattle.reg_model.specs.declared.reply.Reply.TheVariants as replies
use Rattle.reg_model.specs.declared.reply.FullCause.TheVariants.{Log, Entries}
use Rattle.reg_model.specs.declared.reply.Row.{Row}
use Rattle.reg_model.specs.Limits.{Limits}
use Rattle.reg_model.specs.Opening.{Opening}
use Rattle.reg_model.specs.Replies.{Replies}
use Rattle.reg_model.specs.Rows.{log_of, MayFollow, EachAfter}
use Rattle.reg_model.specs.Runs.{RoundRows, closing}
use Rattle.reg_requests.specs.Lines.{line, spaced, call_text, hit_text, reply_text, kind_of}
use Rattle.reg_history.specs.declared.lines.told.HistoryLine.{HistoryLine}
use Rattle.reg_history.specs.declared.lines.told.HistoryLine.TheVariants as lines
use Rattle.reg_history.specs.declared.lines.told.ToldRow.{ToldRow}
use Rattle.reg_history.specs.declared.lines.told.ToldReply.{ToldReply}
use Rattle.reg_history.specs.declared.lines.told.ToldReply.TheVariants.{Hits, Plain}
use Rattle.reg_history.specs.declared.lines.told.ToldHit.{ToldHit}
use Rattle.reg_history.specs.declared.check.fault.CheckWhy.{CheckWhy}
use Rattle.reg_history.specs.declared.check.fault.CheckWhy.TheVariants as why
use Rattle.reg_history.specs.History.{row_line}
use Rattle.reg_history.specs.lines.Values.{IsHitValue, IsReplyValue, IsRowValue}
use Rattle.reg_history.specs.lines.HistoryLines.{told_hit_text, told_reply_text, hit_in, reply_in, row_in, whole_line, IsToldHitValue, IsToldReplyValue, IsToldRowValue}
use Rattle.reg_history.specs.check.Checking.{Serving, HasKind, Owes, CanStand, EachStands}
use Rattle.reg_history.proofs.lines.RowsBack.{kind_low}

-- ---- what is told of a row

abbrev pub hit_told : ℕ → Hit → ToldHit
hit_told kind hit = record { id = hit.id; distance = hit.distance; unit = record { kind = kind; body = hit.body } }

abbrev pub reply_told : ℕ → Reply → ToldReply
reply_told kind (replies.Hits hits) = Hits (map (hit_told kind) hits)
reply_told kind reply = Plain reply

abbrev pub row_told : Row → ToldRow
row_told row = record { session = row.session; number = row.number; point = row.point; call = row.call; reply = reply_told (kind_of row.call) row.reply }

abbrev pub line_of_row : Row → HistoryLine
line_of_row row = lines.Row (row_told row)

-- ---- its text

hits_text : (kind : ℕ) (hits : List Hit) → map told_hit_text (map (hit_told kind) hits) ≡ map (hit_text kind) hits
hits_text kind [] = refl
hits_text kind (hit ∷ hits) = ap (λ words. hit_text kind hit ∷ words) (hits_text kind hits)

reply_is : (kind : ℕ) (reply : Reply) → told_reply_text (reply_told kind reply) ≡ reply_text kind reply
reply_is kind (replies.Hits hits) = ap₂ (λ n words. spaced (codes "hits" ∷ decimal n ∷ words)) (length-map hits (hit_told kind)) (hits_text kind hits)
reply_is kind (replies.Full Log) = refl
reply_is kind (replies.Full (Entries given)) = refl
reply_is kind reply = refl

row_is : (row : Row) → whole_line (line_of_row row) ≡ row_line row
row_is row =
    ap (λ t. line (spaced ((decimal row.session ++ codes "." ++ decimal row.number) ∷ (codes "@" ++ decimal row.point) ∷ call_text row.call ∷ codes "=" ∷ t ∷ []))) (reply_is (kind_of row.call) row.reply)

pub rows_text : (rows : List Row) → flat_map whole_line (map line_of_row rows) ≡ flat_map row_line rows
rows_text [] = refl
rows_text (row ∷ rows) = ap₂ (λ t ts. t ++ ts) (row_is row) (rows_text rows)

-- ---- the row that it tells

hits_back : (kind : ℕ) (hits : List Hit) → map hit_in (map (hit_told kind) hits) ≡ hits
hits_back kind [] = refl
hits_back kind (hit ∷ hits) = ap (λ more. hit ∷ more) (hits_back kind hits)

reply_back : (kind : ℕ) (reply : Reply) → reply_in (reply_told kind reply) ≡ reply
reply_back kind (replies.Hits hits) = ap replies.Hits (hits_back kind hits)
reply_back kind reply = refl

row_back : (row : Row) → row_in (row_told row) ≡ row
row_back row = ap (λ (r : Reply). record { session = row.session; number = row.number; call = row.call; point = row.point; reply = r }) (reply_back (kind_of row.call) row.reply)

-- ---- its values

hit_value : (kind : ℕ) → kind < 13 → (hit : Hit) → IsHitValue hit → IsToldHitValue (hit_told kind hit)
hit_value kind low hit is = record { id = is.id; distance = is.distance; unit = record { kind = low; body = is.body } }

reply_value : (kind : ℕ) (reply : Reply) → kind < 13 → IsReplyValue reply → IsToldReplyValue (reply_told kind reply)
reply_value kind (replies.Hits hits) low value = All-map IsToldHitValue (hit_told kind) hits (All-weaker IsHitValue (λ hit. IsToldHitValue (hit_told kind hit)) (hit_value kind low) hits value)
reply_value kind reply low value = value

row_value : (row : Row) → IsRowValue row → IsToldRowValue (row_told row)
row_value row is = record { session = is.session; number = is.number; point = is.point; call = is.call; reply = reply_value (kind_of row.call) row.reply (kind_low row.call is.call) is.reply }

has_kind : (call : Call) (reply : Reply) → HasKind call (reply_told (kind_of call) reply)
has_kind call (replies.Hits hits) = All-map (λ (hit : ToldHit). hit.unit.kind ≡ kind_of call) (hit_told (kind_of call)) hits (λ i d lt. refl)
has_kind call reply = tt

-- ---- other bits of a bucket

abbrev pub with_bits : ℕ → Limits → Limits
with_bits bits limits = record { entries = limits.entries; log = limits.log; bits = bits; callers = limits.callers }

replies_with : (bits : ℕ) (limits : Limits) (opening : Opening) (log : List Update) (call : Call) (reply : Reply) → Replies limits opening log call reply → Replies (with_bits bits limits) opening log call reply
replies_with bits limits opening log (calls.Declare unit) (replies.Id id) is = is
replies_with bits limits opening log (calls.Declare unit) (replies.Full Log) is = is
replies_with bits limits opening log (calls.Declare unit) (replies.Full (Entries given)) is = record { taken = is.taken; in_hands = is.in_hands; withdrawn = is.withdrawn; alone = is.alone }
replies_with bits limits opening log (calls.Withdraw id) (replies.Withdrawn other) is = is
replies_with bits limits opening log (calls.Withdraw id) (replies.Full Log) is = is
replies_with bits limits opening log call reply is = is

follows_with : (bits : ℕ) (limits : Limits) (opening : Opening) (before : List Row) (row : Row) → MayFollow limits opening before row → MayFollow (with_bits bits limits) opening before row
follows_with bits limits opening before row is = record {
  session = is.session;
  number = is.number;
  order = is.order;
  point = is.point;
  within = is.within;
  reply = replies_with bits limits opening (log_of before) row.call row.reply is.reply;
}

pub each_with : (bits : ℕ) (limits : Limits) (opening : Opening) (before rows : List Row) → EachAfter (MayFollow limits opening) before rows → EachAfter (MayFollow (with_bits bits limits) opening) before rows
each_with bits limits opening before [] each = tt
each_with bits limits opening before (row ∷ rows) each = (follows_with bits limits opening before row each.0, each_with bits limits opening (before ++ row ∷ []) rows each.1)

-- ---- it stands

abbrev pub rows_at : Limits → List Row → RoundRows
rows_at limits rows = record { limits = limits; rows = rows }

row_owes : (first : Opening) (ended : List RoundRows) (now : RoundRows) (row : ToldRow) → IsToldRowValue row → HasKind row.call row.reply
    → MayFollow now.limits (closing first ended) now.rows (row_in row) → (cause : CheckWhy) → Owes (Serving first ended now) (lines.Row row) cause
row_owes first ended now row value kind is why.Form = (tt, value)
row_owes first ended now row value kind is why.Session = (is.session, is.number)
row_owes first ended now row value kind is why.Order = is.order
row_owes first ended now row value kind is why.Point = (is.point, is.within)
row_owes first ended now row value kind is why.Reply = (is.reply, kind)
row_owes first ended now row value kind is cause = tt

row_stands : (first : Opening) (ended : List RoundRows) (limits : Limits) (before : List Row) (row : Row) → IsRowValue row → MayFollow limits (closing first ended) before row
    → CanStand (Serving first ended (rows_at limits before)) (line_of_row row)
row_stands first ended limits before row value is =
    row_owes first ended (rows_at limits before) (row_told row) (row_value row value) (has_kind row.call row.reply)
    (subst (MayFollow limits (closing first ended) before) (sym (row_back row)) is)

-- the rows from there on, and the lines behind them
pub rows_stand : (first : Opening) (ended : List RoundRows) (limits : Limits) (before rows : List Row) (rest : List HistoryLine) → All IsRowValue rows
    → EachAfter (MayFollow limits (closing first ended)) before rows → EachStands (Serving first ended (rows_at limits (before ++ rows))) rest
    → EachStands (Serving first ended (rows_at limits before)) (map line_of_row rows ++ rest)
rows_stand first ended limits before [] rest values each behind = subst (λ rows. EachStands (Serving first ended (rows_at limits rows)) rest) (append-nil before) behind
rows_stand first ended limits before (row ∷ rows) rest values each behind =
    let whole : EachStands (Serving first ended (rows_at limits ((before ++ row ∷ []) ++ rows))) rest =
    subst (λ all. EachStands (Serving first ended (rows_at limits all)) rest) (sym (append_assoc before (row ∷ []) rows)) behind in (
      row_stands first ended limits before row (All-head IsRowValue row rows values) each.0,
      subst (λ next. EachStands (Serving first ended (rows_at limits (before ++ next ∷ []))) (map line_of_row rows ++ rest)) (sym (row_back row))
          (rows_stand first ended limits (before ++ row ∷ []) rows rest (All-tail IsRowValue row rows values) each.1 whole),
    )
