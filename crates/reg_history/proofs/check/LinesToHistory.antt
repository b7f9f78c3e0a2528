-- Lines that stand, up to an end that stands, are those of a history.
use Rattle.std.proofs.Common.{◌≡◌, ℕ, ◌+◌, ◌<◌, ◌≤◌, List, [], ◌∷◌, ◌++◌, map, length, refl, sym, ◌∙◌, ap, ap₂, subst, append_assoc, append-nil, arith, lit≤}
use Rattle.std.specs.Prelude.{All, codes}
use Rattle.std.specs.List.{flat_map}
use Rattle.std.specs.Fmt.{decimal}
use Rattle.std.proofs.lemmas.List.{length_push, length-map}
use Rattle.std.proofs.lemmas.List.Elements.{All-nil, All-head, All-tail, All-push, All-map, All-weaker}
use Rattle.std.proofs.lemmas.List.Quantifiers.{all_pairs_push}
use Rattle.std.proofs.lemmas.Grind.{flat_map-append}
use Rattle.std.proofs.lemmas.List.{flat_map_more}
use Rattle.iscc_text.specs.UnitText.{unit_text}
use Rattle.reg_model.specs.declared.update.Declared.{Declared}
use Rattle.reg_model.specs.declared.call.Call.{Call}
use Rattle.reg_model.specs.declared.reply.Reply.TheVariants as replies
use Rattle.reg_model.specs.declared.reply.FullCause.TheVariants.{Log, Entries}
use Rattle.reg_model.specs.Opening.{Opening, IsOpening, IsRising, opening_of}
use Rattle.reg_model.specs.Rows.{MayFollow}
use Rattle.reg_model.specs.Runs.{RoundRows, next_opening, closing, IsLawfulRound, IsLawfulRun}
use Rattle.reg_model.proofs.RowSteps.{EachAfter-push}
use Rattle.reg_requests.specs.Lines.{line, spaced, call_text, hit_text, reply_text, kind_of}
use Rattle.reg_history.specs.declared.lines.told.HistoryLine.{HistoryLine}
use Rattle.reg_history.specs.declared.lines.told.HistoryLine.TheVariants as lines
use Rattle.reg_history.specs.declared.lines.told.ToldRound.{ToldRound}
use Rattle.reg_history.specs.declared.lines.told.ToldRow.{ToldRow}
use Rattle.reg_history.specs.declared.lines.told.ToldReply.{ToldReply}
use Rattle.reg_history.specs.declared.lines.told.ToldReply.TheVariants.{Hits, Plain}
use Rattle.reg_history.specs.declared.lines.told.ToldHit.{ToldHit}
use Rattle.reg_history.specs.declared.check.fault.CheckWhy.TheVariants as why
use Rattle.reg_history.specs.History.{carry_line, round_line, row_line, rounds_text, end_line, history_text}
use Rattle.reg_history.specs.lines.Values.{IsDeclaredValue, IsHitValue, IsReplyValue, IsRowValue}
use Rattle.reg_history.specs.lines.HistoryLines.{told_limits, told_hit_text, told_reply_text, told_row_line, hit_in, reply_in, row_in, whole_line, IsToldHitValue, IsToldReplyValue, IsToldRowValue}
use Rattle.reg_history.specs.check.Checking.{Front, Nothing, Carried, Serving, Ended, after, after_all, begun, HasKind, OpensRound, HasEndNumbers, CanStand, EachStands, IsHistoryOf}
use Rattle.reg_history.proofs.lines.RunsBack.{AreRows}

-- ---- rounds, with one more behind them

pub closing-push : (opening : Opening) (rounds : List RoundRows) (round : RoundRows) → closing opening (rounds ++ round ∷ []) ≡ next_opening (closing opening rounds) round.rows
closing-push opening [] round = refl
closing-push opening (x ∷ rounds) round = closing-push (next_opening opening x.rows) rounds round

lawful-push : (opening : Opening) (rounds : List RoundRows) (round : RoundRows) → IsLawfulRun opening rounds → IsLawfulRound (closing opening rounds) round → IsLawfulRun opening (rounds ++ round ∷ [])
lawful-push opening [] round lawful this = (this, tt)
lawful-push opening (x ∷ rounds) round lawful this = (lawful.0, lawful-push (next_opening opening x.rows) rounds round lawful.1 this)

abbrev round_text : ℕ → Opening → RoundRows → List ℕ
round_text number opening round = round_line number opening.base round.limits ++ flat_map row_line round.rows

rounds_text-push : (number : ℕ) (opening : Opening) (rounds : List RoundRows) (round : RoundRows)
    → rounds_text number opening (rounds ++ round ∷ []) ≡ rounds_text number opening rounds ++ round_text (number + length rounds) (closing opening rounds) round
rounds_text-push number opening [] round =
    let same : number ≡ number + 0 = omega arith in
    append-nil (round_text number opening round) ∙ ap (λ n. round_text n opening round) same
rounds_text-push number opening (x ∷ rounds) round =
    let next = next_opening opening x.rows in
    let same : number + 1 + length rounds ≡ number + length (x ∷ rounds) = omega arith in
    ap (λ t. round_text number opening x ++ t) (rounds_text-push (number + 1) next rounds round)
    ∙ sym (append_assoc (round_text number opening x) (rounds_text (number + 1) next rounds) (round_text (number + 1 + length rounds) (closing next rounds) round))
    ∙ ap (λ n. (round_text number opening x ++ rounds_text (number + 1) next rounds) ++ round_text n (closing next rounds) round) same

-- the rounds of a run, with one more
run_text-push : (opening : Opening) (rounds : List RoundRows) (round : RoundRows)
    → rounds_text 0 opening (rounds ++ round ∷ []) ≡ rounds_text 0 opening rounds ++ round_text (length rounds) (closing opening rounds) round
run_text-push opening rounds round =
    let same : 0 + length rounds ≡ length rounds = omega arith in
    rounds_text-push 0 opening rounds round ∙ ap (λ n. rounds_text 0 opening rounds ++ round_text n (closing opening rounds) round) same

-- ---- the line of a row

-- a hit of the kind that the call names
told_hit : (kind : ℕ) (hit : ToldHit) → hit.unit.kind ≡ kind → told_hit_text hit ≡ hit_text kind (hit_in hit)
told_hit kind hit same = ap (λ k. decimal hit.id ++ codes "," ++ decimal hit.distance ++ codes "," ++ unit_text (record { kind = k; body = hit.unit.body })) same

told_hits : (kind : ℕ) (hits : List ToldHit) → All (λ (hit : ToldHit). hit.unit.kind ≡ kind) hits → map told_hit_text hits ≡ map (hit_text kind) (map hit_in hits)
told_hits kind [] same = refl
told_hits kind (hit ∷ hits) same =
    ap₂ (λ t ts. t ∷ ts) (told_hit kind hit (All-head (λ (h : ToldHit). h.unit.kind ≡ kind) hit hits same)) (told_hits kind hits (All-tail (λ (h : ToldHit). h.unit.kind ≡ kind) hit hits same))

told_reply : (call : Call) (reply : ToldReply) → HasKind call reply → IsToldReplyValue reply → told_reply_text reply ≡ reply_text (kind_of call) (reply_in reply)
told_reply call (Hits hits) same value = ap₂ (λ n words. spaced (codes "hits" ∷ decimal n ∷ words)) (sym (length-map hits hit_in)) (told_hits (kind_of call) hits same)
told_reply call (Plain (replies.Hits hits)) same value = absurd value
told_reply call (Plain (replies.Full Log)) same value = refl
told_reply call (Plain (replies.Full (Entries given))) same value = refl
told_reply call (Plain reply) same value = refl

-- the line of a row whose hits are of the kind of its call
told_row : (row : ToldRow) → HasKind row.call row.reply → IsToldReplyValue row.reply → told_row_line row ≡ row_line (row_in row)
told_row row same value = ap (λ t. line (spaced ((decimal row.session ++ codes "." ++ decimal row.number) ∷ (codes "@" ++ decimal row.point) ∷ call_text row.call ∷ codes "=" ∷ t ∷ []))) (told_reply row.call row.reply same value)

hit_value : (hit : ToldHit) → IsToldHitValue hit → IsHitValue (hit_in hit)
hit_value hit is = let unit = is.unit in record { id = is.id; body = unit.body; distance = is.distance }

reply_value : (reply : ToldReply) → IsToldReplyValue reply → IsReplyValue (reply_in reply)
reply_value (Hits hits) value = All-map IsHitValue hit_in hits (All-weaker IsToldHitValue (λ hit. IsHitValue (hit_in hit)) hit_value hits value)
reply_value (Plain (replies.Hits hits)) value = absurd value
reply_value (Plain reply) value = value

row_value : (row : ToldRow) → IsToldRowValue row → IsRowValue (row_in row)
row_value row is = record { session = is.session; number = is.number; call = is.call; point = is.point; reply = reply_value row.reply is.reply }

-- ---- the lines so far

abbrev head_line : List ℕ
head_line = line (codes "iscc-history 1")

-- the carried declarations
record IsCarriedText (text : List ℕ) (list : List Declared) : Type 0 where
  pub is : text ≡ head_line ++ flat_map carry_line list
  pub rising : IsRising list
  pub values : All IsDeclaredValue list

-- those, rounds that have ended, and one that goes on
record IsServingText (text : List ℕ) (opening : Opening) (rounds : List RoundRows) (now : RoundRows) : Type 0 where
  pub is : text ≡ ((head_line ++ flat_map carry_line opening.list) ++ rounds_text 0 opening rounds) ++ round_text (length rounds) (closing opening rounds) now
  pub opens : IsOpening opening
  pub few : length rounds + 1 ≤ 8
  pub lawful : IsLawfulRun opening rounds
  pub this : IsLawfulRound (closing opening rounds) now
  pub carried : All IsDeclaredValue opening.list
  pub earlier : All AreRows rounds
  pub rows : All IsRowValue now.rows

-- the text of lines that stand, by what they tell
abbrev IsTextOf : Front → List ℕ → Type 0
IsTextOf Nothing text = text ≡ []
IsTextOf (Carried list) text = IsCarriedText text list
IsTextOf (Serving opening rounds now) text = IsServingText text opening rounds now
IsTextOf Ended text = Unit {0}

-- ---- one line more

carry_next : (list : List Declared) (declared : Declared) (text : List ℕ) → CanStand (Carried list) (lines.Carry declared) → IsCarriedText text list
    → IsCarriedText (text ++ carry_line declared) (list ++ declared ∷ [])
carry_next list declared text stands so_far =
    let above : All (λ (earlier : Declared). earlier.id < declared.id) list = stands why.Round in
    let form = stands why.Form in
    record {
      is = ap (λ t. t ++ carry_line declared) so_far.is ∙ flat_map_more carry_line head_line list declared;
      rising = all_pairs_push (λ (a b : Declared). a.id < b.id) list declared so_far.rising above;
      values = All-push IsDeclaredValue list declared so_far.values form.1;
    }

-- a round that begins
round_is : (opening : Opening) (rounds : ℕ) (told : ToldRound) → OpensRound opening rounds told → IsLawfulRound opening (begun told)
round_is opening rounds told is = let base = is.base in record { sizes = is.sizes; room = is.room; ids = omega (arith, is.ids, base); rows = tt }

round_line_is : (opening : Opening) (rounds : ℕ) (told : ToldRound) → OpensRound opening rounds told
    → round_line told.number told.base (told_limits told) ≡ round_line rounds opening.base (told_limits told)
round_line_is opening rounds told is = ap₂ (λ n b. round_line n b (told_limits told)) is.number is.base

first_text : (text before round told : List ℕ) → text ≡ before → told ≡ round → text ++ told ≡ (before ++ []) ++ (round ++ [])
first_text text before round told e f = rw (e, f) (simp append-nil)

first_round : (list : List Declared) (told : ToldRound) (text : List ℕ) → CanStand (Carried list) (lines.Round told) → IsCarriedText text list
    → IsServingText (text ++ whole_line (lines.Round told)) (opening_of told.base list) [] (begun told)
first_round list told text stands so_far =
    let opening = opening_of told.base list in
    let opens : OpensRound opening 0 told = stands why.Round in
    record {
      is = first_text text (head_line ++ flat_map carry_line list) (round_line 0 told.base (told_limits told)) (round_line told.number told.base (told_limits told)) so_far.is (round_line_is opening 0 told opens);
      opens = opens.opens;
      few = lit≤ tt;
      lawful = tt;
      this = round_is opening 0 told opens;
      carried = so_far.values;
      earlier = All-nil AreRows;
      rows = All-nil IsRowValue;
    }

next_text : (text before rounds now more round told : List ℕ) → text ≡ (before ++ rounds) ++ now → more ≡ rounds ++ now → told ≡ round → text ++ told ≡ (before ++ more) ++ (round ++ [])
next_text text before rounds now more round told e f g = rw (e, f, g) (simp (append-nil, append_assoc))

next_round : (opening : Opening) (rounds : List RoundRows) (now : RoundRows) (told : ToldRound) (text : List ℕ) → CanStand (Serving opening rounds now) (lines.Round told)
    → IsServingText text opening rounds now → IsServingText (text ++ whole_line (lines.Round told)) opening (rounds ++ now ∷ []) (begun told)
next_round opening rounds now told text stands so_far =
    let all = rounds ++ now ∷ [] in
    let opens : OpensRound (closing opening all) (length rounds + 1) told = stands why.Round in
    let longer : length all ≡ length rounds + 1 = length_push rounds now in
    let told_is = round_line_is (closing opening all) (length rounds + 1) told opens ∙ ap (λ n. round_line n (closing opening all).base (told_limits told)) (sym longer) in
    record {
      is = next_text text (head_line ++ flat_map carry_line opening.list) (rounds_text 0 opening rounds) (round_text (length rounds) (closing opening rounds) now) (rounds_text 0 opening all)
          (round_line (length all) (closing opening all).base (told_limits told)) (round_line told.number told.base (told_limits told))
          so_far.is (run_text-push opening rounds now) told_is;
      opens = so_far.opens;
      few = omega (arith, longer, opens.few);
      lawful = lawful-push opening rounds now so_far.lawful so_far.this;
      this = round_is (closing opening all) (length rounds + 1) told opens;
      carried = so_far.carried;
      earlier = All-push AreRows rounds now so_far.earlier so_far.rows;
      rows = All-nil IsRowValue;
    }

-- the row may stand next
follows : (opening : Opening) (rounds : List RoundRows) (now : RoundRows) (row : ToldRow) → CanStand (Serving opening rounds now) (lines.Row row)
    → MayFollow now.limits (closing opening rounds) now.rows (row_in row)
follows opening rounds now row stands =
    let session = stands why.Session in
    let point = stands why.Point in
    let reply = stands why.Reply in
    record { session = session.0; number = session.1; order = stands why.Order; point = point.0; within = point.1; reply = reply.0 }

row_text : (text before round rows more row told : List ℕ) → text ≡ before ++ (round ++ rows) → rows ++ row ≡ more → told ≡ row → text ++ told ≡ before ++ (round ++ more)
row_text text before round rows more row told e f g = rw (e, g, ← f) (simp append_assoc)

next_row : (opening : Opening) (rounds : List RoundRows) (now : RoundRows) (row : ToldRow) (text : List ℕ) → CanStand (Serving opening rounds now) (lines.Row row)
    → IsServingText text opening rounds now → IsServingText (text ++ told_row_line row) opening rounds (record now { rows = now.rows ++ row_in row ∷ [] })
next_row opening rounds now row text stands so_far =
    let reply = stands why.Reply in
    let form = stands why.Form in
    let value : IsToldRowValue row = form.1 in
    let lawful = so_far.this in
    record {
      is = row_text text ((head_line ++ flat_map carry_line opening.list) ++ rounds_text 0 opening rounds) (round_line (length rounds) (closing opening rounds).base now.limits)
          (flat_map row_line now.rows) (flat_map row_line (now.rows ++ row_in row ∷ [])) (row_line (row_in row)) (told_row_line row)
          so_far.is (flat_map_more row_line [] now.rows (row_in row)) (told_row row reply.1 value.reply);
      opens = so_far.opens;
      few = so_far.few;
      lawful = so_far.lawful;
      this = record {
        sizes = lawful.sizes;
        room = lawful.room;
        ids = lawful.ids;
        rows = EachAfter-push (MayFollow now.limits (closing opening rounds)) [] now.rows (row_in row) lawful.rows (follows opening rounds now row stands);
      };
      carried = so_far.carried;
      earlier = so_far.earlier;
      rows = All-push IsRowValue now.rows (row_in row) so_far.rows (row_value row value);
    }

one_more : (front : Front) (told : HistoryLine) (text : List ℕ) → CanStand front told → IsTextOf front text → IsTextOf (after front told) (text ++ whole_line told)
one_more Nothing lines.Head text stands so_far = record { is = ap (λ t. t ++ head_line) so_far; rising = λ i j d lt inside. absurd (omega (arith, inside)); values = All-nil IsDeclaredValue }
one_more (Carried list) (lines.Carry declared) text stands so_far = carry_next list declared text stands so_far
one_more (Carried list) (lines.Round told) text stands so_far = first_round list told text stands so_far
one_more (Serving opening rounds now) (lines.Round told) text stands so_far = next_round opening rounds now told text stands so_far
one_more (Serving opening rounds now) (lines.Row row) text stands so_far = next_row opening rounds now row text stands so_far
one_more (Serving opening rounds now) (lines.End rows live) text stands so_far = tt
one_more front told text stands so_far = let form = stands why.Form in absurd form.0

-- all lines that stand
all_lines : (front : Front) (told : List HistoryLine) (text : List ℕ) → EachStands front told → IsTextOf front text → IsTextOf (after_all front told) (text ++ flat_map whole_line told)
all_lines front [] text stand so_far = subst (IsTextOf front) (sym (append-nil text)) so_far
all_lines front (told ∷ more) text stand so_far =
    subst (IsTextOf (after_all (after front told) more)) (append_assoc text (whole_line told) (flat_map whole_line more))
    (all_lines (after front told) more (text ++ whole_line told) stand.1 (one_more front told text stand.0 so_far))

-- ---- the end

history_is : (opening : Opening) (rounds : List RoundRows) (rows live : ℕ) (text : List ℕ) → text ≡ (head_line ++ flat_map carry_line opening.list) ++ rounds_text 0 opening rounds
    → HasEndNumbers opening rounds rows live → text ++ end_line rows live ≡ history_text opening rounds
unfolding history_text
history_is opening rounds rows live text is ends = ap₂ (λ t e. t ++ e) is (ap₂ end_line ends.rows_are ends.live_are)

run_text : (text before rounds now all : List ℕ) → text ≡ (before ++ rounds) ++ now → all ≡ rounds ++ now → text ≡ before ++ all
run_text text before rounds now all e f = rw (e, f) (simp append_assoc)

end_is : (front : Front) (rows live : ℕ) (text : List ℕ) → CanStand front (lines.End rows live) → IsTextOf front text → IsHistoryOf (text ++ end_line rows live) rows live
end_is (Serving opening rounds now) rows live text stands so_far =
    let all = rounds ++ now ∷ [] in
    let ends : HasEndNumbers opening all rows live = stands why.End in
    let longer : length all ≡ length rounds + 1 = length_push rounds now in
    let whole : text ≡ (head_line ++ flat_map carry_line opening.list) ++ rounds_text 0 opening all =
    run_text text (head_line ++ flat_map carry_line opening.list) (rounds_text 0 opening rounds) (round_text (length rounds) (closing opening rounds) now) (rounds_text 0 opening all) so_far.is (run_text-push opening rounds now) in
    record {
      opening = opening;
      rounds = all;
      lawful = record { opens = so_far.opens; some = omega (arith, longer); few = omega (arith, longer, so_far.few); lawful = lawful-push opening rounds now so_far.lawful so_far.this };
      values = record { carried = so_far.carried; rows = All-push AreRows rounds now so_far.earlier so_far.rows };
      is = history_is opening all rows live text whole ends;
      all_rows = ends.rows_are;
      left = ends.live_are;
    }
end_is front rows live text stands so_far = let form = stands why.Form in absurd form.0

pub lines_are_history : (before : List HistoryLine) (rows live : ℕ) → EachStands Nothing before → CanStand (after_all Nothing before) (lines.End rows live)
    → IsHistoryOf (flat_map whole_line (before ++ lines.End rows live ∷ [])) rows live
lines_are_history before rows live stand ends =
    let split : flat_map whole_line (before ++ lines.End rows live ∷ []) ≡ flat_map whole_line before ++ end_line rows live =
    flat_map-append whole_line before (lines.End rows live ∷ []) ∙ ap (λ t. flat_map whole_line before ++ t) (append-nil (end_line rows live)) in
    subst (λ t. IsHistoryOf t rows live) (sym split) (end_is (after_all Nothing before) rows live (flat_map whole_line before) ends (all_lines Nothing before [] stand refl))
