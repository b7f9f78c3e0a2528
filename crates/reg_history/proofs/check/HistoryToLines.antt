-- A history is the text of lines that stand, up to an end that stands.
use Rattle.std.proofs.Common.{◌≡◌, ℕ, ◌+◌, ◌^◌, ◌<◌, ◌≤◌, List, [], ◌∷◌, ◌++◌, map, length, refl, sym, ◌∙◌, ap, ap₂, subst, append_assoc, append-nil, arith, lit≤, length-append}
use Rattle.std.specs.Prelude.{All, codes, sum_by}
use Rattle.std.specs.List.{flat_map}
use Rattle.std.proofs.Math.Seq.{get_or-append_seam}
use Rattle.std.proofs.lemmas.List.{length_push, get_or_append_left}
use Rattle.std.proofs.lemmas.List.Elements.{All-head, All-tail}
use Rattle.std.proofs.lemmas.List.Sums.{sum_by-cons, sum_by_push}
use Rattle.std.proofs.lemmas.Grind.{flat_map-append}
use Rattle.reg_model.specs.declared.update.Declared.{Declared}
use Rattle.reg_model.specs.declared.reply.Row.{Row}
use Rattle.reg_model.specs.Limits.{Limits}
use Rattle.reg_model.specs.Opening.{Opening, IsOpening, IsRising}
use Rattle.reg_model.specs.Rows.{log_of, MayFollow, EachAfter}
use Rattle.reg_model.specs.Runs.{RoundRows, next_opening, closing, IsLawfulRound, IsLawfulRun, IsHistory}
use Rattle.reg_model.proofs.LawfulRounds.{log_fits, next_opens}
use Rattle.reg_requests.specs.Lines.{line}
use Rattle.reg_history.specs.declared.lines.told.HistoryLine.{HistoryLine}
use Rattle.reg_history.specs.declared.lines.told.HistoryLine.TheVariants as lines
use Rattle.reg_history.specs.declared.lines.told.ToldRound.{ToldRound}
use Rattle.reg_history.specs.declared.check.fault.CheckWhy.{CheckWhy}
use Rattle.reg_history.specs.declared.check.fault.CheckWhy.TheVariants as why
use Rattle.reg_history.specs.History.{carry_line, round_line, row_line, rounds_text, end_line, history_text}
use Rattle.reg_history.specs.lines.Values.{IsDeclaredValue, IsRowValue, IsRunValue}
use Rattle.reg_history.specs.lines.HistoryLines.{whole_line, IsToldRoundValue}
use Rattle.reg_history.specs.check.Checking.{Front, Nothing, Carried, Serving, after, after_all, begun, OpensRound, HasEndNumbers, IsAllowed, Owes, CanStand, EachStands, IsHistoryOf}
use Rattle.reg_model.proofs.LiveSteps.{live_few}
use Rattle.reg_history.proofs.lines.RunsBack.{AreRows}
use Rattle.reg_history.proofs.check.LinesToHistory.{closing-push}
use Rattle.reg_history.proofs.check.ToldRows.{line_of_row, rows_text, with_bits, each_with, rows_at, rows_stand}

-- ---- the lines

abbrev round_told : ℕ → ℕ → Limits → ToldRound
round_told number base limits = record { number = number; base = base; entries = limits.entries; log = limits.log; callers = limits.callers }

abbrev rounds_lines : ℕ → Opening → List RoundRows → List HistoryLine
rounds_lines number opening [] = []
rounds_lines number opening (round ∷ rounds) =
    lines.Round (round_told number opening.base round.limits) ∷ (map line_of_row round.rows ++ rounds_lines (number + 1) (next_opening opening round.rows) rounds)

-- all but the end
abbrev history_lines : Opening → List RoundRows → List HistoryLine
history_lines opening rounds = lines.Head ∷ (map lines.Carry opening.list ++ rounds_lines 0 opening rounds)

-- ---- their text

carried_text : (list : List Declared) → flat_map whole_line (map lines.Carry list) ≡ flat_map carry_line list
carried_text [] = refl
carried_text (d ∷ list) = ap (λ t. carry_line d ++ t) (carried_text list)

rounds_are : (number : ℕ) (opening : Opening) (rounds : List RoundRows) → flat_map whole_line (rounds_lines number opening rounds) ≡ rounds_text number opening rounds
rounds_are number opening [] = refl
rounds_are number opening (round ∷ rounds) =
    let head = round_line number opening.base round.limits in
    let next = next_opening opening round.rows in
    ap (λ t. head ++ t) (flat_map-append whole_line (map line_of_row round.rows) (rounds_lines (number + 1) next rounds))
    ∙ ap₂ (λ rows more. head ++ (rows ++ more)) (rows_text round.rows) (rounds_are (number + 1) next rounds)
    ∙ sym (append_assoc head (flat_map row_line round.rows) (rounds_text (number + 1) next rounds))

grouped : (head carried rounds end all : List ℕ) → all ≡ (head ++ (carried ++ rounds)) ++ end → all ≡ ((head ++ carried) ++ rounds) ++ end
grouped head carried rounds end all e = e ∙ simp append_assoc

history_is : (opening : Opening) (rounds : List RoundRows) (rows live : ℕ) → HasEndNumbers opening rounds rows live
    → history_text opening rounds ≡ flat_map whole_line (history_lines opening rounds ++ lines.End rows live ∷ [])
unfolding history_text
history_is opening rounds rows live ends =
    let head = line (codes "iscc-history 1") in
    let carried = map lines.Carry opening.list in
    let whole : flat_map whole_line (history_lines opening rounds ++ lines.End rows live ∷ []) ≡ (head ++ (flat_map carry_line opening.list ++ rounds_text 0 opening rounds)) ++ end_line rows live =
    flat_map-append whole_line (history_lines opening rounds) (lines.End rows live ∷ [])
    ∙ ap₂ (λ t e. (head ++ t) ++ e)
    (flat_map-append whole_line carried (rounds_lines 0 opening rounds) ∙ ap₂ (λ t u. t ++ u) (carried_text opening.list) (rounds_are 0 opening rounds))
    (append-nil (end_line rows live)) in
    sym (grouped head (flat_map carry_line opening.list) (rounds_text 0 opening rounds) (end_line rows live) _ whole
    ∙ ap₂ (λ r l. ((head ++ flat_map carry_line opening.list) ++ rounds_text 0 opening rounds) ++ end_line r l) ends.rows_are ends.live_are)

-- ---- carried declarations

carry_owes : (done : List Declared) (d : Declared) → IsDeclaredValue d → All (λ (earlier : Declared). earlier.id < d.id) done → (cause : CheckWhy) → Owes (Carried done) (lines.Carry d) cause
carry_owes done d value above why.Form = (tt, value)
carry_owes done d value above why.Round = above
carry_owes done d value above cause = tt

-- what stands before an element of a list with rising ids
above_all : (done : List Declared) (d : Declared) (list : List Declared) → IsRising (done ++ d ∷ list) → All (λ (earlier : Declared). earlier.id < d.id) done
above_all done d list rising i e lt =
    let id_of = λ (x : Declared). x.id in
    omega (arith, rising i (length done) e lt (omega (arith, length-append done (d ∷ list))), ap id_of (get_or_append_left done (d ∷ list) e i lt), ap id_of (get_or-append_seam done d list e))

carries_stand : (done list : List Declared) (rest : List HistoryLine) → IsRising (done ++ list) → All IsDeclaredValue list → EachStands (Carried (done ++ list)) rest
    → EachStands (Carried done) (map lines.Carry list ++ rest)
carries_stand done [] rest rising values behind = subst (λ all. EachStands (Carried all) rest) (append-nil done) behind
carries_stand done (d ∷ list) rest rising values behind =
    let same = sym (append_assoc done (d ∷ []) list) in (
      carry_owes done d (All-head IsDeclaredValue d list values) (above_all done d list rising),
      carries_stand (done ++ d ∷ []) list rest (subst IsRising same rising) (All-tail IsDeclaredValue d list values) (subst (λ all. EachStands (Carried all) rest) same behind),
    )

-- ---- what a lawful round leaves

-- how many declarations a run may leave
closing_few : (opening : Opening) (rounds : List RoundRows) → IsLawfulRun opening rounds → length opening.list ≤ 2 ^ 23 → length (closing opening rounds).list ≤ 2 ^ 23
closing_few opening [] lawful few = few
closing_few opening (round ∷ rounds) lawful few =
    let this : IsLawfulRound opening round = lawful.0 in
    let sizes = this.sizes in
    let fits = log_fits round.limits opening [] round.rows this.rows (omega arith) in
    closing_few (next_opening opening round.rows) rounds lawful.1 (omega (arith, live_few opening (log_of round.rows), this.room, sizes.entries, sizes.log, fits))

-- ---- rounds

abbrev row_count : RoundRows → ℕ
row_count round = length round.rows

-- A lawful run from a round on, behind those that have ended, and the numbers of the end.
record GoesOn (first : Opening) (ended : List RoundRows) (opening : Opening) (number : ℕ) (round : RoundRows) (rounds : List RoundRows) (rows live : ℕ) : Type 0 where
  pub begins : opening ≡ closing first ended
  pub count : number ≡ length ended
  pub opens : IsOpening opening
  pub few : number + 1 + length rounds ≤ 8
  pub lawful : IsLawfulRound opening round
  pub later : IsLawfulRun (next_opening opening round.rows) rounds
  pub values : All IsRowValue round.rows
  pub later_values : All AreRows rounds
  pub all_rows : rows ≡ sum_by row_count ended + (row_count round + sum_by row_count rounds)
  pub left : live ≡ length (closing (next_opening opening round.rows) rounds).list
  pub low : (rows < 2 ^ 64) × (live < 2 ^ 64)

-- the round without what its text doesn't name
abbrev ended_round : RoundRows → RoundRows
ended_round round = rows_at (with_bits 12 round.limits) round.rows

-- what a round leaves behind those that have ended
left_behind : (first : Opening) (ended : List RoundRows) (opening : Opening) (round : RoundRows) → opening ≡ closing first ended → next_opening opening round.rows ≡ closing first (ended ++ ended_round round ∷ [])
left_behind first ended opening round begins = ap (λ (o : Opening). next_opening o round.rows) begins ∙ sym (closing-push first ended (ended_round round))

next_round : (first : Opening) (ended : List RoundRows) (opening : Opening) (number : ℕ) (round next : RoundRows) (rounds : List RoundRows) (rows live : ℕ)
    → GoesOn first ended opening number round (next ∷ rounds) rows live → GoesOn first (ended ++ ended_round round ∷ []) (next_opening opening round.rows) (number + 1) next rounds rows live
next_round first ended opening number round next rounds rows live is =
    let later = is.later in
    record {
      begins = left_behind first ended opening round is.begins;
      count = omega (arith, is.count, length_push ended (ended_round round));
      opens = next_opens opening round is.opens is.lawful;
      few = omega (arith, is.few);
      lawful = later.0;
      later = later.1;
      values = All-head AreRows next rounds is.later_values;
      later_values = All-tail AreRows next rounds is.later_values;
      all_rows = omega (arith, is.all_rows, sum_by_push row_count ended (ended_round round), sum_by-cons row_count next rounds);
      left = is.left;
      low = is.low;
    }

round_value : (opening : Opening) (number : ℕ) (round : RoundRows) → number ≤ 8 → IsLawfulRound opening round → IsToldRoundValue (round_told number opening.base round.limits)
round_value opening number round few lawful =
    let sizes = lawful.sizes in
    record { number = omega (arith, few); base = omega (arith, lawful.ids); entries = omega (arith, sizes.entries); log = omega (arith, sizes.log); callers = omega (arith, sizes.callers) }

-- the line of a round
opens_round : (opening : Opening) (number : ℕ) (round : RoundRows) → number < 8 → IsOpening opening → IsLawfulRound opening round → OpensRound opening number (round_told number opening.base round.limits)
opens_round opening number round few opens lawful =
    let sizes = lawful.sizes in
    record {
      number = refl;
      few = few;
      base = refl;
      opens = opens;
      sizes = record { entries = sizes.entries; log = sizes.log; bits = omega arith; callers = sizes.callers };
      room = lawful.room;
      ids = lawful.ids;
    }

round_owes : (first : Opening) (ended : List RoundRows) (now : RoundRows) (told : ToldRound) → IsToldRoundValue told → OpensRound (closing first (ended ++ now ∷ [])) (length ended + 1) told
    → (cause : CheckWhy) → Owes (Serving first ended now) (lines.Round told) cause
round_owes first ended now told value opens why.Form = (tt, value)
round_owes first ended now told value opens why.Round = opens
round_owes first ended now told value opens cause = tt

first_owes : (opening : Opening) (limits : Limits) → IsToldRoundValue (round_told 0 opening.base limits) → OpensRound opening 0 (round_told 0 opening.base limits)
    → (cause : CheckWhy) → Owes (Carried opening.list) (lines.Round (round_told 0 opening.base limits)) cause
first_owes opening limits value opens why.Form = (tt, value)
first_owes opening limits value opens why.Round = opens
first_owes opening limits value opens cause = tt

end_owes : (first : Opening) (ended : List RoundRows) (now : RoundRows) (rows live : ℕ) → (rows < 2 ^ 64) × (live < 2 ^ 64) → HasEndNumbers first (ended ++ now ∷ []) rows live
    → (cause : CheckWhy) → Owes (Serving first ended now) (lines.End rows live) cause
end_owes first ended now rows live low ends why.Form = (tt, low)
end_owes first ended now rows live low ends why.End = ends
end_owes first ended now rows live low ends cause = tt

-- the line of the round that goes on stands behind the one that has ended
round_stands : (first : Opening) (ended : List RoundRows) (now : RoundRows) (opening : Opening) (number : ℕ) (round : RoundRows) (rounds : List RoundRows) (rows live : ℕ)
    → GoesOn first (ended ++ now ∷ []) opening number round rounds rows live → CanStand (Serving first ended now) (lines.Round (round_told number opening.base round.limits))
round_stands first ended now opening number round rounds rows live is =
    let told = round_told number opening.base round.limits in
    let same : number ≡ length ended + 1 = omega (arith, is.count, length_push ended now) in
    round_owes first ended now told (round_value opening number round (omega (arith, is.few)) is.lawful)
    (subst (λ n. OpensRound (closing first (ended ++ now ∷ [])) n told) same
    (subst (λ o. OpensRound o number told) is.begins (opens_round opening number round (omega (arith, is.few)) is.opens is.lawful)))

-- the rows of the round that goes on, and the lines behind them
on_stands : (first : Opening) (ended : List RoundRows) (opening : Opening) (number : ℕ) (round : RoundRows) (rounds : List RoundRows) (rows live : ℕ) (rest : List HistoryLine)
    → GoesOn first ended opening number round rounds rows live → EachStands (Serving first ended (ended_round round)) rest
    → EachStands (Serving first ended (begun (round_told number opening.base round.limits))) (map line_of_row round.rows ++ rest)
on_stands first ended opening number round rounds rows live rest is behind =
    let lawful = is.lawful in
    rows_stand first ended (with_bits 12 round.limits) [] round.rows rest is.values
    (subst (λ (o : Opening). EachAfter (MayFollow (with_bits 12 round.limits) o) [] round.rows) is.begins (each_with 12 round.limits opening [] round.rows lawful.rows))
    behind

-- the rest of a run
run_stands : (first : Opening) (ended : List RoundRows) (opening : Opening) (number : ℕ) (round : RoundRows) (rounds : List RoundRows) (rows live : ℕ) → GoesOn first ended opening number round rounds rows live
    → EachStands (Serving first ended (begun (round_told number opening.base round.limits))) (map line_of_row round.rows ++ (rounds_lines (number + 1) (next_opening opening round.rows) rounds ++ lines.End rows live ∷ []))
run_stands first ended opening number round [] rows live is =
    let now = ended_round round in
    let ends : HasEndNumbers first (ended ++ now ∷ []) rows live = record {
      rows_are = omega (arith, is.all_rows, sum_by_push row_count ended now);
      live_are = is.left ∙ ap (λ (o : Opening). length o.list) (left_behind first ended opening round is.begins);
    } in
    on_stands first ended opening number round [] rows live (lines.End rows live ∷ []) is (end_owes first ended now rows live is.low ends, tt)
run_stands first ended opening number round (next ∷ rounds) rows live is =
    let now = ended_round round in
    let left = next_opening opening round.rows in
    let told = round_told (number + 1) left.base next.limits in
    let more = next_round first ended opening number round next rounds rows live is in
    let behind = rounds_lines (number + 1 + 1) (next_opening left next.rows) rounds in
    on_stands first ended opening number round (next ∷ rounds) rows live (lines.Round told ∷ ((map line_of_row next.rows ++ behind) ++ lines.End rows live ∷ [])) is (
      round_stands first ended now left (number + 1) next rounds rows live more,
      subst (EachStands (Serving first (ended ++ now ∷ []) (begun told))) (sym (append_assoc (map line_of_row next.rows) behind (lines.End rows live ∷ [])))
          (run_stands first (ended ++ now ∷ []) left (number + 1) next rounds rows live more),
    )

-- ---- histories

line_long : (text : List ℕ) → 1 ≤ length (line text)
line_long text = omega (arith, length-append text (10 ∷ []))

rows_long : (rows : List Row) → length rows ≤ length (flat_map row_line rows)
rows_long [] = lit≤ tt
rows_long (row ∷ rows) =
    let some : 1 ≤ length (row_line row) = line_long _ in
    omega (arith, some, rows_long rows, length-append (row_line row) (flat_map row_line rows))

rounds_long : (number : ℕ) (opening : Opening) (rounds : List RoundRows) → sum_by row_count rounds ≤ length (rounds_text number opening rounds)
rounds_long number opening [] = lit≤ tt
rounds_long number opening (round ∷ rounds) =
    let next = next_opening opening round.rows in
    let head = round_line number opening.base round.limits in
    omega (arith, sum_by-cons row_count round rounds, rows_long round.rows, rounds_long (number + 1) next rounds, length-append head (flat_map row_line round.rows), length-append (head ++ flat_map row_line round.rows) (rounds_text (number + 1) next rounds))

-- a history has no more rows than bytes
history_long : (opening : Opening) (rounds : List RoundRows) → sum_by row_count rounds ≤ length (history_text opening rounds)
unfolding history_text
history_long opening rounds =
    let head = line (codes "iscc-history 1") in
    let carried = flat_map carry_line opening.list in
    let run = rounds_text 0 opening rounds in
    omega (arith, rounds_long 0 opening rounds, length-append (head ++ carried) run, length-append ((head ++ carried) ++ run) (end_line (sum_by row_count rounds) (length (closing opening rounds).list)))

carried_few : (opening : Opening) (rounds : List RoundRows) → IsHistory opening rounds → length opening.list ≤ 2 ^ 23
carried_few opening [] is = absurd (omega (arith, is.some))
carried_few opening (round ∷ rounds) is =
    let lawful = is.lawful in
    let this : IsLawfulRound opening round = lawful.0 in
    let sizes = this.sizes in
    omega (arith, this.room, sizes.entries)

head_owes : (cause : CheckWhy) → Owes Nothing lines.Head cause
head_owes why.Form = (tt, tt)
head_owes cause = tt

-- a history begins with its first round
run_begins : (opening : Opening) (round : RoundRows) (rounds : List RoundRows) (rows live : ℕ) → IsHistory opening (round ∷ rounds) → IsRunValue opening (round ∷ rounds)
    → HasEndNumbers opening (round ∷ rounds) rows live → (rows < 2 ^ 64) × (live < 2 ^ 64) → GoesOn opening [] opening 0 round rounds rows live
run_begins opening round rounds rows live is values ends low =
    let lawful = is.lawful in
    record {
      begins = refl;
      count = refl;
      opens = is.opens;
      few = omega (arith, is.few);
      lawful = lawful.0;
      later = lawful.1;
      values = All-head AreRows round rounds values.rows;
      later_values = All-tail AreRows round rounds values.rows;
      all_rows = omega (arith, ends.rows_are, sum_by-cons row_count round rounds);
      left = ends.live_are;
      low = low;
    }

history_stands : (opening : Opening) (rounds : List RoundRows) (rows live : ℕ) → IsHistory opening rounds → IsRunValue opening rounds → HasEndNumbers opening rounds rows live
    → (rows < 2 ^ 64) × (live < 2 ^ 64) → EachStands Nothing (history_lines opening rounds ++ lines.End rows live ∷ [])
history_stands opening [] rows live is values ends low = absurd (omega (arith, is.some))
history_stands opening (round ∷ rounds) rows live is values ends low =
    let goes = run_begins opening round rounds rows live is values ends low in
    let opens = is.opens in
    let end = lines.End rows live ∷ [] in
    let carried = map lines.Carry opening.list in
    let told = round_told 0 opening.base round.limits in
    let behind = rounds_lines 1 (next_opening opening round.rows) rounds in
    let first : EachStands (Carried opening.list) (rounds_lines 0 opening (round ∷ rounds) ++ end) = (
      first_owes opening round.limits (round_value opening 0 round (omega arith) goes.lawful) (opens_round opening 0 round (omega arith) is.opens goes.lawful),
      subst (EachStands (Serving opening [] (begun told))) (sym (append_assoc (map line_of_row round.rows) behind end)) (run_stands opening [] opening 0 round rounds rows live goes),
    ) in (
      head_owes,
      subst (EachStands (Carried [])) (sym (append_assoc carried (rounds_lines 0 opening (round ∷ rounds)) end))
          (carries_stand [] opening.list (rounds_lines 0 opening (round ∷ rounds) ++ end) opens.rising values.carried first),
    )

-- the end stands behind a round
abbrev pub IsServing : Front → Type 0
IsServing (Serving opening ended now) = Unit {0}
IsServing front = ⊥

serving : (front : Front) (rows live : ℕ) → IsAllowed front (lines.End rows live) → IsServing front
serving (Serving opening ended now) rows live allowed = tt
serving front rows live allowed = absurd allowed

last_stands : (front : Front) (before : List HistoryLine) (told : HistoryLine) → EachStands front (before ++ told ∷ []) → CanStand (after_all front before) told
last_stands front [] told stand = stand.0
last_stands front (x ∷ before) told stand = last_stands (after front x) before told stand.1

pub history_is_lines : (text : List ℕ) (rows live : ℕ) → length text < 2 ^ 64 → IsHistoryOf text rows live
    → (before : List HistoryLine) × EachStands Nothing (before ++ lines.End rows live ∷ []) × IsServing (after_all Nothing before) × (text ≡ flat_map whole_line (before ++ lines.End rows live ∷ []))
history_is_lines text rows live low is =
    let lawful = is.lawful in
    let before = history_lines is.opening is.rounds in
    let ends : HasEndNumbers is.opening is.rounds rows live = record { rows_are = is.all_rows; live_are = is.left } in
    let numbers : (rows < 2 ^ 64) × (live < 2 ^ 64) = (
      omega (arith, low, is.all_rows, ap length is.is, history_long is.opening is.rounds),
      omega (arith, is.left, closing_few is.opening is.rounds lawful.lawful (carried_few is.opening is.rounds lawful)),
    ) in
    let stand = history_stands is.opening is.rounds rows live lawful is.values ends numbers in
    let form = last_stands Nothing before (lines.End rows live) stand why.Form in (
      before,
      stand,
      serving (after_all Nothing before) rows live form.0,
      is.is ∙ history_is is.opening is.rounds rows live ends,
    )
