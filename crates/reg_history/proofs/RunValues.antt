-- The rows of a lawful round hold values of the program's types, where its calls do and what is carried into it does.
use Rattle.std.proofs.Common.{ℕ, ◌+◌, ◌^◌, ◌<◌, ◌≤◌, Bool, true, false, cond, List, [], ◌∷◌, ◌++◌, map, length, filter, Option, Some, None, sym, ap, subst, arith, length-append, append-nil, append_assoc}
use Rattle.std.specs.Prelude.{All, IfSome, find, not, ◌==◌, nat_le, if◌then◌else◌}
use Rattle.std.specs.List.{AllByRecursion, zip}
use Rattle.std.specs.Option.{option_to_list}
use Rattle.std.proofs.lemmas.List.{length_push}
use Rattle.std.proofs.lemmas.List.Elements.{All-nil, All-from_recursion, recursion_from_All, All-append, All-filter, All-map, All-weaker}
use Rattle.std.proofs.lemmas.List.Sorted.{All-permutation}
use Rattle.std.proofs.lemmas.List.Sums.{length-filter, count_by-le-length}
use Rattle.std.proofs.lemmas.Slice.Zip.{length-zip}
use Rattle.iscc_header.specs.declared.unit.Unit64.{Unit64}
use Rattle.iscc_header.specs.Bits.{bits_of, differs, distance}
use Rattle.iscc_header.specs.Unit64s.{IsUnit64}
use Rattle.iscc_header.proofs.BitLists.{length-bits_of}
use Rattle.reg_model.specs.declared.update.Update.{Update}
use Rattle.reg_model.specs.declared.update.Update.TheVariants.{Decl, Wd}
use Rattle.reg_model.specs.declared.update.Declared.{Declared}
use Rattle.reg_model.specs.declared.call.Call.{Call}
use Rattle.reg_model.specs.declared.call.Call.TheVariants as calls
use Rattle.reg_model.specs.declared.reply.Hit.{Hit}
use Rattle.reg_model.specs.declared.reply.Reply.{Reply}
use Rattle.reg_model.specs.declared.reply.Reply.TheVariants as replies
use Rattle.reg_model.specs.declared.reply.FullCause.TheVariants.{Log, Entries}
use Rattle.reg_model.specs.declared.reply.Row.{Row}
use Rattle.reg_model.specs.Limits.{Limits}
use Rattle.reg_model.specs.Opening.{Opening}
use Rattle.reg_model.specs.Live.{declared_from, declared, is_withdrawn, live, live_at, is_declaration}
use Rattle.reg_model.specs.Replies.{is_near, hit_of, AreHits, shown, Replies}
use Rattle.reg_model.specs.Rows.{update_of, log_of, MayFollow, EachAfter}
use Rattle.reg_model.specs.Runs.{RoundRows, IsLawfulRound, next_opening}
use Rattle.reg_model.proofs.LiveSteps.{live_few}
use Rattle.reg_model.proofs.LawfulRounds.{log_fits}
use Rattle.reg_model.proofs.RowSteps.{log_of-push}
use Rattle.reg_model.specs.Calls.{IsRequest}
use Rattle.reg_history.specs.lines.Values.{IsDeclaredValue, IsHitValue, IsReplyValue, IsRowValue}

-- ---- declarations

-- the update declares a unit of 64 bits, or it withdraws
abbrev IsUpdateValue : Update → Type 0
IsUpdateValue (Decl unit) = IsUnit64 unit
IsUpdateValue (Wd id) = Unit {0}

-- the declarations of a log whose ids are in range
declared_values : (id : ℕ) (log : List Update) → id + length log < 2 ^ 64 → AllByRecursion IsUpdateValue log → AllByRecursion IsDeclaredValue (declared_from id log)
declared_values id [] fits units = tt
declared_values id (Decl unit ∷ log) fits units = (record { id = omega (arith, fits); unit = units.0 }, declared_values (id + 1) log (omega (arith, fits)) units.1)
declared_values id (Wd other ∷ log) fits units = declared_values (id + 1) log (omega (arith, fits)) units.1

-- the live declarations are among the carried ones and those of the log
live_values : (opening : Opening) (log : List Update) → opening.base + length log < 2 ^ 64 → All IsDeclaredValue opening.list → All IsUpdateValue log → All IsDeclaredValue (live opening log)
live_values opening log fits carried units =
    All-filter (λ d. not (is_withdrawn log d.id)) IsDeclaredValue (declared opening log)
    (All-append IsDeclaredValue opening.list (declared_from opening.base log) carried
    (All-from_recursion IsDeclaredValue (declared_from opening.base log) (declared_values opening.base log fits (recursion_from_All IsUpdateValue log units))))

-- ---- hits

-- a distance counts places of 64
distance_most : (a b : ℕ) → distance a b ≤ 64
unfolding distance
distance_most a b = omega (arith, count_by-le-length differs (zip (bits_of 64 a) (bits_of 64 b)), length-zip (bits_of 64 a) (bits_of 64 b), length-bits_of 64 a)

-- a hit shows a declaration
hit_value : (unit : Unit64) (d : Declared) → IsDeclaredValue d → IsHitValue (hit_of unit d)
hit_value unit d is = let shows = is.unit in record { id = is.id; body = shows.body; distance = omega (arith, distance_most unit.body d.unit.body) }

-- all hits show declarations of the list
hits_values : (list : List Declared) (unit : Unit64) (radius : ℕ) (hits : List Hit) → All IsDeclaredValue list → AreHits list unit radius hits → All IsHitValue hits
hits_values list unit radius hits values are =
    let near = filter (is_near unit radius) list in
    All-permutation IsHitValue (map (hit_of unit) near) hits are.exactly
    (All-map IsHitValue (hit_of unit) near
    (All-weaker IsDeclaredValue (λ d. IsHitValue (hit_of unit d)) (hit_value unit) near (All-filter (is_near unit radius) IsDeclaredValue list values)))

-- ---- replies

-- what is found is one of the list
found : {X : Type 0} (P : X → Type 0) (p : X → Bool) (xs : List X) → AllByRecursion P xs → IfSome (find p xs) P
found P p [] all = tt
found P p (x ∷ xs) all = elim (p x) as (λ b. IfSome (cond b (Some x) (find p xs)) P) [ true ↦ all.0 | false ↦ found P p xs all.1 ]

-- the reply that shows it, or that it is absent
shown_value : (id : ℕ) (at : Option Declared) → id < 2 ^ 64 → IfSome at IsDeclaredValue → IsReplyValue (shown id at)
shown_value id None low value = low
shown_value id (Some d) low value = value.unit

-- a log that leaves room for its ids and counts, and its live declarations
record IsSmall (opening : Opening) (log : List Update) : Type 0 where
  pub ids : opening.base + length log < 2 ^ 63
  pub carried : length opening.list < 2 ^ 63
  pub live : All IsDeclaredValue (live opening log)

-- a reply to a call whose numbers are in range
reply_value : (limits : Limits) (opening : Opening) (log : List Update) (call : Call) (reply : Reply) → IsSmall opening log → IsRequest call → Replies limits opening log call reply → IsReplyValue reply
reply_value limits opening log (calls.Declare unit) (replies.Id id) small value served = omega (arith, small.ids, served.0)
reply_value limits opening log (calls.Declare unit) (replies.Full Log) small value served = tt
reply_value limits opening log (calls.Declare unit) (replies.Full (Entries given)) small value served =
    omega (arith, small.ids, served.withdrawn, count_by-le-length (λ update. not (is_declaration update)) log)
reply_value limits opening log (calls.Withdraw id) (replies.Withdrawn other) small value served = omega (arith, served.0, value)
reply_value limits opening log (calls.Withdraw id) (replies.Absent other) small value served = omega (arith, served.0, value)
reply_value limits opening log (calls.Withdraw id) (replies.Full Log) small value served = tt
reply_value limits opening log (calls.Near unit radius) (replies.Hits hits) small value served = hits_values (live opening log) unit radius hits small.live served.1
reply_value limits opening log (calls.Show id) reply small value served =
    subst IsReplyValue (sym served) (shown_value id (live_at opening log id) value (found IsDeclaredValue (λ d. d.id == id) (live opening log) (recursion_from_All IsDeclaredValue (live opening log) small.live)))
reply_value limits opening log calls.Count reply small value served =
    let few : length (live opening log) < 2 ^ 64 = omega (arith, small.ids, small.carried, live_few opening log) in subst IsReplyValue (sym served) few
reply_value limits opening log (calls.After point) reply small value served =
    subst IsReplyValue (sym served) (elim (nat_le point (opening.base + length log)) as (λ b. IsReplyValue (if b then replies.Reached else replies.Ahead)) [ true ↦ tt | false ↦ tt ])
reply_value limits opening log call reply small value served = absurd served

-- ---- rows

-- the update that a call makes
update_value : (call : Call) (reply : Reply) → IsRequest call → AllByRecursion IsUpdateValue (option_to_list (update_of call reply))
update_value (calls.Declare unit) (replies.Id id) value = (value, tt)
update_value (calls.Withdraw id) (replies.Withdrawn other) value = (tt, tt)
update_value call reply value = tt

-- the updates with that of one row more
units_more : (before : List Row) (row : Row) → All IsUpdateValue (log_of before) → IsRequest row.call → All IsUpdateValue (log_of (before ++ row ∷ []))
units_more before row units value =
    subst (All IsUpdateValue) (sym (log_of-push before row))
    (All-append IsUpdateValue (log_of before) (option_to_list (update_of row.call row.reply)) units
    (All-from_recursion IsUpdateValue (option_to_list (update_of row.call row.reply)) (update_value row.call row.reply value)))

-- a round whose numbers are in range, but for its rows
record IsRoundValue (limits : Limits) (opening : Opening) : Type 0 where
  pub callers : limits.callers ≤ 2 ^ 32
  pub ids : opening.base + limits.log < 2 ^ 63
  pub few : length opening.list < 2 ^ 63
  pub carried : All IsDeclaredValue opening.list

-- the next row of the round
row_value : (limits : Limits) (opening : Opening) (before : List Row) (row : Row) → IsRoundValue limits opening → All IsUpdateValue (log_of before) → length before < 2 ^ 32
    → IsRequest row.call → MayFollow limits opening before row → IsRowValue row
row_value limits opening before row round units low value follows =
    let fits : opening.base + length (log_of before) < 2 ^ 63 =
    omega (arith, round.ids, follows.point, follows.within, ap length (log_of-push before row), length-append (log_of before) (option_to_list (update_of row.call row.reply))) in
    let live = live_values opening (log_of before) (omega (arith, fits)) round.carried units in record {
      session = omega (arith, follows.session, round.callers);
      number = omega (arith, follows.number, low, length-filter (λ (r : Row). r.session == row.session) before, count_by-le-length (λ (r : Row). r.session == row.session) before);
      call = value;
      point = omega (arith, follows.within, round.ids);
      reply = reply_value limits opening (log_of before) row.call row.reply (record { ids = fits; carried = round.few; live = live }) value follows.reply;
    }

-- the rows from there on
rows_values : (limits : Limits) (opening : Opening) (before rows : List Row) → IsRoundValue limits opening → All IsUpdateValue (log_of before) → length before + length rows ≤ 2 ^ 32
    → AllByRecursion IsRequest (map (λ (row : Row). row.call) rows) → EachAfter (MayFollow limits opening) before rows → AllByRecursion IsRowValue rows
rows_values limits opening before [] round units low values each = tt
rows_values limits opening before (row ∷ rows) round units low values each =
    let more = units_more before row units values.0 in (
      row_value limits opening before row round units (omega (arith, low)) values.0 each.0,
      rows_values limits opening (before ++ row ∷ []) rows round more (omega (arith, low, length_push before row)) values.1 each.1,
    )

-- the rows of a lawful round
pub round_values : (opening : Opening) (round : RoundRows) → IsLawfulRound opening round → All IsDeclaredValue opening.list → All IsRequest (map (λ (row : Row). row.call) round.rows)
    → length round.rows ≤ 2 ^ 32 → All IsRowValue round.rows
round_values opening round lawful carried values low =
    let sizes = lawful.sizes in
    let known : IsRoundValue round.limits opening = record { callers = omega (arith, sizes.callers); ids = omega (arith, lawful.ids); few = omega (arith, lawful.room, sizes.entries); carried = carried } in
    All-from_recursion IsRowValue round.rows
    (rows_values round.limits opening [] round.rows known (All-nil IsUpdateValue) (omega (arith, low)) (recursion_from_All IsRequest (map (λ (row : Row). row.call) round.rows) values) lawful.rows)

-- ---- what it leaves

log_values : (before rows : List Row) → All IsUpdateValue (log_of before) → AllByRecursion IsRequest (map (λ (row : Row). row.call) rows) → All IsUpdateValue (log_of (before ++ rows))
log_values before [] units values = subst (λ all. All IsUpdateValue (log_of all)) (sym (append-nil before)) units
log_values before (row ∷ rows) units values =
    subst (λ all. All IsUpdateValue (log_of all)) (append_assoc before (row ∷ []) rows)
    (log_values (before ++ row ∷ []) rows (units_more before row units values.0) values.1)

-- the declarations that it leaves are of the program's types too
pub next_values : (opening : Opening) (round : RoundRows) → IsLawfulRound opening round → All IsDeclaredValue opening.list → All IsRequest (map (λ (row : Row). row.call) round.rows)
    → All IsDeclaredValue (next_opening opening round.rows).list
next_values opening round lawful carried values =
    let fits = log_fits round.limits opening [] round.rows lawful.rows (omega arith) in
    live_values opening (log_of round.rows) (omega (arith, lawful.ids, fits)) carried
    (log_values [] round.rows (All-nil IsUpdateValue) (recursion_from_All IsRequest (map (λ (row : Row). row.call) round.rows) values))
