-- What lawful rounds leave: never more declarations than a round has entries for.
use Rattle.std.proofs.Common.{◌≡◌, ℕ, ◌+◌, ◌≤◌, Bool, true, false, not, ◌||◌, cond, List, [], ◌∷◌, ◌++◌, length, filter, refl, sym, ◌∙◌, ap, subst, append_assoc, append-nil, length-append, arith, lit≤}
use Rattle.std.specs.Option.{option_to_list}
use Rattle.std.proofs.lemmas.List.Elements.{filter-append}
use Rattle.std.proofs.lemmas.List.Folds.{list_any-append}
use Rattle.std.proofs.lemmas.List.Sums.{length-filter, count_by-le-length}
use Rattle.reg_model.specs.declared.call.Call.{Call}
use Rattle.reg_model.specs.declared.call.Call.TheVariants as calls
use Rattle.reg_model.specs.declared.reply.Reply.{Reply}
use Rattle.reg_model.specs.declared.reply.Reply.TheVariants as replies
use Rattle.reg_model.specs.declared.reply.Row.{Row}
use Rattle.reg_model.specs.declared.update.Update.{Update}
use Rattle.reg_model.specs.declared.update.Update.TheVariants.{Decl, Wd}
use Rattle.reg_model.specs.declared.update.Declared.{Declared}
use Rattle.reg_model.specs.Limits.{Limits}
use Rattle.reg_model.specs.Live.{declared_from, declared, withdraws, is_withdrawn, live}
use Rattle.reg_model.specs.Opening.{Opening}
use Rattle.reg_model.specs.Replies.{Replies}
use Rattle.reg_model.specs.Rows.{update_of, log_of, MayFollow, EachAfter}
use Rattle.reg_model.specs.Runs.{RoundRows, IsLawfulRound, IsLawfulRun, next_opening, closing}
use Rattle.reg_model.proofs.LiveSteps.{live-start}
use Rattle.reg_model.proofs.RowSteps.{log_of-push}
use Rattle.reg_image.specs.declared.image.TheConstants.{DECLARED_MOST}

-- ---- more updates

-- a stricter test keeps no more
filter_fewer : (p q : Declared → Bool) → ((d : Declared) → p d ≡ true → q d ≡ true) → (ds : List Declared) → length (filter p ds) ≤ length (filter q ds)
filter_fewer p q stricter [] = lit≤ tt
filter_fewer p q stricter (d ∷ ds) = one_more (p d) (q d) (stricter d) (filter_fewer p q stricter ds)
  where
    one_more : (kept other : Bool) → (kept ≡ true → other ≡ true) → length (filter p ds) ≤ length (filter q ds)
        → length (cond kept (d ∷ filter p ds) (filter p ds)) ≤ length (cond other (d ∷ filter q ds) (filter q ds))
    one_more true true both rest = omega (arith, rest)
    one_more true false both rest = absurd (let no = both refl in cc (no))
    one_more false true both rest = omega (arith, rest)
    one_more false false both rest = rest

declared_from-append : (id : ℕ) (log more : List Update) → declared_from id (log ++ more) ≡ declared_from id log ++ declared_from (id + length log) more
declared_from-append id [] more = ap (λ n. declared_from n more) (omega arith)
declared_from-append id (Decl unit ∷ log) more =
    ap (λ ds. record { id = id; unit = unit } ∷ ds)
    (declared_from-append (id + 1) log more ∙ ap (λ n. declared_from (id + 1) log ++ declared_from n more) (omega arith))
declared_from-append id (Wd other ∷ log) more =
    declared_from-append (id + 1) log more ∙ ap (λ n. declared_from (id + 1) log ++ declared_from n more) (omega arith)

kept_before : (before more : Bool) → not (before || more) ≡ true → not before ≡ true
kept_before true more kept = kept
kept_before false more kept = refl

-- further updates leave those that were live, and what they declare, at most
live_more : (opening : Opening) (log more : List Update) → length (live opening (log ++ more)) ≤ length (live opening log) + length (declared_from (opening.base + length log) more)
live_more opening log more =
    let news = declared_from (opening.base + length log) more in
    let before : Declared → Bool = λ d. not (is_withdrawn log d.id) in
    let all : declared opening (log ++ more) ≡ declared opening log ++ news =
    ap (λ ds. opening.list ++ ds) (declared_from-append opening.base log more) ∙ sym (append_assoc opening.list (declared_from opening.base log) news) in
    let fewer = filter_fewer (λ d. not (is_withdrawn (log ++ more) d.id)) before
    (λ d kept. kept_before (is_withdrawn log d.id) (is_withdrawn more d.id) (ap not (sym (list_any-append (withdraws d.id) log more)) ∙ kept))
    (declared opening (log ++ more)) in
    omega (
      arith,
      fewer,
      ap (λ ds. length (filter before ds)) all ∙ ap length (filter-append before (declared opening log) news),
      length-append (live opening log) (filter before news),
      length-filter before news,
      count_by-le-length before news,
    )

-- ---- more rows

-- an accepted declaration had an entry
one_fits : (limits : Limits) (opening : Opening) (log : List Update) (call : Call) (reply : Reply) → Replies limits opening log call reply → length (live opening log) ≤ limits.entries
    → length (live opening (log ++ option_to_list (update_of call reply))) ≤ limits.entries
one_fits limits opening log (calls.Declare unit) (replies.Id id) served fits = omega (arith, served.1, live_more opening log (Decl unit ∷ []))
one_fits limits opening log (calls.Withdraw id) (replies.Withdrawn other) served fits = omega (arith, fits, live_more opening log (Wd id ∷ []))
one_fits limits opening log call reply served fits = subst (λ l. length (live opening l) ≤ limits.entries) (sym (append-nil log)) fits

rows_fit : (limits : Limits) (opening : Opening) (before rows : List Row) → EachAfter (MayFollow limits opening) before rows → length (live opening (log_of before)) ≤ limits.entries
    → length (live opening (log_of (before ++ rows))) ≤ limits.entries
rows_fit limits opening before [] each fits = subst (λ all. length (live opening (log_of all)) ≤ limits.entries) (sym (append-nil before)) fits
rows_fit limits opening before (row ∷ rows) each fits =
    let follows : MayFollow limits opening before row = each.0 in
    let one = one_fits limits opening (log_of before) row.call row.reply follows.reply fits in
    subst (λ all. length (live opening (log_of all)) ≤ limits.entries) (append_assoc before (row ∷ []) rows)
    (rows_fit limits opening (before ++ row ∷ []) rows each.1 (subst (λ log. length (live opening log) ≤ limits.entries) (sym (log_of-push before row)) one))

-- ---- rounds

-- what a lawful round leaves
pub round_leaves : (opening : Opening) (round : RoundRows) → IsLawfulRound opening round → length (next_opening opening round.rows).list ≤ round.limits.entries
round_leaves opening round lawful =
    rows_fit round.limits opening [] round.rows lawful.rows (subst (λ (list : List Declared). length list ≤ round.limits.entries) (sym (live-start opening)) lawful.room)

-- what the last round leaves has an image, where what the run begins with has one
pub run_leaves : (opening : Opening) (rounds : List RoundRows) → IsLawfulRun opening rounds → length opening.list ≤ DECLARED_MOST → length (closing opening rounds).list ≤ DECLARED_MOST
run_leaves opening [] lawful few = few
run_leaves opening (round ∷ rounds) lawful few =
    let first : IsLawfulRound opening round = lawful.0 in
    let sizes = first.sizes in
    run_leaves (next_opening opening round.rows) rounds lawful.1 (omega (arith, round_leaves opening round first, sizes.entries.1))
