-- In a lawful round a session has seen its earlier rows.
use Rattle.std.proofs.Common.{◌≡◌, ℕ, ◌+◌, ◌-◌, ◌<◌, ◌≤◌, true, List, [], ◌∷◌, ◌++◌, length, Option, Some, None, refl, ap, arith, length-append}
use Rattle.std.specs.Prelude.{is_some, ◌==◌, AllPairs}
use Rattle.std.specs.Option.{option_to_list}
use Rattle.std.specs.List.{AllByRecursion}
use Rattle.std.proofs.lemmas.List.Elements.{All-from_recursion}
use Rattle.std.proofs.lemmas.List.Kept.{AllPairs-cons, AllPairs-filter}
use Rattle.reg_model.specs.declared.update.Update.{Update}
use Rattle.reg_model.specs.declared.reply.Row.{Row}
use Rattle.reg_model.specs.Limits.{Limits}
use Rattle.reg_model.specs.Opening.{Opening}
use Rattle.reg_model.specs.Rows.{update_of, is_accepted, log_of, session_rows, IsSeenBy, MayFollow, EachAfter, IsLawful}
use Rattle.reg_model.proofs.AtHome.{each_weaker}
use Rattle.reg_model.proofs.RowSteps.{log_of-push}

-- the row isn't below this point, and is above it where it is accepted
record IsFloor (low : ℕ) (row : Row) : Type 0 where
  point : low ≤ row.point
  accepted : is_accepted row ≡ true → low < row.point

one_more : (o : Option Update) → is_some o ≡ true → length (option_to_list o) ≡ 1
one_more None is = absurd (cc)
one_more (Some u) is = refl

-- the point of the next row
pub next_point : (limits : Limits) (opening : Opening) (before : List Row) (row : Row) → MayFollow limits opening before row
    → row.point ≡ opening.base + length (log_of before) + length (option_to_list (update_of row.call row.reply))
next_point limits opening before row follows =
    omega (arith, follows.point, ap length (log_of-push before row), length-append (log_of before) (option_to_list (update_of row.call row.reply)))

floors : (limits : Limits) (opening : Opening) (before rows : List Row) → EachAfter (MayFollow limits opening) before rows
    → AllByRecursion (IsFloor (opening.base + length (log_of before))) rows
floors limits opening before [] each = tt
floors limits opening before (row ∷ rows) each =
    let follows : MayFollow limits opening before row = each.0 in
    let at = next_point limits opening before row follows in
    let longer : opening.base + length (log_of before) ≤ opening.base + length (log_of (before ++ row ∷ [])) = omega (arith, ap length (log_of-push before row), length-append (log_of before) (option_to_list (update_of row.call row.reply))) in (
      record { point = omega (arith, at); accepted = λ is. omega (arith, at, one_more (update_of row.call row.reply) is) },
      each_weaker (IsFloor (opening.base + length (log_of (before ++ row ∷ [])))) (IsFloor (opening.base + length (log_of before)))
          (λ r f. record { point = omega (arith, f.point, longer); accepted = λ is. omega (arith, f.accepted is, longer) })
          rows (floors limits opening (before ++ row ∷ []) rows each.1),
    )

seen_from : (limits : Limits) (opening : Opening) (before rows : List Row) → EachAfter (MayFollow limits opening) before rows → AllPairs IsSeenBy rows
seen_from limits opening before [] each = λ i j d low high. absurd (omega (arith, high))
seen_from limits opening before (row ∷ rows) each =
    let follows : MayFollow limits opening before row = each.0 in
    AllPairs-cons IsSeenBy row rows
    (All-from_recursion (IsSeenBy row) rows (each_weaker (IsFloor (opening.base + length (log_of (before ++ row ∷ [])))) (IsSeenBy row)
    (λ r f. record { point = omega (arith, f.point, follows.point); accepted = λ is. omega (arith, f.accepted is, follows.point) })
    rows (floors limits opening (before ++ row ∷ []) rows each.1)))
    (seen_from limits opening (before ++ row ∷ []) rows each.1)

-- a session has seen its earlier rows
pub lawful_seen : (limits : Limits) (opening : Opening) (rows : List Row) → IsLawful limits opening rows → (session : ℕ) → AllPairs IsSeenBy (session_rows session rows)
lawful_seen limits opening rows lawful session = AllPairs-filter IsSeenBy (λ (r : Row). r.session == session) rows (seen_from limits opening [] rows lawful)
