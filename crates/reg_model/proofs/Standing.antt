-- Each row of a lawful round stands in the log of the whole round.
use Rattle.std.proofs.Common.{◌≡◌, ◌+◌, List, [], ◌∷◌, ◌++◌, length, take, Option, Some, None, refl, sym, ◌∙◌, ap, subst, append_assoc, arith, length-append}
use Rattle.std.specs.Prelude.{if◌then◌else◌, is_some, slice_get, All}
use Rattle.std.specs.List.{AllByRecursion, cons_option}
use Rattle.std.specs.Option.{option_to_list}
use Rattle.std.proofs.Math.Seq.{take-append_seam}
use Rattle.std.proofs.lemmas.List.Elements.{filter_map-append, All-from_recursion}
use Rattle.reg_model.specs.declared.update.Update.{Update}
use Rattle.reg_model.specs.declared.reply.Row.{Row}
use Rattle.reg_model.specs.Limits.{Limits}
use Rattle.reg_model.specs.Opening.{Opening}
use Rattle.reg_model.specs.Replies.{Replies}
use Rattle.reg_model.specs.Rows.{update_of, log_of, MayFollow, EachAfter, IsLawful}
use Rattle.reg_model.specs.Accounts.{StandsInLog}
use Rattle.reg_model.proofs.RowSteps.{log_of-push}

one_or_none : (o : Option Update) → length (option_to_list o) ≡ (if is_some o then 1 else 0)
one_or_none None = refl
one_or_none (Some u) = refl

log_of-append : (xs ys : List Row) → log_of (xs ++ ys) ≡ log_of xs ++ log_of ys
log_of-append xs ys = filter_map-append (λ (r : Row). update_of r.call r.reply) xs ys

-- the log of one row more in front
log_of-cons : (row : Row) (rows : List Row) → log_of (row ∷ rows) ≡ option_to_list (update_of row.call row.reply) ++ log_of rows
log_of-cons row rows = elim (update_of row.call row.reply) as (λ o. cons_option o (log_of rows) ≡ option_to_list o ++ log_of rows) [ None ↦ refl | Some u ↦ refl ]

pub at_seam : (before rest : List Update) (u : Update) → slice_get (before ++ u ∷ rest) (length before) ≡ Some u
at_seam [] rest u = refl
at_seam (x ∷ before) rest u = at_seam before rest u

stands : (limits : Limits) (opening : Opening) (before : List Row) (row : Row) (rows : List Row) → MayFollow limits opening before row
    → StandsInLog limits opening (log_of (before ++ row ∷ rows)) row
stands limits opening before row rows follows =
    let parts : log_of (before ++ row ∷ rows) ≡ log_of before ++ log_of (row ∷ rows) = log_of-append before (row ∷ rows) in
    let front : take (length (log_of before)) (log_of (before ++ row ∷ rows)) ≡ log_of before =
    ap (take (length (log_of before))) parts ∙ take-append_seam (log_of before) (log_of (row ∷ rows)) in
    let longer : length (log_of (before ++ row ∷ [])) ≡ length (log_of before) + (if is_some (update_of row.call row.reply) then 1 else 0) =
    ap length (log_of-push before row) ∙ length-append (log_of before) (option_to_list (update_of row.call row.reply))
    ∙ ap (λ n. length (log_of before) + n) (one_or_none (update_of row.call row.reply)) in
    record {
      place = length (log_of before);
      within = rw parts (omega (arith, length-append (log_of before) (log_of (row ∷ rows))));
      point = omega (arith, follows.point, longer);
      reply = subst (λ us. Replies limits opening us row.call row.reply) (sym front) follows.reply;
      made = λ u is. ap (λ us. slice_get us (length (log_of before))) (parts ∙ ap (λ us. log_of before ++ us) (log_of-cons row rows ∙ ap (λ o. option_to_list o ++ log_of rows) is)) ∙ at_seam (log_of before) (log_of rows) u;
    }

each_stands : (limits : Limits) (opening : Opening) (before rows : List Row) → EachAfter (MayFollow limits opening) before rows
    → AllByRecursion (StandsInLog limits opening (log_of (before ++ rows))) rows
each_stands limits opening before [] each = tt
each_stands limits opening before (row ∷ rows) each = (
  stands limits opening before row rows each.0,
  subst (λ all. AllByRecursion (StandsInLog limits opening (log_of all)) rows) (append_assoc before (row ∷ []) rows) (each_stands limits opening (before ++ row ∷ []) rows each.1),
)

pub lawful_stands : (limits : Limits) (opening : Opening) (rows : List Row) → IsLawful limits opening rows → All (StandsInLog limits opening (log_of rows)) rows
lawful_stands limits opening rows lawful = All-from_recursion _ rows (each_stands limits opening [] rows lawful)
