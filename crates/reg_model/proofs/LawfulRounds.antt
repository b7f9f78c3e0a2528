-- What a lawful round leaves.
use Rattle.std.proofs.Common.{◌≤◌, List, [], ◌∷◌, ◌++◌, length, sym, subst, append_assoc, append-nil, arith}
use Rattle.reg_model.specs.declared.reply.Row.{Row}
use Rattle.reg_model.specs.Limits.{Limits}
use Rattle.reg_model.specs.Opening.{Opening, IsOpening}
use Rattle.reg_model.specs.Rows.{log_of, MayFollow, EachAfter}
use Rattle.reg_model.specs.Runs.{RoundRows, IsLawfulRound, next_opening}
use Rattle.reg_model.proofs.Rising.{live_rising, live_below}

-- the log of lawful rows is no longer than its limit
pub log_fits : (limits : Limits) (opening : Opening) (before rows : List Row) → EachAfter (MayFollow limits opening) before rows → length (log_of before) ≤ limits.log → length (log_of (before ++ rows)) ≤ limits.log
log_fits limits opening before [] each fits = subst (λ all. length (log_of all) ≤ limits.log) (sym (append-nil before)) fits
log_fits limits opening before (row ∷ rows) each fits =
    let follows : MayFollow limits opening before row = each.0 in
    subst (λ all. length (log_of all) ≤ limits.log) (append_assoc before (row ∷ []) rows)
    (log_fits limits opening (before ++ row ∷ []) rows each.1 (omega (arith, follows.point, follows.within)))

-- and what it leaves is again an opening
pub next_opens : (opening : Opening) (round : RoundRows) → IsOpening opening → IsLawfulRound opening round → IsOpening (next_opening opening round.rows)
next_opens opening round opens lawful =
    let fits = log_fits round.limits opening [] round.rows lawful.rows (omega arith) in
    record { base = omega (arith, lawful.ids, fits); rising = live_rising opening (log_of round.rows) opens; below = live_below opening (log_of round.rows) opens }
