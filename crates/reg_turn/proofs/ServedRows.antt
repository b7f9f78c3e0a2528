-- A call that the registry answered is one more row of its session, in the log that it leaves.
use Rattle.std.proofs.Common.{◌≡◌, ◌+◌, ◌≤◌, false, List, [], ◌∷◌, ◌++◌, length, take, get_or, Option, Some, None, refl, sym, ◌∙◌, ap, subst, arith, append-nil, length-append}
use Rattle.std.specs.Prelude.{slice_get, is_some, All}
use Rattle.std.specs.Option.{option_to_list}
use Rattle.std.proofs.lemmas.List.{take-append-le, length_push}
use Rattle.std.proofs.lemmas.List.Elements.{All-from_recursion, recursion_from_All}
use Rattle.std.proofs.Math.Seq.{take-append_seam}
use Rattle.reg_model.specs.declared.update.Update.{Update}
use Rattle.reg_model.specs.declared.call.Call.{Call}
use Rattle.reg_model.specs.declared.reply.Answer.{Answer}
use Rattle.reg_model.specs.declared.reply.Row.{Row}
use Rattle.reg_model.specs.Limits.{Limits}
use Rattle.reg_model.specs.Opening.{Opening}
use Rattle.reg_model.specs.Replies.{Replies}
use Rattle.reg_model.specs.Rows.{update_of, is_accepted, all_rows}
use Rattle.reg_model.specs.Accounts.{StandsInLog, ShareLog, with_row}
use Rattle.reg_model.specs.Registry.{Registry, Serves, registry_at}
use Rattle.reg_model.specs.Desks.{PassView, row_of, Answered}
use Rattle.reg_model.proofs.SessionAccounts.{each_account}
use Rattle.reg_model.proofs.Standing.{at_seam}
use Rattle.reg_model.proofs.Merged.{one_if}
use Rattle.reg_model.proofs.AccountSteps.{at_longer, stands_below, each_row_with, share_row, share_update}
use Rattle.reg_turn.specs.PlainRows.{IsPlainReply, IsPlainRow}

-- ---- the row in the log that the call leaves

module _ (limits : Limits) (opening : Opening) (log : List Update) (pass : PassView) (call : Call) (answer : Answer) (now : Registry)
    (serves : Serves (registry_at limits opening log) call answer now) where
  abbrev pub row : Row
  row = row_of pass call answer

  abbrev pub made : Option Update
  made = update_of call answer.reply

  pub now_is : now ≡ registry_at limits opening (log ++ option_to_list made)
  now_is = serves.update

  pub log_is : now.log ≡ log ++ option_to_list made
  log_is = ap (λ (r : Registry). r.log) now_is

  pub point_now : answer.point ≡ opening.base + length now.log
  point_now = serves.point ∙ ap (λ (r : Registry). r.opening.base + length now.log) now_is

  room : length now.log ≤ limits.log
  room = subst (λ (r : Registry). length now.log ≤ r.limits.log) now_is serves.within

  one_more : (o : Option Update) → length (log ++ option_to_list o) ≡ length log + one_if (is_some o)
  one_more None = ap length (append-nil log) ∙ (let same : length log ≡ length log + 0 = omega arith in same)
  one_more (Some u) = length_push log u

  pub point_after : answer.point ≡ opening.base + length log + one_if (is_accepted row)
  point_after = omega (arith, point_now, ap length log_is, one_more made)

  front : take (length log) now.log ≡ log
  front = ap (take (length log)) log_is ∙ take-append_seam log (option_to_list made)

  made_at : (o : Option Update) (update : Update) → o ≡ Some update → slice_get (log ++ option_to_list o) (length log) ≡ Some update
  made_at None update is = absurd (cc)
  made_at (Some u) update is = at_seam log [] u ∙ is

  pub served_stands : StandsInLog limits opening now.log row
  served_stands = record {
    place = length log;
    within = omega (arith, ap length log_is, one_more made);
    point = point_after;
    reply = subst (λ us. Replies limits opening us call answer.reply) (sym front) serves.reply;
    made = λ update is. ap (λ us. slice_get us (length log)) log_is ∙ made_at made update is;
  }

  pub served_plain : IsPlainReply (registry_at limits opening log) call answer.reply → IsPlainRow limits opening now.log row
  unfolding served_stands
  served_plain plain = record { stands = served_stands; reply = subst (λ us. IsPlainReply (registry_at limits opening us) call answer.reply) (sym front) plain }

  -- ---- the accounts with it

  pub served_share : (accounts : List (List Row)) → ShareLog limits opening log accounts → slice_get accounts pass.number ≡ Some pass.account
      → ShareLog limits opening now.log (with_row accounts pass.number row)
  served_share accounts share at = cases made refl
    where
      account_stands : All (StandsInLog limits opening log) pass.account
      account_stands = All-from_recursion (StandsInLog limits opening log) pass.account
          (each_account (StandsInLog limits opening log) accounts pass.number pass.account (recursion_from_All (StandsInLog limits opening log) (all_rows accounts) share.stand) at)

      cases : (o : Option Update) → made ≡ o → ShareLog limits opening now.log (with_row accounts pass.number row)
      cases None is =
          let same : now.log ≡ log = log_is ∙ ap (λ o. log ++ option_to_list o) is ∙ append-nil log in
          let refused : is_accepted row ≡ false = ap is_some is in
          let none : one_if (is_accepted row) ≡ 0 = ap (λ (o : Option Update). one_if (is_some o)) is in
          subst (λ us. ShareLog limits opening us (with_row accounts pass.number row)) (sym same)
          (share_row limits opening log accounts pass.account row share record { session = at; number = refl } refused (subst (λ us. StandsInLog limits opening us row) same served_stands)
          (λ k d low. let below = stands_below limits opening log (get_or pass.account k d) (account_stands k d low) in
          record { point = omega (arith, below, point_after, none); accepted = λ yes. absurd (cc (refused, yes)) }))
      cases (Some u) is =
          let same : now.log ≡ log ++ u ∷ [] = log_is ∙ ap (λ o. log ++ option_to_list o) is in
          let one : one_if (is_accepted row) ≡ 1 = ap (λ (o : Option Update). one_if (is_some o)) is in
          subst (λ us. ShareLog limits opening us (with_row accounts pass.number row)) (sym same)
          (share_update limits opening log accounts pass.account row u share record { session = at; number = refl } is (omega (arith, point_after, one))
          (omega (arith, room, ap length same, length_push log u)) serves.reply)

  plain_longer : (old : Row) → IsPlainRow limits opening log old → IsPlainRow limits opening now.log old
  plain_longer old is = subst (λ us. IsPlainRow limits opening us old) (sym log_is) record {
    stands = let a = is.stands in record {
      place = a.place;
      within = omega (arith, a.within, length-append log (option_to_list made));
      point = a.point;
      reply = subst (λ us. Replies limits opening us old.call old.reply) (sym (take-append-le a.place log (option_to_list made) a.within)) a.reply;
      made = λ update made_it. at_longer log (option_to_list made) a.place update (a.made update made_it);
    };
    reply = let a = is.stands in
        subst (λ us. IsPlainReply (registry_at limits opening us) old.call old.reply) (sym (take-append-le a.place log (option_to_list made) a.within)) is.reply;
  }

  pub served_rows : (accounts : List (List Row)) → All (IsPlainRow limits opening log) (all_rows accounts) → IsPlainReply (registry_at limits opening log) call answer.reply
      → All (IsPlainRow limits opening now.log) (all_rows (with_row accounts pass.number row))
  served_rows accounts all plain = All-from_recursion (IsPlainRow limits opening now.log) (all_rows (with_row accounts pass.number row))
      (each_row_with (IsPlainRow limits opening now.log) accounts pass.number row
      (recursion_from_All (IsPlainRow limits opening now.log) (all_rows accounts) (λ k d low. plain_longer (get_or (all_rows accounts) k d) (all k d low)))
      (served_plain plain))

  -- ---- what the call promises

  pub answered : (after : PassView) → pass.seen ≤ opening.base + length log → after ≡ record { number = pass.number; seen = answer.point; snapshot = None; account = pass.account ++ row ∷ [] }
      → Answered limits opening pass after call answer
  answered after seen is = record {
    adds = record { number = ap (λ (p : PassView). p.number) is; row = ap (λ (p : PassView). p.account) is; served = record { log = log; after = now; serves = serves } };
    floor = omega (arith, seen, point_after);
    accepted = λ yes. let one : one_if (is_accepted row) ≡ 1 = ap one_if yes in omega (arith, seen, point_after, one);
    seen = omega (arith, ap (λ (p : PassView). p.seen) is);
    ended = ap (λ (p : PassView). p.snapshot) is;
  }
