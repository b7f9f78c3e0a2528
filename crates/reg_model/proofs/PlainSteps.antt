-- What the calls of the slow registry answer, by what it keeps.
use Rattle.std.proofs.Common.{◌≡◌, ℕ, ◌+◌, ◌<◌, ◌≤◌, true, false, ◌==◌, List, [], ◌∷◌, ◌++◌, length, find, Option, Some, None, refl, sym, ◌∙◌, ap, subst, append-nil, arith}
use Rattle.std.specs.Prelude.{slice_get, get_or, is_none, IsSome, IsSomeAnd}
use Rattle.std.proofs.lemmas.Bool.Decides.{nat_tests}
use Rattle.std.proofs.lemmas.Option.{slice_get-get_or}
use Rattle.reg_model.specs.declared.update.Update.{Update}
use Rattle.reg_model.specs.declared.update.Update.TheVariants.{Wd}
use Rattle.reg_model.specs.declared.update.Declared.{Declared}
use Rattle.reg_model.specs.declared.call.Call.{Call}
use Rattle.reg_model.specs.declared.call.Call.TheVariants.{Withdraw}
use Rattle.reg_model.specs.declared.reply.Answer.{Answer}
use Rattle.reg_model.specs.declared.reply.Reply.TheVariants.{Withdrawn, Absent, Full}
use Rattle.reg_model.specs.declared.reply.FullCause.TheVariants.{Log}
use Rattle.reg_model.specs.Live.{live_at, IsLive}
use Rattle.reg_model.specs.Replies.{Replies}
use Rattle.reg_model.specs.Rows.{update_of}
use Rattle.reg_model.specs.Registry.{Registry, Serves, withdraw_reply}
use Rattle.reg_model.specs.inner.Current.{IsCurrent}
use Rattle.reg_model.proofs.Rising.{has_id, IsAt, find-at, at_inside}
use Rattle.reg_model.proofs.LiveSteps.{current_within}

-- a call that makes no update
pub serves_same : (r : Registry) (call : Call) (answer : Answer) → update_of call answer.reply ≡ None → Replies r.limits r.opening r.log call answer.reply
    → answer.point ≡ r.opening.base + length r.log → length r.log ≤ r.limits.log → Serves r call answer r
serves_same r call answer same replies here within = record {
  reply = replies;
  update = rw same (ap (λ log. record r { log = log }) (sym (append-nil r.log)));
  point = here;
  within = within;
}

-- for a registry with the list of its live declarations
module _ (r : Registry) (list : List Declared) (withdrawn : ℕ) (current : IsCurrent r list withdrawn) (id : ℕ) where
  found : live_at r.opening r.log id ≡ find (has_id id) list
  found = ap (find (has_id id)) (sym current.kept)

  at_place : (place : ℕ) → IsAt id place list → live_at r.opening r.log id ≡ slice_get list place
  at_place place at = found ∙ find-at id place 0 (r.opening.base + length r.log) list (current_within r list withdrawn current) at

  -- the declaration at the place of an id is that with the id
  pub live_at_place : (place : ℕ) (d : Declared) → IsAt id place list → d ≡ get_or list place d → live_at r.opening r.log id ≡ Some d
  live_at_place place d at is = at_place place at ∙ slice_get-get_or list place d (at_inside id place list at) ∙ ap Some (sym is)

  some_there : (o : Option Declared) (P : Declared → Type 0) → IsSomeAnd o P → (is_none o ≡ false) × IsSome o
  some_there None P h = absurd h
  some_there (Some d) P h = (refl, refl)

  live_there : (place : ℕ) → IsAt id place list → (is_none (live_at r.opening r.log id) ≡ false) × IsLive r.opening r.log id
  live_there place at = subst (λ o. (is_none o ≡ false) × IsSome o) (sym (at_place place at)) (some_there (slice_get list place) (λ d. d.id ≡ id) at)

  -- the answers to a withdrawal
  pub withdraw_absent : (answer : Answer) → find (has_id id) list ≡ None → answer.reply ≡ Absent id → answer.point ≡ r.opening.base + length r.log → Serves r (Withdraw id) answer r
  withdraw_absent answer none reply here = serves_same r (Withdraw id) answer (rw reply refl) (rw (reply, found, none) (refl, refl)) here current.within

  pub withdraw_full : (place : ℕ) (answer : Answer) → IsAt id place list → length r.log ≡ r.limits.log → answer.reply ≡ Full Log → answer.point ≡ r.opening.base + length r.log
      → Serves r (Withdraw id) answer r × (answer.reply ≡ withdraw_reply r id)
  withdraw_full place answer at full reply here =
      let live = live_there place at in
      let no_room : (length r.log == r.limits.log) ≡ true = grind (arith, nat_tests, full) in
      (serves_same r (Withdraw id) answer (rw reply refl) (rw reply (full, live.1)) here current.within, rw (reply, live.0, no_room) refl)

  pub withdraw_done : (place : ℕ) (answer : Answer) (log : List Update) → IsAt id place list → length r.log < r.limits.log → log ≡ r.log ++ Wd id ∷ [] → answer.reply ≡ Withdrawn id
      → answer.point ≡ r.opening.base + length log → length log ≤ r.limits.log → Serves r (Withdraw id) answer (record r { log = log }) × (answer.reply ≡ withdraw_reply r id)
  withdraw_done place answer log at room new reply here within =
      let live = live_there place at in
      let not_full : (length r.log == r.limits.log) ≡ false = grind (arith, nat_tests, room) in (
        record {
          reply = rw reply (refl, live.1);
          update = rw (reply, new) refl;
          point = here;
          within = within;
        },
        rw (reply, live.0, not_full) refl,
      )
