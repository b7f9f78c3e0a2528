-- A call that has the turn and gives it back.
use Rattle.std.proofs.Common.{◌≡◌, ◌<◌, true, List, [], ◌∷◌, ◌++◌, length, Option, None, Some, refl, sym, ◌∙◌, ap, subst, arith}
use Rattle.reg_model.specs.declared.call.Call.{Call}
use Rattle.reg_model.specs.declared.reply.Answer.{Answer}
use Rattle.reg_model.specs.declared.reply.Row.{Row}
use Rattle.reg_model.specs.declared.update.Update.{Update}
use Rattle.reg_model.specs.Registry.{Registry, Serves}
use Rattle.reg_model.specs.Desks.{PassView, row_of, Answered, Unanswered}
use Rattle.reg_turn.specs.declared.view.Account.{Account}
use Rattle.reg_turn.specs.declared.view.View.{View}
use Rattle.reg_turn.specs.PlainRows.{IsPlainReply}
use Rattle.reg_turn.specs.inner.OneTurn.{at_log, head_number, head_rows}
use Rattle.reg_turn.specs.inner.Steps.{Sat, pass_of, holding, Took, HasTurn, ServedCall, grown, view_after, Gives}
use Rattle.reg_turn.proofs.ServedRows.{answered}

-- the registry that came out is the one that the view knows
its_registry : (before now : Sat) (registry : Registry) → Took before now registry → at_log now.0.key now.0.log ≡ registry
its_registry before now registry took = ap (λ (z : Sat). at_log z.0.key z.0.log) took.turn ∙ sym took.is

pub has_turn : (before now : Sat) (registry : Registry) → Took before now registry → before.0.live ≡ true → HasTurn now
has_turn before now registry took live = record {
  live = ap (λ (z : Sat). z.0.live) took.turn ∙ live;
  holds = ap (λ (z : Sat). z.0.holds) took.turn;
  slot = ap (λ (z : Sat). z.1) took.turn;
}

abbrev pub served_of : Call → Answer → Option ServedCall
served_of call answer = Some (record { call = call; answer = answer })

-- what is owed as the turn is given back
pub gives_served : (before now : Sat) (registry then : Registry) (call : Call) (answer : Answer) → Took before now registry → Serves registry call answer then → IsPlainReply registry call answer.reply
    → Gives now.0 then (served_of call answer)
gives_served before now registry then call answer took serves plain =
    let same = sym (its_registry before now registry took) in
    (subst (λ (r : Registry). Serves r call answer then) same serves, subst (λ (r : Registry). IsPlainReply r call answer.reply) same plain)

pub gives_none : (before now : Sat) (registry : Registry) → Took before now registry → Gives now.0 registry None
gives_none before now registry took = sym (its_registry before now registry took)

-- ---- what the call promises

grown_head : (list : List Account) (row : Row) → 0 < length list → (head_number (grown list row) ≡ head_number list) × (head_rows (grown list row) ≡ head_rows list ++ row ∷ [])
grown_head [] row some = absurd (omega (arith, some))
grown_head (a ∷ list) row some = (refl, refl)

pub call_answered : (before now later : Sat) (registry then : Registry) (call : Call) (answer : Answer) → Took before now registry → Serves registry call answer then → later ≡ (view_after now.0 (served_of call answer), [])
    → 0 < length before.0.accounts → Answered before.0.key.sizes before.0.key.carried (pass_of before.0) (pass_of later.0) call answer
call_answered before now later registry then call answer took serves gave some =
    let v : View = before.0 in
    let log : List Update = took.log in
    let held : now.0 ≡ holding v log = ap (λ (z : Sat). z.0) took.turn in
    let last : later.0 ≡ view_after (holding v log) (served_of call answer) = ap (λ (z : Sat). z.0) gave ∙ ap (λ (w : View). view_after w (served_of call answer)) held in
    let head = grown_head v.accounts (row_of (pass_of v) call answer) some in
    answered v.key.sizes v.key.carried log (pass_of v) call answer then (subst (λ (r : Registry). Serves r call answer then) took.is serves) (pass_of later.0) took.seen
    (ap pass_of last ∙ (λ i. record { number = head.0 i; seen = answer.point; snapshot = None; account = head.1 i }))

pub call_unanswered : (before now later : Sat) (registry : Registry) → Took before now registry → later ≡ (view_after now.0 None, []) → Unanswered (pass_of before.0) (pass_of later.0)
call_unanswered before now later registry took gave =
    let held : now.0 ≡ holding before.0 took.log = ap (λ (z : Sat). z.0) took.turn in
    let last : pass_of later.0 ≡ pass_of before.0 = ap (λ (z : Sat). pass_of z.0) gave ∙ ap (λ (w : View). pass_of (view_after w None)) held in
    record {
      number = ap (λ (p : PassView). p.number) last;
      account = ap (λ (p : PassView). p.account) last;
      seen = omega (arith, ap (λ (p : PassView). p.seen) last);
      ended = ap (λ (p : PassView). p.snapshot) last;
    }
