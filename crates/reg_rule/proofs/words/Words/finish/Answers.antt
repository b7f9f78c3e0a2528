use Rattle.std.proofs.Common.{◌≡◌, List, None, length, ap, ◌∙◌, sym, subst, arith}
use Rattle.atomic_table.specs.Seated.{TableId}
use Rattle.reg_model.specs.declared.update.Update.{Update}
use Rattle.reg_model.specs.Desks.{accounts_of, close_refusal, Closes}
use Rattle.reg_model.specs.Leaving.{LeavingRoom}
use Rattle.reg_model.specs.Live.{live, opening_after}
use Rattle.reg_model.specs.Opening.{Opening}
use Rattle.reg_rule.specs.declared.view.Key.{Key}
use Rattle.reg_rule.specs.Log.{updates}
use Rattle.reg_rule.specs.Passes.{passes_shown}
use Rattle.reg_rule.specs.Readers.{EndsStanding}
use Rattle.reg_rule.specs.inner.Ending.{Gathered, sealed_accounts}
use Rattle.reg_rule.proofs.SeatSteps.{seals}
use Rattle.reg_rule.proofs.Closes.{came_out, read_out, sealed, closes, ends_standing}
use Rattle.reg_rule.proofs.words.Words.finish.Goals as goal

pub split_seat-requires : goal.split_seat-requires
split_seat-requires c = (c.gather-seat.ensures.table ∙ sym (ap (λ (z : TableId × Key). z.0) c.self.view_is), omega (arith, c.self.invariant.0), seals _ _ _)

pub finish-left-requires-clause-updates : goal.finish-left-requires-clause-updates
finish-left-requires-clause-updates c =
    let key = c.self.inside.table.shared.key in
    let passes = passes_shown c.args.passes.items in
    let gathered = (subst (λ (z : TableId × Key). Gathered z.1 (passes_shown c.args.passes.items) c.gather-seat.result.me) (sym c.self.view_is) c.gather-seat.ensures.gathered) in
    let none = subst (λ (z : TableId × Key). close_refusal z.1.sizes.callers passes ≡ None) (sym c.self.view_is) (ap (close_refusal c.args.self.1.sizes.callers) (ap passes_shown (sym c.deref.ensures.value)) ∙ (sym c.refusal.ensures.why ∙ c.in_default.is)) in
    let ended = came_out key _ c.gather-seat.result.me _ passes _ _ gathered c.split_seat.ensures.2 none c.close_with-last.ensures.values.2 in
    let read = read_out key c.self.inside.sizes passes _ c.last_updates-log.result ended c.self.invariant.2 c.self.invariant.3 c.last_updates-log.ensures in
    let now = ap (λ (log : List Update). length log) (c.as_slice.ensures ∙ read.is) in
    let room = ap (λ (z : LeavingRoom). z.updates) c.in-Ok.ensures.leaving ∙ sym (ap (λ (z : TableId × Key). z.1.sizes.log) c.self.view_is) in
    omega (arith, read.ended.shared.within)

pub finish-left-requires-clause-live : goal.finish-left-requires-clause-live
finish-left-requires-clause-live c =
    let key = c.self.inside.table.shared.key in
    let passes = passes_shown c.args.passes.items in
    let gathered = (subst (λ (z : TableId × Key). Gathered z.1 (passes_shown c.args.passes.items) c.gather-seat.result.me) (sym c.self.view_is) c.gather-seat.ensures.gathered) in
    let none = subst (λ (z : TableId × Key). close_refusal z.1.sizes.callers passes ≡ None) (sym c.self.view_is) (ap (close_refusal c.args.self.1.sizes.callers) (ap passes_shown (sym c.deref.ensures.value)) ∙ (sym c.refusal.ensures.why ∙ c.in_default.is)) in
    let ended = came_out key _ c.gather-seat.result.me _ passes _ _ gathered c.split_seat.ensures.2 none c.close_with-last.ensures.values.2 in
    let read = read_out key c.self.inside.sizes passes _ c.last_updates-log.result ended c.self.invariant.2 c.self.invariant.3 c.last_updates-log.ensures in
    let now : length (live c.self.inside.carried c.as_slice.result.now) ≡ length (live key.carried (updates read.ended.stand.log)) = λ i. length (live (c.self.invariant.6 i) ((c.as_slice.ensures ∙ read.is) i)) in
    let room = ap (λ (z : LeavingRoom). z.live) c.in-Ok.ensures.leaving ∙ sym (ap (λ (z : TableId × Key). z.1.sizes.entries) c.self.view_is) in
    omega (arith, read.ended.few)

pub finish-left-requires-clause-ids : goal.finish-left-requires-clause-ids
finish-left-requires-clause-ids c =
    let key = c.self.inside.table.shared.key in
    let passes = passes_shown c.args.passes.items in
    let gathered = (subst (λ (z : TableId × Key). Gathered z.1 (passes_shown c.args.passes.items) c.gather-seat.result.me) (sym c.self.view_is) c.gather-seat.ensures.gathered) in
    let none = subst (λ (z : TableId × Key). close_refusal z.1.sizes.callers passes ≡ None) (sym c.self.view_is) (ap (close_refusal c.args.self.1.sizes.callers) (ap passes_shown (sym c.deref.ensures.value)) ∙ (sym c.refusal.ensures.why ∙ c.in_default.is)) in
    let ended = came_out key _ c.gather-seat.result.me _ passes _ _ gathered c.split_seat.ensures.2 none c.close_with-last.ensures.values.2 in
    let read = read_out key c.self.inside.sizes passes _ c.last_updates-log.result ended c.self.invariant.2 c.self.invariant.3 c.last_updates-log.ensures in
    let now = ap (λ (log : List Update). length log) (c.as_slice.ensures ∙ read.is) in
    let base = ap (λ (z : Opening). z.base) c.self.invariant.6 in
    omega (arith, read.ended.ids)

pub returns-clause-closed : goal.returns-clause-closed
returns-clause-closed c =
    let key = c.self.inside.table.shared.key in
    let passes = passes_shown c.args.passes.items in
    let gathered = (subst (λ (z : TableId × Key). Gathered z.1 (passes_shown c.args.passes.items) c.gather-seat.result.me) (sym c.self.view_is) c.gather-seat.ensures.gathered) in
    let none = subst (λ (z : TableId × Key). close_refusal z.1.sizes.callers passes ≡ None) (sym c.self.view_is) (ap (close_refusal c.args.self.1.sizes.callers) (ap passes_shown (sym c.deref.ensures.value)) ∙ (sym c.refusal.ensures.why ∙ c.in_default.is)) in
    let ended = came_out key _ c.gather-seat.result.me _ passes _ _ gathered c.split_seat.ensures.2 none c.close_with-last.ensures.values.2 in
    let read = read_out key c.self.inside.sizes passes _ c.last_updates-log.result ended c.self.invariant.2 c.self.invariant.3 c.last_updates-log.ensures in
    let kept = sealed key c.gather-seat.result.me _ passes _ gathered c.split_seat.ensures.4 c.into_badge-badge.ensures.2 in
    let base = c.base-base.ensures ∙ ap (λ (z : Opening). z.base) c.self.invariant.6 in
    let carried : c.finish-left.result ≡ opening_after key.carried c.last_updates-log.result = c.finish-left.ensures ∙ (λ i. opening_after (c.self.invariant.6 i) (c.as_slice.ensures i)) in
    subst (λ (z : TableId × Key). Closes z.1.sizes z.1.carried (record { base = c.base-base.result; log = c.last_updates-log.result; carried = c.finish-left.result }) (sealed_accounts c.into_badge-badge.result.views)) c.self.view_is
    (closes key passes _ (record { base = c.base-base.result; log = c.last_updates-log.result; carried = c.finish-left.result }) _ read base carried kept)

pub returns-clause-words : goal.returns-clause-words
returns-clause-words c =
    let key = c.self.inside.table.shared.key in
    let passes = passes_shown c.args.passes.items in
    let gathered = (subst (λ (z : TableId × Key). Gathered z.1 (passes_shown c.args.passes.items) c.gather-seat.result.me) (sym c.self.view_is) c.gather-seat.ensures.gathered) in
    let none = subst (λ (z : TableId × Key). close_refusal z.1.sizes.callers passes ≡ None) (sym c.self.view_is) (ap (close_refusal c.args.self.1.sizes.callers) (ap passes_shown (sym c.deref.ensures.value)) ∙ (sym c.refusal.ensures.why ∙ c.in_default.is)) in
    let ended = came_out key _ c.gather-seat.result.me _ passes _ _ gathered c.split_seat.ensures.2 none c.close_with-last.ensures.values.2 in
    let read = read_out key c.self.inside.sizes passes _ c.last_updates-log.result ended c.self.invariant.2 c.self.invariant.3 c.last_updates-log.ensures in
    let kept = sealed key c.gather-seat.result.me _ passes _ gathered c.split_seat.ensures.4 c.into_badge-badge.ensures.2 in
    let base = c.base-base.ensures ∙ ap (λ (z : Opening). z.base) c.self.invariant.6 in
    let carried : c.finish-left.result ≡ opening_after key.carried c.last_updates-log.result = c.finish-left.ensures ∙ (λ i. opening_after (c.self.invariant.6 i) (c.as_slice.ensures i)) in
    subst (λ (z : TableId × Key). EndsStanding z.1 c.last_updates-log.result (sealed_accounts c.into_badge-badge.result.views)) c.self.view_is
    (ends_standing key passes _ (record { base = c.base-base.result; log = c.last_updates-log.result; carried = c.finish-left.result }) _ read base carried kept)

pub returns-clause-seal : goal.returns-clause-seal
returns-clause-seal c =
    sealed c.self.inside.table.shared.key c.gather-seat.result.me _ (passes_shown c.args.passes.items) _ (subst (λ (z : TableId × Key). Gathered z.1 (passes_shown c.args.passes.items) c.gather-seat.result.me) (sym c.self.view_is) c.gather-seat.ensures.gathered) c.split_seat.ensures.4 c.into_badge-badge.ensures.2
    ∙ ap (λ (z : TableId × Key). accounts_of z.1.sizes.callers (passes_shown c.args.passes.items)) c.self.view_is
