use Rattle.std.proofs.Common.{◌∙◌, sym, ◌≤◌, length, refl, ap, subst, arith, []}
use Rattle.reg_model.specs.Limits.{Limits}
use Rattle.reg_model.specs.Live.{live, opening_after}
use Rattle.reg_model.specs.Runs.{closing}
use Rattle.reg_model.specs.Rows.{log_of}
use Rattle.reg_history.specs.inner.Ledgers.{Keeps}
use Rattle.reg_history.specs.inner.Serving.{registry_of}
use Rattle.reg_history.proofs.check.ServingSteps.{opens_next, next_line_of, never, always, serves_begun, serves_same, sixteen_zeros}
use Rattle.reg_history.proofs.check.serving.Serving.next_round.Goals.{then-told-ge-ROUNDS-via-then-told-ge-ROUNDS, then-told-ge-ROUNDS-via-else-told-ge-ROUNDS+then-told-self, then-told-ge-ROUNDS-via-else-told-ge-ROUNDS+else-told-self+then-told-point}
use Rattle.reg_history.proofs.check.serving.Serving.next_round.Goals as goal

pub returns-then-told-ge-ROUNDS-clause-opens : goal.returns-then-told-ge-ROUNDS-clause-opens
returns-then-told-ge-ROUNDS-clause-opens c = λ opening ended now s.
    let t = serves_same _ _ opening ended now c.self.view_is s in
    never _ (λ opens.
    let next = next_line_of _ opening ended now c.args.told.now _ _ t refl refl opens in
    elim c.then-told-ge-ROUNDS.branch [
      | then-told-ge-ROUNDS-via-then-told-ge-ROUNDS w ↦ omega (arith, next.few, w.if-told-ge-ROUNDS.true)
      | then-told-ge-ROUNDS-via-else-told-ge-ROUNDS+then-told-self w ↦ w.if-told-self.true next.number
      | then-told-ge-ROUNDS-via-else-told-ge-ROUNDS+else-told-self+then-told-point w ↦ w.if-told-point.true (next.base ∙ sym (w.point.ensures.registry (registry_of opening ended now) t.ledger))
    ])

pub returns-in_default-clause-opens : goal.returns-in_default-clause-opens
returns-in_default-clause-opens c = λ opening ended now s.
    let t = serves_same _ _ opening ended now c.self.view_is s in
    never _ (λ opens.
    let next = next_line_of _ opening ended now c.args.told.now _ c.live_count.result t refl (c.live_count.ensures (registry_of opening ended now) t.ledger) opens in
    c.in_default.ensures.none next.room)

pub returns-clause-opens : goal.returns-clause-opens
returns-clause-opens c = λ opening ended now s.
    let t = serves_same _ _ opening ended now c.self.view_is s in
    let found = c.in-Some.ensures.found in
    always _ (opens_next _ opening ended now c.args.told.now c.point.result c.live_count.result t (c.point.ensures.registry (registry_of opening ended now) t.ledger)
    (c.live_count.ensures (registry_of opening ended now) t.ledger) c.if-told-ge-ROUNDS.false c.if-told-self.false c.if-told-point.false found.1)

pub returns-clause-begun : goal.returns-clause-begun
returns-clause-begun c = λ is opening ended now s.
    let t = serves_same _ _ opening ended now c.self.view_is s in
    let found = c.in-Some.ensures.found in
    let room = found.1 in
    let fits : length (live (closing opening ended) (log_of now.rows)) ≤ c.in-Some.sizes.entries =
    omega (arith, room.room, c.live_count.ensures (registry_of opening ended now) t.ledger, ap (λ (l : Limits). l.entries) found.0) in
    serves_begun _ opening ended now c.args.told.now _ _ t sixteen_zeros (subst (λ (l : Limits). Keeps c.reopen.new.self (record { limits = l; opening = opening_after (closing opening ended) (log_of now.rows); log = [] })) found.0
    (c.reopen.ensures (registry_of opening ended now) t.ledger fits))
