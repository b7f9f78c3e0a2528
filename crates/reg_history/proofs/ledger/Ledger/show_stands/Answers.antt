use Rattle.std.proofs.Common.{sym, subst}
use Rattle.std.proofs.lemmas.Bool.{true≢false}
use Rattle.reg_model.specs.Live.{live}
use Rattle.reg_model.proofs.Rising.{live_rising}
use Rattle.reg_history.specs.inner.Ledgers.{Keeps}
use Rattle.reg_history.proofs.ledger.LookUps.{LooksUp, shown_is, live_told, absent_told}
use Rattle.reg_history.proofs.ledger.Ledger.show_stands.Goals as goal

pub returns-in-Some-Live : goal.returns-in-Some-Live
returns-in-Some-Live c = λ r keeps.
    let here = subst (λ p. Keeps p r) (sym c.self.view_is) keeps in
    let rising = live_rising r.opening r.log here.current.opening in
    let looks : LooksUp (live r.opening r.log) c.args.id c.unit_of.result = record {
      found = c.unit_of.ensures.found (live r.opening r.log) here.live rising;
      none = c.unit_of.ensures.none (live r.opening r.log) here.live rising;
    } in
    rw (c.in-Some-Live.is-1, shown_is _ _ _ looks, c.in-Some-Live.is-0, c.eq.ensures) (live_told c.in-Some-Live.told c.in-Some-Live.unit)

pub returns-in-None-Absent : goal.returns-in-None-Absent
returns-in-None-Absent c = λ r keeps.
    let here = subst (λ p. Keeps p r) (sym c.self.view_is) keeps in
    let rising = live_rising r.opening r.log here.current.opening in
    let looks : LooksUp (live r.opening r.log) c.args.id c.unit_of.result = record {
      found = c.unit_of.ensures.found (live r.opening r.log) here.live rising;
      none = c.unit_of.ensures.none (live r.opening r.log) here.live rising;
    } in
    rw (c.in-None-Absent.is-1, shown_is _ _ _ looks, c.in-None-Absent.is-0) (absent_told c.in-None-Absent.told c.args.id)

pub returns-in_default : goal.returns-in_default
returns-in_default c = λ r keeps.
    let here = subst (λ p. Keeps p r) (sym c.self.view_is) keeps in
    let rising = live_rising r.opening r.log here.current.opening in
    let looks : LooksUp (live r.opening r.log) c.args.id c.unit_of.result = record {
      found = c.unit_of.ensures.found (live r.opening r.log) here.live rising;
      none = c.unit_of.ensures.none (live r.opening r.log) here.live rising;
    } in
    rw (shown_is _ _ _ looks, c.in_default.is-0) (λ h. absurd (true≢false (sym h)), λ is. absurd (c.in_default.not-Live-1 _ is))

pub returns-in_default-2 : goal.returns-in_default-2
returns-in_default-2 c = λ r keeps.
    let here = subst (λ p. Keeps p r) (sym c.self.view_is) keeps in
    let rising = live_rising r.opening r.log here.current.opening in
    let looks : LooksUp (live r.opening r.log) c.args.id c.unit_of.result = record {
      found = c.unit_of.ensures.found (live r.opening r.log) here.live rising;
      none = c.unit_of.ensures.none (live r.opening r.log) here.live rising;
    } in
    rw (shown_is _ _ _ looks, c.in_default.is-0) (λ h. absurd (true≢false (sym h)), λ is. absurd (c.in_default.not-Absent-1 _ is))
