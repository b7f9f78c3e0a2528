use Rattle.std.proofs.Common.{sym, subst}
use Rattle.reg_model.specs.Live.{live}
use Rattle.reg_model.proofs.Rising.{live_rising}
use Rattle.reg_history.specs.inner.Ledgers.{Keeps}
use Rattle.reg_history.proofs.ledger.LookUps.{LooksUp, looked_up}
use Rattle.reg_history.proofs.ledger.Ledger.is_live.Goals as goal

pub returns : goal.returns
returns c = λ r keeps.
    let here = subst (λ p. Keeps p r) (sym c.self.view_is) keeps in
    let rising = live_rising r.opening r.log here.current.opening in
    let looks : LooksUp (live r.opening r.log) c.args.id c.unit_of.result = record {
      found = c.unit_of.ensures.found (live r.opening r.log) here.live rising;
      none = c.unit_of.ensures.none (live r.opening r.log) here.live rising;
    } in
    rw c.is_some.ensures (looked_up (live r.opening r.log) c.args.id c.unit_of.result looks)
