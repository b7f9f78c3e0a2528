use Rattle.std.proofs.Common.{sym, subst}
use Rattle.reg_model.specs.Calls.{IsRequest}
use Rattle.reg_model.specs.Live.{live}
use Rattle.reg_history.specs.inner.Ledgers.{Keeps}
use Rattle.reg_history.proofs.ledger.ToldHits.{hits_told}
use Rattle.reg_history.proofs.ledger.Ledger.hits_stand.Goals as goal

pub returns : goal.returns
returns c = λ r keeps asked.
    let here = subst (λ p. Keeps p r) (sym c.self.view_is) keeps in
    let near = subst IsRequest c.in-Near.is asked in
    hits_told r c.args.call.now c.in-Near.unit c.in-Near.radius c.in_ok-hits.hits c.args.told.now c.are_told.result c.in-Near.is near.1 (c.in_ok-hits.ensures (live r.opening r.log) here.live)
    (rw c.as_slice.ensures at c.are_told.ensures)
