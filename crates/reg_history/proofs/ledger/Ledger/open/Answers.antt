use Rattle.std.proofs.Common.{refl, rules}
use Rattle.reg_model.specs.Limits.{IsInRange}
use Rattle.reg_model.specs.Opening.{opening_of}
use Rattle.reg_history.proofs.ledger.LedgerSteps.{keeps_start}
use Rattle.reg_history.proofs.ledger.Ledger.open.Goals as goal

pub returns : goal.returns
returns c =
    let range : IsInRange c.args.sizes = search rules in
    keeps_start c.args.sizes (opening_of c.args.base c.args.carried.now) _ c.in_ok-live.live range c.requires.opens c.requires.room c.requires.ids refl c.in_ok-live.ensures
