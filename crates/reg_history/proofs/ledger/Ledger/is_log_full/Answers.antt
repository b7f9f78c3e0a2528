use Rattle.std.proofs.Common.{sym, subst}
use Rattle.reg_history.specs.inner.Ledgers.{Keeps}
use Rattle.reg_history.proofs.ledger.LedgerSteps.{log_full}
use Rattle.reg_history.proofs.ledger.Ledger.is_log_full.Goals as goal

pub returns : goal.returns
returns c = λ r keeps. log_full _ r c.log.result (subst (λ p. Keeps p r) (sym c.self.view_is) keeps) c.log.ensures
