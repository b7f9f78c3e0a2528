use Rattle.std.proofs.Common.{sym, subst, arith}
use Rattle.reg_history.specs.inner.Ledgers.{Keeps}
use Rattle.reg_history.proofs.ledger.LedgerSteps.{keeps_point}
use Rattle.reg_history.proofs.ledger.Ledger.point.Goals as goal

pub returns-clause-registry : goal.returns-clause-registry
returns-clause-registry c = λ r keeps. omega (arith, keeps_point _ r (subst (λ p. Keeps p r) (sym c.self.view_is) keeps))
