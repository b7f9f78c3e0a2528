use Rattle.std.proofs.Common.{sym, subst, None}
use Rattle.reg_rule.specs.declared.remembered.Remembered.{Remembered}
use Rattle.reg_rule.specs.inner.Plays.{Remembers}
use Rattle.reg_rule.proofs.Remembering.{new_pass}
use Rattle.reg_rule.proofs.words.Pass.new.Goals as goal

pub invariant_of-result : goal.invariant_of-result
invariant_of-result c = let r = c.requires in subst (λ (z : Remembered). Remembers 0 None z c.args.seat.me) (sym c.new.ensures) (new_pass c.args.seat.me c.args.number c.args.base r.seat r.number r.base.0 r.base.1)
