use Rattle.std.proofs.Common.{arith}
use Rattle.std.proofs.lemmas.Bool.{iff_false}
use Rattle.reg_query.proofs.Stamps.{other_kind, no_id, late_id, dead_before, shows_id}
use Rattle.reg_query.proofs.query.Query.live_id.Goals as goal

pub returns-then-stamp-number : goal.returns-then-stamp-number
returns-then-stamp-number c = other_kind c.args.self.now c.args.stamp (λ same. c.if-stamp-number.true (omega (arith, same, c.number.ensures.value)))

pub returns-then-id-eq0 : goal.returns-then-id-eq0
returns-then-id-eq0 c = no_id c.args.self.now c.args.stamp c.if-id-eq0.true

pub returns-then-id-self : goal.returns-then-id-self
returns-then-id-self c = late_id c.args.self.now c.args.stamp (omega (arith, c.if-id-self.true, c.if-id-eq0.false))

pub returns-then-is_dead : goal.returns-then-is_dead
returns-then-is_dead c = let dead = c.is_dead.ensures.0 c.if-is_dead.true in dead_before c.args.self.now c.args.stamp dead.0 dead.1

pub returns : goal.returns
returns c = shows_id c.args.self.now c.args.stamp (omega (arith, c.if-stamp-number.false, c.number.ensures.value)) c.if-id-eq0.false (omega (arith, c.if-id-self.false, c.if-id-eq0.false)) (iff_false c.is_dead.ensures c.if-is_dead.false)
