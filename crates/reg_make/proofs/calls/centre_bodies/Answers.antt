use Rattle.std.proofs.Common.{◌≢◌, ◌+◌, ◌<◌, length, refl, sym, ◌∙◌, arith, get_or-set_other, get_or-set_same, below_more}
use Rattle.std.proofs.lemmas.List.{length-set}
use Rattle.std.proofs.lemmas.List.FromFn.{fill_by_all}
use Rattle.reg_make.specs.Generator.{number_after}
use Rattle.reg_make.proofs.Numbers.{number_start, number_next}
use Rattle.reg_make.proofs.calls.centre_bodies.Goals as goal

pub loop-i-init : goal.loop-i-init
loop-i-init c = record {
  long = refl;
  known = λ k low. absurd (omega (arith, low));
  here = c.new-numbers.ensures ∙ c.seed.ensures.value ∙ sym (number_start c.args.work.now.seed);
}

pub loop-i-preserved : goal.loop-i-preserved
loop-i-preserved c =
    let more = number_next c.args.work.now.seed c.loop-i.i (c.loop-i.i + 1) c.loop-i.numbers.state c.next.result c.loop-i.invariant.here c.next.ensures.value refl in
    record {
      long = length-set c.loop-i.bodies c.loop-i.i c.next.result ∙ c.loop-i.invariant.long;
      known = below_more _ _
          (λ k low. let ne : k ≢ c.loop-i.i = omega arith in rw get_or-set_other (c.loop-i.invariant.known k low))
          (let low : c.loop-i.i < length c.loop-i.bodies = omega (arith, c.loop-i.invariant.long) in rw get_or-set_same more);
      here = number_next c.args.work.now.seed c.loop-i.i (c.loop-i.i + 1) c.loop-i.numbers.state c.next.new.self.state c.loop-i.invariant.here c.next.ensures.state refl;
    }

pub returns-clause-bodies : goal.returns-clause-bodies
returns-clause-bodies c = fill_by_all (λ j. number_after c.args.work.now.seed (j + 1)) c.loop-i.bodies 16 0 c.loop-i.invariant.long (λ k low. c.loop-i.invariant.known k (omega (arith, low)))
