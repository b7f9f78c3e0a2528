use Rattle.std.proofs.Common.{◌≡◌, ◌<◌, [], ◌∷◌, ◌++◌, length, sym, ◌∙◌, ap, subst, arith, rules}
use Rattle.std.specs.Prelude.{All, slice_get}
use Rattle.reg_model.specs.Limits.{Limits}
use Rattle.reg_top.specs.Fetches.{RoundPlan}
use Rattle.reg_top.specs.inner.RunFiles.{MayBeServed}
use Rattle.reg_top.specs.inner.RunRounds.{FitsRound, ServesNext, left_by, IsDeclinedNext}
use Rattle.reg_top.proofs.ServedRounds.{one_plan, of_some, many_fit, fits_at, served_before, serves_at, serves_all, kept_more, declined_at}
use Rattle.reg_top.proofs.run_rounds.serve_rounds.Goals as goal

pub bounds-lists-at : goal.bounds-lists-at
bounds-lists-at g c = omega (arith, many_fit c.args.plan.now.rounds c.args.lists.now c.requires.lists, c.loop-at-test.true, c.len-at-end.ensures)

pub serve_next-requires-clause-lists : goal.serve_next-requires-clause-lists
serve_next-requires-clause-lists g c κs within =
    let plan = c.args.plan.now.rounds in
    let at = c.loop-at.at in
    let one = one_plan plan at (omega (arith, c.loop-at-test.true, c.len-at-end.ensures)) in
    let fits : FitsRound one.0 c.index-lists-at.result = fits_at plan c.args.lists.now at one.0 c.index-lists-at.result c.requires.lists one.1 c.index-lists-at.is in
    let limits : c.sizes-sizes.result ≡ one.0.limits = of_some (λ (p : RoundPlan). c.sizes-sizes.result ≡ p.limits) (slice_get plan at) one.0 c.sizes-sizes.ensures one.1 in
    ap length c.as_slice-in-loop-at.ensures ∙ fits.many ∙ ap (λ (l : Limits). l.callers) (sym limits)

pub serve_next-requires-clause-served : goal.serve_next-requires-clause-served
serve_next-requires-clause-served g c κs within =
    let plan = c.args.plan.now.rounds in
    let at = c.loop-at.at in
    let one = one_plan plan at (omega (arith, c.loop-at-test.true, c.len-at-end.ensures)) in
    let fits : FitsRound one.0 c.index-lists-at.result = fits_at plan c.args.lists.now at one.0 c.index-lists-at.result c.requires.lists one.1 c.index-lists-at.is in
    subst (All MayBeServed) (sym c.as_slice-in-loop-at.ensures) fits.served

pub serve_next-requires-clause-few : goal.serve_next-requires-clause-few
serve_next-requires-clause-few g c κs within =
    let plan = c.args.plan.now.rounds in
    let at = c.loop-at.at in
    let low : at < length plan = omega (arith, c.loop-at-test.true, c.len-at-end.ensures) in
    omega (arith, ap length c.as_slice.ensures, served_before c.args.opening.now plan c.args.lists.now c.loop-at.rounds at (omega (arith, low)) c.loop-at.invariant.served, low, c.requires.plan.few)

pub returns-in_err-round-clause-why : goal.returns-in_err-round-clause-why
returns-in_err-round-clause-why g c =
    let plan = c.args.plan.now.rounds in
    let at = c.loop-at.at in
    let rounds = c.loop-at.rounds in
    let one = one_plan plan at (omega (arith, c.loop-at-test.true, c.len-at-end.ensures)) in
    let limits : c.sizes-sizes.result ≡ one.0.limits = of_some (λ (p : RoundPlan). c.sizes-sizes.result ≡ p.limits) (slice_get plan at) one.0 c.sizes-sizes.ensures one.1 in
    let why : IsDeclinedNext (length rounds) one.0.limits (left_by c.args.opening.now rounds) c.in_err-round.field-0.0 =
    subst (λ rs. IsDeclinedNext (length rs) one.0.limits (left_by c.args.opening.now rs) c.in_err-round.field-0.0) c.as_slice.ensures
    (subst (λ (l : Limits). IsDeclinedNext (length c.as_slice.result.now) l (left_by c.args.opening.now c.as_slice.result.now) c.in_err-round.field-0.0) limits c.in_err-round.ensures.why) in
    let declined = declined_at c.args.opening.now plan c.args.lists.now c.serve_next.new.seals c.in_err-round.field-0.0 rounds at one.0 one.1 c.loop-at.invariant.served (c.in_err-round.ensures.same ∙ c.loop-at.invariant.kept) why in
    search (rules, declined)

pub loop-at-preserved : goal.loop-at-preserved
loop-at-preserved g c =
    let plan = c.args.plan.now.rounds in
    let lists = c.args.lists.now in
    let at = c.loop-at.at in
    let rounds = c.loop-at.rounds in
    let round = c.in_ok-round.round in
    let list = c.index-lists-at.result in
    let one = one_plan plan at (omega (arith, c.loop-at-test.true, c.len-at-end.ensures)) in
    let limits : c.sizes-sizes.result ≡ one.0.limits = of_some (λ (p : RoundPlan). c.sizes-sizes.result ≡ p.limits) (slice_get plan at) one.0 c.sizes-sizes.ensures one.1 in
    let next : ServesNext one.0.limits (left_by c.args.opening.now rounds) list round =
    subst (λ (l : Limits). ServesNext l (left_by c.args.opening.now rounds) list round) limits
    (subst (λ rs. ServesNext c.sizes-sizes.result (left_by c.args.opening.now rs) list round) c.as_slice.ensures
    (subst (λ ls. ServesNext c.sizes-sizes.result (left_by c.args.opening.now c.as_slice.result.now) ls round) c.as_slice-in-loop-at.ensures c.in_ok-round.ensures.served)) in
    let pushed : c.push.new.self ≡ rounds ++ round ∷ [] = search rules in
    rw pushed (record {
      served = serves_at c.args.opening.now plan lists rounds at one.0 list round c.requires.lists one.1 c.index-lists-at.is c.loop-at.invariant.served next;
      kept = kept_more rounds round c.loop-at.seals c.serve_next.new.seals c.loop-at.invariant.kept c.in_ok-round.ensures.kept;
    })

pub returns-clause-served : goal.returns-clause-served
returns-clause-served g c =
    serves_all c.args.opening.now c.args.plan.now.rounds c.args.lists.now c.loop-at.rounds c.loop-at.at c.requires.lists (omega (arith, c.loop-at-test.false, c.len-at-end.ensures)) c.loop-at.invariant.served
