-- A plan that words ask for may be run.
use Rattle.std.proofs.Common.{◌≡◌, ℕ, List, [], ◌∷◌, length, None, refl, ap, subst, sym, arith}
use Rattle.std.specs.Prelude.{All}
use Rattle.std.proofs.lemmas.List.Elements.{All-nil, All-cons}
use Rattle.reg_model.specs.declared.sizes.TheConstants.{BITS_USUAL}
use Rattle.reg_top.specs.Fetches.{RoundPlan, Plan}
use Rattle.reg_top.specs.Words.{MarkedRound, IsRunForm, planned, round_plan, sizes_from, first_or, first_sizes, set_numbers}
use Rattle.reg_top.specs.declared.run_words.RunOption.TheVariants.{Bits}
use Rattle.reg_top.specs.declared.run_words.MarkSizes.{MarkSizes}
use Rattle.reg_top.specs.inner.RunPlans.{MayBeRun}
use Rattle.reg_top.proofs.RunWordsReading.{marked}
use Rattle.reg_top.proofs.RunWordsPlans.{length_planned, behind_run}

-- as many sessions as files
abbrev has_callers : RoundPlan → Type 0
has_callers plan = plan.limits.callers ≡ length plan.names

callers_planned : (before : MarkSizes) (bits : ℕ) (rounds : List MarkedRound) → All has_callers (planned before bits rounds)
callers_planned before bits [] = All-nil has_callers
callers_planned before bits (round ∷ rounds) =
    let sizes = sizes_from before round.sizes in
    All-cons has_callers (round_plan sizes bits round.names) (planned sizes bits rounds) refl (callers_planned sizes bits rounds)

pub may_be_run : (words : List (List ℕ)) (plan : Plan) → IsRunForm words plan → MayBeRun plan.rounds
may_be_run words plan form =
    let is = behind_run words plan form in
    let sizes : MarkSizes = first_sizes is.arguments in
    let bits : ℕ = first_or BITS_USUAL (set_numbers Bits is.arguments) in
    let rounds : List MarkedRound = marked None is.first ∷ is.next in
    record {
      some = omega (arith, ap length is.are, length_planned sizes bits rounds);
      few = is.few;
      in_range = is.in_range;
      callers = subst (All has_callers) (sym is.are) (callers_planned sizes bits rounds);
    }
