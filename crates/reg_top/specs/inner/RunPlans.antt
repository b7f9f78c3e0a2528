-- The rounds that a run is to serve, as they are kept, and what a plan owes.
use Rattle.std.specs.Prelude.{◌≡◌, ◌≤◌, List, [], ◌∷◌, length, map, All}
use Rattle.reg_model.specs.declared.round.TheConstants.{ROUNDS_MOST}
use Rattle.reg_model.specs.Limits.{IsInRange}
use Rattle.reg_top.specs.Fetches.{RoundPlan}
use Rattle.reg_top.specs.declared.run_words.RoundSizes.{RoundSizes}
use Rattle.reg_top.specs.declared.run_words.RoundWords.{RoundWords}

-- one to eight rounds, with sizes in range, and a session for each file
pub record MayBeRun (plan : List RoundPlan) : Type 0 where
  pub some : 1 ≤ length plan
  pub few : length plan ≤ ROUNDS_MOST
  pub in_range : All (λ (p : RoundPlan). IsInRange p.limits) plan
  pub callers : All (λ (p : RoundPlan). p.limits.callers ≡ length p.names) plan

-- the round with these sizes and names
abbrev pub plan_kept : RoundSizes → RoundWords → RoundPlan
plan_kept sizes words = record {
  limits = record { entries = sizes.entries; log = sizes.log; bits = sizes.bits; callers = sizes.callers };
  names = map (λ name. name.now) words.names.items;
}

abbrev pub plans_kept : List RoundSizes → List RoundWords → List RoundPlan
plans_kept [] rounds = []
plans_kept (sizes ∷ more) [] = []
plans_kept (sizes ∷ more) (words ∷ rounds) = plan_kept sizes words ∷ plans_kept more rounds
