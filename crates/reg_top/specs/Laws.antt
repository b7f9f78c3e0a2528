-- What words mean, and what a run tells.
use Rattle.std.specs.Prelude.{◌≡◌, ℕ, List, All}
use Rattle.reg_model.specs.Runs.{RoundRows}
use Rattle.reg_session.specs.Files.{Files}
use Rattle.reg_top.specs.Fetches.{RoundPlan, Plan, Command}
use Rattle.reg_top.specs.Fetches.Command.{Run}
use Rattle.reg_top.specs.Words.{IsForm}
use Rattle.reg_top.specs.commands.Run.{IsRunOutput}

-- words are of the form of one command at most, with its rounds, texts or name
abbrev pub OneCommand : Type 0
OneCommand = (words : List (List ℕ)) (command other : Command) → IsForm words command → IsForm words other → command ≡ other

-- where each round has one session, words and files have one run, and one output
abbrev pub LoneWordsTellOutput : Type 0
LoneWordsTellOutput = (words : List (List ℕ)) (plan again : Plan) (files : Files) (served other : List RoundRows) (output more : List ℕ)
    → IsForm words (Run plan) → IsForm words (Run again) → All (λ (p : RoundPlan). p.limits.callers ≡ 1) plan.rounds
    → IsRunOutput plan files served output → IsRunOutput again files other more
    → (served ≡ other) × (output ≡ more)
