-- What each command writes and saves, and why it refuses what it is given.
use Rattle.std.specs.Prelude.{ℕ, List}
use Rattle.reg_model.specs.Runs.{RoundRows}
use Rattle.reg_session.specs.Files.{Files}
use Rattle.reg_top.specs.declared.refusal.Refusal.{Refusal}
use Rattle.reg_top.specs.Fetches.{Command}
use Rattle.reg_top.specs.Fetches.Command.{Run, Make, Explain, Compose, Instance, Check}
use Rattle.reg_top.specs.commands.Run.{IsRunOutput, IsImageLeft, RefusesRun, RefusesServedRun}
use Rattle.reg_top.specs.commands.Make.{IsMakeOutput}
use Rattle.reg_top.specs.commands.Explain.{IsExplanation, RefusesText}
use Rattle.reg_top.specs.commands.Compose.{IsComposition, RefusesTexts}
use Rattle.reg_top.specs.commands.Instance.{IsInstanceLine}
use Rattle.reg_top.specs.commands.Check.{IsLawfulLine, RefusesHistory}

-- the output is that of the command over these files; these are the rounds that it served
abbrev pub IsOutput : Command → Files → List RoundRows → List ℕ → Type 0
IsOutput (Run plan) files served output = IsRunOutput plan files served output
IsOutput (Make work) files served output = IsMakeOutput work served output
IsOutput (Explain text) files served output = IsExplanation text output
IsOutput (Compose texts) files served output = IsComposition texts output
IsOutput (Instance name) files served output = IsInstanceLine name files output
IsOutput (Check name) files served output = IsLawfulLine name files output

-- the command saves these bytes, where it served these rounds
abbrev pub IsSaved : Command → Files → List RoundRows → List ℕ → Type 0
IsSaved (Run plan) files served bytes = IsImageLeft plan files served bytes
IsSaved (Make work) files served bytes = ⊥
IsSaved (Explain text) files served bytes = ⊥
IsSaved (Compose texts) files served bytes = ⊥
IsSaved (Instance name) files served bytes = ⊥
IsSaved (Check name) files served bytes = ⊥

-- the command refuses what it is given, or a round after those that it served, and this is why
abbrev pub Refuses : Command → Files → List RoundRows → Refusal → Type 0
Refuses (Run plan) files served refusal = RefusesRun plan files served refusal
Refuses (Make work) files served refusal = ⊥
Refuses (Explain text) files served refusal = RefusesText text refusal
Refuses (Compose texts) files served refusal = RefusesTexts texts refusal
Refuses (Instance name) files served refusal = ⊥
Refuses (Check name) files served refusal = RefusesHistory name files refusal

-- what is said of a refusal whatever the shelf tells
abbrev pub RefusesServed : Command → List RoundRows → Refusal → Type 0
RefusesServed (Run plan) served refusal = RefusesServedRun plan served refusal
RefusesServed (Make work) served refusal = Unit {0}
RefusesServed (Explain text) served refusal = Unit {0}
RefusesServed (Compose texts) served refusal = Unit {0}
RefusesServed (Instance name) served refusal = Unit {0}
RefusesServed (Check name) served refusal = Unit {0}
