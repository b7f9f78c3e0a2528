-- How a call of the program ends, and why.
use Rattle.std.specs.Prelude.{◌≡◌, ◌≢◌, ◌↔◌, ◌⊎◌, ℕ, ◌<◌, ◌≤◌, List, [], ◌∷◌, ◌++◌, length, All, Contains, Option, Some, None, IfSome, IsSomeAnd}
use Rattle.reg_model.specs.Runs.{RoundRows}
use Rattle.reg_session.specs.Faults.{Rose, Quiet}
use Rattle.reg_session.specs.Files.{Files, Elsewhere}
use Rattle.reg_session.specs.Outside.{Outside, TakesWhole, TakesPart, Tells}
use Rattle.reg_top.specs.declared.refusal.Refusal.{Refusal}
use Rattle.reg_top.specs.Fetches.{RoundPlan, Plan, Command, Fetch, fetches, saved_name}
use Rattle.reg_top.specs.Words.{IsForm}
use Rattle.reg_top.specs.commands.Run.{IsRunOutput}
use Rattle.reg_top.specs.Dispatch.{IsOutput, IsSaved, Refuses, RefusesServed}
use Rattle.reg_top.specs.FaultLines.{words_line, missing_line, read_line, long_line, unsaved_line, memory_line, refusal_line, refusal_number}

-- ---- what a command is given

-- P holds of the files that a command is given: of those that the shelf tells, or, where the command fetches none, whatever they are
abbrev pub GivenBy : List Fetch → Option Files → (Files → Type 0) → Type 0
GivenBy [] files P = P (λ name. None)
GivenBy (fetch ∷ more) files P = IfSome files P

-- the file is there, and in limit
abbrev pub IsHeld : Files → Fetch → Type 0
IsHeld files fetch = IsSomeAnd (files fetch.name) (λ bytes. length bytes ≤ fetch.limit)

abbrev pub IsMissing : Files → Fetch → Type 0
IsMissing files fetch = files fetch.name ≡ None

abbrev pub IsTooLong : Files → Fetch → Type 0
IsTooLong files fetch = IsSomeAnd (files fetch.name) (λ bytes. fetch.limit < length bytes)

-- all files before this one in the order of the command's fetches are there and in limit
pub record IsReached (command : Command) (files : Files) (fetch : Fetch) : Type 0 where
  pub before : List Fetch
  pub rest : List Fetch
  pub all : fetches command ≡ before ++ fetch ∷ rest
  pub held : All (IsHeld files) before

-- what the command is given is known: it fetches nothing, or the shelf tells its files, those that it fetches are there and in limit,
-- and no fetch failed
abbrev pub IsGiven : Command → Outside → Outside → Type 0
IsGiven command before after = (fetches command ≡ [])
    ⊎ (IsSomeAnd before.shelf.files (λ files. All (IsHeld files) (fetches command)) × Quiet before.shelf.fetch_faults after.shelf.fetch_faults)

-- ---- the cause of each status

-- no command has these words
abbrev pub HasNoForm : List (List ℕ) → Type 0
HasNoForm words = (command : Command) → IsForm words command → ⊥

-- the sink has taken an output of the command, and nothing else
abbrev pub Writes : Command → Outside → Outside → List RoundRows → Type 0
Writes command before after served =
    GivenBy (fetches command) before.shelf.files (λ files. (output : List ℕ) × IsOutput command files served output × TakesWhole before.sink.taken after.sink.taken output)

-- it has taken a front of such an output
abbrev pub WritesFront : Command → Outside → Outside → List RoundRows → Type 0
WritesFront command before after served =
    GivenBy (fetches command) before.shelf.files (λ files. (output : List ℕ) × IsOutput command files served output × TakesPart before.sink.taken after.sink.taken output)

-- where each round has one session, it has taken the one output that the words and files have
abbrev pub TakesLoneOutput : Plan → Outside → Outside → Type 0
TakesLoneOutput plan before after =
    (files : Files) (served : List RoundRows) (output : List ℕ) → All (λ (p : RoundPlan). p.limits.callers ≡ 1) plan.rounds → before.shelf.files ≡ Some files
    → IsRunOutput plan files served output → TakesWhole before.sink.taken after.sink.taken output

-- The map is as it was where there is no name; else the name has bytes with P, and every other name what it had.
abbrev pub HasOnly : Option (List ℕ) → Option Files → Option Files → (List ℕ → Type 0) → Type 0
HasOnly None before after P = after ≡ before
HasOnly (Some name) before after P = IfSome before (λ (files : Files). IsSomeAnd after (λ (left : Files). Elsewhere files left name × IsSomeAnd (left name) P))

-- the shelf has what the command saves under the name for it, if any, and all else as it was
abbrev pub Saves : Command → Outside → Outside → List RoundRows → Type 0
Saves command before after served =
    GivenBy (fetches command) before.shelf.files (λ files. HasOnly (saved_name command) before.shelf.files after.shelf.files (IsSaved command files served))

-- What is to be saved couldn't be put under its name, and the line of that is told; the output was made, and nothing of it is written.
pub record FailsToSave (command : Command) (before after : Outside) (served : List RoundRows) : Type 0 where
  pub name : List ℕ
  pub named : saved_name command ≡ Some name
  pub rose : Rose before.shelf.put_faults after.shelf.put_faults
  pub made : GivenBy (fetches command) before.shelf.files (λ files. (output : List ℕ) × IsOutput command files served output)
  pub elsewhere : IfSome before.shelf.files (λ (files : Files). IsSomeAnd after.shelf.files (λ (left : Files). Elsewhere files left name))
  pub told : Tells before.sink after.sink (unsaved_line name)

-- The output couldn't be written whole; what is to be saved was.
pub record FailsToWrite (command : Command) (before after : Outside) (served : List RoundRows) : Type 0 where
  pub rose : Rose before.sink.faults after.sink.faults
  pub front : WritesFront command before after served
  pub saved : Saves command before after served
  pub quiet : after.shelf.put_faults ≡ before.shelf.put_faults

-- The first file that gives no bytes has this fault, and its line is told; no fetch failed.
pub record TellsFile (command : Command) (before after : Outside) (HasFault : Files → Fetch → Type 0) (line_of : List ℕ → List ℕ) : Type 0 where
  pub fetch : Fetch
  pub one : Contains (fetches command) fetch
  pub fault : IfSome before.shelf.files (λ files. IsReached command files fetch × HasFault files fetch)
  pub quiet : after.shelf.fetch_faults ≡ before.shelf.fetch_faults
  pub told : Tells before.sink after.sink (line_of fetch.name)

-- a status that tells the fault of a file: only with that cause, and there, where no fetch failed, unless memory is wanting
pub record IsFileStatus (command : Command) (before after : Outside) (status number : ℕ) (HasFault : Files → Fetch → Type 0) (line_of : List ℕ → List ℕ) : Type 0 where
  pub only : status ≡ number → TellsFile command before after HasFault line_of
  pub where_it_holds : Quiet before.shelf.fetch_faults after.shelf.fetch_faults → IfSome before.shelf.files (λ files. (fetch : Fetch) → IsReached command files fetch → HasFault files fetch
      → (status ≡ number) ⊎ (status ≡ 6))

-- a fetch failed: the first that gave no bytes, whose line is told
pub record TellsRead (command : Command) (before after : Outside) : Type 0 where
  pub fetch : Fetch
  pub one : Contains (fetches command) fetch
  pub reached : IfSome before.shelf.files (λ files. IsReached command files fetch)
  pub rose : Rose before.shelf.fetch_faults after.shelf.fetch_faults
  pub told : Tells before.sink after.sink (read_line fetch.name)

-- the command refuses what it is given, and the line of the refusal is told
pub record TellsRefusal (command : Command) (before after : Outside) (served : List RoundRows) (status : ℕ) : Type 0 where
  pub refusal : Refusal
  pub number : status ≡ refusal_number refusal
  pub why : GivenBy (fetches command) before.shelf.files (λ files. Refuses command files served refusal)
  pub rounds : RefusesServed command served refusal
  pub fetched : IfSome before.shelf.files (λ files. All (IsHeld files) (fetches command))
  pub quiet : after.shelf.fetch_faults ≡ before.shelf.fetch_faults
  pub told : Tells before.sink after.sink (refusal_line refusal)

-- the numbers of refusals
abbrev pub IsRefusalNumber : ℕ → Type 0
IsRefusalNumber status = (8 ≤ status) × (status ≤ 12)

-- the statuses with which a run has served its rounds, or those before the one that it refuses
abbrev pub IsServedStatus : ℕ → Type 0
IsServedStatus status = (status ≡ 0) ⊎ IsRefusalNumber status

-- How a command ends with a status, where it served these rounds: what is written, and the cause of each status.
pub record EndsWith (command : Command) (before after : Outside) (served : List RoundRows) (status : ℕ) : Type 0 where
  pub done : status ≡ 0 → Writes command before after served × Saves command before after served
  pub missing : IsFileStatus command before after status 3 IsMissing missing_line
  pub too_long : IsFileStatus command before after status 7 IsTooLong long_line
  pub read : status ≡ 4 → TellsRead command before after
  -- a fetch that failed isn't passed over
  pub failed : before.shelf.fetch_faults < after.shelf.fetch_faults → (status ≡ 4) ⊎ (status ≡ 6)
  pub refused : IsRefusalNumber status → TellsRefusal command before after served status
  pub refuses : (refusal : Refusal) → IsGiven command before after → GivenBy (fetches command) before.shelf.files (λ files. Refuses command files served refusal)
      → (status ≡ refusal_number refusal) ⊎ (status ≡ 6)
  pub unwritten : status ≡ 5 → FailsToSave command before after served ⊎ FailsToWrite command before after served
  -- a put that failed isn't passed over, and without a name to be saved nothing is put
  pub unsaved : before.shelf.put_faults < after.shelf.put_faults → status ≡ 5
  pub kept : saved_name command ≡ None → after.shelf.files ≡ before.shelf.files
  pub memory : status ≡ 6 → Tells before.sink after.sink memory_line
  -- where no refusal applies and no fault comes, all is done, or memory is wanting
  pub complete : IsGiven command before after → Quiet before.sink.faults after.sink.faults
      → IfSome (saved_name command) (λ name. Quiet before.shelf.put_faults after.shelf.put_faults)
      → ((refusal : Refusal) → GivenBy (fetches command) before.shelf.files (λ files. Refuses command files served refusal) → ⊥) → (status ≡ 0) ⊎ (status ≡ 6)

-- the statuses there are
abbrev pub statuses : List ℕ
statuses = 0 ∷ 2 ∷ 3 ∷ 4 ∷ 5 ∷ 6 ∷ 7 ∷ 8 ∷ 9 ∷ 10 ∷ 11 ∷ []

-- How a call with these words ends with a status, where it served these rounds.
pub record IsOutcome (words : List (List ℕ)) (before after : Outside) (served : List RoundRows) (status : ℕ) : Type 0 where
  pub no_form : (status ≡ 2) ↔ HasNoForm words
  -- then no file is asked for
  pub words_told : status ≡ 2 → (after.shelf ≡ before.shelf) × Tells before.sink after.sink words_line
  pub ends : (command : Command) → IsForm words command → EndsWith command before after served status
  pub known : Contains statuses status
  -- nothing is put but where all is done, or not all is written
  pub same : status ≢ 0 → status ≢ 5 → after.shelf.files ≡ before.shelf.files
