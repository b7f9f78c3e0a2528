-- How a command ends, as its parts tell it.
use Rattle.std.specs.Prelude.{◌≡◌, ◌⊎◌, ℕ, List, All, Contains, Some, None, IfSome, IsSomeAnd}
use Rattle.reg_model.specs.Runs.{RoundRows}
use Rattle.reg_session.specs.declared.shelf.FetchFault.{FetchFault}
use Rattle.reg_session.specs.declared.shelf.FetchFault.TheVariants as faults
use Rattle.reg_session.specs.Faults.{HasCause, Rose}
use Rattle.reg_session.specs.Files.{Files, Elsewhere}
use Rattle.reg_session.specs.Outside.{Outside, TakesWhole, TakesPart, Tells}
use Rattle.reg_history.specs.declared.check.fault.CheckFault.{CheckFault}
use Rattle.reg_top.specs.declared.ending.Ending.{Ending}
use Rattle.reg_top.specs.declared.ending.Ending.TheVariants as endings
use Rattle.reg_top.specs.declared.ending.Declined.{Declined}
use Rattle.reg_top.specs.declared.ending.Declined.TheVariants as declines
use Rattle.reg_top.specs.declared.refusal.Refusal.{Refusal}
use Rattle.reg_top.specs.declared.refusal.Refusal.TheVariants as refusals
use Rattle.reg_top.specs.Fetches.{Command, Fetch, fetches, saved_name}
use Rattle.reg_top.specs.SavedHistories.{HasNoHistory, HasFaultyHistory}
use Rattle.reg_top.specs.commands.Explain.{RefusesText}
use Rattle.reg_top.specs.commands.Compose.{RefusesTexts}
use Rattle.reg_top.specs.Dispatch.{IsOutput, Refuses, RefusesServed}
use Rattle.reg_top.specs.FaultLines.{missing_line, read_line, long_line, unsaved_line, memory_line, refusal_line, refusal_number}
use Rattle.reg_top.specs.Outcomes.{GivenBy, IsHeld, IsMissing, IsTooLong, IsReached, Saves}

-- ---- numbers and lines

abbrev pub unread_number : FetchFault → ℕ
unread_number faults.Missing = 3
unread_number faults.Failed = 4
unread_number faults.TooLong = 7
unread_number faults.NoMemory = 6

abbrev pub ending_number : Ending → ℕ
ending_number endings.Done = 0
ending_number (endings.Unread fault) = unread_number fault
ending_number (endings.Refused refusal) = refusal_number refusal
ending_number endings.Unwritten = 5
ending_number endings.Unsaved = 5
ending_number endings.NoMemory = 6

-- the line of a file with this name that gave no bytes
abbrev pub unread_line : FetchFault → List ℕ → List ℕ
unread_line faults.Missing name = missing_line name
unread_line faults.Failed name = read_line name
unread_line faults.TooLong name = long_line name
unread_line faults.NoMemory name = memory_line

abbrev pub declined_ending : Declined → Ending
declined_ending (declines.Refused refusal) = endings.Refused refusal
declined_ending declines.NoMemory = endings.NoMemory

abbrev pub declined_line : Declined → List ℕ
declined_line (declines.Refused refusal) = refusal_line refusal
declined_line declines.NoMemory = memory_line

-- ---- what the parts of a command tell

-- why a file gave no bytes, where the shelf tells its files
abbrev pub UnreadWhy : FetchFault → Files → Fetch → Type 0
UnreadWhy faults.Missing files fetch = IsMissing files fetch
UnreadWhy faults.TooLong files fetch = IsTooLong files fetch
UnreadWhy faults.Failed files fetch = Unit {0}
UnreadWhy faults.NoMemory files fetch = Unit {0}

-- what comes of a text that is explained, of texts that are composed, and of a file that is checked: a refusal, or memory is wanting
abbrev pub ExplainDeclines : List ℕ → Declined → Type 0
ExplainDeclines text (declines.Refused refusal) = RefusesText text refusal
ExplainDeclines text declines.NoMemory = Unit {0}

abbrev pub ComposeDeclines : List (List ℕ) → Declined → Type 0
ComposeDeclines texts (declines.Refused refusal) = RefusesTexts texts refusal
ComposeDeclines texts declines.NoMemory = Unit {0}

abbrev pub CheckDeclines : List ℕ → Declined → Type 0
CheckDeclines bytes (declines.Refused refusal) = (HasNoHistory bytes × (refusal ≡ refusals.NoHistory)) ⊎ ((fault : CheckFault) × HasFaultyHistory bytes fault × (refusal ≡ refusals.Line fault))
CheckDeclines bytes declines.NoMemory = Unit {0}

-- the file has no faulty history
abbrev pub IsUnfaulty : List ℕ → Type 0
IsUnfaulty file = (fault : CheckFault) → HasFaultyHistory file fault → ⊥

-- ---- how a command ends

-- nothing was put on the shelf, and no put failed
pub record Untouched (before after : Outside) : Type 0 where
  pub files : after.shelf.files ≡ before.shelf.files
  pub puts : after.shelf.put_faults ≡ before.shelf.put_faults

-- what is to be saved, if anything, was, and no put failed
pub record Saved (command : Command) (before after : Outside) (served : List RoundRows) : Type 0 where
  pub saves : Saves command before after served
  pub puts : after.shelf.put_faults ≡ before.shelf.put_faults
  pub kept : saved_name command ≡ None → after.shelf.files ≡ before.shelf.files

-- each file that the command fetches is there and in limit, where the shelf tells its files, and no fetch failed
pub record Fetched (command : Command) (before after : Outside) : Type 0 where
  pub held : IfSome before.shelf.files (λ files. All (IsHeld files) (fetches command))
  pub quiet : after.shelf.fetch_faults ≡ before.shelf.fetch_faults

-- the first file that gave no bytes, why, and its line
pub record GivesNone (command : Command) (before after : Outside) (fault : FetchFault) : Type 0 where
  pub fetch : Fetch
  pub one : Contains (fetches command) fetch
  pub why : IfSome before.shelf.files (λ files. IsReached command files fetch × UnreadWhy fault files fetch)
  pub cause : HasCause before.shelf.fetch_faults after.shelf.fetch_faults (fault ≡ faults.Failed)
  pub untouched : Untouched before after
  pub told : Tells before.sink after.sink (unread_line fault fetch.name)

-- the output of the command, which refuses nothing
pub record Makes (command : Command) (files : Files) (served : List RoundRows) (output : List ℕ) : Type 0 where
  pub is : IsOutput command files served output
  pub unrefused : (refusal : Refusal) → Refuses command files served refusal → ⊥

pub record EndsDone (command : Command) (before after : Outside) (served : List RoundRows) : Type 0 where
  pub fetched : Fetched command before after
  pub saved : Saved command before after served
  pub quiet : after.sink.faults ≡ before.sink.faults
  pub output : List ℕ
  pub made : GivenBy (fetches command) before.shelf.files (λ files. Makes command files served output)
  pub takes : TakesWhole before.sink.taken after.sink.taken output

pub record EndsUnwritten (command : Command) (before after : Outside) (served : List RoundRows) : Type 0 where
  pub fetched : Fetched command before after
  pub saved : Saved command before after served
  pub rose : Rose before.sink.faults after.sink.faults
  pub output : List ℕ
  pub made : GivenBy (fetches command) before.shelf.files (λ files. Makes command files served output)
  pub takes : TakesPart before.sink.taken after.sink.taken output

pub record EndsUnsaved (command : Command) (before after : Outside) (served : List RoundRows) : Type 0 where
  pub fetched : Fetched command before after
  pub name : List ℕ
  pub named : saved_name command ≡ Some name
  pub rose : Rose before.shelf.put_faults after.shelf.put_faults
  pub output : List ℕ
  pub made : GivenBy (fetches command) before.shelf.files (λ files. Makes command files served output)
  pub elsewhere : IfSome before.shelf.files (λ (files : Files). IsSomeAnd after.shelf.files (λ (left : Files). Elsewhere files left name))
  pub told : Tells before.sink after.sink (unsaved_line name)

pub record EndsRefused (command : Command) (before after : Outside) (served : List RoundRows) (refusal : Refusal) : Type 0 where
  pub fetched : Fetched command before after
  pub untouched : Untouched before after
  pub why : GivenBy (fetches command) before.shelf.files (λ files. Refuses command files served refusal)
  pub rounds : RefusesServed command served refusal
  pub told : Tells before.sink after.sink (refusal_line refusal)

pub record EndsShort (before after : Outside) : Type 0 where
  pub quiet : after.shelf.fetch_faults ≡ before.shelf.fetch_faults
  pub untouched : Untouched before after
  pub told : Tells before.sink after.sink memory_line

abbrev pub Ends : Command → Outside → Outside → List RoundRows → Ending → Type 0
Ends command before after served endings.Done = EndsDone command before after served
Ends command before after served (endings.Unread fault) = GivesNone command before after fault
Ends command before after served (endings.Refused refusal) = EndsRefused command before after served refusal
Ends command before after served endings.Unwritten = EndsUnwritten command before after served
Ends command before after served endings.Unsaved = EndsUnsaved command before after served
Ends command before after served endings.NoMemory = EndsShort before after

-- the ending with which a run has served its rounds, or those before the one that it refuses
abbrev pub IsServedEnding : Ending → Type 0
IsServedEnding endings.Done = Unit {0}
IsServedEnding (endings.Unread fault) = ⊥
IsServedEnding (endings.Refused refusal) = Unit {0}
IsServedEnding endings.Unwritten = ⊥
IsServedEnding endings.Unsaved = ⊥
IsServedEnding endings.NoMemory = ⊥
