-- From what the parts of a command tell to how it ends.
use Rattle.std.proofs.Common.{◌≡◌, ℕ, ◌≤◌, List, [], ◌∷◌, length, Option, Some, None, Result, Ok, Err, refl, sym, subst, lit<}
use Rattle.std.specs.Prelude.{IfSome, IsSomeAnd, Contains, All, MatchResult, IsErr}
use Rattle.std.proofs.lemmas.Bool.{false≢true}
use Rattle.std.proofs.lemmas.List.Elements.{All-nil, All-cons}
use Rattle.reg_model.specs.Runs.{RoundRows}
use Rattle.reg_model.proofs.RowSteps.{IfSome-weaker}
use Rattle.reg_session.specs.declared.sink.Failed.{Failed}
use Rattle.reg_session.specs.declared.shelf.FetchFault.{FetchFault}
use Rattle.reg_session.specs.declared.shelf.FetchFault.TheVariants as faults
use Rattle.reg_session.specs.Faults.{HasCause}
use Rattle.reg_session.specs.Files.{Files, FetchTells}
use Rattle.reg_session.specs.Outside.{ShelfView, SinkView, Outside, outside, TakesWhole, TakesPart, Tells}
use Rattle.reg_top.specs.declared.ending.Ending.{Ending}
use Rattle.reg_top.specs.declared.ending.Ending.TheVariants as endings
use Rattle.reg_top.specs.declared.ending.Declined.{Declined}
use Rattle.reg_top.specs.declared.ending.Declined.TheVariants as declines
use Rattle.reg_top.specs.Fetches.{Command, Fetch, fetches, saved_name}
use Rattle.reg_top.specs.Dispatch.{Refuses, RefusesServed}
use Rattle.reg_top.specs.Outcomes.{GivenBy, IsHeld, HasOnly}
use Rattle.reg_top.specs.Dispatch.{IsSaved}
use Rattle.reg_top.specs.inner.Endings.{unread_line, declined_ending, declined_line, UnreadWhy, Untouched, Saved, Fetched, Makes, Ends}
use Rattle.reg_top.proofs.Endings.{always}

-- ---- what was put

-- a call that is given no shelf
pub untouched_shelf : (shelf : ShelfView) (before after : SinkView) → Untouched (outside shelf before) (outside shelf after)
untouched_shelf shelf before after = record { files = refl; puts = refl }

-- whatever P is, a map has nothing but what it had, where there is no name
only_none : (name : Option (List ℕ)) (before after : Option Files) (P : List ℕ → Type 0) → name ≡ None → after ≡ before → HasOnly name before after P
only_none name before after P none same = subst (λ (n : Option (List ℕ)). HasOnly n before after P) (sym none) same

given_all : (list : List Fetch) (files : Option Files) (P : Files → Type 0) → ((map : Files) → P map) → GivenBy list files P
given_all [] files P f = f (λ name. None)
given_all (x ∷ list) files P f = always P f files

-- a command that saves nothing
pub saved_none : (command : Command) (before after : Outside) (served : List RoundRows) → saved_name command ≡ None → Untouched before after → Saved command before after served
saved_none command before after served none untouched = record {
  saves = given_all (fetches command) before.shelf.files _ (λ files. only_none (saved_name command) before.shelf.files after.shelf.files (IsSaved command files served) none untouched.files);
  puts = untouched.puts;
  kept = λ _. untouched.files;
}

-- ---- what was fetched

-- a command that fetches nothing
pub none_fetched : (command : Command) (before after : Outside) → fetches command ≡ [] → after.shelf.fetch_faults ≡ before.shelf.fetch_faults → Fetched command before after
none_fetched command before after none quiet = record {
  held = always _ (λ files. subst (All (IsHeld files)) (sym none) (All-nil (IsHeld files))) before.shelf.files;
  quiet = quiet;
}

-- a command whose one file is there and in limit
pub one_fetched : (command : Command) (before after : Outside) (fetch : Fetch) (bytes : List ℕ) → fetches command ≡ fetch ∷ []
    → IfSome before.shelf.files (λ files. files fetch.name ≡ Some bytes) → length bytes ≤ fetch.limit → after.shelf.fetch_faults ≡ before.shelf.fetch_faults → Fetched command before after
one_fetched command before after fetch bytes one held within quiet = record {
  held = IfSome-weaker _ _ (λ files is. subst (All (IsHeld files)) (sym one)
      (All-cons (IsHeld files) fetch [] (subst (λ h. IsSomeAnd h (λ b. length b ≤ fetch.limit)) (sym is) within) (All-nil (IsHeld files)))) before.shelf.files held;
  quiet = quiet;
}

why_of : (fault : FetchFault) (files : Files) (fetch : Fetch) → FetchTells (files fetch.name) fetch.limit (Err fault) [] → UnreadWhy fault files fetch
why_of faults.Missing files fetch tells = tells
why_of faults.TooLong files fetch tells = tells
why_of faults.Failed files fetch tells = tt
why_of faults.NoMemory files fetch tells = tt

-- a command whose one file gave no bytes
pub unread_ends : (command : Command) (before after : Outside) (served : List RoundRows) (fetch : Fetch) (fault : FetchFault) → fetches command ≡ fetch ∷ []
    → IfSome before.shelf.files (λ files. FetchTells (files fetch.name) fetch.limit (Err fault) []) → HasCause before.shelf.fetch_faults after.shelf.fetch_faults (fault ≡ faults.Failed)
    → Untouched before after → Tells before.sink after.sink (unread_line fault fetch.name) → Ends command before after served (endings.Unread fault)
unread_ends command before after served fetch fault one tells cause untouched told = record {
  fetch = fetch;
  one = subst (λ list. Contains list fetch) (sym one) (0, lit< tt, refl);
  why = IfSome-weaker _ _ (λ files is. (record { before = []; rest = []; all = one; held = All-nil (IsHeld files) }, why_of fault files fetch is)) before.shelf.files tells;
  cause = cause;
  untouched = untouched;
  told = told;
}

-- ---- what is made of it

-- why what the command is given makes no output
abbrev pub Declines : Command → Outside → List RoundRows → Declined → Type 0
Declines command before served (declines.Refused refusal) = GivenBy (fetches command) before.shelf.files (λ files. Refuses command files served refusal) × RefusesServed command served refusal
Declines command before served declines.NoMemory = Unit {0}

pub declined_ends : (command : Command) (before after : Outside) (served : List RoundRows) (why : Declined) → Fetched command before after → Untouched before after
    → Declines command before served why → Tells before.sink after.sink (declined_line why) → Ends command before after served (declined_ending why)
declined_ends command before after served (declines.Refused refusal) fetched untouched is told =
    record { fetched = fetched; untouched = untouched; why = is.0; rounds = is.1; told = told }
declined_ends command before after served declines.NoMemory fetched untouched is told = record { quiet = fetched.quiet; untouched = untouched; told = told }

-- an output that is written
pub written_ends : (command : Command) (before after : Outside) (served : List RoundRows) (result : Result (Unit {0}) Failed) (ending : Ending) (output : List ℕ)
    → MatchResult result (λ _. ending ≡ endings.Done) (λ _. ending ≡ endings.Unwritten)
    → MatchResult result (λ _. TakesWhole before.sink.taken after.sink.taken output) (λ _. TakesPart before.sink.taken after.sink.taken output)
    → HasCause before.sink.faults after.sink.faults (IsErr result)
    → Fetched command before after → Saved command before after served → GivenBy (fetches command) before.shelf.files (λ files. Makes command files served output)
    → Ends command before after served ending
written_ends command before after served (Ok done) ending output is takes cause fetched saved made =
    subst (Ends command before after served) (sym is) (record { fetched = fetched; saved = saved; quiet = cause.kept false≢true; output = output; made = made; takes = takes })
written_ends command before after served (Err fault) ending output is takes cause fetched saved made =
    subst (Ends command before after served) (sym is) (record { fetched = fetched; saved = saved; rose = cause.failed refl; output = output; made = made; takes = takes })
