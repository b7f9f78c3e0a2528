-- The files of a run, as they are read.
use Rattle.std.specs.Prelude.{◌≡◌, ℕ, ◌^◌, ◌≤◌, List, ◌∷◌, ◌++◌, length, All, Option, Some, None, IfSome}
use Rattle.std.specs.List.{AllZip}
use Rattle.reg_model.specs.Calls.{IsRequest}
use Rattle.reg_requests.specs.declared.items.Item.{Item}
use Rattle.reg_requests.specs.Requests.{AreItems, calls_of}
use Rattle.reg_session.specs.declared.shelf.FetchFault.{FetchFault}
use Rattle.reg_session.specs.declared.shelf.FetchFault.TheVariants.{Failed}
use Rattle.reg_session.specs.Faults.{HasCause}
use Rattle.reg_session.specs.Files.{Files}
use Rattle.reg_top.specs.declared.run_files.Unread.{Unread}
use Rattle.reg_top.specs.declared.run_files.Unread.TheVariants as unreads
use Rattle.reg_top.specs.Fetches.{RoundPlan, Fetch}
use Rattle.reg_top.specs.Outcomes.{IsHeld}
use Rattle.reg_top.specs.inner.Endings.{UnreadWhy}

-- calls that a session may make: few, with values of their types
pub record MayBeServed (list : List Item) : Type 0 where
  pub few : length (calls_of list) ≤ 2 ^ 24
  pub known : All IsRequest (calls_of list)

-- the items of the file with this name, which is in limit
pub record IsRead (files : Option Files) (name : List ℕ) (list : List Item) : Type 0 where
  pub bytes : List ℕ
  pub within : length bytes ≤ 2 ^ 24
  pub items : AreItems bytes list
  pub served : MayBeServed list
  pub held : IfSome files (λ (map : Files). map name ≡ Some bytes)

-- the items of the files of a round
abbrev pub ReadsRound : Option Files → RoundPlan → List (List Item) → Type 0
ReadsRound files plan lists = AllZip (IsRead files) plan.names lists

-- what was loaded: the bytes of the file with this name, which is in limit
pub record IsLoaded (files : Option Files) (name bytes : List ℕ) : Type 0 where
  pub within : length bytes ≤ 2 ^ 25
  pub held : IfSome files (λ (map : Files). map name ≡ Some bytes)

-- the bytes of the file to load, where there is one
abbrev pub LoadsImage : Option Files → Option (List ℕ) → Option (List ℕ) → Type 0
LoadsImage files None None = Unit {0}
LoadsImage files (Some name) (Some bytes) = IsLoaded files name bytes
LoadsImage files load image = ⊥

-- The first of these files that gave nothing, and why; those before it are there and in limit.
pub record IsFirstUnread (files : Option Files) (before after : ℕ) (list : List Fetch) (name : List ℕ) (fault : FetchFault) : Type 0 where
  pub front : List Fetch
  pub first : Fetch
  pub rest : List Fetch
  pub split : list ≡ front ++ first ∷ rest
  pub named : first.name ≡ name
  pub held : IfSome files (λ (told : Files). All (IsHeld told) front)
  pub why : IfSome files (λ (told : Files). UnreadWhy fault told first)
  pub cause : HasCause before after (fault ≡ Failed)

-- why these files weren't read: the first that gave nothing, or memory is wanting
abbrev pub AreUnread : Option Files → ℕ → ℕ → List Fetch → Unread → Type 0
AreUnread files before after list (unreads.File name fault) = IsFirstUnread files before after list name.now fault
AreUnread files before after list unreads.NoMemory = after ≡ before
