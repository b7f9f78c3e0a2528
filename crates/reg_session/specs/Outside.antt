-- What the outside shows: the files of a shelf and the bytes of a sink, where they are told, and the counts of their faults.
use Rattle.std.specs.Prelude.{◌≡◌, ℕ, List, ◌++◌, Option, Some, IfSome}
use Rattle.reg_session.specs.Faults.{Quiet}
use Rattle.reg_session.specs.Files.{Files}

-- the files that a shelf tells, and how many of its fetches and of its puts failed
pub record ShelfView : Type 0 where
  pub files : Option Files
  pub fetch_faults : ℕ
  pub put_faults : ℕ

-- the bytes that a sink tells to have taken, and how many of its calls failed
pub record SinkView : Type 0 where
  pub taken : Option (List ℕ)
  pub faults : ℕ

pub record Outside : Type 0 where
  pub shelf : ShelfView
  pub sink : SinkView

abbrev pub shelf_view : Option Files → ℕ → ℕ → ShelfView
shelf_view files fetch_faults put_faults = record { files = files; fetch_faults = fetch_faults; put_faults = put_faults }

abbrev pub sink_view : Option (List ℕ) → ℕ → SinkView
sink_view taken faults = record { taken = taken; faults = faults }

abbrev pub outside : ShelfView → SinkView → Outside
outside shelf sink = record { shelf = shelf; sink = sink }

-- a sink that tells its bytes has taken these after those that it had
abbrev pub TakesWhole : Option (List ℕ) → Option (List ℕ) → List ℕ → Type 0
TakesWhole before after output = IfSome before (λ bytes. after ≡ Some (bytes ++ output))

-- it has taken a front of them
abbrev pub TakesPart : Option (List ℕ) → Option (List ℕ) → List ℕ → Type 0
TakesPart before after output = IfSome before (λ bytes. (front rest : List ℕ) × (front ++ rest ≡ output) × (after ≡ Some (bytes ++ front)))

-- it has taken a front of a text, and the whole of it where no fault came
pub record Tells (before after : SinkView) (text : List ℕ) : Type 0 where
  pub part : TakesPart before.taken after.taken text
  pub whole : Quiet before.faults after.faults → TakesWhole before.taken after.taken text
