-- What a run makes of what it is given, and how it ends.
use Rattle.std.specs.Prelude.{◌≡◌, ◌⊎◌, ℕ, List, [], Option, Some, IfSome, IsSomeAnd, Ok}
use Rattle.reg_model.specs.declared.reply.Row.{Row}
use Rattle.reg_model.specs.Opening.{Opening}
use Rattle.reg_requests.specs.declared.items.Item.{Item}
use Rattle.reg_session.specs.Faults.{Rose}
use Rattle.reg_session.specs.Files.{Files, PutTells, Elsewhere}
use Rattle.reg_session.specs.Outside.{ShelfView, Outside, TakesWhole, TakesPart, Tells}
use Rattle.reg_top.specs.declared.ending.Declined.{Declined}
use Rattle.reg_top.specs.declared.ending.Declined.TheVariants as declines
use Rattle.reg_top.specs.declared.ending.Ending.{Ending}
use Rattle.reg_top.specs.declared.ending.Ending.TheVariants as endings
use Rattle.reg_top.specs.declared.refusal.Refusal.{Refusal}
use Rattle.reg_top.specs.Fetches.{Plan}
use Rattle.reg_top.specs.FaultLines.{unsaved_line, memory_line}
use Rattle.reg_top.specs.inner.RunImages.{OpensWith, IsImageRefused, SavesAs}
use Rattle.reg_top.specs.inner.RunRounds.{StopsAt, IsServedText, left_by}

-- The output of a run that began with what was loaded, and the image of what it leaves, where that is to be saved.
pub record IsServedRun (plan : Plan) (image : Option (List ℕ)) (lists : List (List (List Item))) (seals : List (List (List Row))) (output : List ℕ) (saved : Option (List ℕ)) : Type 0 where
  pub opening : Opening
  pub opens : OpensWith image opening
  pub text : IsServedText opening plan.rounds lists seals output
  pub saves : SavesAs plan.save (left_by opening text.rounds) saved

-- a run that began with what was loaded stops at a round
pub record StopsRun (plan : Plan) (image : Option (List ℕ)) (lists : List (List (List Item))) (seals : List (List (List Row))) (refusal : Refusal) : Type 0 where
  pub opening : Opening
  pub opens : OpensWith image opening
  pub stops : StopsAt opening plan.rounds lists seals refusal

-- what was loaded is no image, and nothing was served
pub record StopsAtImage (image : Option (List ℕ)) (seals : List (List (List Row))) (refusal : Refusal) : Type 0 where
  pub why : IsImageRefused image refusal
  pub none : seals ≡ []

-- why a run makes no output
abbrev pub IsDeclinedRun : Plan → Option (List ℕ) → List (List (List Item)) → List (List (List Row)) → Declined → Type 0
IsDeclinedRun plan image lists seals (declines.Refused refusal) = StopsAtImage image seals refusal ⊎ StopsRun plan image lists seals refusal
IsDeclinedRun plan image lists seals declines.NoMemory = Unit {0}

-- ---- how it ends

-- the shelf has the image under the name, where there are both, and all else is as it was
abbrev pub PutsImage : Option (List ℕ) → Option (List ℕ) → ShelfView → ShelfView → Type 0
PutsImage (Some name) (Some image) before after =
    PutTells before.files after.files name image (Ok tt) × (after.fetch_faults ≡ before.fetch_faults) × (after.put_faults ≡ before.put_faults)
PutsImage name image before after = after ≡ before

-- the image couldn't be put under its name
pub record FailsToPut (name : Option (List ℕ)) (before after : Outside) : Type 0 where
  pub at : List ℕ
  pub named : name ≡ Some at
  pub fetches : after.shelf.fetch_faults ≡ before.shelf.fetch_faults
  pub rose : Rose before.shelf.put_faults after.shelf.put_faults
  pub elsewhere : IfSome before.shelf.files (λ (files : Files). IsSomeAnd after.shelf.files (λ (left : Files). Elsewhere files left at))
  pub told : Tells before.sink after.sink (unsaved_line at)

-- the end of a run whose output and image are made
abbrev pub FinishesAs : Option (List ℕ) → Option (List ℕ) → List ℕ → Outside → Outside → Ending → Type 0
FinishesAs name image output before after endings.Done =
    PutsImage name image before.shelf after.shelf × (after.sink.faults ≡ before.sink.faults) × TakesWhole before.sink.taken after.sink.taken output
FinishesAs name image output before after endings.Unwritten =
    PutsImage name image before.shelf after.shelf × Rose before.sink.faults after.sink.faults × TakesPart before.sink.taken after.sink.taken output
FinishesAs name image output before after endings.Unsaved = FailsToPut name before after
FinishesAs name image output before after endings.NoMemory = (after.shelf ≡ before.shelf) × Tells before.sink after.sink memory_line
FinishesAs name image output before after (endings.Unread fault) = ⊥
FinishesAs name image output before after (endings.Refused refusal) = ⊥
