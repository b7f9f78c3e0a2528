-- The images of a run: what it begins with, and what it leaves.
use Rattle.std.specs.Prelude.{◌≡◌, ℕ, List, Option, Some, None}
use Rattle.reg_model.specs.Opening.{Opening}
use Rattle.reg_model.specs.Runs.{nothing}
use Rattle.reg_image.specs.declared.fault.ImageFault.{ImageFault}
use Rattle.reg_image.specs.Images.{IsImage}
use Rattle.reg_image.specs.ImageFaults.{image_fault}
use Rattle.reg_top.specs.declared.ending.Declined.{Declined}
use Rattle.reg_top.specs.declared.ending.Declined.TheVariants as declines
use Rattle.reg_top.specs.declared.refusal.Refusal.{Refusal}
use Rattle.reg_top.specs.declared.refusal.Refusal.TheVariants.{Image}

-- what a run begins with, where these bytes were loaded, if any
abbrev pub OpensWith : Option (List ℕ) → Opening → Type 0
OpensWith None opening = opening ≡ nothing
OpensWith (Some bytes) opening = IsImage opening bytes

-- the bytes that were loaded are no image, and this is their first fault
pub record IsImageRefused (image : Option (List ℕ)) (refusal : Refusal) : Type 0 where
  pub bytes : List ℕ
  pub loaded : image ≡ Some bytes
  pub fault : ImageFault
  pub has : image_fault bytes ≡ Some fault
  pub is : refusal ≡ Image fault

-- why a run can't begin with what was loaded
abbrev pub DeclinesImage : Option (List ℕ) → Declined → Type 0
DeclinesImage image (declines.Refused refusal) = IsImageRefused image refusal
DeclinesImage image declines.NoMemory = Unit {0}

-- the image of what is left, where there is a name under which it is to be saved
abbrev pub SavesAs : Option (List ℕ) → Opening → Option (List ℕ) → Type 0
SavesAs None left None = Unit {0}
SavesAs (Some name) left (Some bytes) = IsImage left bytes
SavesAs name left image = ⊥
