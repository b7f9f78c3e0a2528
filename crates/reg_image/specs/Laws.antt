-- What images tell.
use Rattle.std.specs.Prelude.{◌≡◌, ◌↔◌, ◌<◌, ℕ, List, None, All}
use Rattle.reg_model.specs.Opening.{Opening}
use Rattle.reg_image.specs.Images.{IsImage}
use Rattle.reg_image.specs.ImageFaults.{image_fault}

-- an image is of one base and one list of carried declarations
abbrev pub ImageTellsOpening : Type 0
ImageTellsOpening = (a b : Opening) (bytes : List ℕ) → IsImage a bytes → IsImage b bytes → a ≡ b

-- bytes have no fault exactly where they are an image
abbrev pub ImageOrFault : Type 0
ImageOrFault = (bytes : List ℕ) → All (λ byte. byte < 256) bytes → (image_fault bytes ≡ None) ↔ ((opening : Opening) × IsImage opening bytes)
