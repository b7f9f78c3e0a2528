-- What a reader takes from bytes, whether they are an image or not.
use Rattle.std.specs.Prelude.{ℕ, zero, suc, ◌+◌, nat_lt, if◌then◌else◌, not, List, [], ◌∷◌, get_or, Option, None}
use Rattle.std.specs.Int.{w64}
use Rattle.reg_model.specs.declared.update.Declared.{Declared}
use Rattle.reg_model.specs.Opening.{Opening, opening_of}
use Rattle.reg_image.specs.declared.fault.ImageFault.{ImageFault}
use Rattle.reg_image.specs.declared.fault.ImageWhy.TheVariants.{Kind, Order, Range}
use Rattle.reg_image.specs.ImageFaults.{number_at, is_above, fault_at, base_of, count_of}

-- the declaration that stands at this place
abbrev pub declared_at : ℕ → List ℕ → Declared
declared_at place bytes = record { id = number_at w64 place bytes; unit = record { kind = get_or bytes (place + 8) 0; body = number_at w64 (place + 9) bytes } }

-- so many declarations from this place on
unfoldable pub declared_list : ℕ → ℕ → List ℕ → List Declared
declared_list place zero bytes = []
declared_list place (suc count) bytes = declared_at place bytes ∷ declared_list (place + 17) count bytes

-- what the bytes open, where they are an image
unfoldable pub image_opening : List ℕ → Opening
image_opening bytes = opening_of (base_of bytes) (declared_list 28 (count_of bytes) bytes)

-- the fault of a declaration that stands at this place
unfoldable pub one_fault : ℕ → Option ℕ → ℕ → Declared → Option ImageFault
one_fault base before place d =
    if nat_lt 12 d.unit.kind then fault_at (place + 8) Kind
    else if not (is_above before d.id) then fault_at place Order
    else if not (nat_lt d.id base) then fault_at place Range
    else None
