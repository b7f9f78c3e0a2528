-- Why bytes are no image: the first fault, and its place.
use Rattle.std.specs.Prelude.{ℕ, zero, suc, ◌+◌, ◌*◌, ◌^◌, nat_lt, if◌then◌else◌, not, ◌==◌, Bool, true, List, length, take, drop, get_or, codes, Option, Some, None}
use Rattle.std.specs.Int.{from_be_bytes, byte_len, w32, w64, Width}
use Rattle.std.specs.Str.{bytes_eq}
use Rattle.blake3_core.specs.Tree.{hash}
use Rattle.reg_image.specs.declared.image.TheConstants.{DECLARED_MOST}
use Rattle.reg_image.specs.declared.fault.ImageFault.{ImageFault}
use Rattle.reg_image.specs.declared.fault.ImageWhy.{ImageWhy}
use Rattle.reg_image.specs.declared.fault.ImageWhy.TheVariants.{Short, Magic, Version, Kind, Order, Range, Sum, Trailing}

-- the fault at this place
abbrev pub fault_at : ℕ → ImageWhy → Option ImageFault
fault_at place why = Some (record { at = place; why = why })

-- the first of two faults, where there is one
abbrev pub or_else : Option ImageFault → Option ImageFault → Option ImageFault
or_else None later = later
or_else (Some fault) later = Some fault

-- the number that stands at this place
unfoldable pub number_at : Width → ℕ → List ℕ → ℕ
number_at width place bytes = from_be_bytes width (take (byte_len width) (drop place bytes))

-- there is no id before this one, or it is above that
abbrev pub is_above : Option ℕ → ℕ → Bool
is_above None id = true
is_above (Some before) id = nat_lt before id

-- the first fault of so many declarations from this place on, where the id before them is known: its kind is none, its id isn't above the
-- one before, or not below the base
unfoldable pub declared_fault : ℕ → Option ℕ → ℕ → ℕ → List ℕ → Option ImageFault
declared_fault base before place zero bytes = None
declared_fault base before place (suc count) bytes =
    if nat_lt 12 (get_or bytes (place + 8) 0) then fault_at (place + 8) Kind
    else if not (is_above before (number_at w64 place bytes)) then fault_at place Order
    else if not (nat_lt (number_at w64 place bytes) base) then fault_at place Range
    else declared_fault base (Some (number_at w64 place bytes)) (place + 17) count bytes

-- base and count, where the bytes have them
abbrev pub base_of : List ℕ → ℕ
base_of bytes = number_at w64 12 bytes

abbrev pub count_of : List ℕ → ℕ
count_of bytes = number_at w64 20 bytes

-- the place behind the declarations
abbrev pub sum_place : List ℕ → ℕ
sum_place bytes = 28 + 17 * count_of bytes

-- the first fault that is asked before the declarations: too few bytes, another magic or version, a base or a count out of range, too few
-- bytes for that count, or another sum
unfoldable pub front_fault : List ℕ → Option ImageFault
front_fault bytes =
    if nat_lt (length bytes) 28 then fault_at (length bytes) Short
    else if not (bytes_eq (take 8 bytes) (codes "ISCCREGI")) then fault_at 0 Magic
    else if not (number_at w32 8 bytes == 1) then fault_at 8 Version
    else if nat_lt (2 ^ 34) (base_of bytes) then fault_at 12 Range
    else if nat_lt DECLARED_MOST (count_of bytes) then fault_at 20 Range
    else if nat_lt (length bytes) (sum_place bytes + 32) then fault_at (length bytes) Short
    else if not (bytes_eq (take 32 (drop (sum_place bytes) bytes)) (hash (take (sum_place bytes) bytes))) then fault_at (sum_place bytes) Sum
    else None

-- bytes behind the sum
abbrev pub trailing_fault : List ℕ → Option ImageFault
trailing_fault bytes = if nat_lt (sum_place bytes + 32) (length bytes) then fault_at (sum_place bytes + 32) Trailing else None

-- The first fault of bytes that are no image: one before the declarations, then one of these, then bytes behind the sum.
unfoldable pub image_fault : List ℕ → Option ImageFault
image_fault bytes = or_else (front_fault bytes) (or_else (declared_fault (base_of bytes) None 28 (count_of bytes) bytes) (trailing_fault bytes))
