-- ISCC-CODEs: the units that they have, and the composite of a list of units (ISO 24138:2024).
use Rattle.std.specs.Prelude.{◌≡◌, ◌<◌, ◌+◌, ◌/◌, ◌%◌, ◌^◌, ℕ, List, [], ◌∷◌, ◌++◌, length, map, filter, IsPermutation, Option, Some, None, IfSome, is_some, Bool, true, ◌==◌, not, nat_lt, if◌then◌else◌}
use Rattle.std.specs.List.{flat_map, list_any}
use Rattle.std.specs.Int.{w64, to_be_bytes}
use Rattle.iscc_header.specs.Headers.{Numbers}
use Rattle.iscc_header.specs.Kinds.{main_of, sub_of}
use Rattle.iscc_header.specs.declared.unit.Unit64.{Unit64}
use Rattle.iscc_code.specs.Units.{UnitParts, first64_of}
use Rattle.iscc_code.specs.declared.composing.ComposeFault.{ComposeFault}
use Rattle.iscc_code.specs.declared.composing.ComposeFault.TheVariants as faults

-- what a contract sees of an ISCC-CODE: the bodies of its units, of which those of DATA and INSTANCE are always there, and its SubType
pub record CodeParts : Type 0 where
  pub meta_body : Option ℕ
  pub semantic_body : Option ℕ
  pub content_body : Option ℕ
  pub data_body : ℕ
  pub instance_body : ℕ
  pub sub : ℕ

-- the unit of a body that is there
abbrev pub unit_if : ℕ → Option ℕ → List Unit64
unit_if kind None = []
unit_if kind (Some body) = record { kind = kind; body = body } ∷ []

-- its units by rising MainType: SEMANTIC (kinds 1 to 5) and CONTENT (6 to 10) have the code's SubType
unfoldable pub code_units : CodeParts → List Unit64
code_units code =
    unit_if 0 code.meta_body
    ++ (unit_if (1 + code.sub) code.semantic_body
    ++ (unit_if (6 + code.sub) code.content_body
    ++ record { kind = 11; body = code.data_body } ∷ record { kind = 12; body = code.instance_body } ∷ []))

-- the Length of its header: 1 where CONTENT is there, 2 for SEMANTIC, 4 for META
unfoldable pub code_len : CodeParts → ℕ
code_len code = (if is_some code.content_body then 1 else 0) + (if is_some code.semantic_body then 2 else 0) + (if is_some code.meta_body then 4 else 0)

-- how many units an ISCC-CODE with this Length has
abbrev pub unit_count : ℕ → ℕ
unit_count len = 2 + len % 2 + len / 2 % 2 + len / 4 % 2

-- An ISCC-CODE with this Length may have this SubType: SUM, which is 5, for DATA and INSTANCE alone, NONE, which is 6, with META
-- beside them, and else that of its SEMANTIC and CONTENT units.
unfoldable pub is_code_sub : ℕ → ℕ → Bool
is_code_sub len sub = if len == 0 then sub == 5 else if len == 4 then sub == 6 else nat_lt sub 5

-- the bodies that a unit of 64 bits has
abbrev pub IsBody : ℕ → Type 0
IsBody body = body < 2 ^ 64

-- the values that an ISCC-CODE has: here its numbers have no range of their own
pub record IsCode (code : CodeParts) : Type 0 where
  pub sub : is_code_sub (code_len code) code.sub ≡ true
  pub meta_body : IfSome code.meta_body IsBody
  pub semantic_body : IfSome code.semantic_body IsBody
  pub content_body : IfSome code.content_body IsBody
  pub data_body : IsBody code.data_body
  pub instance_body : IsBody code.instance_body

-- its header, with version 0
abbrev pub code_header : CodeParts → Numbers
code_header code = record { main = 5; sub = code.sub; version = 0; len = code_len code }

-- the eight bytes of a unit's body, its first bit the highest of the first byte
abbrev pub body_bytes : Unit64 → List ℕ
body_bytes unit = to_be_bytes w64 unit.body

-- its body: those of its units, one after the other
unfoldable pub code_body : CodeParts → List ℕ
code_body code = flat_map body_bytes (code_units code)

-- the given units of a MainType
unfoldable pub of_main : ℕ → List UnitParts → List UnitParts
of_main main given = filter (λ unit. main_of unit.kind == main) given

-- some MainType stands twice
abbrev pub has_twice : List UnitParts → Bool
has_twice given = list_any (λ main. nat_lt 1 (length (of_main main given))) (0 ∷ 1 ∷ 2 ∷ 3 ∷ 4 ∷ [])

-- some unit has under 64 bits
abbrev pub has_narrow : List UnitParts → Bool
has_narrow given = list_any (λ unit. nat_lt (length unit.body) 8) given

-- some unit of the first list and some of the second have different SubTypes
abbrev pub subs_differ : List UnitParts → List UnitParts → Bool
subs_differ xs ys = list_any (λ x. list_any (λ y. not (sub_of x.kind == sub_of y.kind)) ys) xs

-- a SEMANTIC and a CONTENT unit have different SubTypes
abbrev pub has_two_subs : List UnitParts → Bool
has_two_subs given = subs_differ (of_main 1 given) (of_main 2 given)

-- why units have no composite: the first of these causes
unfoldable pub compose_fault : List UnitParts → Option ComposeFault
compose_fault given =
    if has_twice given then Some faults.Twice
    else if length (of_main 3 given) == 0 then Some faults.NoData
    else if length (of_main 4 given) == 0 then Some faults.NoInstance
    else if has_narrow given then Some faults.Narrow
    else if has_two_subs given then Some faults.SubTypes
    else None

-- The ISCC-CODE is the composite of the given units, whatever order they have: it has the first 64 bits of each of them,
-- by rising MainType, and nothing else.
pub record IsComposite (given : List UnitParts) (code : CodeParts) : Type 0 where
  pub valid : IsCode code
  pub units : IsPermutation (map first64_of given) (code_units code)
