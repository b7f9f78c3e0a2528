-- How a composite is put together.
use Rattle.std.specs.Prelude.{◌≡◌, ◌≤◌, ℕ, List, ◌∷◌, [], ◌++◌, length, Bool, true, false, Option, Some, None, Result, Ok, Err}
use Rattle.std.specs.Option.{option_to_list}
use Rattle.iscc_header.specs.Kinds.{main_of, sub_of}
use Rattle.iscc_code.specs.Units.{UnitParts, IsUnit}
use Rattle.iscc_code.specs.Composites.{CodeParts, IsComposite, compose_fault}
use Rattle.iscc_code.specs.declared.composing.ComposeFault.{ComposeFault}

-- the composite of units, or why they have none
abbrev pub ComposesTo : List UnitParts → Result CodeParts ComposeFault → Type 0
ComposesTo given (Ok code) = (compose_fault given ≡ None) × IsComposite given code
ComposesTo given (Err fault) = compose_fault given ≡ Some fault

-- a unit that may stand in an ISCC-CODE as that of this MainType
pub record FitsMain (main : ℕ) (unit : UnitParts) : Type 0 where
  pub valid : IsUnit unit
  pub its_main : main_of unit.kind ≡ main
  pub wide : 8 ≤ length unit.body

-- the SubType of an ISCC-CODE with these units, and a META unit or none
abbrev pub sub_from : Bool → Option UnitParts → Option UnitParts → ℕ
sub_from has_meta (Some semantic) content = sub_of semantic.kind
sub_from has_meta None (Some content) = sub_of content.kind
sub_from true None None = 6
sub_from false None None = 5

-- units by rising MainType
abbrev pub in_order : Option UnitParts → Option UnitParts → Option UnitParts → UnitParts → UnitParts → List UnitParts
in_order meta semantic content last_data last_instance =
    option_to_list meta ++ (option_to_list semantic ++ (option_to_list content ++ last_data ∷ last_instance ∷ []))
