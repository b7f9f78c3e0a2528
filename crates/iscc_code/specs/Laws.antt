-- What the definitions determine.
use Rattle.std.specs.Prelude.{◌≡◌, List, IsPermutation}
use Rattle.iscc_code.specs.Units.{UnitParts}
use Rattle.iscc_code.specs.Composites.{CodeParts, IsComposite}

-- a list of units has one composite, whatever order the units have
abbrev pub UnitsHaveOneComposite : Type 0
UnitsHaveOneComposite = (given other : List UnitParts) (a b : CodeParts) → IsPermutation given other
    → IsComposite given a → IsComposite other b → a ≡ b
