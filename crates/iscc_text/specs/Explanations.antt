-- The explanation of an ISCC, as JSON data. The names are those of ISO 24138:2024.
use Rattle.std.specs.Prelude.{◌≡◌, ◌*◌, ℕ, List, length, map, codes, ◌==◌, ◌||◌, if◌then◌else◌}
use Rattle.serde_json.specs.Data.{Data, number, unsigned, string, array, object, member, no_members}
use Rattle.serde_json.specs.View.{items_of}
use Rattle.hex.specs.Hex.{encode_lower}
use Rattle.iscc_header.specs.Kinds.{main_of, sub_of}
use Rattle.iscc_header.specs.declared.unit.Unit64.{Unit64}
use Rattle.iscc_code.specs.Units.{UnitParts, unit_parts}
use Rattle.iscc_code.specs.Composites.{CodeParts, code_units}
use Rattle.iscc_code.specs.declared.iscc.Iscc.{Iscc}
use Rattle.iscc_code.specs.declared.iscc.Iscc.TheVariants as variants
use Rattle.iscc_text.specs.UnitText.{unit_text}
use Rattle.iscc_text.specs.PrintedTexts.{IsPrintedText}

-- the name of a MainType, by its number
abbrev pub main_name : ℕ → List ℕ
main_name main =
    if main == 0 then codes "META"
    else if main == 1 then codes "SEMANTIC"
    else if main == 2 then codes "CONTENT"
    else if main == 3 then codes "DATA"
    else if main == 4 then codes "INSTANCE"
    else codes "ISCC"

-- the name of a medium
abbrev pub media_name : ℕ → List ℕ
media_name sub =
    if sub == 0 then codes "TEXT"
    else if sub == 1 then codes "IMAGE"
    else if sub == 2 then codes "AUDIO"
    else if sub == 3 then codes "VIDEO"
    else codes "MIXED"

-- the name of a unit's SubType: SEMANTIC and CONTENT have media, the other units have none
abbrev pub sub_name : ℕ → ℕ → List ℕ
sub_name main sub = if (main == 1) || (main == 2) then media_name sub else codes "NONE"

-- the name of an ISCC-CODE's SubType: a medium, or what stands where no unit has one
abbrev pub code_sub_name : ℕ → List ℕ
code_sub_name sub =
    if sub == 5 then codes "SUM"
    else if sub == 6 then codes "NONE"
    else media_name sub

-- a unit with its printed text: the members in the order of their keys
abbrev pub unit_data : UnitParts → List ℕ → Data
unit_data unit text =
    object
    (member (codes "bits") (number (unsigned (8 * length unit.body)))
    (member (codes "body") (string (encode_lower unit.body))
    (member (codes "main") (string (main_name (main_of unit.kind)))
    (member (codes "sub") (string (sub_name (main_of unit.kind) (sub_of unit.kind)))
    (member (codes "text") (string text) no_members)))))

-- a unit of 64 bits with its printed text
abbrev pub unit64_data : Unit64 → Data
unit64_data unit = unit_data (unit_parts unit) (unit_text unit)

-- an ISCC-CODE with its printed text, and its units in their order
abbrev pub code_data : CodeParts → List ℕ → Data
code_data code text =
    object
    (member (codes "main") (string (main_name 5))
    (member (codes "sub") (string (code_sub_name code.sub))
    (member (codes "text") (string text)
    (member (codes "units") (array (items_of (map unit64_data (code_units code)))) no_members))))

-- the data of an ISCC with this text
abbrev pub iscc_data : Iscc → List ℕ → Data
iscc_data (variants.Unit unit) text = unit_data unit text
iscc_data (variants.Code code) text = code_data code text

-- this data explains the ISCC: it has the printed text
pub record Explains (iscc : Iscc) (explanation : Data) : Type 0 where
  pub text : List ℕ
  pub printed : IsPrintedText iscc text
  pub same : explanation ≡ iscc_data iscc text
