-- The tree of an explanation has no float.
use Rattle.std.proofs.Common.{◌≡◌, ◌||◌, ◌∙◌, ap, refl, false, List, [], ◌∷◌, ℕ, map}
use Rattle.serde_json.specs.Data.{Data}
use Rattle.serde_json.specs.Written.{has_float, items_have_float}
use Rattle.serde_json.specs.View.{items_of}
use Rattle.iscc_header.specs.declared.unit.Unit64.{Unit64}
use Rattle.iscc_code.specs.declared.iscc.Iscc.{Iscc}
use Rattle.iscc_code.specs.declared.iscc.Iscc.TheVariants as variants
use Rattle.iscc_code.specs.Composites.{code_units}
use Rattle.iscc_text.specs.Explanations.{Explains, iscc_data, unit64_data}

units_free : (units : List Unit64) → items_have_float (items_of (map unit64_data units)) ≡ false
units_free [] = refl
units_free (unit ∷ units) = units_free units

iscc_free : (iscc : Iscc) (text : List ℕ) → has_float (iscc_data iscc text) ≡ false
iscc_free (variants.Unit unit) text = refl
iscc_free (variants.Code code) text = ap (λ b. b || false) (units_free (code_units code))

pub no_float : (iscc : Iscc) (tree : Data) → Explains iscc tree → has_float tree ≡ false
no_float iscc tree h = ap has_float h.same ∙ iscc_free iscc h.text
