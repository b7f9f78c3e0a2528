-- The texts that are composed: read one by one, each of one unit, or refused.
use Rattle.std.proofs.Common.{◌≡◌, ℕ, suc, ◌+◌, ◌≤◌, List, [], ◌∷◌, ◌++◌, length, take, drop, Option, Some, None, refl, sym, ◌∙◌, ap, ap₂, subst, arith, drop-cons}
use Rattle.std.specs.Prelude.{slice_get, is_ok, Ok, Err}
use Rattle.std.specs.List.{AllZip}
use Rattle.std.proofs.lemmas.Bool.{true≢false}
use Rattle.std.proofs.lemmas.Option.{slice_get_within, get_or_from_slice_get}
use Rattle.std.proofs.lemmas.List.{take-append-drop, length-take-le}
use Rattle.iscc_code.specs.declared.iscc.Iscc.{Iscc}
use Rattle.iscc_code.specs.declared.iscc.Iscc.TheVariants as codes
use Rattle.iscc_code.specs.declared.composing.ComposeFault.{ComposeFault}
use Rattle.iscc_code.specs.Units.{UnitParts}
use Rattle.iscc_code.specs.Composites.{CodeParts}
use Rattle.iscc_text.specs.declared.read.TextFault.{TextFault}
use Rattle.iscc_text.specs.Texts.{StandsFor, HasTextFault}
use Rattle.iscc_text.proofs.OneText.{one_reading, one_iscc}
use Rattle.reg_top.specs.declared.refusal.WordFault.{WordFault}
use Rattle.reg_top.specs.declared.refusal.WordFault.TheVariants as word_faults
use Rattle.reg_top.specs.commands.Compose.{IsTextOf, HasWordFault, HasRefusedText}
use Rattle.reg_top.proofs.BehindFirst.{zip_more, zip_all}

-- ---- texts that are read

pub read_more : (texts : List (List ℕ)) (k : ℕ) (text : List ℕ) (units : List UnitParts) (unit : UnitParts) → slice_get texts k ≡ Some text
    → AllZip IsTextOf (take k texts) units → IsTextOf text unit → AllZip IsTextOf (take (k + 1) texts) (units ++ unit ∷ [])
read_more texts k text units unit at read is =
    zip_more IsTextOf texts k text units unit at read is

pub read_all : (texts : List (List ℕ)) (k : ℕ) (units : List UnitParts) → length texts ≤ k → AllZip IsTextOf (take k texts) units → AllZip IsTextOf texts units
read_all texts k units long read = zip_all IsTextOf texts k units long read

pub refused_at : (texts : List (List ℕ)) (k : ℕ) (text : List ℕ) (units : List UnitParts) (why : WordFault) → slice_get texts k ≡ Some text
    → AllZip IsTextOf (take k texts) units → HasWordFault text why → HasRefusedText texts k why
refused_at texts k text units why at read fault =
    let within = slice_get_within texts k text at in
    record {
      front = take k texts;
      units = units;
      text = text;
      rest = drop (suc k) texts;
      whole = sym (take-append-drop k texts)
          ∙ ap (λ rest. take k texts ++ rest) (drop-cons texts k text within ∙ ap (λ t. t ∷ drop (suc k) texts) (get_or_from_slice_get texts k text text at));
      read = read;
      fault = fault;
      is = sym (length-take-le k texts (omega (arith, within)));
    }

-- ---- one answer

pub clash : (text : List ℕ) (iscc : Iscc) (fault : TextFault) → StandsFor text iscc → HasTextFault text fault → ⊥
clash text iscc fault stands h = true≢false (ap is_ok (one_reading text (Ok iscc) (Err fault) stands h))

-- a text of a unit has no fault
unit_or_fault : (text : List ℕ) (unit : UnitParts) (why : WordFault) → IsTextOf text unit → HasWordFault text why → ⊥
unit_or_fault text unit (word_faults.Text fault) is h = clash text (codes.Unit unit) fault is h
unit_or_fault text unit word_faults.NotUnit is h = (let same : codes.Unit unit ≡ codes.Code h.0 = one_iscc text (codes.Unit unit) (codes.Code h.0) is h.1 in cc)

same_unit : (text : List ℕ) (u v : UnitParts) → IsTextOf text u → IsTextOf text v → u ≡ v
same_unit text u v h k = (let same : codes.Unit u ≡ codes.Unit v = one_iscc text (codes.Unit u) (codes.Unit v) h k in cc)

pub same_units : (texts : List (List ℕ)) (us vs : List UnitParts) → AllZip IsTextOf texts us → AllZip IsTextOf texts vs → us ≡ vs
same_units [] [] [] h k = refl
same_units [] [] (v ∷ vs) h k = absurd k
same_units [] (u ∷ us) vs h k = absurd h
same_units (text ∷ texts) [] vs h k = absurd h
same_units (text ∷ texts) (u ∷ us) [] h k = absurd k
same_units (text ∷ texts) (u ∷ us) (v ∷ vs) h k = ap₂ (λ x xs. x ∷ xs) (same_unit text u v h.0 k.0) (same_units texts us vs h.1 k.1)

-- what answers Ok has no fault
pub no_fault : (fault : Option ComposeFault) (code : CodeParts) → ((why : ComposeFault) → fault ≡ Some why → Ok code ≡ Err why) → fault ≡ None
no_fault None code h = refl
no_fault (Some why) code h = absurd (true≢false (ap is_ok (h why refl)))

unit_within : (front : List (List ℕ)) (text : List ℕ) (rest : List (List ℕ)) (units : List UnitParts) → AllZip IsTextOf (front ++ text ∷ rest) units → (unit : UnitParts) × IsTextOf text unit
unit_within [] text rest [] zip = absurd zip
unit_within [] text rest (u ∷ units) zip = (u, zip.0)
unit_within (t ∷ front) text rest [] zip = absurd zip
unit_within (t ∷ front) text rest (u ∷ units) zip = unit_within front text rest units zip.1

-- texts that all are of units have no refused one
pub read_or_refused : (texts : List (List ℕ)) (units : List UnitParts) (at : ℕ) (why : WordFault) → AllZip IsTextOf texts units → HasRefusedText texts at why → ⊥
read_or_refused texts units at why read h =
    let found = unit_within h.front h.text h.rest units (subst (λ ts. AllZip IsTextOf ts units) h.whole read) in
    unit_or_fault h.text found.0 why found.1 h.fault
