-- Where a line is taken as an ISCC.
use Rattle.std.specs.Prelude.{◌≡◌, ◌↔◌, ℕ, List, Option, Some, None}
use Rattle.std.specs.List.{filter_map}
use Rattle.iscc_header.specs.declared.unit.Unit64.{Unit64}
use Rattle.iscc_code.specs.Codes.{units_of}
use Rattle.iscc_code.specs.declared.iscc.Iscc.{Iscc}
use Rattle.iscc_text.specs.Texts.{StandsFor}
use Rattle.reg_model.specs.declared.call.Call.{Call}
use Rattle.reg_model.specs.declared.call.Call.TheVariants as calls
use Rattle.reg_requests.specs.declared.items.BadLine.TheVariants as bad
use Rattle.reg_requests.specs.declared.items.Line.{Line}
use Rattle.reg_requests.specs.declared.items.Line.TheVariants as lines
use Rattle.reg_requests.specs.Requests.{Request, Declare, Withdraw, Near, Show, Count, After, Instance, request_of}

-- the text of an ISCC that a request has
abbrev pub asked_text : Request → Option (List ℕ)
asked_text (Declare text) = Some text
asked_text (Withdraw id) = None
asked_text (Near text number) = Some text
asked_text (Show id) = None
asked_text Count = None
asked_text (After point) = None
asked_text (Instance digits) = None

-- the words are a `declare` or a `near` with this text
abbrev pub HasIsccText : List (List ℕ) → List ℕ → Type 0
HasIsccText words text = (request : Request) × (request_of words ≡ Some request) × (asked_text request ≡ Some text)

-- the unit that a call declares or asks for
abbrev pub unit_in : Call → Option Unit64
unit_in (calls.Declare unit) = Some unit
unit_in (calls.Near unit radius) = Some unit
unit_in call = None

-- the units of an ISCC are those of these calls
abbrev pub AsksForIscc : List ℕ → List Call → Type 0
AsksForIscc text list = (iscc : Iscc) × StandsFor text iscc × (units_of iscc ≡ Some (filter_map unit_in list))

-- the calls are those of the ISCC for which the text stands, if the line has calls
abbrev pub AreCallsOf : List ℕ → Line → Type 0
AreCallsOf text (lines.Calls list) = AsksForIscc text list.items
AreCallsOf text read = Unit {0}

-- A line's text is taken as an ISCC where it stands for one: it is refused as a bad text exactly where it stands for none, and
-- the calls of the line are those of the ISCC for which it stands.
pub record TakesIscc (text : List ℕ) (read : Line) : Type 0 where
  pub refused : (read ≡ lines.Bad bad.Text) ↔ ((iscc : Iscc) → StandsFor text iscc → ⊥)
  pub taken : AreCallsOf text read
