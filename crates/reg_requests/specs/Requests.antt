-- What the lines of a request file ask for.
use Rattle.std.specs.Prelude.{◌≡◌, ℕ, ◌<◌, ◌≤◌, ◌==◌, if◌then◌else◌, Bool, true, false, List, [], ◌∷◌, map, codes, ◌⊎◌, Option, Some, None, Result, Ok, Err}
use Rattle.std.specs.List.{AllZip, filter_map, flat_map}
use Rattle.std.specs.Str.{bytes_eq}
use Rattle.std.specs.Str.Parse.{digits_value}
use Rattle.arrayvec.specs.ArrayVec.{ArrayVec}
use Rattle.hex.specs.Hex.{decode_of}
use Rattle.iscc_header.specs.declared.unit.Unit64.{Unit64}
use Rattle.iscc_code.specs.Codes.{units_of}
use Rattle.iscc_code.specs.declared.iscc.Iscc.{Iscc}
use Rattle.iscc_text.specs.Texts.{StandsFor}
use Rattle.iscc_instance.specs.Instances.{instance_of}
use Rattle.reg_model.specs.declared.TheConstants.{RADIUS_MOST}
use Rattle.reg_model.specs.declared.call.Call.{Call}
use Rattle.reg_model.specs.declared.call.Call.TheVariants as calls
use Rattle.reg_requests.specs.declared.items.BadLine.{BadLine}
use Rattle.reg_requests.specs.declared.items.BadLine.TheVariants as bad
use Rattle.reg_requests.specs.declared.items.Line.{Line}
use Rattle.reg_requests.specs.declared.items.Line.TheVariants as lines
use Rattle.reg_requests.specs.declared.items.Item.{Item}
use Rattle.reg_requests.specs.declared.items.Item.TheVariants as items
use Rattle.reg_requests.specs.Numbers.{IsNumber}
use Rattle.reg_requests.specs.Words.{lines_of, line_words}

-- a command with the words behind it
pub data Request : Type 0 where
  Declare : List ℕ → Request
  Withdraw : List ℕ → Request
  Near : List ℕ → List ℕ → Request
  Show : List ℕ → Request
  Count : Request
  After : List ℕ → Request
  Instance : List ℕ → Request

abbrev pub declare_request : List (List ℕ) → Option Request
declare_request (text ∷ []) = Some (Declare text)
declare_request words = None

abbrev pub near_request : List (List ℕ) → Option Request
near_request (text ∷ number ∷ []) = Some (Near text number)
near_request words = None

-- a request that takes one number
abbrev pub number_request : (List ℕ → Request) → List (List ℕ) → Option Request
number_request request (number ∷ []) = Some (request number)
number_request request words = None

abbrev pub count_request : List (List ℕ) → Option Request
count_request [] = Some Count
count_request words = None

-- without digits it is of no bytes
abbrev pub instance_request : List (List ℕ) → Option Request
instance_request [] = Some (Instance [])
instance_request (digits ∷ []) = Some (Instance digits)
instance_request words = None

-- the request that words are, if the first is a command and it takes so many words
abbrev pub request_of : List (List ℕ) → Option Request
request_of [] = None
request_of (command ∷ words) =
    if bytes_eq command (codes "declare") then declare_request words
    else if bytes_eq command (codes "withdraw") then number_request Withdraw words
    else if bytes_eq command (codes "near") then near_request words
    else if bytes_eq command (codes "show") then number_request Show words
    else if bytes_eq command (codes "count") then count_request words
    else if bytes_eq command (codes "after") then number_request After words
    else if bytes_eq command (codes "instance") then instance_request words
    else None

-- a line without words, or one whose first word begins with `#`
abbrev pub is_skipped : List (List ℕ) → Bool
is_skipped [] = true
is_skipped ([] ∷ words) = false
is_skipped ((first ∷ word) ∷ words) = first == 35

-- the units of the ISCC that a text stands for, or why it is refused
abbrev pub TextMeans : List ℕ → Result (ArrayVec Unit64) BadLine → Type 0
TextMeans text (Ok units) = (iscc : Iscc) × StandsFor text iscc × (units_of iscc ≡ Some units.items)
TextMeans text (Err bad.Text) = (iscc : Iscc) → StandsFor text iscc → ⊥
TextMeans text (Err bad.Short) = (iscc : Iscc) × StandsFor text iscc × (units_of iscc ≡ None)
TextMeans text (Err why) = ⊥

-- the number that a word stands for, or why it is refused
abbrev pub NumberMeans : List ℕ → Result ℕ BadLine → Type 0
NumberMeans word (Ok number) = IsNumber word × (number ≡ digits_value 10 word)
NumberMeans word (Err bad.Number) = IsNumber word → ⊥
NumberMeans word (Err why) = ⊥

-- the radius that a number stands for, or why it is refused
abbrev pub RadiusMeans : List ℕ → Result ℕ BadLine → Type 0
RadiusMeans number (Ok radius) = NumberMeans number (Ok radius) × (radius ≤ RADIUS_MOST)
RadiusMeans number (Err bad.Number) = NumberMeans number (Err bad.Number)
RadiusMeans number (Err bad.Radius) = IsNumber number × (RADIUS_MOST < digits_value 10 number)
RadiusMeans number (Err why) = ⊥

-- the Instance-Code of the bytes that hexadecimal digits stand for, or why they are refused
abbrev pub DigitsMean : List ℕ → Result Unit64 BadLine → Type 0
DigitsMean digits (Ok unit) = (bytes : List ℕ) × (decode_of digits ≡ Ok bytes) × (unit ≡ instance_of bytes)
DigitsMean digits (Err bad.Hex) = (bytes : List ℕ) → decode_of digits ≡ Ok bytes → ⊥
DigitsMean digits (Err why) = ⊥

-- the one call with the number that a word stands for, or why the word is refused
abbrev pub NumberCallMeans : (ℕ → Call) → List ℕ → Result (ArrayVec Call) BadLine → Type 0
NumberCallMeans call word (Ok list) = (number : ℕ) × NumberMeans word (Ok number) × (list.items ≡ call number ∷ [])
NumberCallMeans call word (Err why) = NumberMeans word (Err why)

-- The calls that a request asks for, or the first reason to refuse it. Words that are no request are a bad line.
abbrev pub RequestMeans : Option Request → Result (ArrayVec Call) BadLine → Type 0
RequestMeans None answer = answer ≡ Err bad.Line
RequestMeans (Some (Declare text)) (Ok list) = (units : ArrayVec Unit64) × TextMeans text (Ok units) × (list.items ≡ map calls.Declare units.items)
RequestMeans (Some (Declare text)) (Err why) = TextMeans text (Err why)
RequestMeans (Some (Withdraw id)) answer = NumberCallMeans calls.Withdraw id answer
RequestMeans (Some (Near text number)) (Ok list) = (units : ArrayVec Unit64) × (radius : ℕ) × TextMeans text (Ok units) × RadiusMeans number (Ok radius) × (list.items ≡ map (λ unit. calls.Near unit radius) units.items)
RequestMeans (Some (Near text number)) (Err why) = TextMeans text (Err why) ⊎ ((units : ArrayVec Unit64) × TextMeans text (Ok units) × RadiusMeans number (Err why))
RequestMeans (Some (Show id)) answer = NumberCallMeans calls.Show id answer
RequestMeans (Some Count) (Ok list) = list.items ≡ calls.Count ∷ []
RequestMeans (Some Count) (Err why) = ⊥
RequestMeans (Some (After point)) answer = NumberCallMeans calls.After point answer
RequestMeans (Some (Instance digits)) (Ok list) = (unit : Unit64) × DigitsMean digits (Ok unit) × (list.items ≡ calls.Declare unit ∷ [])
RequestMeans (Some (Instance digits)) (Err why) = DigitsMean digits (Err why)

-- what the words of a line are read as
abbrev pub ReadsWords : List (List ℕ) → Line → Type 0
ReadsWords words lines.Skip = is_skipped words ≡ true
ReadsWords words (lines.Bad why) = (is_skipped words ≡ false) × RequestMeans (request_of words) (Err why)
ReadsWords words (lines.Calls list) = (is_skipped words ≡ false) × RequestMeans (request_of words) (Ok list)

-- what a line is read as
abbrev pub ReadsLine : List ℕ → Line → Type 0
ReadsLine line read = ReadsWords (line_words line) read

-- the items of a line that is read so: none, one refusal, or its calls
abbrev pub items_of : Line → List Item
items_of lines.Skip = []
items_of (lines.Bad why) = items.Bad why ∷ []
items_of (lines.Calls list) = map items.Call list.items

-- the items of a file: those of its lines, one after the other
abbrev pub AreItems : List ℕ → List Item → Type 0
AreItems file list = (read : List Line) × AllZip ReadsLine (lines_of file) read × (list ≡ flat_map items_of read)

abbrev pub call_in : Item → Option Call
call_in (items.Call call) = Some call
call_in (items.Bad why) = None

-- the calls among items, in order
abbrev pub calls_of : List Item → List Call
calls_of list = filter_map call_in list
