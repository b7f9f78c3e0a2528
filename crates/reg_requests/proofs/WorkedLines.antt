-- Worked examples: words of lines, requests, and the items of a small file.
use Rattle.std.proofs.Common.{◌≡◌, ℕ, ◌<◌, List, [], ◌∷◌, ◌++◌, Some, None, true, false, refl, sym, ap, append-nil, inr, lit<, lit≤}
use Rattle.std.specs.Prelude.{codes}
use Rattle.std.specs.List.{list_all}
use Rattle.std.proofs.lemmas.List.Elements.{All-from_recursion}
use Rattle.std.proofs.lemmas.List.Sums.{AllPass-from_list_all}
use Rattle.iscc_header.specs.Bits.{bits_of, byte_bits, IsByte}
use Rattle.iscc_header.specs.declared.unit.Unit64.{Unit64}
use Rattle.iscc_code.specs.Units.{UnitParts, IsUnit, first_bits}
use Rattle.iscc_code.specs.Codes.{EncodesIscc, units_of}
use Rattle.iscc_code.specs.declared.iscc.Iscc.TheVariants as isccs
use Rattle.iscc_text.specs.Base32.{letters}
use Rattle.iscc_text.specs.Texts.{is_blank, is_letter, is_allowed, capital, capitals, StandsFor}
use Rattle.reg_model.specs.declared.call.Call.{Call}
use Rattle.reg_model.specs.declared.call.Call.TheVariants as calls
use Rattle.reg_requests.specs.declared.items.BadLine.TheVariants as bad
use Rattle.reg_requests.specs.declared.items.Line.{Line}
use Rattle.reg_requests.specs.declared.items.Line.TheVariants as lines
use Rattle.reg_requests.specs.declared.items.Item.{Item}
use Rattle.reg_requests.specs.declared.items.Item.TheVariants as items
use Rattle.reg_requests.specs.Words.{lines_of, line_words}
use Rattle.reg_requests.specs.Numbers.{IsNumber}
use Rattle.reg_requests.specs.Lines.{line, bad_text}
use Rattle.reg_requests.specs.Requests.{Declare, Withdraw, Near, Show, Count, After, Instance, request_of, is_skipped, AreItems}

-- ---- lines and words

cut : lines_of (codes "a\n\nb") ≡ codes "a" ∷ [] ∷ codes "b" ∷ []
cut = refl

ended : lines_of (codes "a\n") ≡ codes "a" ∷ []
ended = refl

-- 17 spaces and tabs, and one carriage return
blanks : line_words (codes "  \t near \t\t  M0\t\t 15     \r") ≡ codes "near" ∷ codes "M0" ∷ codes "15" ∷ []
unfolding is_blank
blanks = refl

-- the second carriage return belongs to the word
two_returns : line_words (codes "count\r\r") ≡ codes "count\r" ∷ []
unfolding is_blank
two_returns = refl

no_words : is_skipped (line_words (codes " \t\r")) ≡ true
unfolding is_blank
no_words = refl

comment : is_skipped (line_words (codes "  #declare M0")) ≡ true
unfolding is_blank
comment = refl

no_comment : is_skipped (line_words (codes "declare #")) ≡ false
unfolding is_blank
no_comment = refl

-- ---- requests

declared : request_of (codes "declare" ∷ codes "M0" ∷ []) ≡ Some (Declare (codes "M0"))
declared = refl

asked : request_of (codes "near" ∷ codes "M0" ∷ codes "15" ∷ []) ≡ Some (Near (codes "M0") (codes "15"))
asked = refl

hashed : request_of (codes "instance" ∷ codes "00" ∷ []) ≡ Some (Instance (codes "00"))
hashed = refl

hashed_nothing : request_of (codes "instance" ∷ []) ≡ Some (Instance [])
hashed_nothing = refl

withdrawn : request_of (codes "withdraw" ∷ codes "7" ∷ []) ≡ Some (Withdraw (codes "7"))
withdrawn = refl

shown : request_of (codes "show" ∷ codes "007" ∷ []) ≡ Some (Show (codes "007"))
shown = refl

counted : request_of (codes "count" ∷ []) ≡ Some Count
counted = refl

reached : request_of (codes "after" ∷ codes "x" ∷ []) ≡ Some (After (codes "x"))
reached = refl

counted_with_word : request_of (codes "count" ∷ codes "1" ∷ []) ≡ None
counted_with_word = refl

in_capitals : request_of (codes "DECLARE" ∷ codes "M0" ∷ []) ≡ None
in_capitals = refl

too_few : request_of (codes "near" ∷ codes "M0" ∷ []) ≡ None
too_few = refl

too_many : request_of (codes "declare" ∷ codes "M0" ∷ codes "M0" ∷ []) ≡ None
too_many = refl

refused : bad_text bad.Radius ≡ codes "bad radius"
refused = refl

-- ---- a small file

-- a META unit of 64 bits
abbrev meta : ℕ → UnitParts
meta last = record { kind = 0; body = 0 ∷ 0 ∷ 0 ∷ 0 ∷ 0 ∷ 0 ∷ 0 ∷ last ∷ [] }

meta_valid : (last : ℕ) → last < 256 → IsUnit (meta last)
meta_valid last small = record {
  kind = lit< tt;
  len = record { least = lit≤ tt; most = lit≤ tt; fours = refl };
  bytes = All-from_recursion IsByte (meta last).body (lit< tt, (lit< tt, (lit< tt, (lit< tt, (lit< tt, (lit< tt, (lit< tt, (small, tt))))))));
}

meta_encoded : (last : ℕ) → last < 256 → EncodesIscc (isccs.Unit (meta last)) (0 ∷ 1 ∷ (meta last).body)
unfolding byte_bits bits_of
meta_encoded last small = record {
  valid = meta_valid last small;
  parts = record {
    front = 0 ∷ 1 ∷ [];
    encoded = record {
      numbers = record { main = lit< tt; sub = lit< tt; version = lit< tt; len = lit< tt };
      range = All-from_recursion IsByte (0 ∷ 1 ∷ []) (lit< tt, (lit< tt, tt));
      encoded = refl;
    };
    whole = refl;
  };
}

-- the printed text of a unit stands for it
meta_stands : (last : ℕ) (m : List ℕ) → last < 256 → list_all is_allowed m ≡ true → capitals m ≡ letters (byte_bits (0 ∷ 1 ∷ (meta last).body))
    → StandsFor (codes "ISCC:" ++ m) (isccs.Unit (meta last))
unfolding capital
meta_stands last m small allowed same = record {
  before = [];
  scheme = codes "ISCC:";
  m = m;
  after = [];
  encoding = 0 ∷ 1 ∷ (meta last).body;
  whole = ap (λ t. codes "ISCC:" ++ t) (sym (append-nil m));
  blanks = (AllPass-from_list_all is_blank [] refl, AllPass-from_list_all is_blank [] refl);
  named = inr refl;
  allowed = AllPass-from_list_all is_allowed m allowed;
  same = same;
  encoded = meta_encoded last small;
}

stands_0 : StandsFor (codes "ISCC:AAAQAAAAAAAAAAAA") (isccs.Unit (meta 0))
unfolding is_allowed is_letter capitals capital byte_bits bits_of
stands_0 = meta_stands 0 (codes "AAAQAAAAAAAAAAAA") (lit< tt) refl refl

stands_1 : StandsFor (codes "ISCC:AAAQAAAAAAAAAAAB") (isccs.Unit (meta 1))
unfolding is_allowed is_letter capitals capital byte_bits bits_of
stands_1 = meta_stands 1 (codes "AAAQAAAAAAAAAAAB") (lit< tt) refl refl

-- META with this body, as the registry has it
abbrev pub unit : ℕ → Unit64
unit body = record { kind = 0; body = body }

units_0 : units_of (isccs.Unit (meta 0)) ≡ Some (unit 0 ∷ [])
unfolding first_bits
units_0 = refl

units_1 : units_of (isccs.Unit (meta 1)) ≡ Some (unit 1 ∷ [])
unfolding first_bits
units_1 = refl

number_1 : IsNumber (codes "1")
number_1 = record { some = lit< tt; few = lit≤ tt; digits = (lit< tt, tt); value = lit< tt }

abbrev pub file : List ℕ
file = line (codes "declare ISCC:AAAQAAAAAAAAAAAA") ++ line (codes "declare ISCC:AAAQAAAAAAAAAAAB") ++ line (codes "near ISCC:AAAQAAAAAAAAAAAA 1")

abbrev pub wanted : List Item
wanted = items.Call (calls.Declare (unit 0)) ∷ items.Call (calls.Declare (unit 1)) ∷ items.Call (calls.Near (unit 0) 1) ∷ []

abbrev one_call : Call → Line
one_call call = lines.Calls (record { items = call ∷ [] })

-- two declarations and a query, from their bytes on
pub file_items : AreItems file wanted
unfolding is_blank
file_items = (
  one_call (calls.Declare (unit 0)) ∷ one_call (calls.Declare (unit 1)) ∷ one_call (calls.Near (unit 0) 1) ∷ [],
  (
    (refl, (record { items = unit 0 ∷ [] }, (isccs.Unit (meta 0), stands_0, units_0), refl)),
    (
      (refl, (record { items = unit 1 ∷ [] }, (isccs.Unit (meta 1), stands_1, units_1), refl)),
      (
        (refl, (record { items = unit 0 ∷ [] }, 1, (isccs.Unit (meta 0), stands_0, units_0), ((number_1, refl), lit≤ tt), refl)),
        tt,
      ),
    ),
  ),
  refl,
)
