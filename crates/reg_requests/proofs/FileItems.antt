-- The items of a file, line by line.
use Rattle.std.proofs.Common.{◌≡◌, ℕ, ◌+◌, ◌≤◌, List, [], ◌∷◌, ◌++◌, length, map, refl, sym, ◌∙◌, ap, ap₂, subst, arith, append_assoc, length-append, lit≤}
use Rattle.std.specs.Prelude.{All}
use Rattle.std.specs.List.{AllZip, flat_map}
use Rattle.std.proofs.lemmas.List.Concat.{flat_map-cons}
use Rattle.std.proofs.lemmas.List.Elements.{All-nil, All-append, filter_map-append}
use Rattle.arrayvec.specs.ArrayVec.{ArrayVec}
use Rattle.reg_model.specs.declared.call.Call.{Call}
use Rattle.reg_requests.specs.declared.items.Line.{Line}
use Rattle.reg_requests.specs.declared.items.Line.TheVariants as lines
use Rattle.reg_requests.specs.declared.items.Item.{Item}
use Rattle.reg_requests.specs.declared.items.Item.TheVariants as items
use Rattle.reg_requests.specs.Words.{lines_of, line_words}
use Rattle.reg_requests.specs.Requests.{ReadsLine, AreItems, items_of, call_in, calls_of}
use Rattle.reg_model.specs.Calls.{IsRequest}
use Rattle.reg_requests.specs.inner.Reading.{AddsLine}
use Rattle.reg_requests.proofs.LineBytes.{five_bytes}
use Rattle.reg_requests.proofs.OneReading.{one_reading}

-- ---- the items of a line

calls_back : (list : List Call) → calls_of (map items.Call list) ≡ list
calls_back [] = refl
calls_back (call ∷ list) = ap (λ rest. call ∷ rest) (calls_back list)

-- the calls of a line are its items
pub adds_calls : (line : List ℕ) (old new : List Item) (list : ArrayVec Call) → ReadsLine line (lines.Calls list) → All IsRequest list.items → length list.items ≤ 5
    → new ≡ old ++ map items.Call list.items → AddsLine line old new
adds_calls line old new list reads requests few is =
    let back = calls_back list.items in
    record {
      read = lines.Calls list;
      reads = reads;
      items = is;
      requests = subst (All IsRequest) (sym back) requests;
      few = omega (arith, ap length back, few, five_bytes line list reads);
    }

-- ---- the items of a file

-- all that is told of the items of a file
pub record Holds (file : List ℕ) (list : List Item) : Type 0 where
  pub items : AreItems file list
  pub requests : All IsRequest (calls_of list)
  pub few : length (calls_of list) ≤ length file

pub no_lines : (rest : List ℕ) → length rest ≡ 0 → Holds rest []
no_lines [] h = record { items = ([], tt, refl); requests = All-nil IsRequest; few = lit≤ tt }
no_lines (x ∷ xs) h = absurd (omega (arith, h))

-- a file with its first line
with_line : (file line tail : List ℕ) (old new more : List Item) → lines_of file ≡ line ∷ lines_of tail → length line + length tail ≤ length file
    → (adds : AddsLine line old new) → Holds tail more → Holds file (items_of adds.read ++ more)
with_line file line tail old new more e parts adds rest =
    let calls : calls_of (items_of adds.read ++ more) ≡ calls_of (items_of adds.read) ++ calls_of more = filter_map-append call_in (items_of adds.read) more in
    let reads = rest.items.0 in
    record {
      items = (
        adds.read ∷ reads,
        subst (λ list. AllZip ReadsLine list (adds.read ∷ reads)) (sym e) (adds.reads, rest.items.1),
        ap (λ t. items_of adds.read ++ t) rest.items.2 ∙ sym (flat_map-cons items_of adds.read reads),
      );
      requests = subst (All IsRequest) (sym calls) (All-append IsRequest (calls_of (items_of adds.read)) (calls_of more) adds.requests rest.requests);
      few = omega (arith, ap length calls, length-append (calls_of (items_of adds.read)) (calls_of more), adds.few, rest.few, parts);
    }

-- what holds of the items so far with those of a file holds after its first line
pub one_line : (file line tail : List ℕ) (old new more : List Item) (all : List Item → Type 0) → lines_of file ≡ line ∷ lines_of tail → length line + length tail ≤ length file
    → AddsLine line old new → ((rest : List Item) → Holds file rest → all (old ++ rest)) → Holds tail more → all (new ++ more)
one_line file line tail old new more all e parts adds so_far rest =
    subst all (sym (ap (λ list. list ++ more) adds.items ∙ append_assoc old (items_of adds.read) more))
    (so_far (items_of adds.read ++ more) (with_line file line tail old new more e parts adds rest))

-- ---- one list

same_reads : (file : List (List ℕ)) (a b : List Line) → AllZip ReadsLine file a → AllZip ReadsLine file b → a ≡ b
same_reads [] [] [] h k = refl
same_reads [] [] (y ∷ b) h k = absurd k
same_reads [] (x ∷ a) b h k = absurd h
same_reads (line ∷ file) [] b h k = absurd h
same_reads (line ∷ file) (x ∷ a) [] h k = absurd k
same_reads (line ∷ file) (x ∷ a) (y ∷ b) h k = ap₂ (λ z zs. z ∷ zs) (one_reading (line_words line) x y h.0 k.0) (same_reads file a b h.1 k.1)

-- a file has one list of items
pub one_list : (file : List ℕ) (a b : List Item) → AreItems file a → AreItems file b → a ≡ b
one_list file a b h k = h.2 ∙ ap (flat_map items_of) (same_reads (lines_of file) h.0 k.0 h.1 k.1) ∙ sym k.2
