-- From the line of a row back to the row.
use Rattle.std.proofs.Common.{◌≡◌, ℕ, ◌^◌, ◌<◌, ◌≤◌, true, List, [], ◌∷◌, ◌++◌, drop, refl, sym, ◌∙◌, ap, ap₂, lit<, arith, append_assoc}
use Rattle.std.specs.Prelude.{All, codes}
use Rattle.std.specs.List.{flat_map}
use Rattle.std.specs.Fmt.{decimal}
use Rattle.std.proofs.lemmas.Fmt.{decimal_injective}
use Rattle.std.proofs.lemmas.List.Elements.{All-head, All-tail}
use Rattle.iscc_text.specs.UnitText.{unit_text}
use Rattle.reg_model.specs.declared.call.Call.{Call}
use Rattle.reg_model.specs.declared.call.Call.TheVariants as calls
use Rattle.reg_model.specs.declared.reply.Reply.{Reply}
use Rattle.reg_model.specs.declared.reply.Row.{Row}
use Rattle.reg_requests.specs.Lines.{line, call_text, reply_text, kind_of}
use Rattle.reg_history.specs.History.{row_line}
use Rattle.reg_model.specs.Calls.{IsRequest}
use Rattle.reg_history.specs.lines.Values.{IsRowValue}
use Rattle.reg_history.proofs.lines.WordsBack.{free, free-cons, free-append, first, cut, cut_piece, decimal_free, first_digit, unit_free}
use Rattle.reg_history.proofs.lines.CallsBack.{number_then, call_then}
use Rattle.reg_history.proofs.lines.RepliesBack.{same_reply, reply_free}

-- what a row's line tells in front of the reply
pub record RowNames : Type 0 where
  pub session : ℕ
  pub number : ℕ
  pub point : ℕ
  pub call : Call

pub record AreNames (names : RowNames) : Type 0 where
  pub session : names.session < 2 ^ 64
  pub number : names.number < 2 ^ 64
  pub point : names.point < 2 ^ 64
  pub call : IsRequest names.call

abbrev pub names_made : ℕ → ℕ → ℕ → Call → RowNames
names_made session number point call = record { session = session; number = number; point = point; call = call }

-- session and number
abbrev row_word : RowNames → List ℕ
row_word names = decimal names.session ++ codes "." ++ decimal names.number

-- what stands behind the first word, for a reply with this text
abbrev row_rest : RowNames → List ℕ → List ℕ
row_rest names reply = 64 ∷ (decimal names.point ++ 32 ∷ (call_text names.call ++ 32 ∷ 61 ∷ 32 ∷ reply))

-- a row's line, without its line feed
abbrev pub row_content : RowNames → List ℕ → List ℕ
row_content names reply = row_word names ++ 32 ∷ row_rest names reply

-- ---- no line feed in a row

call_free : (call : Call) → free 10 (call_text call) ≡ true
call_free (calls.Declare unit) = unit_free 10 unit (lit< tt)
call_free (calls.Withdraw id) = decimal_free 10 id (lit< tt)
call_free (calls.Near unit radius) = free-append 10 (unit_text unit) (32 ∷ decimal radius) (unit_free 10 unit (lit< tt)) (decimal_free 10 radius (lit< tt))
call_free (calls.Show id) = decimal_free 10 id (lit< tt)
call_free calls.Count = refl
call_free (calls.After point) = decimal_free 10 point (lit< tt)

word_free : (c : ℕ) (names : RowNames) → c < 46 → free c (row_word names) ≡ true
word_free c names h =
    free-append c _ (decimal names.number)
    (free-append c (decimal names.session) (codes ".") (decimal_free c names.session (omega arith)) (free-cons c 46 [] h refl))
    (decimal_free c names.number (omega arith))

rest_free : (names : RowNames) (reply : List ℕ) → free 10 reply ≡ true → free 10 (row_rest names reply) ≡ true
rest_free names reply f =
    free-append 10 (decimal names.point) (32 ∷ (call_text names.call ++ 32 ∷ 61 ∷ 32 ∷ reply)) (decimal_free 10 names.point (lit< tt))
    (free-append 10 (call_text names.call) (32 ∷ 61 ∷ 32 ∷ reply) (call_free names.call) f)

pub content_free : (names : RowNames) (reply : List ℕ) → free 10 reply ≡ true → free 10 (row_content names reply) ≡ true
content_free names reply f = free-append 10 (row_word names) (32 ∷ row_rest names reply) (word_free 10 names (lit< tt)) (rest_free names reply f)

-- ---- the parts of a row

same_word : (a b : RowNames) → AreNames a → AreNames b → row_word a ≡ row_word b → (a.session ≡ b.session) × (a.number ≡ b.number)
same_word a b h k e =
    let parts = cut_piece 46 (decimal a.session) (decimal b.session) (decimal a.number) (decimal b.number) (decimal_free 46 a.session (lit< tt)) (decimal_free 46 b.session (lit< tt)) e in (
      decimal_injective a.session b.session h.session k.session parts.0,
      decimal_injective a.number b.number h.number k.number parts.1,
    )

-- what stands in front of the reply, and the reply's text
pub same_content : (a b : RowNames) (r s : List ℕ) → AreNames a → AreNames b → row_content a r ≡ row_content b s → (a ≡ b) × (r ≡ s)
same_content a b r s h k e =
    let words = cut 32 (row_word a) (row_word b) (row_rest a r) (row_rest b s) (word_free 32 a (lit< tt)) (word_free 32 b (lit< tt)) e in
    let name = same_word a b h k words.0 in
    let point = number_then a.point b.point (call_text a.call ++ 32 ∷ 61 ∷ 32 ∷ r) (call_text b.call ++ 32 ∷ 61 ∷ 32 ∷ s) h.point k.point (ap (drop 1) words.1) in
    let call = call_then a.call b.call (61 ∷ 32 ∷ r) (61 ∷ 32 ∷ s) h.call k.call point.1 in (
      ap₂ (λ m n. names_made m n a.point a.call) name.0 name.1 ∙ ap₂ (names_made b.session b.number) point.0 call.0,
      ap (drop 2) call.1,
    )

-- ---- rows whose hits are of one kind

abbrev row_made : RowNames → Reply → Row
row_made names reply = record { session = names.session; number = names.number; call = names.call; point = names.point; reply = reply }

abbrev names_of : Row → RowNames
names_of row = names_made row.session row.number row.point row.call

abbrev reply_of : Row → List ℕ
reply_of row = reply_text (kind_of row.call) row.reply

are_names : (row : Row) → IsRowValue row → AreNames (names_of row)
are_names row h = record { session = h.session; number = h.number; point = h.point; call = h.call }

pub kind_low : (call : Call) → IsRequest call → kind_of call < 13
kind_low (calls.Near unit radius) h = let unit_is = h.0 in unit_is.kind
kind_low call h = lit< tt

pub same_row : (a b : Row) → IsRowValue a → IsRowValue b → row_content (names_of a) (reply_of a) ≡ row_content (names_of b) (reply_of b) → a ≡ b
same_row a b h k e =
    let parts = same_content (names_of a) (names_of b) (reply_of a) (reply_of b) (are_names a h) (are_names b k) e in
    let kind : kind_of b.call ≡ kind_of a.call = ap (λ (names : RowNames). kind_of names.call) (sym parts.0) in
    let reply = same_reply (kind_of b.call) a.reply b.reply (kind_low b.call k.call) h.reply k.reply (ap (λ c. reply_text c a.reply) kind ∙ parts.1) in
    ap₂ row_made parts.0 reply

-- ---- the rows of a round

grouped : (session number behind rest : List ℕ) → (((session ++ codes "." ++ number) ++ 32 ∷ behind) ++ 10 ∷ []) ++ rest ≡ session ++ 46 ∷ (number ++ 32 ∷ (behind ++ 10 ∷ rest))
grouped session number behind rest = simp append_assoc

-- a row's line begins with a digit
pub first_of_content : (names : RowNames) (reply rest : List ℕ) → AreNames names → first (line (row_content names reply) ++ rest) < 58
first_of_content names reply rest h =
    rw (grouped (decimal names.session) (decimal names.number) (row_rest names reply) rest)
    (first_digit names.session (46 ∷ (decimal names.number ++ 32 ∷ (row_rest names reply ++ 10 ∷ rest))) h.session)

first_of_row : (row : Row) (rest : List ℕ) → IsRowValue row → first (row_line row ++ rest) < 58
first_of_row row rest h = first_of_content (names_of row) (reply_of row) rest (are_names row h)

-- rows before a text that doesn't begin with a digit
pub same_rows : (a b : List Row) (us vs : List ℕ) → All IsRowValue a → All IsRowValue b → 58 ≤ first us → 58 ≤ first vs
    → flat_map row_line a ++ us ≡ flat_map row_line b ++ vs → (a ≡ b) × (us ≡ vs)
same_rows [] [] us vs h k p q e = (refl, e)
same_rows [] (y ∷ b) us vs h k p q e =
    let same : us ≡ row_line y ++ (flat_map row_line b ++ vs) = e ∙ append_assoc (row_line y) (flat_map row_line b) vs in
    absurd (omega (arith, p, ap first same, first_of_row y (flat_map row_line b ++ vs) (All-head IsRowValue y b k)))
same_rows (x ∷ a) [] us vs h k p q e =
    let same : vs ≡ row_line x ++ (flat_map row_line a ++ us) = sym e ∙ append_assoc (row_line x) (flat_map row_line a) us in
    absurd (omega (arith, q, ap first same, first_of_row x (flat_map row_line a ++ us) (All-head IsRowValue x a h)))
same_rows (x ∷ a) (y ∷ b) us vs h k p q e =
    let lines = cut_piece 10 (row_content (names_of x) (reply_of x)) (row_content (names_of y) (reply_of y)) (flat_map row_line a ++ us) (flat_map row_line b ++ vs)
    (content_free (names_of x) (reply_of x) (reply_free (kind_of x.call) x.reply)) (content_free (names_of y) (reply_of y) (reply_free (kind_of y.call) y.reply))
    (sym (append_assoc (row_line x) (flat_map row_line a) us) ∙ e ∙ append_assoc (row_line y) (flat_map row_line b) vs) in
    let rest = same_rows a b us vs (All-tail IsRowValue x a h) (All-tail IsRowValue y b k) p q lines.1 in
    (ap₂ (λ z zs. z ∷ zs) (same_row x y (All-head IsRowValue x a h) (All-head IsRowValue y b k) lines.0) rest.0, rest.1)
