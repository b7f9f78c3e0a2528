-- A line of a history is told by its text.
use Rattle.std.proofs.Common.{◌≡◌, ℕ, ◌<◌, true, List, [], ◌∷◌, ◌++◌, drop, length, refl, ◌∙◌, ap, ap₂, lit<, arith, length-append}
use Rattle.std.specs.Prelude.{codes}
use Rattle.std.specs.Fmt.{decimal}
use Rattle.std.proofs.lemmas.Fmt.{decimal_injective}
use Rattle.reg_model.specs.declared.update.Declared.{Declared}
use Rattle.reg_requests.specs.Lines.{line}
use Rattle.reg_history.specs.declared.lines.told.HistoryLine.{HistoryLine}
use Rattle.reg_history.specs.declared.lines.told.HistoryLine.TheVariants as lines
use Rattle.reg_history.specs.declared.lines.told.ToldRound.{ToldRound}
use Rattle.reg_history.specs.declared.lines.told.ToldRow.{ToldRow}
use Rattle.reg_history.specs.declared.lines.told.ToldReply.{ToldReply}
use Rattle.reg_history.specs.History.{carry_line, round_line, end_line}
use Rattle.reg_history.specs.lines.HistoryLines.{told_limits, told_reply_text, told_row_line, whole_line, IsToldRoundValue, IsToldRowValue, IsLineValue}
use Rattle.reg_history.specs.lines.Values.{IsDeclaredValue}
use Rattle.reg_history.proofs.lines.WordsBack.{free, free-append, first, cut_piece, decimal_free}
use Rattle.reg_history.proofs.lines.CallsBack.{number_then}
use Rattle.reg_history.proofs.lines.RepliesBack.{told_reply_free, same_told_reply}
use Rattle.reg_history.proofs.lines.RowsBack.{RowNames, AreNames, names_made, row_content, content_free, same_content, first_of_content}
use Rattle.reg_history.proofs.lines.RunsBack.{carry_rest, carry_free, same_declared, base_rest, round_rest, round_free, AreLow, same_base_rest}

-- ---- carried declarations

same_carry : (a b : Declared) (us vs : List ℕ) → IsDeclaredValue a → IsDeclaredValue b → carry_line a ++ us ≡ carry_line b ++ vs → (a ≡ b) × (us ≡ vs)
same_carry a b us vs h k e =
    let parts = cut_piece 10 (codes "carry " ++ carry_rest a) (codes "carry " ++ carry_rest b) us vs (carry_free a) (carry_free b) e in
    (same_declared a b h k (ap (drop 6) parts.0), parts.1)

-- ---- rounds

abbrev round_made : ℕ → ℕ → ℕ → ℕ → ℕ → ToldRound
round_made number base entries log callers = record { number = number; base = base; entries = entries; log = log; callers = callers }

low_told : (told : ToldRound) → IsToldRoundValue told → AreLow (told_limits told)
low_told told h = record { entries = h.entries; log = h.log; callers = h.callers }

same_told_round : (a b : ToldRound) → IsToldRoundValue a → IsToldRoundValue b
    → round_rest a.number a.base (told_limits a) ≡ round_rest b.number b.base (told_limits b) → a ≡ b
same_told_round a b h k e =
    let number = number_then a.number b.number (base_rest a.base (told_limits a)) (base_rest b.base (told_limits b)) h.number k.number e in
    let rest = same_base_rest a.base b.base (told_limits a) (told_limits b) h.base k.base (low_told a h) (low_told b k) number.1 in
    let sizes = rest.1 in
    ap₂ (λ n base. round_made n base a.entries a.log a.callers) number.0 rest.0
    ∙ ap₂ (λ entries log. round_made b.number b.base entries log a.callers) sizes.entries sizes.log
    ∙ ap (round_made b.number b.base b.entries b.log) sizes.callers

same_round : (a b : ToldRound) (us vs : List ℕ) → IsToldRoundValue a → IsToldRoundValue b
    → round_line a.number a.base (told_limits a) ++ us ≡ round_line b.number b.base (told_limits b) ++ vs → (a ≡ b) × (us ≡ vs)
same_round a b us vs h k e =
    let parts = cut_piece 10 (codes "round " ++ round_rest a.number a.base (told_limits a)) (codes "round " ++ round_rest b.number b.base (told_limits b)) us vs
    (round_free a.number a.base (told_limits a)) (round_free b.number b.base (told_limits b)) e in
    (same_told_round a b h k (ap (drop 6) parts.0), parts.1)

-- ---- rows

abbrev row_made : RowNames → ToldReply → ToldRow
row_made names reply = record { session = names.session; number = names.number; point = names.point; call = names.call; reply = reply }

abbrev names_of : ToldRow → RowNames
names_of row = names_made row.session row.number row.point row.call

are_names : (row : ToldRow) → IsToldRowValue row → AreNames (names_of row)
are_names row h = record { session = h.session; number = h.number; point = h.point; call = h.call }

row_first : (row : ToldRow) (us : List ℕ) → IsToldRowValue row → first (told_row_line row ++ us) < 58
row_first row us h = first_of_content (names_of row) (told_reply_text row.reply) us (are_names row h)

same_told_row : (a b : ToldRow) (us vs : List ℕ) → IsToldRowValue a → IsToldRowValue b → told_row_line a ++ us ≡ told_row_line b ++ vs → (a ≡ b) × (us ≡ vs)
same_told_row a b us vs h k e =
    let x = told_reply_text a.reply in
    let y = told_reply_text b.reply in
    let lines = cut_piece 10 (row_content (names_of a) x) (row_content (names_of b) y) us vs
    (content_free (names_of a) x (told_reply_free a.reply)) (content_free (names_of b) y (told_reply_free b.reply)) e in
    let parts = same_content (names_of a) (names_of b) x y (are_names a h) (are_names b k) lines.0 in
    (ap₂ row_made parts.0 (same_told_reply a.reply b.reply h.reply k.reply parts.1), lines.1)

-- ---- the end

-- what stands behind the first word
abbrev end_rest : ℕ → ℕ → List ℕ
end_rest rows live = decimal rows ++ 32 ∷ (codes "live " ++ decimal live)

end_free : (rows live : ℕ) → free 10 (codes "end " ++ end_rest rows live) ≡ true
end_free rows live = free-append 10 (decimal rows) (32 ∷ (codes "live " ++ decimal live)) (decimal_free 10 rows (lit< tt)) (decimal_free 10 live (lit< tt))

same_end : (rows live total left : ℕ) (us vs : List ℕ) → IsLineValue (lines.End rows live) → IsLineValue (lines.End total left)
    → end_line rows live ++ us ≡ end_line total left ++ vs → (lines.End rows live ≡ lines.End total left) × (us ≡ vs)
same_end rows live total left us vs h k e =
    let parts = cut_piece 10 (codes "end " ++ end_rest rows live) (codes "end " ++ end_rest total left) us vs (end_free rows live) (end_free total left) e in
    let number = number_then rows total (codes "live " ++ decimal live) (codes "live " ++ decimal left) h.0 k.0 (ap (drop 4) parts.0) in
    (ap₂ (λ m n. lines.End m n) number.0 (decimal_injective live left h.1 k.1 (ap (drop 5) number.1)), parts.1)

-- ---- lines

-- the first bytes tell the forms apart
pub same_line : (a b : HistoryLine) (us vs : List ℕ) → IsLineValue a → IsLineValue b → whole_line a ++ us ≡ whole_line b ++ vs → (a ≡ b) × (us ≡ vs)
same_line lines.Head lines.Head us vs h k e = (refl, ap (drop 15) e)
same_line (lines.Carry a) (lines.Carry b) us vs h k e =
    let parts = same_carry a b us vs h k e in
    (ap (λ d. lines.Carry d) parts.0, parts.1)
same_line (lines.Round a) (lines.Round b) us vs h k e =
    let parts = same_round a b us vs h k e in
    (ap (λ told. lines.Round told) parts.0, parts.1)
same_line (lines.Row a) (lines.Row b) us vs h k e =
    let parts = same_told_row a b us vs h k e in
    (ap (λ row. lines.Row row) parts.0, parts.1)
same_line (lines.End rows live) (lines.End total left) us vs h k e = same_end rows live total left us vs h k e
same_line (lines.Row a) b us vs h k e = absurd (omega (arith, row_first a us h, ap first e))
same_line a (lines.Row b) us vs h k e = absurd (omega (arith, row_first b vs k, ap first e))
same_line a b us vs h k e = absurd (omega (arith, ap first e))

-- a line has a byte at least
pub some_line : (told : HistoryLine) (rest : List ℕ) → whole_line told ++ rest ≡ [] → ⊥
some_line (lines.Row row) rest e =
    let content = row_content (names_of row) (told_reply_text row.reply) in
    absurd (omega (arith, ap length e, length-append (line content) rest, length-append content (10 ∷ [])))
some_line told rest e = absurd (omega (arith, ap length e))

-- a line's bytes end with its one line feed
pub line_content : (told : HistoryLine) → (content : List ℕ) × (free 10 content ≡ true) × (whole_line told ≡ content ++ 10 ∷ [])
line_content lines.Head = (codes "iscc-history 1", refl, refl)
line_content (lines.Carry d) = (codes "carry " ++ carry_rest d, carry_free d, refl)
line_content (lines.Round told) = (codes "round " ++ round_rest told.number told.base (told_limits told), round_free told.number told.base (told_limits told), refl)
line_content (lines.Row row) = (row_content (names_of row) (told_reply_text row.reply), content_free (names_of row) (told_reply_text row.reply) (told_reply_free row.reply), refl)
line_content (lines.End rows live) = (codes "end " ++ end_rest rows live, end_free rows live, refl)
