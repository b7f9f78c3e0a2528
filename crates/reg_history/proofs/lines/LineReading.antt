-- Which line begins with which letter.
use Rattle.std.proofs.Common.{◌≡◌, ◌<◌, ◌^◌, ℕ, List, [], ◌∷◌, ◌++◌, refl, ap, arith, append_assoc}
use Rattle.std.specs.Prelude.{codes}
use Rattle.std.specs.Fmt.{decimal}
use Rattle.reg_model.specs.declared.update.Declared.{Declared}
use Rattle.reg_requests.specs.Lines.{call_text}
use Rattle.reg_history.specs.declared.lines.told.HistoryLine.{HistoryLine}
use Rattle.reg_history.specs.declared.lines.told.HistoryLine.TheVariants as lines
use Rattle.reg_history.specs.declared.lines.told.ToldRound.{ToldRound}
use Rattle.reg_history.specs.declared.lines.told.ToldRow.{ToldRow}
use Rattle.reg_history.specs.inner.Bytes.{first}
use Rattle.reg_history.specs.History.{carry_line, round_line, end_line}
use Rattle.reg_history.specs.lines.HistoryLines.{told_limits, told_reply_text, told_row_line, whole_line, IsLineValue, IsToldRoundValue, IsToldRowValue}
use Rattle.reg_history.specs.lines.Values.{IsDeclaredValue}
use Rattle.reg_history.proofs.lines.WordsBack.{first_digit}

-- a row begins with a digit
grouped : (session number behind : List ℕ) → ((session ++ codes "." ++ number) ++ 32 ∷ behind) ++ 10 ∷ [] ≡ session ++ 46 ∷ (number ++ 32 ∷ (behind ++ 10 ∷ []))
grouped session number behind = simp append_assoc

first_of_row : (row : ToldRow) → IsToldRowValue row → first (told_row_line row) < 58
first_of_row row h =
    let behind = 64 ∷ (decimal row.point ++ 32 ∷ (call_text row.call ++ 32 ∷ (61 ∷ 32 ∷ told_reply_text row.reply))) in
    rw (grouped (decimal row.session) (decimal row.number) behind)
    (first_digit row.session (46 ∷ (decimal row.number ++ 32 ∷ (behind ++ 10 ∷ []))) h.session)

pub head_read : (line : HistoryLine) (text : List ℕ) → IsLineValue line → text ≡ whole_line line → first text ≡ 105 → lines.Head ≡ line
head_read lines.Head text h e letter = refl
head_read (lines.Row row) text h e letter = absurd (omega (arith, first_of_row row h, ap first e, letter))
head_read line text h e letter = absurd (omega (arith, ap first e, letter))

pub carry_read : (line : HistoryLine) (text : List ℕ) (found : Declared) → IsLineValue line → text ≡ whole_line line → first text ≡ 99
    → ((d : Declared) → IsDeclaredValue d → text ≡ carry_line d → found ≡ d) → lines.Carry found ≡ line
carry_read (lines.Carry d) text found h e letter reads = ap (λ x. lines.Carry x) (reads d h e)
carry_read (lines.Row row) text found h e letter reads = absurd (omega (arith, first_of_row row h, ap first e, letter))
carry_read line text found h e letter reads = absurd (omega (arith, ap first e, letter))

pub round_read : (line : HistoryLine) (text : List ℕ) (found : ToldRound) → IsLineValue line → text ≡ whole_line line → first text ≡ 114
    → ((told : ToldRound) → IsToldRoundValue told → text ≡ round_line told.number told.base (told_limits told) → found ≡ told) → lines.Round found ≡ line
round_read (lines.Round told) text found h e letter reads = ap (λ x. lines.Round x) (reads told h e)
round_read (lines.Row row) text found h e letter reads = absurd (omega (arith, first_of_row row h, ap first e, letter))
round_read line text found h e letter reads = absurd (omega (arith, ap first e, letter))

pub end_read : (line : HistoryLine) (text : List ℕ) (found : HistoryLine) → IsLineValue line → text ≡ whole_line line → first text ≡ 101
    → ((rows live : ℕ) → rows < 2 ^ 64 → live < 2 ^ 64 → text ≡ end_line rows live → found ≡ lines.End rows live) → found ≡ line
end_read (lines.End rows live) text found h e letter reads = reads rows live h.0 h.1 e
end_read (lines.Row row) text found h e letter reads = absurd (omega (arith, first_of_row row h, ap first e, letter))
end_read line text found h e letter reads = absurd (omega (arith, ap first e, letter))

-- where no other line's letter stands
pub row_read : (line : HistoryLine) (text : List ℕ) (found : ToldRow) → IsLineValue line → text ≡ whole_line line
    → (first text ≡ 105 → ⊥) → (first text ≡ 99 → ⊥) → (first text ≡ 114 → ⊥) → (first text ≡ 101 → ⊥)
    → ((row : ToldRow) → IsToldRowValue row → text ≡ told_row_line row → found ≡ row) → lines.Row found ≡ line
row_read lines.Head text found h e i c r n reads = absurd (i (ap first e))
row_read (lines.Carry d) text found h e i c r n reads = absurd (c (ap first e))
row_read (lines.Round told) text found h e i c r n reads = absurd (r (ap first e))
row_read (lines.End rows live) text found h e i c r n reads = absurd (n (ap first e))
row_read (lines.Row row) text found h e i c r n reads = ap (λ x. lines.Row x) (reads row h e)
