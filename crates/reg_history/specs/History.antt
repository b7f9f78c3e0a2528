-- The one text of a run of rounds.
use Rattle.std.specs.Prelude.{ℕ, ◌+◌, List, [], ◌∷◌, ◌++◌, length, sum_by, codes}
use Rattle.std.specs.List.{flat_map}
use Rattle.std.specs.Fmt.{decimal}
use Rattle.iscc_text.specs.UnitText.{unit_text}
use Rattle.reg_model.specs.declared.update.Declared.{Declared}
use Rattle.reg_model.specs.declared.reply.Row.{Row}
use Rattle.reg_model.specs.Opening.{Opening}
use Rattle.reg_model.specs.Limits.{Limits}
use Rattle.reg_model.specs.Runs.{RoundRows, next_opening, closing}
use Rattle.reg_requests.specs.Lines.{line, spaced, call_text, reply_text, kind_of}

-- a declaration that is carried into the first round
abbrev pub carry_line : Declared → List ℕ
carry_line d = line (spaced (codes "carry" ∷ decimal d.id ∷ unit_text d.unit ∷ []))

-- a round's number, its base and its sizes
abbrev pub round_line : ℕ → ℕ → Limits → List ℕ
round_line number base limits = line (spaced (
    codes "round" ∷ decimal number
    ∷ codes "base" ∷ decimal base
    ∷ codes "entries" ∷ decimal limits.entries
    ∷ codes "log" ∷ decimal limits.log
    ∷ codes "callers" ∷ decimal limits.callers
    ∷ []))

-- session and number, point, call and reply
abbrev pub row_line : Row → List ℕ
row_line row = line (spaced (
    (decimal row.session ++ codes "." ++ decimal row.number)
    ∷ (codes "@" ++ decimal row.point)
    ∷ call_text row.call
    ∷ codes "="
    ∷ reply_text (kind_of row.call) row.reply
    ∷ []))

-- the rounds from this number on
abbrev pub rounds_text : ℕ → Opening → List RoundRows → List ℕ
rounds_text number opening [] = []
rounds_text number opening (round ∷ rounds) =
    round_line number opening.base round.limits
    ++ flat_map row_line round.rows
    ++ rounds_text (number + 1) (next_opening opening round.rows) rounds

-- the numbers of all rows, and of the declarations that are live at the end
abbrev pub end_line : ℕ → ℕ → List ℕ
end_line rows live = line (spaced (codes "end" ∷ decimal rows ∷ codes "live" ∷ decimal live ∷ []))

-- the carried declarations, the rounds, and the end
unfoldable pub history_text : Opening → List RoundRows → List ℕ
history_text opening rounds =
    line (codes "iscc-history 1")
    ++ flat_map carry_line opening.list
    ++ rounds_text 0 opening rounds
    ++ end_line (sum_by (λ round. length round.rows) rounds) (length (closing opening rounds).list)
