-- The output of a small run, saved in a file and checked.
use Rattle.std.proofs.Common.{◌≡◌, ℕ, false, List, [], ◌∷◌, drop, Some, Option, refl, sym, ◌∙◌}
use Rattle.std.specs.Prelude.{Contains, codes, bytes_eq, if◌then◌else◌, None}
use Rattle.std.specs.Fmt.{digits}
use Rattle.std.proofs.lemmas.Bool.{true≢false}
use Rattle.std.proofs.lemmas.Slice.Eq.{bytes_eq-Decides}
use Rattle.reg_model.specs.Runs.{nothing}
use Rattle.reg_requests.specs.Lines.{line}
use Rattle.reg_history.specs.History.{history_text}
use Rattle.reg_top.specs.SavedHistories.{head, IsSavedHistory}
use Rattle.reg_top.specs.commands.Check.{IsLawfulLine}
use Rattle.reg_top.proofs.SavedLines.{none, first_or_behind}
use Rattle.reg_top.proofs.WorkedOutput.{output, round, lawful, values, history}

abbrev replies : List (List ℕ)
replies = codes "replies 0 0" ∷ codes "id 0" ∷ codes "id 1" ∷ codes "hits 2 0,0,ISCC:AAAQAAAAAAAAAAAA 1,1,ISCC:AAAQAAAAAAAAAAAB" ∷ []

abbrev rows : List (List ℕ)
rows =
    codes "round 0 base 0 entries 4096 log 65536 callers 1"
    ∷ codes "0.0 @1 declare ISCC:AAAQAAAAAAAAAAAA = id 0"
    ∷ codes "0.1 @2 declare ISCC:AAAQAAAAAAAAAAAB = id 1"
    ∷ codes "0.2 @2 near ISCC:AAAQAAAAAAAAAAAA 1 = hits 2 0,0,ISCC:AAAQAAAAAAAAAAAA 1,1,ISCC:AAAQAAAAAAAAAAAB"
    ∷ codes "end 3 live 2"
    ∷ []

differ : (xs ys : List ℕ) → bytes_eq xs ys ≡ false → xs ≡ ys → ⊥
differ xs ys other is = true≢false (sym ((bytes_eq-Decides xs ys).1 is) ∙ other)

behind : (line : List ℕ) (lines : List (List ℕ)) → bytes_eq line head ≡ false → (Contains lines head → ⊥) → Contains (line ∷ lines) head → ⊥
behind line lines other none has = none (first_or_behind line head lines has (differ line head other))

no_head : Contains replies head → ⊥
no_head =
    behind (codes "replies 0 0") (drop 1 replies) refl
    (behind (codes "id 0") (drop 2 replies) refl
    (behind (codes "id 1") (drop 3 replies) refl
    (behind (codes "hits 2 0,0,ISCC:AAAQAAAAAAAAAAAA 1,1,ISCC:AAAQAAAAAAAAAAAB") [] refl (none head))))

saved : IsSavedHistory output (history_text nothing (round ∷ []))
saved = record { before = replies; more = rows; lines = refl; first = no_head; whole = rw history refl }

abbrev files : List ℕ → Option (List ℕ)
files name = if bytes_eq name (codes "a.txt") then Some output else None

pub lawful_line : IsLawfulLine (codes "a.txt") files (line (codes "lawful rows 3 live 2"))
unfolding digits
lawful_line = record {
  bytes = output;
  held = refl;
  rows = 3;
  live = 2;
  lawful = record {
    text = history_text nothing (round ∷ []);
    saved = saved;
    lawful = record { opening = nothing; rounds = round ∷ []; lawful = lawful; values = values; is = refl; all_rows = refl; left = refl };
  };
  printed = refl;
}
