-- Texts that are appended piece by piece.
use Rattle.std.proofs.Common.{◌≡◌, ℕ, ◌+◌, ◌<◌, List, [], ◌∷◌, ◌++◌, length, take, get_or, suc, Option, Some, None, refl, sym, ◌∙◌, ap, ap₂, append_assoc, append-nil}
use Rattle.std.specs.Prelude.{codes, sum_by, IsSome}
use Rattle.std.specs.List.{flat_map, filter_map, cons_option, AllByRecursion}
use Rattle.std.specs.Fmt.{decimal}
use Rattle.std.proofs.lemmas.Bool.{true≢false}
use Rattle.std.proofs.lemmas.Grind.{flat_map-append}
use Rattle.std.proofs.lemmas.List.{take_more}
use Rattle.std.proofs.lemmas.List.Elements.{filter_map-append}
use Rattle.iscc_text.specs.UnitText.{unit_text}
use Rattle.reg_model.specs.declared.reply.Row.{Row}
use Rattle.reg_model.specs.declared.update.Declared.{Declared}
use Rattle.reg_model.specs.declared.merging.Place.{Place}
use Rattle.reg_model.specs.Merge.{row_at}
use Rattle.reg_model.specs.Opening.{Opening}
use Rattle.reg_model.specs.Runs.{RoundRows, closing}
use Rattle.reg_requests.specs.Lines.{call_text, reply_text, kind_of}
use Rattle.reg_requests.specs.inner.Printing.{Grows}
use Rattle.reg_requests.proofs.Texts.{spaced-map}
use Rattle.reg_history.specs.declared.lines.told.ToldHit.{ToldHit}
use Rattle.reg_history.specs.declared.lines.told.ToldReply.TheVariants.{Hits}
use Rattle.reg_history.specs.declared.lines.told.ToldRow.{ToldRow}
use Rattle.reg_history.specs.History.{carry_line, row_line, rounds_text, end_line, history_text}
use Rattle.reg_history.specs.lines.HistoryLines.{told_hit_text, told_reply_text, told_row_line}

-- a text that grew, and grew again
pub grows_more : (old middle new : List ℕ) → Grows old middle → Grows middle new → Grows old new
grows_more old middle new first more = (first.0 ++ more.0, more.1 ∙ ap (λ t. t ++ more.0) first.1 ∙ append_assoc old first.0 more.0)

-- the pieces of a row's line
pub row_pieces : (row : Row) (o p q r s t u v w : List ℕ) → p ≡ o ++ (codes "" ++ decimal row.session) → q ≡ p ++ (codes "." ++ decimal row.number)
    → r ≡ q ++ (codes " @" ++ decimal row.point) → s ≡ r ++ codes " " → t ≡ s ++ call_text row.call → u ≡ t ++ codes " = "
    → v ≡ u ++ reply_text (kind_of row.call) row.reply → w ≡ v ++ codes "\n" → w ≡ o ++ row_line row
row_pieces row o p q r s t u v w e1 e2 e3 e4 e5 e6 e7 e8 = rw (e8, e7, e6, e5, e4, e3, e2, e1) (simp append_assoc)

-- the pieces of the line of a carried declaration
pub carry_pieces : (d : Declared) (o p q r s : List ℕ) → p ≡ o ++ (codes "carry " ++ decimal d.id) → q ≡ p ++ codes " " → r ≡ q ++ unit_text d.unit → s ≡ r ++ codes "\n" → s ≡ o ++ carry_line d
carry_pieces d o p q r s e1 e2 e3 e4 = rw (e4, e3, e2, e1) (simp append_assoc)

regrouped : (old head carried rounds end : List ℕ) → (((old ++ head) ++ carried) ++ rounds) ++ end ≡ old ++ (((head ++ carried) ++ rounds) ++ end)
regrouped old head carried rounds end = simp append_assoc

-- the pieces of a history
pub history_pieces : (opening : Opening) (rounds : List RoundRows) (rows live : ℕ) (old o p q r : List ℕ) → o ≡ old ++ codes "iscc-history 1\n" → p ≡ o ++ flat_map carry_line opening.list
    → q ≡ p ++ rounds_text 0 opening rounds → r ≡ q ++ end_line rows live → rows ≡ sum_by (λ (round : RoundRows). length round.rows) rounds → live ≡ length (closing opening rounds).list
    → r ≡ old ++ history_text opening rounds
unfolding history_text
history_pieces opening rounds rows live old o p q r e1 e2 e3 e4 total left =
    e4
    ∙ ap (λ t. t ++ end_line rows live) (e3 ∙ ap (λ t. t ++ rounds_text 0 opening rounds) (e2 ∙ ap (λ t. t ++ flat_map carry_line opening.list) e1))
    ∙ ap₂ (λ n m. (((old ++ codes "iscc-history 1\n") ++ flat_map carry_line opening.list) ++ rounds_text 0 opening rounds) ++ end_line n m) total left
    ∙ regrouped old (codes "iscc-history 1\n") (flat_map carry_line opening.list) (rounds_text 0 opening rounds)
    (end_line (sum_by (λ (round : RoundRows). length round.rows) rounds) (length (closing opening rounds).list))

-- the line of the row at a place more
pub one_row_more : (accounts : List (List Row)) (order : List Place) (i : ℕ) (place default : Place) (row : Row) (o p q : List ℕ) → i < length order → place ≡ get_or order i default
    → row_at accounts place ≡ Some row → p ≡ o ++ flat_map row_line (filter_map (row_at accounts) (take i order)) → q ≡ p ++ row_line row
    → q ≡ o ++ flat_map row_line (filter_map (row_at accounts) (take (i + 1) order))
one_row_more accounts order i place default row o p q inside is at before now =
    let front = filter_map (row_at accounts) (take i order) in
    let longer : filter_map (row_at accounts) (take (i + 1) order) ≡ front ++ row ∷ [] =
    ap (filter_map (row_at accounts)) (take_more order i default inside ∙ ap (λ x. take i order ++ x ∷ []) (sym is))
    ∙ filter_map-append (row_at accounts) (take i order) (place ∷ [])
    ∙ ap (λ found. front ++ cons_option found []) at in
    now
    ∙ ap (λ t. t ++ row_line row) before
    ∙ append_assoc o (flat_map row_line front) (row_line row)
    ∙ ap (λ t. o ++ t)
    (ap (λ t. flat_map row_line front ++ t) (sym (append-nil (row_line row)))
    ∙ sym (flat_map-append row_line front (row ∷ []))
    ∙ ap (flat_map row_line) (sym longer))

-- as many rows as places that have one
pub filled_length : (accounts : List (List Row)) (order : List Place) → AllByRecursion (λ place. IsSome (row_at accounts place)) order → length (filter_map (row_at accounts) order) ≡ length order
filled_length accounts [] all = refl
filled_length accounts (place ∷ order) all = one (row_at accounts place) all.0 (filled_length accounts order all.1)
  where
    one : (o : Option Row) → IsSome o → length (filter_map (row_at accounts) order) ≡ length order → length (cons_option o (filter_map (row_at accounts) order)) ≡ suc (length order)
    one None some rest = absurd (true≢false (sym some))
    one (Some row) some rest = ap suc rest

-- the pieces of a line that tells a row
pub told_pieces : (row : ToldRow) (o p q r s t u v w : List ℕ) → p ≡ o ++ (codes "" ++ decimal row.session) → q ≡ p ++ (codes "." ++ decimal row.number)
    → r ≡ q ++ (codes " @" ++ decimal row.point) → s ≡ r ++ codes " " → t ≡ s ++ call_text row.call → u ≡ t ++ codes " = "
    → v ≡ u ++ told_reply_text row.reply → w ≡ v ++ codes "\n" → w ≡ o ++ told_row_line row
told_pieces row o p q r s t u v w e1 e2 e3 e4 e5 e6 e7 e8 = rw (e8, e7, e6, e5, e4, e3, e2, e1) (simp append_assoc)

-- the number of hits, and then each of them
pub told_hits_pieces : (hits : List ToldHit) (before out after : List ℕ) → out ≡ before ++ (codes "hits " ++ decimal (length hits))
    → after ≡ out ++ flat_map (λ hit. 32 ∷ told_hit_text hit) hits → after ≡ before ++ told_reply_text (Hits hits)
told_hits_pieces hits before out after first rest =
    rest ∙ ap (λ o. o ++ flat_map (λ hit. 32 ∷ told_hit_text hit) hits) first
    ∙ append_assoc before (codes "hits " ++ decimal (length hits)) (flat_map (λ hit. 32 ∷ told_hit_text hit) hits)
    ∙ ap (λ t. before ++ (codes "hits " ++ t)) (sym (spaced-map told_hit_text (decimal (length hits)) hits))
