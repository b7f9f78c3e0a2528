-- From the text of a history back to its run.
use Rattle.std.proofs.Common.{◌≡◌, ℕ, ◌+◌, ◌^◌, ◌<◌, ◌≤◌, true, List, [], ◌∷◌, ◌++◌, length, drop, refl, sym, ◌∙◌, ap, ap₂, subst, lit<, lit≤, arith, append_assoc}
use Rattle.std.specs.Prelude.{All, codes, sum_by}
use Rattle.std.specs.List.{flat_map, AllZip}
use Rattle.std.specs.Fmt.{decimal}
use Rattle.std.proofs.lemmas.Fmt.{decimal_injective}
use Rattle.std.proofs.lemmas.List.Elements.{All-head, All-tail}
use Rattle.iscc_header.specs.declared.unit.Unit64.{Unit64}
use Rattle.iscc_text.specs.UnitText.{unit_text}
use Rattle.iscc_text.proofs.OneUnit.{same_unit}
use Rattle.reg_model.specs.declared.update.Declared.{Declared}
use Rattle.reg_model.specs.Limits.{Limits, IsInRange}
use Rattle.reg_model.specs.Opening.{Opening}
use Rattle.reg_model.specs.Runs.{RoundRows, IsLawfulRound, IsLawfulRun, IsHistory, next_opening, closing}
use Rattle.reg_requests.specs.Lines.{line}
use Rattle.reg_history.specs.History.{carry_line, round_line, row_line, rounds_text, end_line, history_text}
use Rattle.reg_history.specs.lines.Values.{IsDeclaredValue, IsRowValue, IsRunValue}
use Rattle.reg_history.specs.Laws.{SameSizes, SameRound}
use Rattle.reg_history.proofs.lines.WordsBack.{free, free-append, first, cut, cut_piece, decimal_free, unit_free}
use Rattle.reg_history.proofs.lines.CallsBack.{number_then}
use Rattle.reg_history.proofs.lines.RowsBack.{same_rows}

-- ---- carried declarations

abbrev declared_made : ℕ → Unit64 → Declared
declared_made id unit = record { id = id; unit = unit }

-- what stands behind the first word
abbrev pub carry_rest : Declared → List ℕ
carry_rest d = decimal d.id ++ 32 ∷ unit_text d.unit

pub carry_free : (d : Declared) → free 10 (codes "carry " ++ carry_rest d) ≡ true
carry_free d = free-append 10 (decimal d.id) (32 ∷ unit_text d.unit) (decimal_free 10 d.id (lit< tt)) (unit_free 10 d.unit (lit< tt))

pub same_declared : (a b : Declared) → IsDeclaredValue a → IsDeclaredValue b → carry_rest a ≡ carry_rest b → a ≡ b
same_declared a b h k e =
    let parts = number_then a.id b.id (unit_text a.unit) (unit_text b.unit) h.id k.id e in
    ap₂ declared_made parts.0 (same_unit a.unit b.unit h.unit k.unit parts.1)

-- declarations before a text that begins with another letter
same_carried : (a b : List Declared) (us vs : List ℕ) → All IsDeclaredValue a → All IsDeclaredValue b → 100 ≤ first us → 100 ≤ first vs
    → flat_map carry_line a ++ us ≡ flat_map carry_line b ++ vs → (a ≡ b) × (us ≡ vs)
same_carried [] [] us vs h k p q e = (refl, e)
same_carried [] (y ∷ b) us vs h k p q e = absurd (omega (arith, p, ap first e))
same_carried (x ∷ a) [] us vs h k p q e = absurd (omega (arith, q, ap first e))
same_carried (x ∷ a) (y ∷ b) us vs h k p q e =
    let lines = cut_piece 10 (codes "carry " ++ carry_rest x) (codes "carry " ++ carry_rest y) (flat_map carry_line a ++ us) (flat_map carry_line b ++ vs) (carry_free x) (carry_free y)
    (sym (append_assoc (carry_line x) (flat_map carry_line a) us) ∙ e ∙ append_assoc (carry_line y) (flat_map carry_line b) vs) in
    let rest = same_carried a b us vs (All-tail IsDeclaredValue x a h) (All-tail IsDeclaredValue y b k) p q lines.1 in
    (ap₂ (λ z zs. z ∷ zs) (same_declared x y (All-head IsDeclaredValue x a h) (All-head IsDeclaredValue y b k) (ap (drop 6) lines.0)) rest.0, rest.1)

-- ---- the line of a round

-- what stands behind each of the words
abbrev sizes_rest : Limits → List ℕ
sizes_rest limits = decimal limits.entries ++ 32 ∷ (codes "log " ++ (decimal limits.log ++ 32 ∷ (codes "callers " ++ decimal limits.callers)))

abbrev pub base_rest : ℕ → Limits → List ℕ
base_rest base limits = codes "base " ++ (decimal base ++ 32 ∷ (codes "entries " ++ sizes_rest limits))

abbrev pub round_rest : ℕ → ℕ → Limits → List ℕ
round_rest number base limits = decimal number ++ 32 ∷ base_rest base limits

pub round_free : (number base : ℕ) (limits : Limits) → free 10 (codes "round " ++ round_rest number base limits) ≡ true
round_free number base limits =
    let callers : free 10 (codes "callers " ++ decimal limits.callers) ≡ true = decimal_free 10 limits.callers (lit< tt) in
    let log : free 10 (decimal limits.log ++ 32 ∷ (codes "callers " ++ decimal limits.callers)) ≡ true = free-append 10 (decimal limits.log) (32 ∷ (codes "callers " ++ decimal limits.callers)) (decimal_free 10 limits.log (lit< tt)) callers in
    let sizes : free 10 (sizes_rest limits) ≡ true = free-append 10 (decimal limits.entries) (32 ∷ (codes "log " ++ (decimal limits.log ++ 32 ∷ (codes "callers " ++ decimal limits.callers)))) (decimal_free 10 limits.entries (lit< tt)) log in
    free-append 10 (decimal number) (32 ∷ base_rest base limits) (decimal_free 10 number (lit< tt))
    (free-append 10 (decimal base) (32 ∷ (codes "entries " ++ sizes_rest limits)) (decimal_free 10 base (lit< tt)) sizes)

-- sizes of 64 bits
pub record AreLow (limits : Limits) : Type 0 where
  pub entries : limits.entries < 2 ^ 64
  pub log : limits.log < 2 ^ 64
  pub callers : limits.callers < 2 ^ 64

low_sizes : (limits : Limits) → IsInRange limits → AreLow limits
low_sizes limits h = record { entries = omega (arith, h.entries); log = omega (arith, h.log); callers = omega (arith, h.callers) }

same_sizes : (a b : Limits) → AreLow a → AreLow b → sizes_rest a ≡ sizes_rest b → SameSizes a b
same_sizes a b h k e =
    let entries = number_then a.entries b.entries (codes "log " ++ (decimal a.log ++ 32 ∷ (codes "callers " ++ decimal a.callers))) (codes "log " ++ (decimal b.log ++ 32 ∷ (codes "callers " ++ decimal b.callers)))
    h.entries k.entries e in
    let log = number_then a.log b.log (codes "callers " ++ decimal a.callers) (codes "callers " ++ decimal b.callers) h.log k.log (ap (drop 4) entries.1) in
    record {
      entries = entries.0;
      log = log.0;
      callers = decimal_injective a.callers b.callers h.callers k.callers (ap (drop 8) log.1);
    }

-- a round's line has one base and one list of sizes behind its number
pub same_base_rest : (base other : ℕ) (a b : Limits) → base < 2 ^ 64 → other < 2 ^ 64 → AreLow a → AreLow b
    → base_rest base a ≡ base_rest other b → (base ≡ other) × SameSizes a b
same_base_rest base other a b p q h k e =
    let parts = number_then base other (codes "entries " ++ sizes_rest a) (codes "entries " ++ sizes_rest b) p q (ap (drop 5) e) in
    (parts.0, same_sizes a b h k (ap (drop 8) parts.1))

-- the line of one round
same_round_line : (number base other : ℕ) (a b : Limits) → base < 2 ^ 64 → other < 2 ^ 64 → IsInRange a → IsInRange b
    → round_rest number base a ≡ round_rest number other b → (base ≡ other) × SameSizes a b
same_round_line number base other a b p q h k e =
    let words = cut 32 (decimal number) (decimal number) (base_rest base a) (base_rest other b) (decimal_free 32 number (lit< tt)) (decimal_free 32 number (lit< tt)) e in
    same_base_rest base other a b p q (low_sizes a h) (low_sizes b k) words.1

-- ---- rounds

-- the rounds from this number on, and the end
abbrev rounds_on : ℕ → Opening → List RoundRows → ℕ → ℕ → List ℕ
rounds_on number opening rounds rows live = rounds_text number opening rounds ++ end_line rows live

-- neither a round nor the end begins with a digit, or with the letter of what is carried
rounds_first : (number : ℕ) (opening : Opening) (rounds : List RoundRows) (rows live : ℕ) → 100 ≤ first (rounds_on number opening rounds rows live)
rounds_first number opening [] rows live = lit≤ tt
rounds_first number opening (round ∷ rounds) rows live = lit≤ tt

-- what stands behind the line of a round
abbrev round_then : ℕ → Opening → RoundRows → List RoundRows → ℕ → ℕ → List ℕ
round_then number opening round rounds rows live = flat_map row_line round.rows ++ rounds_on (number + 1) (next_opening opening round.rows) rounds rows live

regrouped : (head rows rounds end : List ℕ) → ((head ++ rows) ++ rounds) ++ end ≡ head ++ (rows ++ (rounds ++ end))
regrouped head rows rounds end = simp append_assoc

-- the line of the first round, and what stands behind it
first_round : (number : ℕ) (opening other : Opening) (x y : RoundRows) (a b : List RoundRows) (rows live more left : ℕ)
    → rounds_on number opening (x ∷ a) rows live ≡ rounds_on number other (y ∷ b) more left
    → (round_rest number opening.base x.limits ≡ round_rest number other.base y.limits) × (round_then number opening x a rows live ≡ round_then number other y b more left)
first_round number opening other x y a b rows live more left e =
    let lines = cut_piece 10 (codes "round " ++ round_rest number opening.base x.limits) (codes "round " ++ round_rest number other.base y.limits)
    (round_then number opening x a rows live) (round_then number other y b more left)
    (round_free number opening.base x.limits) (round_free number other.base y.limits)
    (sym (regrouped (round_line number opening.base x.limits) (flat_map row_line x.rows) (rounds_text (number + 1) (next_opening opening x.rows) a) (end_line rows live))
    ∙ e
    ∙ regrouped (round_line number other.base y.limits) (flat_map row_line y.rows) (rounds_text (number + 1) (next_opening other y.rows) b) (end_line more left)) in
    (ap (drop 6) lines.0, lines.1)

abbrev pub AreRows : RoundRows → Type 0
AreRows round = All IsRowValue round.rows

base_low : (opening : Opening) (round : RoundRows) → IsLawfulRound opening round → opening.base < 2 ^ 64
base_low opening round h = omega (arith, h.ids)

-- rounds of one opening
same_rounds : (number : ℕ) (opening : Opening) (a b : List RoundRows) (rows live more left : ℕ) → IsLawfulRun opening a → IsLawfulRun opening b → All AreRows a → All AreRows b
    → rounds_on number opening a rows live ≡ rounds_on number opening b more left → AllZip SameRound a b
same_rounds number opening [] [] rows live more left h k p q e = tt
same_rounds number opening [] (y ∷ b) rows live more left h k p q e = absurd (omega (arith, ap first e))
same_rounds number opening (x ∷ a) [] rows live more left h k p q e = absurd (omega (arith, ap first e))
same_rounds number opening (x ∷ a) (y ∷ b) rows live more left h k p q e =
    let xs : IsLawfulRound opening x = h.0 in
    let ys : IsLawfulRound opening y = k.0 in
    let lines = first_round number opening opening x y a b rows live more left e in
    let sizes = same_round_line number opening.base opening.base x.limits y.limits (base_low opening x xs) (base_low opening y ys) xs.sizes ys.sizes lines.0 in
    let parts = same_rows x.rows y.rows (rounds_on (number + 1) (next_opening opening x.rows) a rows live) (rounds_on (number + 1) (next_opening opening y.rows) b more left)
    (All-head AreRows x a p) (All-head AreRows y b q)
    (omega (arith, rounds_first (number + 1) (next_opening opening x.rows) a rows live)) (omega (arith, rounds_first (number + 1) (next_opening opening y.rows) b more left))
    lines.1 in
    let back : y.rows ≡ x.rows = sym parts.0 in (
      record { sizes = sizes.1; rows = parts.0 },
      same_rounds (number + 1) (next_opening opening x.rows) a b rows live more left h.1 (subst (λ rs. IsLawfulRun (next_opening opening rs) b) back k.1) (All-tail AreRows x a p) (All-tail AreRows y b q)
          (parts.1 ∙ ap (λ rs. rounds_on (number + 1) (next_opening opening rs) b more left) back),
    )

-- the first round's line has the base of the opening
same_base : (opening other : Opening) (a b : List RoundRows) (rows live more left : ℕ) → IsHistory opening a → IsHistory other b
    → rounds_on 0 opening a rows live ≡ rounds_on 0 other b more left → opening.base ≡ other.base
same_base opening other [] b rows live more left h k e = absurd (omega (arith, h.some))
same_base opening other (x ∷ a) [] rows live more left h k e = absurd (omega (arith, k.some))
same_base opening other (x ∷ a) (y ∷ b) rows live more left h k e =
    let lawful = h.lawful in
    let lawful_too = k.lawful in
    let xs : IsLawfulRound opening x = lawful.0 in
    let ys : IsLawfulRound other y = lawful_too.0 in
    let lines = first_round 0 opening other x y a b rows live more left e in
    let is = same_round_line 0 opening.base other.base x.limits y.limits (base_low opening x xs) (base_low other y ys) xs.sizes ys.sizes lines.0 in
    is.0

abbrev opening_made : ℕ → List Declared → Opening
opening_made base list = record { base = base; list = list }

-- ---- histories

carried_then : (head carried rounds end : List ℕ) → ((head ++ carried) ++ rounds) ++ end ≡ head ++ (carried ++ (rounds ++ end))
carried_then head carried rounds end = simp append_assoc

-- what stands behind the first line of a history
abbrev history_rest : Opening → List RoundRows → List ℕ
history_rest opening rounds =
    flat_map carry_line opening.list ++ rounds_on 0 opening rounds (sum_by (λ (round : RoundRows). length round.rows) rounds) (length (closing opening rounds).list)

after_head : (opening other : Opening) (a b : List RoundRows) → history_text opening a ≡ history_text other b → history_rest opening a ≡ history_rest other b
unfolding history_text
after_head opening other a b e =
    let head = line (codes "iscc-history 1") in
    let whole : head ++ history_rest opening a ≡ head ++ history_rest other b =
    sym (carried_then head (flat_map carry_line opening.list) (rounds_text 0 opening a) (end_line (sum_by (λ (round : RoundRows). length round.rows) a) (length (closing opening a).list)))
    ∙ e
    ∙ carried_then head (flat_map carry_line other.list) (rounds_text 0 other b) (end_line (sum_by (λ (round : RoundRows). length round.rows) b) (length (closing other b).list)) in
    ap (drop 15) whole

-- a text is that of one run
pub same_run : (opening other : Opening) (a b : List RoundRows) → IsHistory opening a → IsHistory other b → IsRunValue opening a → IsRunValue other b
    → history_text opening a ≡ history_text other b → (opening ≡ other) × AllZip SameRound a b
same_run opening other a b h k p q e =
    let rows = sum_by (λ (round : RoundRows). length round.rows) a in
    let live = length (closing opening a).list in
    let more = sum_by (λ (round : RoundRows). length round.rows) b in
    let left = length (closing other b).list in
    let carried = same_carried opening.list other.list (rounds_on 0 opening a rows live) (rounds_on 0 other b more left) p.carried q.carried
    (rounds_first 0 opening a rows live) (rounds_first 0 other b more left) (after_head opening other a b e) in
    let base = same_base opening other a b rows live more left h k carried.1 in
    let same : opening ≡ other = ap₂ opening_made base carried.0 in (
      same,
      same_rounds 0 opening a b rows live more left h.lawful (subst (λ o. IsLawfulRun o b) (sym same) k.lawful) p.rows q.rows
          (carried.1 ∙ ap (λ o. rounds_on 0 o b more left) (sym same)),
    )
