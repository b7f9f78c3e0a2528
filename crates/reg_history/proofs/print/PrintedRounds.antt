-- The lines of rounds that are printed one after the other.
use Rattle.std.proofs.Common.{◌≡◌, ℕ, suc, ◌+◌, ◌<◌, ◌≤◌, List, [], ◌∷◌, ◌++◌, length, drop, get_or, refl, sym, ◌∙◌, ap, ap₂, subst, append_assoc, append-nil, add-one, arith, length-append, drop-cons}
use Rattle.std.specs.Prelude.{codes, sum_by}
use Rattle.std.specs.Fmt.{decimal}
use Rattle.std.specs.List.{flat_map}
use Rattle.std.proofs.lemmas.List.Sums.{sum_by-cons}
use Rattle.reg_model.specs.declared.reply.Row.{Row}
use Rattle.reg_model.specs.declared.round.Round.{Round}
use Rattle.reg_model.specs.Opening.{Opening}
use Rattle.reg_model.specs.Merge.{AreAccounts}
use Rattle.reg_model.specs.Rows.{IsMerge}
use Rattle.reg_model.specs.Runs.{RoundRows, closing, next_opening}
use Rattle.reg_requests.specs.Lines.{spaced, call_text, reply_text, kind_of}
use Rattle.reg_history.specs.History.{round_line, row_line, rounds_text}
use Rattle.reg_history.specs.Rounds.{IsRoundOf, AreRoundsOf}
use Rattle.reg_history.specs.inner.Printing.{PrintsRounds}

abbrev pub rows_in : RoundRows → ℕ
rows_in round = length round.rows

-- What is printed, with the text of the rounds that are left, is the whole.
pub record PrintsFront (opening left : Opening) (rounds : List Round) (rows : List RoundRows) (number : ℕ) (old new : List ℕ) (count : ℕ) : Type 0 where
  pub rest : List RoundRows
  pub are : AreRoundsOf left (drop number rounds) rest
  pub text : new ++ rounds_text number left rest ≡ old ++ rounds_text 0 opening rows
  pub total : count + sum_by rows_in rest ≡ sum_by rows_in rows
  pub leaves : closing left rest ≡ closing opening rows

pub prints_none : (opening : Opening) (rounds : List Round) (rows : List RoundRows) (old : List ℕ) → AreRoundsOf opening rounds rows → PrintsFront opening opening rounds rows 0 old old 0
prints_none opening rounds rows old are = record { rest = rows; are = are; text = refl; total = omega arith; leaves = refl }

-- a round has its rows
record IsNext (left : Opening) (round : Round) (rounds : List Round) (rest : List RoundRows) : Type 0 where
  pub rows : RoundRows
  pub more : List RoundRows
  pub is : rest ≡ rows ∷ more
  pub one : IsRoundOf left round rows
  pub others : AreRoundsOf (next_opening left rows.rows) rounds more

next : (left : Opening) (round : Round) (rounds : List Round) (rest : List RoundRows) → AreRoundsOf left (round ∷ rounds) rest → IsNext left round rounds rest
next left round rounds [] are = absurd are
next left round rounds (rows ∷ more) are = record { rows = rows; more = more; is = refl; one = are.0; others = are.1 }

at_round : (opening left : Opening) (rounds : List Round) (rows : List RoundRows) (number : ℕ) (old new : List ℕ) (count : ℕ) (round : Round)
    → number < length rounds → round ≡ get_or rounds number round → (front : PrintsFront opening left rounds rows number old new count)
    → IsNext left round (drop (suc number) rounds) front.rest
at_round opening left rounds rows number old new count round inside is front =
    next left round (drop (suc number) rounds) front.rest
    (subst (λ rs. AreRoundsOf left rs front.rest) (drop-cons rounds number round inside ∙ ap (λ r. r ∷ drop (suc number) rounds) (sym is)) front.are)

-- the accounts of the next round
pub next_accounts : (opening left : Opening) (rounds : List Round) (rows : List RoundRows) (number : ℕ) (old new : List ℕ) (count : ℕ) (round : Round)
    → number < length rounds → round ≡ get_or rounds number round → PrintsFront opening left rounds rows number old new count → AreAccounts round.accounts
next_accounts opening left rounds rows number old new count round inside is front =
    let at = at_round opening left rounds rows number old new count round inside is front in
    let one = at.one in one.accounts

grouped : (new head lines rest : List ℕ) → (new ++ (head ++ lines)) ++ rest ≡ new ++ ((head ++ lines) ++ rest)
grouped new head lines rest = append_assoc new (head ++ lines) rest

-- with the lines of one round more
pub prints_more : (opening left : Opening) (rounds : List Round) (rows : List RoundRows) (number : ℕ) (old new longer : List ℕ) (count printed : ℕ) (round : Round)
    → number < length rounds → round ≡ get_or rounds number round
    → ((lines : List Row) → IsMerge round.accounts lines → longer ≡ new ++ (round_line number round.base round.sizes ++ flat_map row_line lines))
    → ((lines : List Row) → IsMerge round.accounts lines → printed ≡ length lines)
    → PrintsFront opening left rounds rows number old new count → PrintsFront opening round.carried rounds rows (number + 1) old longer (count + printed)
prints_more opening left rounds rows number old new longer count printed round inside is text many front =
    let at = at_round opening left rounds rows number old new count round inside is front in
    let one = at.one in
    let r : RoundRows = at.rows in
    let here : longer ≡ new ++ (round_line number left.base r.limits ++ flat_map row_line r.rows) =
    text r.rows one.merge ∙ ap₂ (λ b l. new ++ (round_line number b l ++ flat_map row_line r.rows)) one.base one.sizes in
    record {
      rest = at.more;
      are =
          subst (λ o. AreRoundsOf o (drop (number + 1) rounds) at.more) (sym one.leaves)
          (subst (λ n. AreRoundsOf (next_opening left r.rows) (drop n rounds) at.more) (sym (add-one number)) at.others);
      text =
          ap₂ (λ t o. t ++ rounds_text (number + 1) o at.more) here one.leaves
          ∙ grouped new (round_line number left.base r.limits) (flat_map row_line r.rows) (rounds_text (number + 1) (next_opening left r.rows) at.more)
          ∙ ap (λ rs. new ++ rounds_text number left rs) (sym at.is)
          ∙ front.text;
      total = omega (arith, front.total, many r.rows one.merge, sum_by-cons rows_in r at.more, ap (sum_by rows_in) at.is);
      leaves = ap (λ o. closing o at.more) one.leaves ∙ ap (closing left) (sym at.is) ∙ front.leaves;
    }

-- no round is left
pub prints_all : (opening left : Opening) (rounds : List Round) (rows : List RoundRows) (number : ℕ) (old new : List ℕ) (count : ℕ)
    → drop number rounds ≡ [] → PrintsFront opening left rounds rows number old new count → PrintsRounds opening rows old new count left
prints_all opening left rounds rows number old new count none front =
    ended front.rest (subst (λ rs. AreRoundsOf left rs front.rest) none front.are) front.text front.total front.leaves
  where
    ended : (rest : List RoundRows) → AreRoundsOf left [] rest → new ++ rounds_text number left rest ≡ old ++ rounds_text 0 opening rows → count + sum_by rows_in rest ≡ sum_by rows_in rows
        → closing left rest ≡ closing opening rows → PrintsRounds opening rows old new count left
    ended [] are text total leaves = record { text = sym (append-nil new) ∙ text; rows = omega (arith, total); leaves = leaves }
    ended (r ∷ rest) are text total leaves = absurd are

-- each row has a line
lines_long : (rows : List Row) → length rows ≤ length (flat_map row_line rows)
lines_long [] = omega arith
lines_long (row ∷ rows) =
    omega (arith, lines_long rows, length-append (row_line row) (flat_map row_line rows), line_long (spaced (row_words row)))
  where
    row_words : Row → List (List ℕ)
    row_words r = (decimal r.session ++ codes "." ++ decimal r.number) ∷ (codes "@" ++ decimal r.point) ∷ call_text r.call ∷ codes "=" ∷ reply_text (kind_of r.call) r.reply ∷ []

    line_long : (text : List ℕ) → 1 ≤ length (text ++ 10 ∷ [])
    line_long text = omega (arith, length-append text (10 ∷ []))

-- the rows are no more than the bytes
pub few_more : (opening left : Opening) (rounds : List Round) (rows : List RoundRows) (number : ℕ) (old new longer : List ℕ) (count printed : ℕ) (round : Round)
    → number < length rounds → round ≡ get_or rounds number round
    → ((lines : List Row) → IsMerge round.accounts lines → longer ≡ new ++ (round_line number round.base round.sizes ++ flat_map row_line lines))
    → ((lines : List Row) → IsMerge round.accounts lines → printed ≡ length lines)
    → PrintsFront opening left rounds rows number old new count → count ≤ length new → count + printed ≤ length longer
few_more opening left rounds rows number old new longer count printed round inside is text many front few =
    let at = at_round opening left rounds rows number old new count round inside is front in
    let one = at.one in
    let r : RoundRows = at.rows in
    omega (
      arith,
      few,
      many r.rows one.merge,
      lines_long r.rows,
      ap length (text r.rows one.merge),
      length-append new (round_line number round.base round.sizes ++ flat_map row_line r.rows),
      length-append (round_line number round.base round.sizes) (flat_map row_line r.rows),
    )
