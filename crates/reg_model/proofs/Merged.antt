-- Accounts that stand in one log have a lawful merge.
use Rattle.std.proofs.Common.{◌≡◌, inl, inr, ℕ, suc, ◌+◌, ◌-◌, ◌<◌, ◌≤◌, Bool, true, false, cond, List, [], ◌∷◌, ◌++◌, length, take, get_or, Option, Some, None, refl, sym, ◌∙◌, ap, ap₂, subst, append_assoc, append-nil, arith, length-append}
use Rattle.std.specs.Prelude.{IfSome, slice_get, if◌then◌else◌, is_some, ◌==◌, ◌&&◌, sum_by, count_by}
use Rattle.std.proofs.lemmas.List.Recursion.{is_count_by}
use Rattle.std.specs.List.{AllByRecursion}
use Rattle.std.specs.List.Sorted.{IsStrictlySortedBy}
use Rattle.std.specs.Option.{option_to_list}
use Rattle.std.specs.Ordering.{ordering_then, nat_cmp}
use Rattle.std.specs.declared.cmp.Ordering.{Ordering}
use Rattle.std.specs.declared.cmp.Ordering.TheVariants.{Less}
use Rattle.std.proofs.lemmas.Bool.{cases_order}
use Rattle.std.proofs.lemmas.Bool.Decides.{nat_tests}
use Rattle.std.proofs.lemmas.List.{take_all}
use Rattle.std.proofs.lemmas.List.Elements.{recursion_from_All}
use Rattle.std.proofs.lemmas.List.Sums.{sum_by-cons}
use Rattle.std.proofs.lemmas.List.Sorted.{sum_by-IsPermutation}
use Rattle.std.proofs.lemmas.Option.{slice_get_within, get_or_from_slice_get, same_Some}
use Rattle.std.proofs.Math.Seq.{take-suc}
use Rattle.reg_model.specs.declared.update.Update.{Update}
use Rattle.reg_model.specs.declared.reply.Row.{Row}
use Rattle.reg_model.specs.Limits.{Limits}
use Rattle.reg_model.specs.Opening.{Opening}
use Rattle.reg_model.specs.Replies.{Replies}
use Rattle.reg_model.specs.Rows.{update_of, is_accepted, log_of, row_cmp, all_rows, MayFollow, EachAfter, IsLawful, IsMerge}
use Rattle.reg_model.specs.Merge.{AreAccounts}
use Rattle.reg_model.specs.Accounts.{claims, StandsInLog, ShareLog}
use Rattle.reg_model.specs.Laws.{MergeToLog}
use Rattle.reg_model.proofs.AtHome.{each_weaker, IsFound, all_found}
use Rattle.reg_model.proofs.SessionAccounts.{accounts_rise, merged_each, number_is, session_is}
use Rattle.reg_model.proofs.SomeMerge.{some_merge}
use Rattle.reg_model.proofs.RowSteps.{log_of-push, last-push}

-- ---- claims

-- 1 for a row that claims the place
abbrev pub claim : ℕ → ℕ → Row → ℕ
claim base place row = cond (claims base place row) 1 0

abbrev pub one_if : Bool → ℕ
one_if b = cond b 1 0

claims_counted : (base place : ℕ) (rows : List Row) → sum_by (claim base place) rows ≡ count_by (claims base place) rows
claims_counted base place rows = is_count_by (sum_by (claim base place)) (claims base place) refl (λ row more. sum_by-cons (claim base place) row more ∙ one_more (claims base place row) (sum_by (claim base place) more)) rows
  where
    one_more : (b : Bool) (n : ℕ) → cond b 1 0 + n ≡ cond b (1 + n) n
    one_more true n = refl
    one_more false n = omega arith

pub claims_own : (base place : ℕ) (row : Row) → is_accepted row ≡ true → row.point ≡ base + place + 1 → claim base place row ≡ 1
claims_own base place row accepted at =
    let same : (row.point == base + place + 1) ≡ true = grind (arith, nat_tests, at) in
    ap₂ (λ a b. one_if (a && b)) accepted same

pub claims_none : (base place : ℕ) (row : Row) → is_accepted row ≡ false → claim base place row ≡ 0
claims_none base place row refused = ap (λ a. one_if (a && (row.point == base + place + 1))) refused

not_both : (a b : Bool) → (b ≡ true → ⊥) → one_if (a && b) ≡ 0
not_both true true ne = absurd (ne refl)
not_both true false ne = refl
not_both false b ne = refl

pub claims_other : (base place : ℕ) (row : Row) → (row.point ≡ base + place + 1 → ⊥) → claim base place row ≡ 0
claims_other base place row ne = not_both (is_accepted row) (row.point == base + place + 1) (λ is. ne (grind (arith, nat_tests, is)))

abbrev IsClaimer : ℕ → ℕ → (Row → Type 0) → Type 0
IsClaimer base place P = (row : Row) × P row × (is_accepted row ≡ true) × (row.point ≡ base + place + 1)

claimer_or : (base place : ℕ) (row : Row) (P : Row → Type 0) → P row → (claim base place row ≡ 0 → IsClaimer base place P)
    → (a : Bool) → is_accepted row ≡ a → (b : Bool) → (row.point == base + place + 1) ≡ b → IsClaimer base place P
claimer_or base place row P p more true is_yes true at = (row, p, is_yes, grind (arith, nat_tests, at))
claimer_or base place row P p more true is_yes false at = more (ap₂ (λ a b. one_if (a && b)) is_yes at)
claimer_or base place row P p more false is_no b at = more (claims_none base place row is_no)

-- some row that claims the place
claimer : (base place : ℕ) (rows : List Row) (P : Row → Type 0) → AllByRecursion P rows → 1 ≤ sum_by (claim base place) rows → IsClaimer base place P
claimer base place [] P h some = absurd (omega (arith, some))
claimer base place (row ∷ rows) P h some =
    claimer_or base place row P h.0 (λ none. claimer base place rows P h.1 (omega (arith, some, none, sum_by-cons (claim base place) row rows)))
    (is_accepted row) refl (row.point == base + place + 1) refl

-- ---- order

lower : (m n i j : ℕ) (o : Ordering) → ordering_then (nat_cmp m n) (ordering_then (nat_cmp i j) o) ≡ Less → (m ≤ n) × (m ≡ n → i ≤ j)
lower m n i j o h = (grind arith, λ e. grind arith)

abbrev index : Bool → ℕ
index b = if b then 0 else 1

-- a row that comes later
abbrev IsLater : Row → Row → Type 0
IsLater row later = row_cmp row later ≡ Less

later_point : (row later : Row) → IsLater row later → row.point ≤ later.point
later_point row later h = let parts = lower row.point later.point (if is_accepted row then 0 else 1) (if is_accepted later then 0 else 1) (ordering_then (nat_cmp row.session later.session) (nat_cmp row.number later.number)) h in parts.0

-- a row that isn't accepted stands behind all accepted ones of its point
later_refused : (row later : Row) → IsLater row later → is_accepted row ≡ false → is_accepted later ≡ true → row.point ≡ later.point → ⊥
later_refused row later h refused accepted same =
    let parts = lower row.point later.point (if is_accepted row then 0 else 1) (if is_accepted later then 0 else 1) (ordering_then (nat_cmp row.session later.session) (nat_cmp row.number later.number)) h in
    let le = parts.1 same in
    let one : index (is_accepted row) ≡ 1 = ap index refused in
    let none : index (is_accepted later) ≡ 0 = ap index accepted in
    absurd (omega (arith, le, one, none))

-- ---- the place of the next row

abbrev Free : ℕ → ℕ → List Row → Type 0
Free base p rows = (j : ℕ) → j < p → sum_by (claim base j) rows ≡ 0

abbrev Due : ℕ → ℕ → ℕ → List Row → Type 0
Due base p end rows = (j : ℕ) → p ≤ j → j < end → sum_by (claim base j) rows ≡ 1

place_accepted : (base p end place : ℕ) (row : Row) (rest : List Row) → is_accepted row ≡ true → row.point ≡ base + place + 1 → place ≤ end
    → AllByRecursion (IsLater row) rest → Free base p (row ∷ rest) → Due base p end (row ∷ rest) → place ≡ p
place_accepted base p end place row rest accepted at within later free due =
    let own = claims_own base place row accepted at in
    elim (cases_order place p) [
      | inl same ↦ same
      | inr (inl below) ↦ absurd (omega (arith, own, free place below, sum_by-cons (claim base place) row rest))
      | inr (inr above) ↦
          let none = claims_other base p row (λ e. absurd (omega (arith, e, at, above))) in
          let owed = due p (omega arith) (omega (arith, above, within)) in
          let other = claimer base p rest (IsLater row) later (omega (arith, owed, none, sum_by-cons (claim base p) row rest)) in
          absurd (omega (arith, above, at, other.3, later_point row other.0 other.1))
    ]

place_refused : (base p end place : ℕ) (row : Row) (rest : List Row) → is_accepted row ≡ false → row.point ≡ base + place → place ≤ end → base + p ≤ row.point
    → AllByRecursion (IsLater row) rest → Due base p end (row ∷ rest) → place ≡ p
place_refused base p end place row rest refused at within floor later due =
    elim (cases_order place p) [
      | inl same ↦ same
      | inr (inl below) ↦ absurd (omega (arith, at, floor, below))
      | inr (inr above) ↦
          let none = claims_none base p row refused in
          let owed = due p (omega arith) (omega (arith, above, within)) in
          let other = claimer base p rest (IsLater row) later (omega (arith, owed, none, sum_by-cons (claim base p) row rest)) in
          absurd (later_refused row other.0 other.1 refused other.2 (omega (arith, above, at, other.3, later_point row other.0 other.1)))
    ]

-- ---- one row more

next_log : (log before : List Update) (o : Option Update) (p : ℕ) → before ≡ take p log → (is_some o ≡ true → slice_get log p ≡ o)
    → before ++ option_to_list o ≡ take (p + (if is_some o then 1 else 0)) log
next_log log before None p e h = append-nil before ∙ e ∙ ap (λ n. take n log) (let same : p ≡ p + 0 = omega arith in same)
next_log log before (Some u) p e h =
    let at = h refl in
    let last : get_or log p u ≡ u = get_or_from_slice_get log p u u at in
    ap₂ (λ xs v. xs ++ v ∷ []) e (sym last) ∙ sym (take-suc log p u (slice_get_within log p u at)) ∙ ap (λ n. take n log) (let same : suc p ≡ p + 1 = omega arith in same)

-- what the rest of the rows has still to do after the rows before
record Left (opening : Opening) (log : List Update) (before rest : List Row) : Type 0 where
  taken : log_of before ≡ take (length (log_of before)) log
  low : length (log_of before) ≤ length log
  up : IsStrictlySortedBy row_cmp rest
  last : IfSome (slice_get before (length before - 1)) (λ (l : Row). AllByRecursion (IsLater l) rest)
  free : Free opening.base (length (log_of before)) rest
  due : Due opening.base (length (log_of before)) (length log) rest
  floor : AllByRecursion (λ (r : Row). opening.base + length (log_of before) ≤ r.point) rest

head_of : (o : Option Row) (row : Row) (rest : List Row) → IfSome o (λ (l : Row). AllByRecursion (IsLater l) (row ∷ rest)) → IfSome o (λ (l : Row). IsLater l row)
head_of None row rest h = tt
head_of (Some l) row rest h = h.0

some_last : (o : Option Row) (row : Row) (rest : List Row) → o ≡ Some row → AllByRecursion (IsLater row) rest → IfSome o (λ (l : Row). AllByRecursion (IsLater l) rest)
some_last None row rest e h = tt
some_last (Some l) row rest e h = subst (λ (x : Row). AllByRecursion (IsLater x) rest) (sym (same_Some l row e)) h

-- the row's place, its point, and the log after it
record Next (opening : Opening) (log before_log : List Update) (row : Row) (rest : List Row) : Type 0 where
  point : row.point ≡ opening.base + length before_log + length (option_to_list (update_of row.call row.reply))
  log_is : before_log ++ option_to_list (update_of row.call row.reply) ≡ take (length before_log + length (option_to_list (update_of row.call row.reply))) log
  high : length before_log + length (option_to_list (update_of row.call row.reply)) ≤ length log
  free : Free opening.base (length before_log + length (option_to_list (update_of row.call row.reply))) rest
  due : Due opening.base (length before_log + length (option_to_list (update_of row.call row.reply))) (length log) rest

next_row : (limits : Limits) (opening : Opening) (log before_log : List Update) (row : Row) (rest : List Row) → (a : StandsInLog limits opening log row)
    → before_log ≡ take (length before_log) log → length before_log ≤ length log → opening.base + length before_log ≤ row.point → AllByRecursion (IsLater row) rest
    → Free opening.base (length before_log) (row ∷ rest) → Due opening.base (length before_log) (length log) (row ∷ rest)
    → (a.place ≡ length before_log) × Next opening log before_log row rest
next_row limits opening log before_log row rest a taken low floor later free due = cases (update_of row.call row.reply) refl
  where
    p : ℕ
    p = length before_log

    cases : (o : Option Update) → update_of row.call row.reply ≡ o → (a.place ≡ p) × Next opening log before_log row rest
    cases None is =
        let refused : is_accepted row ≡ false = ap is_some is in
        let none : length (option_to_list (update_of row.call row.reply)) ≡ 0 = ap (λ o. length (option_to_list o)) is in
        let at : row.point ≡ opening.base + a.place = a.point ∙ ap (λ b. opening.base + a.place + (if b then 1 else 0)) refused ∙ (let same : opening.base + a.place + 0 ≡ opening.base + a.place = omega arith in same) in
        let place = place_refused opening.base p (length log) a.place row rest refused at a.within floor later due in
        let same : p ≡ p + length (option_to_list (update_of row.call row.reply)) = omega (arith, none) in (
          place,
          record {
            point = omega (arith, at, place, none);
            log_is = ap (λ o. before_log ++ option_to_list o) is ∙ append-nil before_log ∙ taken ∙ ap (λ n. take n log) same;
            high = omega (arith, none, low);
            free = λ j below. let gone = free j (omega (arith, below, none)) in let here = claims_none opening.base j row refused in omega (arith, gone, here, sum_by-cons (claim opening.base j) row rest);
            due = λ j above high. let owed = due j (omega (arith, above, none)) high in let here = claims_none opening.base j row refused in omega (arith, owed, here, sum_by-cons (claim opening.base j) row rest);
          },
        )
    cases (Some u) is =
        let accepted : is_accepted row ≡ true = ap is_some is in
        let one : length (option_to_list (update_of row.call row.reply)) ≡ 1 = ap (λ o. length (option_to_list o)) is in
        let at : row.point ≡ opening.base + a.place + 1 = a.point ∙ ap (λ b. opening.base + a.place + (if b then 1 else 0)) accepted in
        let place = place_accepted opening.base p (length log) a.place row rest accepted at a.within later free due in
        let here : row.point ≡ opening.base + p + 1 = omega (arith, at, place) in
        let found : slice_get log p ≡ Some u = ap (slice_get log) (sym place) ∙ a.made u is in
        let inside : p < length log = slice_get_within log p u found in
        let same : p + 1 ≡ p + length (option_to_list (update_of row.call row.reply)) = omega (arith, one) in (
          place,
          record {
            point = omega (arith, here, one);
            log_is = ap (λ o. before_log ++ option_to_list o) is ∙ next_log log before_log (Some u) p taken (λ _. found) ∙ ap (λ n. take n log) same;
            high = omega (arith, one, inside);
            free = λ j below. elim (cases_order j p) [
              | inl is_p ↦ let own = claims_own opening.base j row accepted (omega (arith, here, is_p)) in let owed = due j (omega (arith, is_p)) (omega (arith, is_p, inside)) in omega (arith, own, owed, sum_by-cons (claim opening.base j) row rest)
              | inr (inl less) ↦ let gone = free j less in omega (arith, gone, sum_by-cons (claim opening.base j) row rest)
              | inr (inr more) ↦ absurd (omega (arith, more, below, one))
            ];
            due = λ j above high. let owed = due j (omega (arith, above, one)) high in let none = claims_other opening.base j row (λ e. absurd (omega (arith, e, here, above, one))) in omega (arith, owed, none, sum_by-cons (claim opening.base j) row rest);
          },
        )

-- ---- all rows

go : (limits : Limits) (opening : Opening) (log : List Update) (accounts : List (List Row)) → AreAccounts accounts → length accounts ≤ limits.callers → length log ≤ limits.log
    → AllByRecursion (IsStrictlySortedBy row_cmp) accounts → (before rest : List Row) → IsMerge accounts (before ++ rest)
    → AllByRecursion (StandsInLog limits opening log) rest → AllByRecursion (IsFound accounts) rest
    → Left opening log before rest → EachAfter (MayFollow limits opening) before rest × (log_of (before ++ rest) ≡ log)
unfolding IsStrictlySortedBy
go limits opening log accounts are few within rising before [] merge stand found left =
    let all : length log ≤ length (log_of before) = elim (cases_order (length (log_of before)) (length log)) [
      | inl same ↦ omega (arith, same)
      | inr (inl below) ↦ absurd (omega (arith, left.due (length (log_of before)) (omega arith) below))
      | inr (inr above) ↦ omega (arith, above)
    ] in
    (tt, ap log_of (append-nil before) ∙ left.taken ∙ take_all (length (log_of before)) log all)
go limits opening log accounts are few within rising before (row ∷ rest) merge stand found left =
    let before_log : List Update = log_of before in
    let next = next_row limits opening log before_log row rest stand.0 left.taken left.low left.floor.0 left.up.0 left.free left.due in
    let a = stand.0 in
    let n = next.1 in
    let pushed : log_of (before ++ row ∷ []) ≡ before_log ++ option_to_list (update_of row.call row.reply) = log_of-push before row in
    let longer : length (log_of (before ++ row ∷ [])) ≡ length before_log + length (option_to_list (update_of row.call row.reply)) = ap length pushed ∙ length-append before_log (option_to_list (update_of row.call row.reply)) in
    let front : take a.place log ≡ before_log = ap (λ k. take k log) next.0 ∙ sym left.taken in
    let assoc : (before ++ row ∷ []) ++ rest ≡ before ++ row ∷ rest = append_assoc before (row ∷ []) rest in
    let follows : MayFollow limits opening before row = record {
      session = omega (arith, session_is accounts row found.0, few);
      number = number_is accounts before rest row are rising merge found.0;
      order = head_of (slice_get before (length before - 1)) row rest left.last;
      point = omega (arith, n.point, longer);
      within = omega (arith, n.point, n.high, within);
      reply = subst (λ us. Replies limits opening us row.call row.reply) front a.reply;
    } in
    let after : Left opening log (before ++ row ∷ []) rest = record {
      taken = pushed ∙ n.log_is ∙ ap (λ k. take k log) (sym longer);
      low = omega (arith, longer, n.high);
      up = left.up.1;
      last = some_last (slice_get (before ++ row ∷ []) (length (before ++ row ∷ []) - 1)) row rest (last-push before row) left.up.0;
      free = λ j below. n.free j (omega (arith, below, longer));
      due = λ j above high. n.due j (omega (arith, above, longer)) high;
      floor = each_weaker (IsLater row) (λ (r : Row). opening.base + length (log_of (before ++ row ∷ [])) ≤ r.point) (λ r h. omega (arith, later_point row r h, n.point, longer)) rest left.up.0;
    } in
    let more = go limits opening log accounts are few within rising (before ++ row ∷ []) rest (subst (IsMerge accounts) (sym assoc) merge) stand.1 found.1 after in
    ((follows, more.0), ap log_of (sym assoc) ∙ more.1)

-- no row has a point below the base
above_base : (limits : Limits) (opening : Opening) (log : List Update) (row : Row) → StandsInLog limits opening log row → opening.base + 0 ≤ row.point
above_base limits opening log row a = omega (arith, a.point)

merged : (limits : Limits) (opening : Opening) (log : List Update) (accounts : List (List Row)) (rows : List Row)
    → ShareLog limits opening log accounts → IsMerge accounts rows → IsLawful limits opening rows × (log_of rows ≡ log)
merged limits opening log accounts rows share merge =
    let stand = merged_each (StandsInLog limits opening log) accounts rows merge (recursion_from_All (StandsInLog limits opening log) (all_rows accounts) share.stand) in
    go limits opening log accounts share.numbered share.few share.within (accounts_rise accounts share.numbered share.seen) [] rows merge stand
    (merged_each (IsFound accounts) accounts rows merge (all_found accounts share.numbered))
    record {
      taken = refl;
      low = omega arith;
      up = merge.order;
      last = tt;
      free = λ j below. absurd (omega (arith, below));
      due = λ j above high. sum_by-IsPermutation (claim opening.base j) (all_rows accounts) rows merge.exactly ∙ claims_counted opening.base j (all_rows accounts) ∙ share.claimed j high;
      floor = each_weaker (StandsInLog limits opening log) (λ (r : Row). opening.base + 0 ≤ r.point) (above_base limits opening log) rows stand;
    }

pub accounts_merge : (limits : Limits) (opening : Opening) (log : List Update) (accounts : List (List Row)) → ShareLog limits opening log accounts → MergeToLog limits opening log accounts
accounts_merge limits opening log accounts share =
    let some = some_merge accounts share.numbered in
    let both = merged limits opening log accounts some.0 share some.1 in
    record { rows = some.0; merge = some.1; lawful = both.0; makes = both.1 }
