-- A round of one session that asks, and then withdraws declarations one after the other.
use Rattle.std.proofs.Common.{◌≡◌, inl, inr, ℕ, zero, suc, ◌+◌, ◌-◌, ◌<◌, ◌≤◌, Bool, true, false, not, ◌||◌, ◌==◌, cond, List, [], ◌∷◌, ◌++◌, map, length, filter, find, drop, Option, Some, None, refl, sym, ◌∙◌, ap, ap₂, subst, append_assoc, append-nil, arith}
use Rattle.std.specs.Prelude.{sum_by, count_by, is_some, IsSome}
use Rattle.std.specs.List.{range_with_len}
use Rattle.std.specs.Option.{option_to_list}
use Rattle.std.proofs.lemmas.Bool.{cases_order, true≢false}
use Rattle.std.proofs.lemmas.Bool.Decides.{nat_tests}
use Rattle.std.proofs.lemmas.List.{length-map}
use Rattle.std.proofs.lemmas.List.FromFn.{length-map-range_with_len, map-range_with_len_more}
use Rattle.std.proofs.lemmas.List.Sorted.{length_permutation}
use Rattle.std.proofs.lemmas.List.Sums.{sum_by-cons, length-filter}
use Rattle.iscc_header.specs.declared.unit.Unit64.{Unit64}
use Rattle.reg_model.specs.declared.update.Update.{Update}
use Rattle.reg_model.specs.declared.update.Update.TheVariants.{Wd}
use Rattle.reg_model.specs.declared.update.Declared.{Declared}
use Rattle.reg_model.specs.declared.call.Call.{Call}
use Rattle.reg_model.specs.declared.call.Call.TheVariants as calls
use Rattle.reg_model.specs.declared.reply.Reply.{Reply}
use Rattle.reg_model.specs.declared.reply.Reply.TheVariants as replies
use Rattle.reg_model.specs.declared.reply.FullCause.TheVariants.{Log}
use Rattle.reg_model.specs.declared.reply.Row.{Row}
use Rattle.reg_model.specs.Limits.{Limits}
use Rattle.reg_model.specs.Live.{declared_from, is_withdrawn, live, live_at, IsLive}
use Rattle.reg_model.specs.Opening.{Opening}
use Rattle.reg_model.specs.Replies.{is_near, hit_of, Replies}
use Rattle.reg_model.specs.Rows.{update_of, is_accepted, log_of, MayFollow, EachAfter}
use Rattle.reg_model.proofs.LiveSteps.{live-start}
use Rattle.reg_model.proofs.RowSteps.{log_of-push}
use Rattle.reg_make.specs.Workloads.{hit_count}
use Rattle.reg_make.proofs.Declaring.{one_if}

-- ---- withdrawals of 0, 1, 2, ..

-- the first so many ids are withdrawn
abbrev pub first_withdrawn : ℕ → List Update
first_withdrawn k = map Wd (range_with_len 0 k)

is_among : (id a n : ℕ) → a ≤ id → id < a + n → is_withdrawn (map Wd (range_with_len a n)) id ≡ true
is_among id a zero low high = absurd (omega (arith, low, high))
is_among id a (suc n) low high = elim (cases_order a id) [
  | inl same ↦ let this : (a == id) ≡ true = grind (arith, nat_tests, same) in ap (λ b. b || is_withdrawn (map Wd (range_with_len (a + 1) n)) id) this
  | inr (inl below) ↦
      let other : (a == id) ≡ false = grind (arith, nat_tests, below) in
      ap (λ b. b || is_withdrawn (map Wd (range_with_len (a + 1) n)) id) other ∙ is_among id (a + 1) n (omega (arith, below)) (omega (arith, high))
  | inr (inr above) ↦ absurd (omega (arith, low, above))
]

isnt_among : (id a n : ℕ) → a + n ≤ id → is_withdrawn (map Wd (range_with_len a n)) id ≡ false
isnt_among id a zero above = refl
isnt_among id a (suc n) above =
    let other : (a == id) ≡ false = grind (arith, nat_tests, above) in
    ap (λ b. b || is_withdrawn (map Wd (range_with_len (a + 1) n)) id) other ∙ isnt_among id (a + 1) n (omega (arith, above))

nothing_declared : (id a n : ℕ) → declared_from id (map Wd (range_with_len a n)) ≡ []
nothing_declared id a zero = refl
nothing_declared id a (suc n) = nothing_declared (id + 1) (a + 1) n

-- the ids of a list are the numbers from `low` on
abbrev pub AreIds : ℕ → ℕ → List Declared → Type 0
AreIds low n ds = map (λ (d : Declared). d.id) ds ≡ range_with_len low n

abbrev kept : (ℕ → Bool) → List Declared → List Declared
kept keep ds = filter (λ (d : Declared). keep d.id) ds

-- an id that is kept is found
found_kept : (keep : ℕ → Bool) (id low n : ℕ) (ds : List Declared) → AreIds low n ds → low ≤ id → id < low + n → keep id ≡ true → IsSome (find (λ (d : Declared). d.id == id) (kept keep ds))
found_kept keep id low zero ds are le lt chosen = absurd (omega (arith, le, lt))
found_kept keep id low (suc n) [] are le lt chosen = absurd (cc)
found_kept keep id low (suc n) (d ∷ ds) are le lt chosen =
    let first : d.id ≡ low = cc in
    let more : AreIds (low + 1) n ds = ap (drop 1) are in
    elim (cases_order low id) [
      | inl same ↦
          let here : d.id ≡ id = first ∙ same in
          let this : (d.id == id) ≡ true = grind (arith, nat_tests, here) in
          let keeps : keep d.id ≡ true = ap keep here ∙ chosen in
          rw (keeps, this) refl
      | inr (inl below) ↦
          let rest = found_kept keep id (low + 1) n ds more (omega (arith, below)) (omega (arith, lt)) chosen in
          let other : (d.id == id) ≡ false = grind (arith, nat_tests, first, below) in
          elim (keep d.id) as (λ b. IsSome (find (λ (e : Declared). e.id == id) (cond b (d ∷ kept keep ds) (kept keep ds)))) [ true ↦ rw other rest | false ↦ rest ]
      | inr (inr above) ↦ absurd (omega (arith, le, above))
    ]

-- those from an id on are kept
many_kept : (keep : ℕ → Bool) (from low n : ℕ) (ds : List Declared) → AreIds low n ds → ((id : ℕ) → id < from → keep id ≡ false) → ((id : ℕ) → from ≤ id → keep id ≡ true)
    → length (kept keep ds) ≡ n - (from - low)
many_kept keep from low zero [] are out kept_on = omega arith
many_kept keep from low zero (d ∷ ds) are out kept_on = absurd (cc)
many_kept keep from low (suc n) [] are out kept_on = absurd (cc)
many_kept keep from low (suc n) (d ∷ ds) are out kept_on =
    let first : d.id ≡ low = cc in
    let rest = many_kept keep from (low + 1) n ds (ap (drop 1) are) out kept_on in
    elim (cases_order low from) [
      | inl same ↦ let keeps : keep d.id ≡ true = kept_on d.id (omega (arith, first, same)) in rw keeps (omega (arith, rest, same))
      | inr (inl below) ↦ let drops : keep d.id ≡ false = out d.id (omega (arith, first, below)) in rw drops (omega (arith, rest, below))
      | inr (inr above) ↦ let keeps : keep d.id ≡ true = kept_on d.id (omega (arith, first, above)) in rw keeps (omega (arith, rest, above))
    ]

live_after : (opening : Opening) (k : ℕ) → live opening (first_withdrawn k) ≡ kept (λ id. not (is_withdrawn (first_withdrawn k) id)) opening.list
live_after opening k =
    ap (λ ds. kept (λ id. not (is_withdrawn (first_withdrawn k) id)) (opening.list ++ ds)) (nothing_declared opening.base 0 k)
    ∙ ap (kept (λ id. not (is_withdrawn (first_withdrawn k) id))) (append-nil opening.list)

-- an id that wasn't withdrawn yet is live
next_live : (opening : Opening) (n k : ℕ) → AreIds 0 n opening.list → k < n → IsLive opening (first_withdrawn k) k
next_live opening n k ids low =
    subst (λ ds. IsSome (find (λ (d : Declared). d.id == k) ds)) (sym (live_after opening k))
    (found_kept (λ id. not (is_withdrawn (first_withdrawn k) id)) k 0 n opening.list ids (omega arith) (omega (arith, low)) (ap not (isnt_among k 0 k (omega arith))))

-- so many are left
pub many_left : (opening : Opening) (n k : ℕ) → AreIds 0 n opening.list → length (live opening (first_withdrawn k)) ≡ n - k
many_left opening n k ids =
    let counted = many_kept (λ id. not (is_withdrawn (first_withdrawn k) id)) k 0 n opening.list ids (λ id low. ap not (is_among id 0 k (omega arith) (omega (arith, low)))) (λ id high. ap not (isnt_among id 0 k (omega (arith, high)))) in
    omega (arith, ap length (live_after opening k), counted)

-- ---- rows

-- what rows behind others give together
pub record Told (before rows : List Row) (accepted hits : ℕ) (log : List Update) : Type 0 where
  pub accepted_are : count_by is_accepted rows ≡ accepted
  pub hits_are : sum_by (λ (row : Row). hit_count row.reply) rows ≡ hits
  pub log_is : log_of (before ++ rows) ≡ log

told_more : (before : List Row) (row : Row) (rows : List Row) (accepted hits : ℕ) (log : List Update) → Told (before ++ row ∷ []) rows accepted hits log
    → Told before (row ∷ rows) (one_if (is_accepted row) + accepted) (hit_count row.reply + hits) log
told_more before row rows accepted hits log told = record {
  accepted_are = omega (arith, sum_by-cons (λ r. one_if (is_accepted r)) row rows, told.accepted_are);
  hits_are = omega (arith, sum_by-cons (λ (r : Row). hit_count r.reply) row rows, told.hits_are);
  log_is = ap log_of (sym (append_assoc before (row ∷ []) rows)) ∙ told.log_is;
}

-- the log after one row more
log_next : (before : List Row) (row : Row) (o : Option Update) (log next : List Update) → log_of before ≡ log → update_of row.call row.reply ≡ o → log ++ option_to_list o ≡ next → log_of (before ++ row ∷ []) ≡ next
log_next before row o log next is update more = log_of-push before row ∙ ap₂ (λ us u. us ++ option_to_list u) is update ∙ more

none_and_some : (o : Option Declared) → IsSome o → is_some o ≡ false → ⊥
none_and_some None some none = absurd (true≢false (sym some))
none_and_some (Some d) some none = absurd (true≢false none)

withdrawn_told : (limits : Limits) (opening : Opening) (log : List Update) (id : ℕ) (reply : Reply) → length log < limits.log → IsLive opening log id
    → Replies limits opening log (calls.Withdraw id) reply → reply ≡ replies.Withdrawn id
withdrawn_told limits opening log id (replies.Withdrawn other) room alive h = ap replies.Withdrawn h.0
withdrawn_told limits opening log id (replies.Full Log) room alive h = absurd (omega (arith, room, h.0))
withdrawn_told limits opening log id (replies.Absent other) room alive h = absurd (none_and_some (live_at opening log id) alive h.1)
withdrawn_told limits opening log id reply room alive h = absurd h

abbrev calls_of : List Row → List Call
calls_of rows = map (λ (row : Row). row.call) rows

-- rows that withdraw one id after the other
withdraw_rows : (limits : Limits) (opening : Opening) (n k m : ℕ) (before rows : List Row) → EachAfter (MayFollow limits opening) before rows → AreIds 0 n opening.list
    → log_of before ≡ first_withdrawn k → calls_of rows ≡ map calls.Withdraw (range_with_len k m) → k + m ≤ n → n < limits.log → Told before rows m 0 (first_withdrawn (k + m))
withdraw_rows limits opening n k zero before [] each ids log made few room = record {
  accepted_are = refl;
  hits_are = refl;
  log_is = ap log_of (append-nil before) ∙ log ∙ (let same : k ≡ k + 0 = omega arith in ap first_withdrawn same);
}
withdraw_rows limits opening n k zero before (row ∷ rows) each ids log made few room = absurd (cc)
withdraw_rows limits opening n k (suc m) before [] each ids log made few room = absurd (cc)
withdraw_rows limits opening n k (suc m) before (row ∷ rows) each ids log made few room =
    let follows : MayFollow limits opening before row = each.0 in
    let call : row.call ≡ calls.Withdraw k = cc in
    let said : Replies limits opening (first_withdrawn k) (calls.Withdraw k) row.reply = subst (λ us. Replies limits opening us (calls.Withdraw k) row.reply) log (subst (λ c. Replies limits opening (log_of before) c row.reply) call follows.reply) in
    let reply = withdrawn_told limits opening (first_withdrawn k) k row.reply (omega (arith, few, room, length-map-range_with_len Wd 0 k)) (next_live opening n k ids (omega (arith, few))) said in
    let update : update_of row.call row.reply ≡ Some (Wd k) = ap₂ update_of call reply in
    let next = log_next before row (Some (Wd k)) (first_withdrawn k) (first_withdrawn (k + 1)) log update (sym (map-range_with_len_more Wd 0 k k (omega arith))) in
    let rest = withdraw_rows limits opening n (k + 1) m (before ++ row ∷ []) rows each.1 ids next (ap (drop 1) made) (omega (arith, few)) room in
    let told = told_more before row rows m 0 (first_withdrawn (k + 1 + m)) rest in
    let one : one_if (is_accepted row) ≡ 1 = ap (λ o. one_if (is_some o)) update in
    let none : hit_count row.reply ≡ 0 = ap hit_count reply in
    let same : k + 1 + m ≡ k + suc m = omega arith in
    record {
      accepted_are = omega (arith, told.accepted_are, one);
      hits_are = omega (arith, told.hits_are, none);
      log_is = told.log_is ∙ ap first_withdrawn same;
    }

-- how many declarations of an opening are near a unit
abbrev pub near_count : Opening → Unit64 → ℕ
near_count opening unit = count_by (is_near unit 1) opening.list

-- a query has so many hits, and changes nothing
record Asked (opening : Opening) (unit : Unit64) (reply : Reply) : Type 0 where
  hits_are : hit_count reply ≡ near_count opening unit
  changes : update_of (calls.Near unit 1) reply ≡ None

near_told : (limits : Limits) (opening : Opening) (unit : Unit64) (reply : Reply) → Replies limits opening [] (calls.Near unit 1) reply → Asked opening unit reply
near_told limits opening unit (replies.Hits hits) h =
    let near = filter (is_near unit 1) (live opening []) in
    let all = length_permutation (map (hit_of unit) near) hits h.1.exactly in
    record {
      hits_are = omega (arith, all, length-map near (hit_of unit), length-filter (is_near unit 1) (live opening []), ap (count_by (is_near unit 1)) (live-start opening));
      changes = refl;
    }
near_told limits opening unit reply h = absurd h

-- rows that ask, and withdraw then
pub second_rows : (limits : Limits) (opening : Opening) (n m : ℕ) (units : List Unit64) (before rows : List Row) → EachAfter (MayFollow limits opening) before rows → AreIds 0 n opening.list
    → log_of before ≡ [] → calls_of rows ≡ map (λ unit. calls.Near unit 1) units ++ map calls.Withdraw (range_with_len 0 m) → m ≤ n → n < limits.log
    → Told before rows m (sum_by (near_count opening) units) (first_withdrawn m)
second_rows limits opening n m [] before rows each ids log made few room =
    let told = withdraw_rows limits opening n 0 m before rows each ids log made (omega (arith, few)) room in
    let same : 0 + m ≡ m = omega arith in
    record { accepted_are = told.accepted_are; hits_are = told.hits_are; log_is = told.log_is ∙ ap first_withdrawn same }
second_rows limits opening n m (unit ∷ units) before [] each ids log made few room = absurd (cc)
second_rows limits opening n m (unit ∷ units) before (row ∷ rows) each ids log made few room =
    let follows : MayFollow limits opening before row = each.0 in
    let call : row.call ≡ calls.Near unit 1 = cc in
    let said : Replies limits opening [] (calls.Near unit 1) row.reply = subst (λ us. Replies limits opening us (calls.Near unit 1) row.reply) log (subst (λ c. Replies limits opening (log_of before) c row.reply) call follows.reply) in
    let asked = near_told limits opening unit row.reply said in
    let update : update_of row.call row.reply ≡ None = ap (λ c. update_of c row.reply) call ∙ asked.changes in
    let next : log_of (before ++ row ∷ []) ≡ [] = log_next before row None [] [] log update refl in
    let rest = second_rows limits opening n m units (before ++ row ∷ []) rows each.1 ids next (ap (drop 1) made) few room in
    let told = told_more before row rows m (sum_by (near_count opening) units) (first_withdrawn m) rest in
    let none : one_if (is_accepted row) ≡ 0 = ap (λ o. one_if (is_some o)) update in
    record {
      accepted_are = omega (arith, told.accepted_are, none);
      hits_are = omega (arith, told.hits_are, asked.hits_are, sum_by-cons (near_count opening) unit units);
      log_is = told.log_is;
    }
