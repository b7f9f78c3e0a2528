-- The round that goes on: what its next line owes, and what one line more does.
use Rattle.std.proofs.Common.{◌≡◌, ◌≢◌, inl, inr, ℕ, zero, suc, ◌+◌, ◌-◌, ◌<◌, ◌≤◌, Bool, true, false, cond, List, [], ◌∷◌, ◌++◌, length, get_or, set, Option, Some, None, refl, sym, ◌∙◌, ap, ap₂, subst, arith, length-append, get_or-set_other, get_or-set_same}
use Rattle.std.specs.Prelude.{◌↔◌, ◌==◌, IsTrue, IfSome, is_some, option_map, nat_lt, nat_le, All, sum_by}
use Rattle.std.specs.List.{AllByRecursion}
use Rattle.std.specs.Option.{option_to_list}
use Rattle.std.specs.Ordering.{is_lt, nat_cmp, bool_cmp, ordering_then}
use Rattle.std.specs.declared.cmp.Ordering.{Ordering}
use Rattle.std.specs.declared.cmp.Ordering.TheVariants.{Less, Equal, Greater}
use Rattle.std.proofs.lemmas.Bool.{true≢false}
use Rattle.std.proofs.lemmas.Bool.Decides.{nat_tests, eqb_tells}
use Rattle.std.proofs.lemmas.Option.{same_Some}
use mir.Val.{bool_byte}
use Rattle.std.proofs.lemmas.List.{length_push, get_or_default}
use Rattle.std.proofs.lemmas.List.Elements.{filter-append}
use Rattle.std.proofs.lemmas.List.Sums.{sum_by_push}
use Rattle.reg_model.specs.declared.call.Call.{Call}
use Rattle.reg_model.specs.declared.call.Call.TheVariants as calls
use Rattle.reg_model.specs.declared.reply.Reply.{Reply}
use Rattle.reg_model.specs.declared.reply.Reply.TheVariants as replies
use Rattle.reg_model.specs.declared.reply.Row.{Row}
use Rattle.reg_model.specs.declared.update.Update.{Update}
use Rattle.reg_model.specs.declared.update.Declared.{Declared}
use Rattle.reg_model.specs.Opening.{Opening, IsOpening, IsRising}
use Rattle.reg_model.specs.Live.{live, opening_after}
use Rattle.reg_model.proofs.LiveSteps.{current_opening}
use Rattle.reg_model.specs.Registry.{Registry}
use Rattle.reg_model.specs.Replies.{Replies}
use Rattle.reg_model.specs.Rows.{update_of, is_accepted, log_of, session_rows, row_cmp}
use Rattle.reg_model.specs.Runs.{RoundRows, closing}
use Rattle.reg_model.proofs.RowSteps.{last-push, log_of-push}
use Rattle.reg_model.proofs.MergeSteps.{refused_cmp}
use Rattle.reg_model.specs.Calls.{IsRequest}
use Rattle.reg_history.specs.declared.lines.told.ToldRow.{ToldRow}
use Rattle.reg_history.specs.declared.lines.told.ToldRound.{ToldRound}
use Rattle.reg_history.specs.declared.check.fault.CheckWhy.{CheckWhy}
use Rattle.reg_history.specs.declared.check.serving.LastRow.{LastRow}
use Rattle.reg_history.specs.declared.check.fault.CheckWhy.TheVariants as why
use Rattle.reg_history.specs.lines.HistoryLines.{told_limits, row_in, reply_in, IsToldRowValue}
use Rattle.reg_history.specs.check.Checking.{begun, OpensRound, RowOwes, HasEndNumbers, rank}
use Rattle.reg_history.specs.inner.Ledgers.{LedgerParts, Keeps, MayAdd}
use Rattle.reg_history.specs.inner.Serving.{ServingParts, last_of, registry_of, KeepsRun, longer, HasRoom, RowStands, RowFails}
use Rattle.reg_history.proofs.check.LinesToHistory.{closing-push}

-- ---- the order of rows

less_than : (o : Ordering) → IsTrue (is_lt o) ↔ (o ≡ Less)
less_than Less = (λ h. refl, λ h. refl)
less_than Equal = (λ h. absurd (true≢false (sym h)), λ h. absurd (true≢false (sym (ap is_lt h))))
less_than Greater = (λ h. absurd (true≢false (sym h)), λ h. absurd (true≢false (sym (ap is_lt h))))

-- by point, accepted rows before others, then by session and number
abbrev pub last_cmp : LastRow → LastRow → Ordering
last_cmp a b = ordering_then (nat_cmp a.point b.point) (ordering_then (bool_cmp a.refused b.refused) (ordering_then (nat_cmp a.session b.session) (nat_cmp a.number b.number)))

pub comes_after : (last next : LastRow) (t : Bool) (order : Ordering) → t ≡ is_lt order → order ≡ last_cmp last next
    → (a b : Row) → last ≡ last_of a → next ≡ last_of b → IsTrue t ↔ (row_cmp a b ≡ Less)
comes_after last next t order test is a b first second =
    let same : last_cmp (last_of a) (last_of b) ≡ row_cmp a b =
    ap (λ o. ordering_then (nat_cmp a.point b.point) (ordering_then o (ordering_then (nat_cmp a.session b.session) (nat_cmp a.number b.number)))) (refused_cmp (is_accepted a) (is_accepted b)) in
    let whole : order ≡ row_cmp a b = is ∙ ap₂ last_cmp first second ∙ same in
    let both = less_than order in
    (λ h. sym whole ∙ both.0 (sym test ∙ h), λ h. test ∙ both.1 (whole ∙ h))

pub after_some : (found : Option Row) (last : LastRow) (t : Bool) (b : Row) → Some last ≡ option_map last_of found → ((a : Row) → last ≡ last_of a → IsTrue t ↔ (row_cmp a b ≡ Less))
    → IsTrue t ↔ IfSome found (λ a. row_cmp a b ≡ Less)
after_some None last t b is each = absurd (cc)
after_some (Some a) last t b is each = each a (same_Some last (last_of a) is)

-- ---- the ids of carry lines

abbrev id_at : List Declared → ℕ → Declared → ℕ
id_at list k d = (get_or list k d).id

pub all_below_last : (list : List Declared) (base : ℕ) (last : Declared) → 1 ≤ length list → last ≡ get_or list (length list - 1) last → IsRising list
    → IsTrue (nat_lt last.id base) ↔ All (λ (d : Declared). d.id < base) list
all_below_last list base last some is rising = (
  λ h k d inside.
      let low : last.id < base = grind (arith, nat_tests, h) in
      elim (eqb_tells k (length list - 1)) [
        | inl is ↦ omega (arith, at_end k d inside is.1, low)
        | inr other ↦ let lt : k < length list - 1 = omega (arith, inside, other.1) in omega (arith, before k d inside lt, low)
      ],
  λ all.
      let here : last.id < base = subst (λ (d : Declared). d.id < base) (sym is) (all (length list - 1) last (omega (arith, some))) in
      grind (arith, nat_tests, here),
)
  where
    at_end : (k : ℕ) (d : Declared) → k < length list → k ≡ length list - 1 → id_at list k d ≡ last.id
    at_end k d inside end = ap (λ (e : Declared). e.id) (get_or_default list k d last inside ∙ ap (λ n. get_or list n last) end ∙ sym is)

    before : (k : ℕ) (d : Declared) → k < length list → k < length list - 1 → id_at list k d < last.id
    before k d inside lt =
        let up = rising k (length list - 1) last lt (omega (arith, inside)) in
        let same : id_at list k d ≡ id_at list k last = ap (λ (e : Declared). e.id) (get_or_default list k d last inside) in
        let end : id_at list (length list - 1) last ≡ last.id = ap (λ (e : Declared). e.id) (sym is) in
        omega (arith, up, same, end)

-- ---- the point of a row

one_if_some : {X : Type 0} (o : Option X) → length (option_to_list o) ≡ bool_byte (is_some o)
one_if_some None = refl
one_if_some (Some x) = refl

-- how many updates there are with the row's
next_length : (rows : List Row) (row : ToldRow) → length (log_of (rows ++ row_in row ∷ [])) ≡ length (log_of rows) + bool_byte (is_some (update_of row.call (reply_in row.reply)))
next_length rows row =
    let update = update_of row.call (reply_in row.reply) in
    omega (arith, ap length (log_of-push rows (row_in row)), length-append (log_of rows) (option_to_list update), one_if_some update)

pub point_owed : (opening : Opening) (now : RoundRows) (row : ToldRow) (here end : ℕ) (accepted : Bool) (update : Option Update)
    → update ≡ update_of row.call (reply_in row.reply) → accepted ≡ is_some update → here ≡ opening.base + length (log_of now.rows) → end ≡ opening.base + now.limits.log → row.point ≡ here + bool_byte accepted
    → IsTrue (nat_le row.point end) ↔ RowOwes opening now row why.Point
point_owed opening now row here end accepted update is some at last point =
    let next = next_length now.rows row in
    let same : bool_byte accepted ≡ bool_byte (is_some (update_of row.call (reply_in row.reply))) = ap bool_byte (some ∙ ap is_some is) in
    let first : row.point ≡ opening.base + length (log_of (now.rows ++ row_in row ∷ [])) = omega (arith, point, at, next, same) in (
      λ h. let low : row.point ≤ end = grind (arith, nat_tests, h) in (first, omega (arith, low, last)),
      λ owed. let low : row.point ≤ end = omega (arith, owed.1, last) in grind (arith, nat_tests, low),
    )

pub point_wrong : (opening : Opening) (now : RoundRows) (row : ToldRow) (here : ℕ) (accepted : Bool) (update : Option Update) (t : Bool)
    → update ≡ update_of row.call (reply_in row.reply) → accepted ≡ is_some update → here ≡ opening.base + length (log_of now.rows) → (row.point ≡ here + bool_byte accepted → ⊥) → t ≡ false
    → IsTrue t ↔ RowOwes opening now row why.Point
point_wrong opening now row here accepted update t is some at other wrong =
    let next = next_length now.rows row in
    let same : bool_byte accepted ≡ bool_byte (is_some (update_of row.call (reply_in row.reply))) = ap bool_byte (some ∙ ap is_some is) in (
      λ h. absurd (true≢false (sym h ∙ wrong)),
      λ owed. absurd (other (omega (arith, owed.0, at, next, same))),
    )

-- ---- the end line

abbrev pub rows_in : RoundRows → ℕ
rows_in round = length round.rows

pub eq_test : (m n : ℕ) → IsTrue (m == n) ↔ (m ≡ n)
eq_test m n = (λ h. grind (arith, nat_tests, h), λ e. grind (arith, nat_tests, e))

pub ends_owed : (parts : ServingParts) (opening : Opening) (ended : List RoundRows) (now : RoundRows) (rows live_rows : ℕ) (t : Bool) → KeepsRun parts opening ended now
    → (IsTrue t ↔ ((rows ≡ parts.rows) × (live_rows ≡ length (live (closing opening ended) (log_of now.rows))))) → IsTrue t ↔ HasEndNumbers opening (ended ++ now ∷ []) rows live_rows
ends_owed parts opening ended now rows live_rows t s both =
    let total : parts.rows ≡ sum_by rows_in (ended ++ now ∷ []) = omega (arith, s.rows, sum_by_push rows_in ended now) in
    let left : length (live (closing opening ended) (log_of now.rows)) ≡ length (closing opening (ended ++ now ∷ [])).list = ap (λ (o : Opening). length o.list) (sym (closing-push opening ended now)) in (
      λ h. let is = both.0 h in record { rows_are = is.0 ∙ total; live_are = is.1 ∙ left },
      λ e. both.1 (e.rows_are ∙ sym total, e.live_are ∙ sym left),
    )

-- ---- one row more

may : (r : Registry) (call : Call) (reply : Reply) → IsRequest call → Replies r.limits r.opening r.log call reply → length r.log + length (option_to_list (update_of call reply)) ≤ r.limits.log
    → IfSome (update_of call reply) (MayAdd r)
may r (calls.Declare unit) (replies.Id id) value h room = (omega (arith, room), h.1, value.kind)
may r (calls.Withdraw id) (replies.Withdrawn other) value h room = (omega (arith, room), h.1)
may r call reply value h room = tt

-- a row that stands makes an update that may be added
pub row_may : (opening : Opening) (ended : List RoundRows) (now : RoundRows) (row : ToldRow) → IsToldRowValue row → RowStands (closing opening ended) now row
    → IfSome (update_of row.call (reply_in row.reply)) (MayAdd (registry_of opening ended now))
row_may opening ended now row value stands =
    let point = stands why.Point in
    let reply = stands why.Reply in
    let update = update_of row.call (reply_in row.reply) in
    may (registry_of opening ended now) row.call (reply_in row.reply) value.call reply.0
    (omega (arith, point.0, point.1, ap length (log_of-push now.rows (row_in row)), length-append (log_of now.rows) (option_to_list update)))

abbrev with_row : ServingParts → ToldRow → LastRow → LedgerParts → ServingParts
with_row parts row last ledger = record {
  ended = parts.ended;
  rows = parts.rows + 1;
  counts = set parts.counts row.session (get_or parts.counts row.session 0 + 1);
  last = Some last;
  ledger = ledger;
}

-- the rows of a session, with one row more
own_more : (rows : List Row) (row : Row) (session : ℕ) → row.session ≡ session → length (session_rows session (rows ++ row ∷ [])) ≡ length (session_rows session rows) + 1
own_more rows row session own =
    let test : (row.session == session) ≡ true = grind (arith, nat_tests, own) in
    ap length (filter-append (λ (r : Row). r.session == session) rows (row ∷ []) ∙ ap (λ b. session_rows session rows ++ cond b (row ∷ []) []) test) ∙ length_push (session_rows session rows) row

other_same : (rows : List Row) (row : Row) (session : ℕ) → row.session ≢ session → length (session_rows session (rows ++ row ∷ [])) ≡ length (session_rows session rows)
other_same rows row session other =
    let test : (row.session == session) ≡ false = grind (arith, nat_tests, other) in
    ap length (filter-append (λ (r : Row). r.session == session) rows (row ∷ [])) ∙ ap length (ap (λ b. session_rows session rows ++ cond b (row ∷ []) []) test)
    ∙ omega (arith, length-append (session_rows session rows) [])

pub serves_longer : (parts : ServingParts) (opening : Opening) (ended : List RoundRows) (now : RoundRows) (row : ToldRow) (update : Option Update) (last : LastRow) (ledger : LedgerParts) → KeepsRun parts opening ended now
    → row.session < length parts.counts → update ≡ update_of row.call (reply_in row.reply) → last ≡ last_of (row_in row)
    → (let r = registry_of opening ended now in Keeps ledger (record r { log = r.log ++ option_to_list update }))
    → RowStands (closing opening ended) now row → KeepsRun (with_row parts row last ledger) opening ended (longer now row)
serves_longer parts opening ended now row update last ledger s inside is end kept stands = record {
  rounds = s.rounds;
  rows = omega (arith, s.rows, length_push now.rows (row_in row));
  counts = λ session low. counted session low;
  last = ap Some end ∙ ap (option_map last_of) (sym (last-push now.rows (row_in row)));
  ledger =
      subst (λ us. Keeps ledger (record { limits = now.limits; opening = closing opening ended; log = us }))
      (ap (λ o. log_of now.rows ++ option_to_list o) is ∙ sym (log_of-push now.rows (row_in row))) kept;
}
  where
    counted : (session : ℕ) → session < now.limits.callers → get_or (set parts.counts row.session (get_or parts.counts row.session 0 + 1)) session 0 ≡ length (session_rows session (now.rows ++ row_in row ∷ []))
    counted session low =
        elim (eqb_tells row.session session) [
          | inl tells ↦
              let own : row.session ≡ session = tells.1 in
              let before = s.counts session low in
              let here : get_or (set parts.counts row.session (get_or parts.counts row.session 0 + 1)) row.session 0 ≡ get_or parts.counts row.session 0 + 1 = get_or-set_same parts.counts row.session (get_or parts.counts row.session 0 + 1) 0 inside in
              omega (arith, before, here, own_more now.rows (row_in row) session own, ap (λ n. get_or (set parts.counts row.session (get_or parts.counts row.session 0 + 1)) n 0) own, ap (λ n. get_or parts.counts n 0) own)
          | inr tells ↦
              let apart : session ≢ row.session = λ e. tells.1 (sym e) in
              get_or-set_other parts.counts row.session session (get_or parts.counts row.session 0 + 1) 0 apart ∙ s.counts session low ∙ sym (other_same now.rows (row_in row) session tells.1)
        ]

-- the same parts
pub serves_same : (parts other : ServingParts) (opening : Opening) (ended : List RoundRows) (now : RoundRows) → other ≡ parts → KeepsRun parts opening ended now → KeepsRun other opening ended now
serves_same parts other opening ended now is s = subst (λ p. KeepsRun p opening ended now) (sym is) s

-- what a row owes, cause by cause
pub stands_all : (opening : Opening) (now : RoundRows) (row : ToldRow) → RowOwes opening now row why.Session → RowOwes opening now row why.Order → RowOwes opening now row why.Point
    → RowOwes opening now row why.Reply → RowStands opening now row
stands_all opening now row session order point reply why.Form = tt
stands_all opening now row session order point reply why.Round = tt
stands_all opening now row session order point reply why.Session = session
stands_all opening now row session order point reply why.Order = order
stands_all opening now row session order point reply why.Point = point
stands_all opening now row session order point reply why.Reply = reply
stands_all opening now row session order point reply why.End = tt

pub fails_reply : (opening : Opening) (now : RoundRows) (row : ToldRow) → RowOwes opening now row why.Session → RowOwes opening now row why.Order → RowOwes opening now row why.Point
    → (RowOwes opening now row why.Reply → ⊥) → RowFails opening now row why.Reply
fails_reply opening now row session order point wrong = record { earlier = λ other lower. before other lower; this = wrong }
  where
    before : (other : CheckWhy) → rank other < rank why.Reply → RowOwes opening now row other
    before why.Form lower = tt
    before why.Round lower = tt
    before why.Session lower = session
    before why.Order lower = order
    before why.Point lower = point
    before why.Reply lower = absurd (omega (arith, lower))
    before why.End lower = tt

-- ---- the next round

-- what the next round begins with
next_opens : (parts : ServingParts) (opening : Opening) (ended : List RoundRows) (now : RoundRows) → KeepsRun parts opening ended now → IsOpening (closing opening (ended ++ now ∷ []))
next_opens parts opening ended now s =
    let ledger = s.ledger in
    subst IsOpening (sym (closing-push opening ended now))
    (current_opening (registry_of opening ended now) (live (closing opening ended) (log_of now.rows)) parts.ledger.withdrawn _ ledger.current refl)

-- the line of the next round can stand where its numbers are these
pub opens_next : (parts : ServingParts) (opening : Opening) (ended : List RoundRows) (now : RoundRows) (told : ToldRound) (point count : ℕ) → KeepsRun parts opening ended now
    → point ≡ (closing opening ended).base + length (log_of now.rows) → count ≡ length (live (closing opening ended) (log_of now.rows))
    → told.number < 8 → told.number ≡ parts.ended + 1 → told.base ≡ point → HasRoom told count → OpensRound (closing opening (ended ++ now ∷ [])) (length ended + 1) told
opens_next parts opening ended now told point count s at many few number base room =
    let same = closing-push opening ended now in record {
      number = omega (arith, number, s.rounds);
      few = omega (arith, number, few, s.rounds);
      base = base ∙ at ∙ ap (λ (o : Opening). o.base) (sym same);
      opens = next_opens parts opening ended now s;
      sizes = room.sizes;
      room = omega (arith, room.room, many, ap (λ (o : Opening). length o.list) same);
      ids = room.ids;
    }

-- and only there
pub record IsNextLine (parts : ServingParts) (told : ToldRound) (point count : ℕ) : Type 0 where
  pub number : told.number ≡ parts.ended + 1
  pub few : told.number < 8
  pub base : told.base ≡ point
  pub room : HasRoom told count

pub next_line_of : (parts : ServingParts) (opening : Opening) (ended : List RoundRows) (now : RoundRows) (told : ToldRound) (point count : ℕ) → KeepsRun parts opening ended now
    → point ≡ (closing opening ended).base + length (log_of now.rows) → count ≡ length (live (closing opening ended) (log_of now.rows))
    → OpensRound (closing opening (ended ++ now ∷ [])) (length ended + 1) told → IsNextLine parts told point count
next_line_of parts opening ended now told point count s at many opens =
    let same = closing-push opening ended now in record {
      number = omega (arith, opens.number, s.rounds);
      few = omega (arith, opens.number, opens.few);
      base = opens.base ∙ ap (λ (o : Opening). o.base) same ∙ sym at;
      room = record { sizes = opens.sizes; room = omega (arith, opens.room, many, ap (λ (o : Opening). length o.list) same); ids = opens.ids };
    }

-- a test that failed
pub never : (P : Type 0) → (P → ⊥) → IsTrue false ↔ P
never P wrong = (λ h. absurd (true≢false (sym h)), λ p. absurd (wrong p))

pub always : (P : Type 0) → P → IsTrue true ↔ P
always P p = (λ h. p, λ q. refl)

all_zero : (xs : List ℕ) → AllByRecursion {X = ℕ} (λ x. x ≡ 0) xs → (k : ℕ) → get_or xs k 0 ≡ 0
all_zero [] all k = refl
all_zero (x ∷ xs) all zero = all.0
all_zero (x ∷ xs) all (suc k) = all_zero xs all.1 k

pub sixteen_zeros : AllByRecursion {X = ℕ} (λ x. x ≡ 0) (0 ∷ 0 ∷ 0 ∷ 0 ∷ 0 ∷ 0 ∷ 0 ∷ 0 ∷ 0 ∷ 0 ∷ 0 ∷ 0 ∷ 0 ∷ 0 ∷ 0 ∷ 0 ∷ [])
sixteen_zeros = (refl, (refl, (refl, (refl, (refl, (refl, (refl, (refl, (refl, (refl, (refl, (refl, (refl, (refl, (refl, (refl, tt))))))))))))))))

-- a round without rows
pub serves_begun : (parts : ServingParts) (opening : Opening) (ended : List RoundRows) (now : RoundRows) (told : ToldRound) (counts : List ℕ) (ledger : LedgerParts) → KeepsRun parts opening ended now
    → AllByRecursion {X = ℕ} (λ x. x ≡ 0) counts → Keeps ledger (record { limits = told_limits told; opening = opening_after (closing opening ended) (log_of now.rows); log = [] })
    → KeepsRun (record { ended = parts.ended + 1; rows = parts.rows; counts = counts; last = None; ledger = ledger }) opening (ended ++ now ∷ []) (begun told)
serves_begun parts opening ended now told counts ledger s zeros kept = record {
  rounds = omega (arith, s.rounds, length_push ended now);
  rows = omega (arith, s.rows, sum_by_push rows_in ended now);
  counts = λ session low. all_zero counts zeros session;
  last = refl;
  ledger = subst (λ (o : Opening). Keeps ledger (record { limits = told_limits told; opening = o; log = [] })) (sym (closing-push opening ended now)) kept;
}
