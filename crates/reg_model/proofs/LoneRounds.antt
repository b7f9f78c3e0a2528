-- A round with one session is told by its calls.
use Rattle.std.proofs.Common.{◌≡◌, ℕ, ◌+◌, ◌<◌, ◌≤◌, true, false, not, ◌==◌, List, [], ◌∷◌, ◌++◌, map, length, drop, Option, Some, None, refl, sym, ◌∙◌, ap, ap₂, subst, append-nil, arith}
use Rattle.std.specs.Prelude.{All, IsSome, is_none}
use Rattle.std.specs.List.{AllByRecursion}
use Rattle.std.specs.Option.{option_to_list}
use Rattle.std.proofs.lemmas.Bool.{true≢false}
use Rattle.std.proofs.lemmas.Bool.Decides.{nat_tests}
use Rattle.std.proofs.lemmas.List.Elements.{recursion_from_All}
use Rattle.iscc_header.specs.declared.unit.Unit64.{Unit64}
use Rattle.reg_model.specs.declared.update.Update.{Update}
use Rattle.reg_model.specs.declared.update.Update.TheVariants.{Decl, Wd}
use Rattle.reg_model.specs.declared.update.Declared.{Declared}
use Rattle.reg_model.specs.declared.call.Call.{Call}
use Rattle.reg_model.specs.declared.call.Call.TheVariants as calls
use Rattle.reg_model.specs.declared.reply.Reply.{Reply}
use Rattle.reg_model.specs.declared.reply.Reply.TheVariants as replies
use Rattle.reg_model.specs.declared.reply.FullCause.TheVariants.{Log, Entries}
use Rattle.reg_model.specs.declared.reply.Row.{Row}
use Rattle.reg_model.specs.Limits.{Limits}
use Rattle.reg_model.specs.Opening.{Opening, IsOpening}
use Rattle.reg_model.specs.Live.{live, live_at, IsLive, withdrawals}
use Rattle.reg_model.specs.Replies.{AllEntriesHeld, Replies}
use Rattle.reg_model.specs.Rows.{update_of, log_of, session_rows, MayFollow, EachAfter, IsLawful, AsksLogFirst}
use Rattle.reg_model.specs.Registry.{Registry, declare_reply, withdraw_reply}
use Rattle.reg_model.proofs.Rising.{at_found}
use Rattle.reg_model.proofs.LiveSteps.{IsBalanced, balanced_start, balanced_declare, balanced_withdraw}
use Rattle.reg_model.proofs.RowSteps.{log_of-push}
use Rattle.reg_model.proofs.LawfulOrder.{next_point}
use Rattle.reg_model.proofs.SortedHits.{one_list}

-- ---- the counts of a log

-- a withdrawal is of a live id
abbrev IsOfLive : Opening → List Update → Option Update → Type 0
IsOfLive opening log None = Unit {0}
IsOfLive opening log (Some (Decl unit)) = Unit {0}
IsOfLive opening log (Some (Wd id)) = IsLive opening log id

of_live : (limits : Limits) (opening : Opening) (log : List Update) (call : Call) (reply : Reply) → Replies limits opening log call reply → IsOfLive opening log (update_of call reply)
of_live limits opening log (calls.Declare unit) (replies.Id id) h = tt
of_live limits opening log (calls.Withdraw id) (replies.Withdrawn other) h = h.1
of_live limits opening log call reply h = tt

balanced_next : (opening : Opening) (log : List Update) (update : Option Update) → IsOpening opening → IsOfLive opening log update → IsBalanced opening log
    → IsBalanced opening (log ++ option_to_list update)
balanced_next opening log None opens is h = subst (IsBalanced opening) (sym (append-nil log)) h
balanced_next opening log (Some (Decl unit)) opens is h = balanced_declare opening log unit h
balanced_next opening log (Some (Wd id)) opens is h = let found = at_found id (live opening log) is in balanced_withdraw opening log id found.0 opens found.1 h

-- ---- the one reply

-- the reply to a call after the log, where the log is asked before the entries
record IsNext (limits : Limits) (opening : Opening) (log : List Update) (call : Call) (reply : Reply) : Type 0 where
  lawful : Replies limits opening log call reply
  within : length log + length (option_to_list (update_of call reply)) ≤ limits.log
  first : (given : ℕ) → reply ≡ replies.Full (Entries given) → length log < limits.log

-- with one caller all entries are held by live declarations
all_live : (limits : Limits) (opening : Opening) (log : List Update) (given : ℕ) → limits.callers ≡ 1 → IsBalanced opening log → AllEntriesHeld limits opening log given
    → (given ≡ withdrawals log) × (length (live opening log) ≡ limits.entries)
all_live limits opening log given lone h held =
    let counted = held.alone lone in
    (counted, omega (arith, lone, counted, h.balance, held.taken, held.in_hands))

abbrev registry : Limits → Opening → List Update → Registry
registry limits opening log = record { limits = limits; opening = opening; log = log }

equal_test : (m n : ℕ) → m ≡ n → (m == n) ≡ true
equal_test m n h = grind (arith, nat_tests)

less_test : (m n : ℕ) → m < n → (m == n) ≡ false
less_test m n h = grind (arith, nat_tests)

declare_told : (limits : Limits) (opening : Opening) (log : List Update) (unit : Unit64) (reply : Reply) → limits.callers ≡ 1 → IsBalanced opening log
    → IsNext limits opening log (calls.Declare unit) reply → reply ≡ declare_reply (registry limits opening log)
declare_told limits opening log unit (replies.Id id) lone h next =
    let room = less_test (length log) limits.log (omega (arith, next.within)) in
    let entry = less_test (length (live opening log)) limits.entries next.lawful.1 in
    rw (room, entry) (ap replies.Id next.lawful.0)
declare_told limits opening log unit (replies.Full Log) lone h next = rw (equal_test (length log) limits.log next.lawful) refl
declare_told limits opening log unit (replies.Full (Entries given)) lone h next =
    let room = less_test (length log) limits.log (next.first given refl) in
    let held = all_live limits opening log given lone h next.lawful in
    rw (room, equal_test (length (live opening log)) limits.entries held.1) (ap (λ n. replies.Full (Entries n)) held.0)
declare_told limits opening log unit reply lone h next = absurd next.lawful

none_or_some : (o : Option Declared) → IsSome o → is_none o ≡ false
none_or_some None h = absurd (true≢false (sym h))
none_or_some (Some d) h = refl

withdraw_told : (limits : Limits) (opening : Opening) (log : List Update) (id : ℕ) (reply : Reply)
    → IsNext limits opening log (calls.Withdraw id) reply → reply ≡ withdraw_reply (registry limits opening log) id
withdraw_told limits opening log id (replies.Withdrawn other) next =
    let there = none_or_some (live_at opening log id) next.lawful.1 in
    let room = less_test (length log) limits.log (omega (arith, next.within)) in
    rw (there, room) (ap replies.Withdrawn next.lawful.0)
withdraw_told limits opening log id (replies.Full Log) next =
    let there = none_or_some (live_at opening log id) next.lawful.1 in
    rw (there, equal_test (length log) limits.log next.lawful.0) refl
withdraw_told limits opening log id (replies.Absent other) next =
    let none : is_none (live_at opening log id) ≡ true = ap not next.lawful.1 in
    rw none (ap replies.Absent next.lawful.0)
withdraw_told limits opening log id reply next = absurd next.lawful

near_told : (limits : Limits) (opening : Opening) (log : List Update) (unit : Unit64) (radius : ℕ) (a b : Reply)
    → Replies limits opening log (calls.Near unit radius) a → Replies limits opening log (calls.Near unit radius) b → a ≡ b
near_told limits opening log unit radius (replies.Hits xs) (replies.Hits ys) h k = ap replies.Hits (one_list (live opening log) unit radius xs ys h.1 k.1)
near_told limits opening log unit radius (replies.Hits xs) b h k = absurd k
near_told limits opening log unit radius a b h k = absurd h

one_reply : (limits : Limits) (opening : Opening) (log : List Update) (call : Call) (a b : Reply) → limits.callers ≡ 1 → IsBalanced opening log
    → IsNext limits opening log call a → IsNext limits opening log call b → a ≡ b
one_reply limits opening log (calls.Declare unit) a b lone h x y = declare_told limits opening log unit a lone h x ∙ sym (declare_told limits opening log unit b lone h y)
one_reply limits opening log (calls.Withdraw id) a b lone h x y = withdraw_told limits opening log id a x ∙ sym (withdraw_told limits opening log id b y)
one_reply limits opening log (calls.Near unit radius) a b lone h x y = near_told limits opening log unit radius a b x.lawful y.lawful
one_reply limits opening log (calls.Show id) a b lone h x y = x.lawful ∙ sym y.lawful
one_reply limits opening log calls.Count a b lone h x y = x.lawful ∙ sym y.lawful
one_reply limits opening log (calls.After point) a b lone h x y = x.lawful ∙ sym y.lawful

-- ---- rows

is_next : (limits : Limits) (opening : Opening) (before : List Row) (row : Row) → MayFollow limits opening before row → AsksLogFirst limits opening row
    → IsNext limits opening (log_of before) row.call row.reply
is_next limits opening before row follows asks =
    let at = next_point limits opening before row follows in
    record {
      lawful = follows.reply;
      within = omega (arith, at, follows.within);
      first = λ given is. omega (arith, at, asks given is);
    }

abbrev row_made : ℕ → ℕ → Call → ℕ → Reply → Row
row_made session number call point reply = record { session = session; number = number; call = call; point = point; reply = reply }

same_row : (a b : Row) → a.session ≡ b.session → a.number ≡ b.number → a.call ≡ b.call → a.point ≡ b.point → a.reply ≡ b.reply → a ≡ b
same_row a b session number call point reply =
    ap (λ s. row_made s a.number a.call a.point a.reply) session
    ∙ ap (λ n. row_made b.session n a.call a.point a.reply) number
    ∙ ap (λ c. row_made b.session b.number c a.point a.reply) call
    ∙ ap (λ p. row_made b.session b.number b.call p a.reply) point
    ∙ ap (λ r. row_made b.session b.number b.call b.point r) reply

-- rows that may stand next and have the same call
one_row : (limits : Limits) (opening : Opening) (before : List Row) (a b : Row) → limits.callers ≡ 1 → IsBalanced opening (log_of before)
    → MayFollow limits opening before a → MayFollow limits opening before b → AsksLogFirst limits opening a → AsksLogFirst limits opening b → a.call ≡ b.call → a ≡ b
one_row limits opening before a b lone h x y asks asks' call =
    let log = log_of before in
    let session : a.session ≡ b.session = omega (arith, lone, x.session, y.session) in
    let number : a.number ≡ b.number = x.number ∙ ap (λ s. length (session_rows s before)) session ∙ sym y.number in
    let other : IsNext limits opening log a.call b.reply = subst (λ c. IsNext limits opening log c b.reply) (sym call) (is_next limits opening before b y asks') in
    let reply : a.reply ≡ b.reply = one_reply limits opening log a.call a.reply b.reply lone h (is_next limits opening before a x asks) other in
    let point : a.point ≡ b.point =
    next_point limits opening before a x
    ∙ ap₂ (λ c r. opening.base + length log + length (option_to_list (update_of c r))) call reply
    ∙ sym (next_point limits opening before b y) in
    same_row a b session number call point reply

balanced_row : (limits : Limits) (opening : Opening) (before : List Row) (row : Row) → IsOpening opening → IsBalanced opening (log_of before) → MayFollow limits opening before row
    → IsBalanced opening (log_of (before ++ row ∷ []))
balanced_row limits opening before row opens h follows =
    subst (IsBalanced opening) (sym (log_of-push before row))
    (balanced_next opening (log_of before) (update_of row.call row.reply) opens (of_live limits opening (log_of before) row.call row.reply follows.reply) h)

abbrev calls_of : List Row → List Call
calls_of rows = map (λ (row : Row). row.call) rows

one_list_of_rows : (limits : Limits) (opening : Opening) (before a b : List Row) → IsOpening opening → limits.callers ≡ 1 → IsBalanced opening (log_of before)
    → EachAfter (MayFollow limits opening) before a → EachAfter (MayFollow limits opening) before b
    → AllByRecursion (AsksLogFirst limits opening) a → AllByRecursion (AsksLogFirst limits opening) b → calls_of a ≡ calls_of b → a ≡ b
one_list_of_rows limits opening before [] [] opens lone h x y asks asks' same = refl
one_list_of_rows limits opening before [] (b ∷ bs) opens lone h x y asks asks' same = absurd (cc)
one_list_of_rows limits opening before (a ∷ more) [] opens lone h x y asks asks' same = absurd (cc)
one_list_of_rows limits opening before (a ∷ more) (b ∷ bs) opens lone h x y asks asks' same =
    let call : a.call ≡ b.call = cc in
    let first : a ≡ b = one_row limits opening before a b lone h x.0 y.0 asks.0 asks'.0 call in
    let behind : EachAfter (MayFollow limits opening) (before ++ a ∷ []) bs = subst (λ r. EachAfter (MayFollow limits opening) (before ++ r ∷ []) bs) (sym first) y.1 in
    ap₂ (λ r rs. r ∷ rs) first
    (one_list_of_rows limits opening (before ++ a ∷ []) more bs opens lone (balanced_row limits opening before a opens h x.0) x.1 behind asks.1 asks'.1 (ap (drop 1) same))

pub lone_round : (limits : Limits) (opening : Opening) (a b : List Row) → IsOpening opening → limits.callers ≡ 1
    → IsLawful limits opening a → IsLawful limits opening b → All (AsksLogFirst limits opening) a → All (AsksLogFirst limits opening) b
    → calls_of a ≡ calls_of b → a ≡ b
lone_round limits opening a b opens lone x y asks asks' same =
    one_list_of_rows limits opening [] a b opens lone (balanced_start opening) x y
    (recursion_from_All (AsksLogFirst limits opening) a asks) (recursion_from_All (AsksLogFirst limits opening) b asks') same
