-- The sessions of a round: their passes by number, their seats, and what their accounts are when all calls were made.
use Rattle.std.proofs.Common.{◌≡◌, ℕ, zero, suc, ◌+◌, ◌<◌, ◌≤◌, Bool, true, false, cond, not, List, [], ◌∷◌, ◌++◌, map, length, get_or, None, Some, Result, Ok, refl, sym, ◌∙◌, ap, subst, arith, append-nil}
use Rattle.std.specs.Prelude.{All, AllPairs, IfOk, find, slice_get, take, ◌==◌, ◌||◌, if◌then◌else◌}
use Rattle.std.specs.List.{AllByRecursion, list_any, range_with_len}
use Rattle.std.specs.Option.{option_map}
use Rattle.std.proofs.lemmas.Bool.{eq-eqb, ne_eqb}
use Rattle.std.proofs.lemmas.List.{append_assoc, take_more, length-append, length-map, length-take-le, map-append, map-id}
use Rattle.std.proofs.lemmas.List.Elements.{All-nil, All-cons, All-append, All-push, All-get_or, All-from_recursion, recursion_from_All}
use Rattle.std.proofs.lemmas.List.FromFn.{length-range_with_len, get_or-range_with_len, map-range_with_len_more}
use Rattle.std.proofs.lemmas.Option.{slice_get-map, slice_get-get_or, slice_get_within, slice_get_read, get_or_from_slice_get}
use Rattle.reg_model.specs.declared.call.Call.{Call}
use Rattle.reg_model.specs.declared.desk.Closed.{Closed}
use Rattle.reg_model.specs.declared.desk.CloseWhy.TheVariants.{Missing}
use Rattle.reg_model.specs.declared.reply.Row.{Row}
use Rattle.reg_model.specs.declared.round.Round.{Round}
use Rattle.reg_model.specs.Desks.{PassView, new_pass, HasNoSnapshot, account_of, accounts_of, close_refusal, Closes}
use Rattle.reg_model.specs.Laws.{MergeToLog}
use Rattle.reg_model.specs.Limits.{Limits}
use Rattle.reg_model.specs.Merge.{AreAccounts}
use Rattle.reg_model.specs.Opening.{Opening}
use Rattle.reg_model.specs.Rows.{AsksLogFirst, IsSeenBy, all_rows}
use Rattle.reg_session.specs.declared.rounds.SessionSeat.{SessionSeat}
use Rattle.reg_session.specs.declared.rounds.SessionDone.{SessionDone}
use Rattle.reg_session.specs.Sessions.{MayBeMade, calls_made, HasMade, ServesRound}
use Rattle.reg_session.specs.inner.Rounds.{IsSeat, IsServed, ServedFrom}

-- ---- lists

abbrev behind : {X : Type 0} → List X → List X
behind [] = []
behind (x ∷ xs) = xs

-- what a loop has taken when nothing is left
pub all_taken : {X : Type 0} (taken rest whole : List X) → length rest ≡ 0 → taken ++ rest ≡ whole → taken ≡ whole
all_taken taken [] whole nothing is = sym (append-nil taken) ∙ is
all_taken taken (x ∷ rest) whole nothing is = absurd (omega (arith, nothing))

pub one_taken : {X : Type 0} (taken before after whole : List X) (x : X) → taken ++ before ≡ whole → before ≡ x ∷ after → (taken ++ x ∷ []) ++ after ≡ whole
one_taken taken before after whole x is next = append_assoc taken (x ∷ []) after ∙ (ap (λ l. taken ++ l) (sym next) ∙ is)

-- ---- passes by number

abbrev numbers : List PassView → List ℕ
numbers passes = map (λ (pass : PassView). pass.number) passes

differs : (m n : ℕ) → m < n → (m == n) ≡ false
differs m n low = ne_eqb m n (λ same. omega (arith, low, same))

passed_over : (pass : PassView) (passes : List PassView) (a n : ℕ) → pass.number < a → map (account_of (pass ∷ passes)) (range_with_len a n) ≡ map (account_of passes) (range_with_len a n)
passed_over pass passes a zero low = refl
passed_over pass passes a (suc n) low =
    λ i. (if differs pass.number a low i then pass.account else account_of passes a) ∷ passed_over pass passes (a + 1) n (omega (arith, low)) i

by_number : (passes : List PassView) (a n : ℕ) → numbers passes ≡ range_with_len a n → map (account_of passes) (range_with_len a n) ≡ map (λ (pass : PassView). pass.account) passes
by_number [] a zero are = refl
by_number [] a (suc n) are = absurd (cc (are))
by_number (p ∷ passes) a zero are = absurd (cc (are))
by_number (p ∷ passes) a (suc n) are =
    let first : p.number ≡ a = ap (λ l. get_or l 0 0) are in
    let same = eq-eqb p.number a first in
    λ i. (if same i then p.account else account_of passes a) ∷ (passed_over p passes (a + 1) n (omega (arith, first)) ∙ by_number passes (a + 1) n (ap behind are)) i

pub accounts_by_number : (passes : List PassView) (callers : ℕ) → map (λ (pass : PassView). pass.number) passes ≡ range_with_len 0 callers
    → accounts_of callers passes ≡ map (λ (pass : PassView). pass.account) passes
accounts_by_number passes callers are = by_number passes 0 callers are

any_number : (passes : List PassView) (n : ℕ) → list_any (λ (pass : PassView). pass.number == n) passes ≡ list_any (λ m. m == n) (numbers passes)
any_number [] n = refl
any_number (p ∷ passes) n = ap (λ b. (p.number == n) || b) (any_number passes n)

held : (front rest : List ℕ) (n : ℕ) → list_any (λ m. m == n) (front ++ n ∷ rest) ≡ true
held [] rest n = ap (λ b. b || list_any (λ m. m == n) rest) (eq-eqb n n refl)
held (m ∷ front) rest n = ap (λ b. (m == n) || b) (held front rest n) ∙ either (m == n)
  where
    either : (b : Bool) → (b || true) ≡ true
    either true = refl
    either false = refl

all_held : (front rest : List ℕ) → find (λ n. not (list_any (λ m. m == n) (front ++ rest))) rest ≡ None
all_held front [] = refl
all_held front (n ∷ rest) =
    ap (λ b. cond (not b) (Some n) (find (λ k. not (list_any (λ m. m == k) (front ++ n ∷ rest))) rest)) (held front rest n)
    ∙ (ap (λ (l : List ℕ). find (λ k. not (list_any (λ m. m == k) l)) rest) (sym (append_assoc front (n ∷ []) rest)) ∙ all_held (front ++ n ∷ []) rest)

pub none_missing : (passes : List PassView) (callers : ℕ) → map (λ (pass : PassView). pass.number) passes ≡ range_with_len 0 callers → close_refusal callers passes ≡ None
none_missing passes callers are =
    ap (option_map Missing)
    ((λ i. find (λ n. not (any_number passes n i)) (range_with_len 0 callers))
    ∙ (ap (λ (l : List ℕ). find (λ n. not (list_any (λ m. m == n) l)) (range_with_len 0 callers)) are ∙ all_held [] (range_with_len 0 callers)))

-- ---- the calls of a session

pub list_at : {L : Type 0} (items : L → List Call) (lists : List L) (n : ℕ) (list : L) → n < length lists → list ≡ get_or lists n list → slice_get (map items lists) n ≡ Some (items list)
list_at items lists n list low is = slice_get-map items lists n ∙ ap (option_map items) (slice_get_read lists (length lists) n list refl low is)

pub may_be_made : (lists : List (List Call)) (n : ℕ) (calls : List Call) → All MayBeMade lists → slice_get lists n ≡ Some calls → MayBeMade calls
may_be_made lists n calls all is = subst MayBeMade (get_or_from_slice_get lists n calls calls is) (All-get_or MayBeMade lists n calls (slice_get_within lists n calls is) all)

-- ---- seats

numbers_more : (n : ℕ) → range_with_len 0 n ++ n ∷ [] ≡ range_with_len 0 (n + 1)
numbers_more n =
    (λ i. sym (map-id (range_with_len 0 n)) i ++ n ∷ []) ∙ (sym (map-range_with_len_more (λ (k : ℕ). k) 0 n n (omega arith)) ∙ map-id (range_with_len 0 (n + 1)))

pub seat_more : {P : Type 0} (seats new : List (SessionSeat P)) (passes : List P) (n : ℕ) (pass : P) → new ≡ seats ++ record { number = n; pass = pass } ∷ [] → n ≡ length passes
    → map (λ (seat : SessionSeat P). seat.number) seats ≡ range_with_len 0 (length passes) → map (λ (seat : SessionSeat P). seat.number) new ≡ range_with_len 0 (length (passes ++ pass ∷ []))
seat_more {P} seats new passes n pass is count are =
    ap (map (λ (seat : SessionSeat P). seat.number)) is ∙ (map-append (λ (seat : SessionSeat P). seat.number) seats (record { number = n; pass = pass } ∷ [])
    ∙ ((λ i. are i ++ count i ∷ []) ∙ (numbers_more (length passes) ∙ ap (range_with_len 0) (sym (length-append passes (pass ∷ []))))))

pub pass_more : {P : Type 0} (seats new : List (SessionSeat P)) (passes : List P) (n : ℕ) (pass : P) → new ≡ seats ++ record { number = n; pass = pass } ∷ []
    → map (λ (seat : SessionSeat P). seat.pass) seats ≡ passes → map (λ (seat : SessionSeat P). seat.pass) new ≡ passes ++ pass ∷ []
pass_more {P} seats new passes n pass is are =
    ap (map (λ (seat : SessionSeat P). seat.pass)) is ∙ (map-append (λ (seat : SessionSeat P). seat.pass) seats (record { number = n; pass = pass } ∷ []) ∙ (λ i. are i ++ pass ∷ []))

module _ {P : Type 0} (fit : P → Type 0) (view : P → PassView) (sessions : ℕ) where
  seats_from : (seats : List (SessionSeat P)) (base a n : ℕ) → map (λ (seat : SessionSeat P). seat.number) seats ≡ range_with_len a n
      → map view (map (λ (seat : SessionSeat P). seat.pass) seats) ≡ map (new_pass base) (range_with_len a n) → AllByRecursion fit (map (λ (seat : SessionSeat P). seat.pass) seats) → a + n ≤ sessions
      → All (IsSeat fit view sessions) seats
  seats_from [] base a n are views fits few = All-nil (IsSeat fit view sessions)
  seats_from (s ∷ seats) base a zero are views fits few = absurd (cc (are))
  seats_from (s ∷ seats) base a (suc n) are views fits few =
      let first : s.number ≡ a = ap (λ l. get_or l 0 0) are in
      let one : view s.pass ≡ new_pass base a = ap (λ l. get_or l 0 (new_pass base a)) views in
      All-cons (IsSeat fit view sessions) s seats
      record {
        low = omega (arith, first, few);
        own = fits.0;
        unused = record {
          number = ap (λ (v : PassView). v.number) one ∙ sym first;
          account = ap (λ (v : PassView). v.account) one;
          ended = ap (λ (v : PassView). v.snapshot) one;
        };
      }
      (seats_from seats base (a + 1) n (ap behind are) (ap behind views) fits.1 (omega (arith, few)))

  -- how many passes are dealt
  pub many_passes : (passes : List P) (base : ℕ) → map view passes ≡ map (new_pass base) (range_with_len 0 sessions) → length passes ≡ sessions
  many_passes passes base views =
      sym (length-map passes view) ∙ (ap length views ∙ (length-map (range_with_len 0 sessions) (new_pass base) ∙ length-range_with_len 0 sessions))

  pub seats_all : (seats : List (SessionSeat P)) (passes : List P) (base : ℕ) → map (λ (seat : SessionSeat P). seat.pass) seats ≡ passes → map (λ (seat : SessionSeat P). seat.number) seats ≡ range_with_len 0 (length passes)
      → map view passes ≡ map (new_pass base) (range_with_len 0 sessions) → All fit passes → All (IsSeat fit view sessions) seats
  seats_all seats passes base are nums views fits =
      seats_from seats base 0 sessions (nums ∙ ap (range_with_len 0) (many_passes passes base views)) (ap (map view) are ∙ views) (recursion_from_All fit (map (λ (seat : SessionSeat P). seat.pass) seats) (subst (All fit) (sym are) fits)) (omega arith)

pub many_seats : {P : Type 0} (seats : List (SessionSeat P)) (n : ℕ) → map (λ (seat : SessionSeat P). seat.number) seats ≡ range_with_len 0 n → length seats ≡ n
many_seats {P} seats n are = sym (length-map seats (λ (seat : SessionSeat P). seat.number)) ∙ (ap length are ∙ length-range_with_len 0 n)

-- ---- the sessions that have made their calls

module _ (limits : Limits) (opening : Opening) where
  served_more : (n : ℕ) (lists : List (List Call)) (passes : List PassView) (accounts : List (List Row)) (calls : List Call) (pass : PassView) (account : List Row) → ServedFrom limits opening n lists passes accounts
      → HasMade limits opening (n + length lists) calls pass → account ≡ pass.account → ServedFrom limits opening n (lists ++ calls ∷ []) (passes ++ pass ∷ []) (accounts ++ account ∷ [])
  served_more n [] [] [] calls pass account served made is = (subst (λ m. HasMade limits opening m calls pass) (let same : n + 0 ≡ n = omega arith in same) made, is, tt)
  served_more n (c ∷ lists) (p ∷ passes) (a ∷ accounts) calls pass account served made is = (
    served.0,
    served.1,
    served_more (n + 1) lists passes accounts calls pass account served.2
        (subst (λ m. HasMade limits opening m calls pass) (let same : n + length (c ∷ lists) ≡ n + 1 + length lists = omega arith in same) made) is,
  )
  served_more n [] [] (a ∷ accounts) calls pass account served made is = absurd served
  served_more n [] (p ∷ passes) accounts calls pass account served made is = absurd served
  served_more n (c ∷ lists) [] accounts calls pass account served made is = absurd served
  served_more n (c ∷ lists) (p ∷ passes) [] calls pass account served made is = absurd served

  ended : (n : ℕ) (lists : List (List Call)) (passes : List PassView) (accounts : List (List Row)) → ServedFrom limits opening n lists passes accounts → AllByRecursion HasNoSnapshot passes
  ended n [] [] [] served = tt
  ended n (c ∷ lists) (p ∷ passes) (a ∷ accounts) served = (served.0.ended, ended (n + 1) lists passes accounts served.2)
  ended n [] [] (a ∷ accounts) served = absurd served
  ended n [] (p ∷ passes) accounts served = absurd served
  ended n (c ∷ lists) [] accounts served = absurd served
  ended n (c ∷ lists) (p ∷ passes) [] served = absurd served

  pub all_ended : (lists : List (List Call)) (passes : List PassView) (accounts : List (List Row)) → ServedFrom limits opening 0 lists passes accounts → All HasNoSnapshot passes
  all_ended lists passes accounts served = All-from_recursion HasNoSnapshot passes (ended 0 lists passes accounts served)

  numbered : (n : ℕ) (lists : List (List Call)) (passes : List PassView) (accounts : List (List Row)) → ServedFrom limits opening n lists passes accounts → numbers passes ≡ range_with_len n (length lists)
  numbered n [] [] [] served = refl
  numbered n (c ∷ lists) (p ∷ passes) (a ∷ accounts) served = λ i. served.0.number i ∷ numbered (n + 1) lists passes accounts served.2 i
  numbered n [] [] (a ∷ accounts) served = absurd served
  numbered n [] (p ∷ passes) accounts served = absurd served
  numbered n (c ∷ lists) [] accounts served = absurd served
  numbered n (c ∷ lists) (p ∷ passes) [] served = absurd served

  pub all_numbered : (lists : List (List Call)) (passes : List PassView) (accounts : List (List Row)) → ServedFrom limits opening 0 lists passes accounts
      → map (λ (pass : PassView). pass.number) passes ≡ range_with_len 0 (length lists)
  all_numbered lists passes accounts served = numbered 0 lists passes accounts served

  makes : (n : ℕ) (lists : List (List Call)) (passes : List PassView) (accounts : List (List Row)) → ServedFrom limits opening n lists passes accounts → map calls_made accounts ≡ lists
  makes n [] [] [] served = refl
  makes n (c ∷ lists) (p ∷ passes) (a ∷ accounts) served = λ i. (ap calls_made served.1 ∙ served.0.makes) i ∷ makes (n + 1) lists passes accounts served.2 i
  makes n [] [] (a ∷ accounts) served = absurd served
  makes n [] (p ∷ passes) accounts served = absurd served
  makes n (c ∷ lists) [] accounts served = absurd served
  makes n (c ∷ lists) (p ∷ passes) [] served = absurd served

  kept : (n : ℕ) (lists : List (List Call)) (passes : List PassView) (accounts : List (List Row)) → ServedFrom limits opening n lists passes accounts → accounts ≡ map (λ (pass : PassView). pass.account) passes
  kept n [] [] [] served = refl
  kept n (c ∷ lists) (p ∷ passes) (a ∷ accounts) served = λ i. served.1 i ∷ kept (n + 1) lists passes accounts served.2 i
  kept n [] [] (a ∷ accounts) served = absurd served
  kept n [] (p ∷ passes) accounts served = absurd served
  kept n (c ∷ lists) [] accounts served = absurd served
  kept n (c ∷ lists) (p ∷ passes) [] served = absurd served

  asked : (n : ℕ) (lists : List (List Call)) (passes : List PassView) (accounts : List (List Row)) → ServedFrom limits opening n lists passes accounts → limits.callers ≡ 1
      → All (AsksLogFirst limits opening) (all_rows accounts)
  asked n [] [] [] served lone = All-nil (AsksLogFirst limits opening)
  asked n (c ∷ lists) (p ∷ passes) (a ∷ accounts) served lone =
      All-append (AsksLogFirst limits opening) a (all_rows accounts) (subst (All (AsksLogFirst limits opening)) (sym served.1) (served.0.asks lone)) (asked (n + 1) lists passes accounts served.2 lone)
  asked n [] [] (a ∷ accounts) served lone = absurd served
  asked n [] (p ∷ passes) accounts served lone = absurd served
  asked n (c ∷ lists) [] accounts served lone = absurd served
  asked n (c ∷ lists) (p ∷ passes) [] served lone = absurd served

  -- the round of sessions that have made their calls
  pub round_served : (lists : List (List Call)) (passes : List PassView) (closed : Closed) (round : Round) → ServedFrom limits opening 0 lists passes round.accounts
      → Closes limits opening closed (map (λ (pass : PassView). pass.account) passes) → round.sizes ≡ limits → round.base ≡ closed.base → round.carried ≡ closed.carried → ServesRound limits opening lists round
  round_served lists passes closed round served closes sizes base carried =
      let same = sym (kept 0 lists passes round.accounts served) in
      record {
        sizes = sizes;
        base = base ∙ closes.base;
        makes = makes 0 lists passes round.accounts served;
        numbered = subst AreAccounts same closes.numbered;
        seen = subst (All (AllPairs IsSeenBy)) same closes.seen;
        log = closed.log;
        merge = subst (MergeToLog limits opening closed.log) same closes.merge;
        carried = carried ∙ closes.carried;
        asks = asked 0 lists passes round.accounts served;
      }

  pub seal_kept : (lists : List (List Call)) (passes : List PassView) (accounts : List (List Row)) → ServedFrom limits opening 0 lists passes accounts → map (λ (pass : PassView). pass.account) passes ≡ accounts
  seal_kept lists passes accounts served = sym (kept 0 lists passes accounts served)

  -- ---- one more session

  module _ {P E : Type 0} (fit : P → Type 0) (view : P → PassView) (lists : List (List Call)) (seats : List (SessionSeat P)) (all : List (Result (SessionDone P) E)) where
    abbrev pub EachServed : Type 0
    EachServed = (i : ℕ) (seat : SessionSeat P) (served : Result (SessionDone P) E) → slice_get seats i ≡ Some seat → slice_get all i ≡ Some served → IfOk served (IsServed fit view limits opening lists seat)

    at_seam : {X : Type 0} (front rest : List X) (x : X) → slice_get (front ++ x ∷ rest) (length front) ≡ Some x
    at_seam [] rest x = refl
    at_seam (f ∷ front) rest x = at_seam front rest x

    record IsNext (taken : List (Result (SessionDone P) E)) (served : SessionDone P) : Type 0 where
      seat : SessionSeat P
      number : seat.number ≡ length taken
      low : length taken < length lists
      is : IsServed fit view limits opening lists seat served

    module _ (each : EachServed) (many : length all ≡ length seats) (nums : map (λ (seat : SessionSeat P). seat.number) seats ≡ range_with_len 0 (length lists))
        (taken rest : List (Result (SessionDone P) E)) (x : Result (SessionDone P) E) (served : SessionDone P) (ok : x ≡ Ok served) (is : taken ++ x ∷ rest ≡ all) where
      same_number : (m n : ℕ) → Some m ≡ Some n → m ≡ n
      same_number m n same = cc (same)

      next : IsNext taken served
      next =
          let n = length taken in
          let count : length seats ≡ length lists = many_seats seats (length lists) nums in
          let within : n < length seats = omega (arith, many, ap length is, length-append taken (x ∷ rest)) in
          let low : n < length lists = omega (arith, within, count) in
          let seat = get_or seats n (record { number = 0; pass = served.pass }) in
          let here = slice_get-get_or seats n (record { number = 0; pass = served.pass }) within in
          record {
            seat = seat;
            number = same_number seat.number n
                (sym (slice_get-map (λ (s : SessionSeat P). s.number) seats n ∙ ap (option_map (λ (s : SessionSeat P). s.number)) here)
                ∙ (ap (λ l. slice_get l n) nums ∙ slice_get_read (range_with_len 0 (length lists)) (length lists) n n (sym (length-range_with_len 0 (length lists))) low
                ((let more : n ≡ 0 + n = omega arith in more) ∙ sym (get_or-range_with_len 0 (length lists) n n low))));
            low = low;
            is = subst (λ s. IfOk s (IsServed fit view limits opening lists seat)) ok (each n seat x here (sym (ap (λ l. slice_get l n) is) ∙ at_seam taken rest x));
          }

      pub one_more : (passes new : List P) (accounts new_accounts : List (List Row)) → new ≡ passes ++ served.pass ∷ [] → new_accounts ≡ accounts ++ served.rows ∷ []
          → ServedFrom limits opening 0 (take (length taken) lists) (map view passes) accounts → ServedFrom limits opening 0 (take (length (taken ++ x ∷ [])) lists) (map view new) new_accounts
      one_more passes new accounts new_accounts pushed kept_too so_far =
          let n = length taken in
          let at = next in
          let calls = get_or lists n [] in
          let listed : slice_get lists at.seat.number ≡ Some calls = ap (slice_get lists) at.number ∙ slice_get-get_or lists n [] at.low in
          let count : n ≡ 0 + length (take n lists) = omega (arith, length-take-le n lists (omega (arith, at.low))) in
          let made = subst (λ m. HasMade limits opening m calls (view served.pass)) (at.number ∙ count) (at.is.made calls listed) in
          let more = served_more 0 (take n lists) (map view passes) accounts calls (view served.pass) served.rows so_far made at.is.rows in
          let lists_are : take n lists ++ calls ∷ [] ≡ take (length (taken ++ x ∷ [])) lists = sym (ap (λ k. take k lists) (length-append taken (x ∷ [])) ∙ take_more lists n [] at.low) in
          let passes_are : map view passes ++ view served.pass ∷ [] ≡ map view new = sym (ap (map view) pushed ∙ map-append view passes (served.pass ∷ [])) in
          subst (λ (z : List (List Call) × List PassView × List (List Row)). ServedFrom limits opening 0 z.0 z.1 z.2) (λ i. (lists_are i, passes_are i, sym kept_too i)) more

      pub own_more : (passes new : List P) → new ≡ passes ++ served.pass ∷ [] → All fit passes → All fit new
      own_more passes new pushed fits = subst (All fit) (sym pushed) (All-push fit passes served.pass fits next.is.own)
