-- The rounds of a run, from the items of their files and the rounds that were served on.
use Rattle.std.proofs.Common.{◌≡◌, ℕ, zero, suc, ◌+◌, ◌-◌, ◌*◌, ◌^◌, ◌<◌, ◌≤◌, Bool, true, false, List, [], ◌∷◌, ◌++◌, map, length, take, drop, get_or, Option, Some, None, refl, sym, ◌∙◌, ap, ap₂, subst, arith}
use Rattle.std.specs.Prelude.{All, IfSome, slice_get, codes, nat_lt}
use Rattle.std.specs.Fmt.{decimal}
use Rattle.std.specs.List.{AllByRecursion, AllZip, cons_option, flat_map, range_with_len}
use Rattle.std.specs.Option.{option_map, option_to_list}
use Rattle.std.proofs.lemmas.Bool.{ltb-false}
use Rattle.std.proofs.lemmas.List.{take_all, take_more, length-map, length-append, length-take-le, map-append}
use Rattle.std.proofs.lemmas.List.Elements.{All-nil, All-append, All-take, All-from_recursion, recursion_from_All, filter_map-append}
use Rattle.std.proofs.lemmas.List.Sorted.{All-permutation, length_permutation}
use Rattle.std.proofs.lemmas.Map.Views.{All-map-IsPermutation}
use Rattle.std.proofs.lemmas.Slice.Zip.{AllZip-long}
use Rattle.std.proofs.lemmas.Option.{none-some, same_Some, slice_get-map, slice_get-get_or, slice_get_within}
use Rattle.reg_model.specs.declared.reply.Row.{Row}
use Rattle.reg_model.specs.declared.call.Call.{Call}
use Rattle.reg_model.specs.declared.round.Round.{Round}
use Rattle.reg_model.specs.Calls.{IsRequest}
use Rattle.reg_model.specs.Limits.{Limits, IsInRange}
use Rattle.reg_model.specs.Live.{opening_after}
use Rattle.reg_model.specs.Opening.{Opening}
use Rattle.reg_model.specs.Registry.{start_refusal}
use Rattle.reg_model.specs.Rows.{session_rows, all_rows, AsksLogFirst}
use Rattle.reg_model.specs.Runs.{RoundRows, IsLawfulRound, IsLawfulRun, next_opening, closing}
use Rattle.reg_model.proofs.SessionAccounts.{kept_account}
use Rattle.reg_requests.specs.declared.items.Item.{Item}
use Rattle.reg_requests.specs.Lines.{line, spaced}
use Rattle.reg_requests.specs.Requests.{call_in, calls_of}
use Rattle.reg_session.specs.Files.{Files}
use Rattle.reg_session.specs.Sessions.{calls_made, ServesRound}
use Rattle.reg_history.specs.History.{history_text}
use Rattle.reg_image.specs.declared.image.TheConstants.{DECLARED_MOST}
use Rattle.reg_history.specs.Rounds.{IsRoundOf, AreRoundsOf}
use Rattle.reg_history.specs.lines.Values.{IsDeclaredValue, IsRowValue}
use Rattle.reg_history.proofs.RunValues.{round_values, next_values}
use Rattle.reg_top.specs.declared.ending.Declined.{Declined}
use Rattle.reg_top.specs.declared.ending.Declined.TheVariants as declines
use Rattle.reg_top.specs.declared.refusal.Refusal.{Refusal}
use Rattle.reg_top.specs.Fetches.{RoundPlan, Plan}
use Rattle.reg_top.specs.commands.Run.{item_lines, session_texts, reply_texts, IsFileOf, MakesCalls, AskLogFirst, accounts_served, MakesPlan, IsOpeningOf, IsOutputFrom, round_refusal, RefusesAfter, RefusesRound}
use Rattle.reg_top.specs.inner.RunPlans.{MayBeRun}
use Rattle.reg_top.specs.inner.RunFiles.{MayBeServed, IsRead, ReadsRound}
use Rattle.reg_top.specs.inner.RunRounds.{FitsRound, ServesNext, ServesFrom, left_by, round_accounts, StopsAt, IsDeclinedNext, IsDeclinedAt, account_texts, round_texts, rows_served, all_served}
use Rattle.reg_top.proofs.BehindFirst.{front_more, cut_at}
use Rattle.reg_top.proofs.LiveRounds.{run_leaves}
use Rattle.reg_top.proofs.RunImages.{Begins}

-- ---- the calls of a file

one_or_none : {X : Type 0} (o : Option X) → cons_option o [] ≡ option_to_list o
one_or_none None = refl
one_or_none (Some x) = refl

-- the calls of one item more
pub calls_more : (list : List Item) (i : ℕ) (item : Item) → i < length list → item ≡ get_or list i item → calls_of (take (i + 1) list) ≡ calls_of (take i list) ++ option_to_list (call_in item)
calls_more list i item within is =
    ap calls_of (take_more list i item within ∙ ap (λ x. take i list ++ x ∷ []) (sym is))
    ∙ filter_map-append call_in (take i list) (item ∷ [])
    ∙ ap (λ calls. calls_of (take i list) ++ calls) (one_or_none (call_in item))

-- ---- lists

-- a list that has a function's value at each place is its map over a range
pub tabulated : {X : Type 0} (l : List X) (f : ℕ → X) (a : ℕ) → ((n : ℕ) → n < length l → slice_get l n ≡ Some (f (a + n))) → l ≡ map f (range_with_len a (length l))
tabulated [] f a h = refl
tabulated (x ∷ l) f a h =
    let here : x ≡ f a = same_Some x (f (a + 0)) (h 0 (omega arith)) ∙ ap f (let same : a + 0 ≡ a = omega arith in same) in
    let rest = tabulated l f (a + 1) (λ n low. h (suc n) (omega (arith, low)) ∙ ap (λ k. Some (f k)) (let same : a + suc n ≡ a + 1 + n = omega arith in same)) in
    λ i. here i ∷ rest i

-- ---- the calls of all sessions

abbrev joined : List (List Call) → List Call
joined lists = flat_map (λ (calls : List Call). calls) lists

calls_joined : (accounts : List (List Row)) → map (λ (row : Row). row.call) (all_rows accounts) ≡ joined (map calls_made accounts)
calls_joined [] = refl
calls_joined (account ∷ accounts) = map-append (λ (row : Row). row.call) account (all_rows accounts) ∙ ap (λ rest. calls_made account ++ rest) (calls_joined accounts)

known_joined : (lists : List (List Item)) → AllByRecursion MayBeServed lists → All IsRequest (joined (map calls_of lists))
known_joined [] served = All-nil IsRequest
known_joined (list ∷ lists) served = All-append IsRequest (calls_of list) (joined (map calls_of lists)) served.0.known (known_joined lists served.1)

few_joined : (lists : List (List Item)) → AllByRecursion MayBeServed lists → length (joined (map calls_of lists)) ≤ length lists * 2 ^ 24
few_joined [] served = omega arith
few_joined (list ∷ lists) served = omega (arith, length-append (calls_of list) (joined (map calls_of lists)), served.0.few, few_joined lists served.1)

-- ---- the round

module _ (limits : Limits) (opening : Opening) (lists : List (List Item)) (round : Round) (serves : ServesRound limits opening (map calls_of lists) round) where
  abbrev merged : List Row
  merged = (rows_served limits opening lists round serves).rows

  -- a session's rows in the merge are its account
  kept_rows : (session : ℕ) (account : List Row) → slice_get round.accounts session ≡ Some account → session_rows session merged ≡ account
  kept_rows session account at = kept_account round.accounts merged session account serves.numbered serves.seen serves.merge.merge at

  many_accounts : length round.accounts ≡ length lists
  many_accounts = sym (length-map round.accounts calls_made) ∙ (ap length serves.makes ∙ length-map lists calls_of)

  -- the accounts are the rows of each session
  pub accounts_kept : length lists ≡ limits.callers → round.accounts ≡ accounts_served (rows_served limits opening lists round serves)
  accounts_kept many =
      tabulated round.accounts (λ session. session_rows session merged) 0
      (λ n low.
      let at = slice_get-get_or round.accounts n [] low in
      at ∙ ap Some (sym (kept_rows n (get_or round.accounts n []) at)) ∙ ap (λ k. Some (session_rows k merged)) (let same : n ≡ 0 + n = omega arith in same))
      ∙ ap (λ n. map (λ session. session_rows session merged) (range_with_len 0 n)) (many_accounts ∙ many)

  -- the round began with the opening, and leaves what its rows make
  round_is : IsRoundOf opening round (rows_served limits opening lists round serves)
  round_is = record {
    base = serves.base;
    sizes = serves.sizes;
    accounts = serves.numbered;
    merge = serves.merge.merge;
    leaves = serves.carried ∙ ap (opening_after opening) (sym serves.merge.makes);
  }

  -- the rows of each session are its calls
  made : MakesCalls lists (rows_served limits opening lists round serves)
  made session list at = account_made (slice_get round.accounts session) refl
      (sym (slice_get-map calls_made round.accounts session) ∙ ap (λ l. slice_get l session) serves.makes ∙ slice_get-map calls_of lists session ∙ ap (option_map calls_of) at)
    where
      account_made : (o : Option (List Row)) → slice_get round.accounts session ≡ o → option_map calls_made o ≡ Some (calls_of list) → map (λ (row : Row). row.call) (session_rows session merged) ≡ calls_of list
      account_made None is calls = absurd (cc (calls))
      account_made (Some account) is calls = ap calls_made (kept_rows session account is) ∙ same_Some (calls_made account) (calls_of list) calls

  -- a lone session was told of a full log before it was told of full entries
  asked : limits.callers ≡ 1 → All (AsksLogFirst limits opening) merged
  asked lone = All-permutation (AsksLogFirst limits opening) (all_rows round.accounts) merged serves.merge.merge.exactly (serves.asks lone)

  -- the calls of all accounts are those of the lists
  all_calls : map (λ (row : Row). row.call) (all_rows round.accounts) ≡ joined (map calls_of lists)
  all_calls = calls_joined round.accounts ∙ ap joined serves.makes

  -- they may be asked for
  all_known : AllByRecursion MayBeServed lists → All IsRequest (map (λ (row : Row). row.call) merged)
  all_known served = All-map-IsPermutation (λ (row : Row). row.call) IsRequest (all_rows round.accounts) merged serves.merge.merge.exactly (subst (All IsRequest) (sym all_calls) (known_joined lists served))

  -- and they are few
  all_few : AllByRecursion MayBeServed lists → length merged ≤ length lists * 2 ^ 24
  all_few served =
      let moved = length_permutation (all_rows round.accounts) merged serves.merge.merge.exactly in
      let calls = sym (length-map (all_rows round.accounts) (λ (row : Row). row.call)) ∙ ap length all_calls in
      omega (arith, moved, calls, few_joined lists served)

-- ---- rounds, one after the other

pub serves_more : (opening : Opening) (plan : List RoundPlan) (lists : List (List (List Item))) (rounds : List Round) (p : RoundPlan) (list : List (List Item)) (round : Round)
    → ServesFrom opening plan lists rounds → ServesNext p.limits (left_by opening rounds) list round
    → ServesFrom opening (plan ++ p ∷ []) (lists ++ list ∷ []) (rounds ++ round ∷ [])
serves_more opening [] [] [] p list round serves next = (next, tt)
serves_more opening [] [] (r ∷ rounds) p list round serves next = absurd serves
serves_more opening [] (l ∷ lists) rounds p list round serves next = absurd serves
serves_more opening (q ∷ plan) [] rounds p list round serves next = absurd serves
serves_more opening (q ∷ plan) (l ∷ lists) [] p list round serves next = absurd serves
serves_more opening (q ∷ plan) (l ∷ lists) (r ∷ rounds) p list round serves next = (serves.0, serves_more r.carried plan lists rounds p list round serves.1 next)

-- a round that can begin has room for what is carried, and for its ids
pub may_begin : (limits : Limits) (opening : Opening) → start_refusal limits opening ≡ None → (length opening.list ≤ limits.entries) × (opening.base + limits.log ≤ 2 ^ 34)
may_begin limits opening none =
    by_cases (nat_lt limits.entries (length opening.list)) refl (nat_lt (2 ^ 34) (opening.base + limits.log)) refl
  where
    by_cases : (small : Bool) → nat_lt limits.entries (length opening.list) ≡ small → (spent : Bool) → nat_lt (2 ^ 34) (opening.base + limits.log) ≡ spent
        → (length opening.list ≤ limits.entries) × (opening.base + limits.log ≤ 2 ^ 34)
    by_cases true small spent is = absurd (let refused = rw small at none in cc (refused))
    by_cases false small true is = absurd (let refused = rw (small, is) at none in cc (refused))
    by_cases false small false is = (ltb-false limits.entries (length opening.list) small, ltb-false (2 ^ 34) (opening.base + limits.log) is)

-- the rows of one round
abbrev first_rows : (p : RoundPlan) (opening : Opening) (list : List (List Item)) (round : Round) → ServesNext p.limits opening list round → RoundRows
first_rows p opening list round next = rows_served p.limits opening list round next.serves

-- what it leaves is what the next begins with
leaves : (p : RoundPlan) (opening : Opening) (list : List (List Item)) (round : Round) (next : ServesNext p.limits opening list round)
    → round.carried ≡ next_opening opening (first_rows p opening list round next).rows
leaves p opening list round next = (round_is p.limits opening list round next.serves).leaves

pub are_rounds : (opening : Opening) (plan : List RoundPlan) (lists : List (List (List Item))) (rounds : List Round) (serves : ServesFrom opening plan lists rounds)
    → AreRoundsOf opening rounds (all_served opening plan lists rounds serves)
are_rounds opening [] [] [] serves = tt
are_rounds opening [] [] (r ∷ rounds) serves = absurd serves
are_rounds opening [] (l ∷ lists) rounds serves = absurd serves
are_rounds opening (p ∷ plan) [] rounds serves = absurd serves
are_rounds opening (p ∷ plan) (l ∷ lists) [] serves = absurd serves
are_rounds opening (p ∷ plan) (l ∷ lists) (r ∷ rounds) serves = (
  round_is p.limits opening l r (let first : ServesNext p.limits opening l r = serves.0 in first.serves),
  subst (λ (o : Opening). AreRoundsOf o rounds (all_served r.carried plan lists rounds serves.1)) (leaves p opening l r serves.0) (are_rounds r.carried plan lists rounds serves.1),
)

-- the sizes are those of the plan
pub planned_sizes : (opening : Opening) (plan : List RoundPlan) (lists : List (List (List Item))) (rounds : List Round) (serves : ServesFrom opening plan lists rounds)
    → map (λ (p : RoundPlan). p.limits) plan ≡ map (λ (r : RoundRows). r.limits) (all_served opening plan lists rounds serves)
planned_sizes opening [] [] [] serves = refl
planned_sizes opening [] [] (r ∷ rounds) serves = absurd serves
planned_sizes opening [] (l ∷ lists) rounds serves = absurd serves
planned_sizes opening (p ∷ plan) [] rounds serves = absurd serves
planned_sizes opening (p ∷ plan) (l ∷ lists) [] serves = absurd serves
planned_sizes opening (p ∷ plan) (l ∷ lists) (r ∷ rounds) serves = ap (λ more. p.limits ∷ more) (planned_sizes r.carried plan lists rounds serves.1)

-- the calls of the sessions are those of the items
all_made : (opening : Opening) (plan : List RoundPlan) (lists : List (List (List Item))) (rounds : List Round) (serves : ServesFrom opening plan lists rounds)
    → AllZip MakesCalls lists (all_served opening plan lists rounds serves)
all_made opening [] [] [] serves = tt
all_made opening [] [] (r ∷ rounds) serves = absurd serves
all_made opening [] (l ∷ lists) rounds serves = absurd serves
all_made opening (p ∷ plan) [] rounds serves = absurd serves
all_made opening (p ∷ plan) (l ∷ lists) [] serves = absurd serves
all_made opening (p ∷ plan) (l ∷ lists) (r ∷ rounds) serves =
    (made p.limits opening l r (let first : ServesNext p.limits opening l r = serves.0 in first.serves), all_made r.carried plan lists rounds serves.1)

-- lone sessions were told of full logs first
all_asked : (opening : Opening) (plan : List RoundPlan) (lists : List (List (List Item))) (rounds : List Round) (serves : ServesFrom opening plan lists rounds)
    → AskLogFirst opening (all_served opening plan lists rounds serves)
all_asked opening [] [] [] serves = tt
all_asked opening [] [] (r ∷ rounds) serves = absurd serves
all_asked opening [] (l ∷ lists) rounds serves = absurd serves
all_asked opening (p ∷ plan) [] rounds serves = absurd serves
all_asked opening (p ∷ plan) (l ∷ lists) [] serves = absurd serves
all_asked opening (p ∷ plan) (l ∷ lists) (r ∷ rounds) serves = (
  asked p.limits opening l r (let first : ServesNext p.limits opening l r = serves.0 in first.serves),
  subst (λ (o : Opening). AskLogFirst o (all_served r.carried plan lists rounds serves.1)) (leaves p opening l r serves.0) (all_asked r.carried plan lists rounds serves.1),
)

abbrev IsSized : RoundPlan → Type 0
IsSized p = IsInRange p.limits

-- a round that was served is lawful
one_lawful : (p : RoundPlan) (opening : Opening) (list : List (List Item)) (round : Round) (next : ServesNext p.limits opening list round) → IsSized p
    → IsLawfulRound opening (first_rows p opening list round next)
one_lawful p opening list round next sized =
    let begins = may_begin p.limits opening next.begins in
    record { sizes = sized; room = begins.0; ids = begins.1; rows = (let merge = (let serves = next.serves in serves.merge) in merge.lawful) }

pub all_lawful : (opening : Opening) (plan : List RoundPlan) (lists : List (List (List Item))) (rounds : List Round) (serves : ServesFrom opening plan lists rounds) → AllByRecursion IsSized plan
    → IsLawfulRun opening (all_served opening plan lists rounds serves)
all_lawful opening [] [] [] serves sized = tt
all_lawful opening [] [] (r ∷ rounds) serves sized = absurd serves
all_lawful opening [] (l ∷ lists) rounds serves sized = absurd serves
all_lawful opening (p ∷ plan) [] rounds serves sized = absurd serves
all_lawful opening (p ∷ plan) (l ∷ lists) [] serves sized = absurd serves
all_lawful opening (p ∷ plan) (l ∷ lists) (r ∷ rounds) serves sized = (
  one_lawful p opening l r serves.0 sized.0,
  subst (λ (o : Opening). IsLawfulRun o (all_served r.carried plan lists rounds serves.1)) (leaves p opening l r serves.0) (all_lawful r.carried plan lists rounds serves.1 sized.1),
)

-- what the last round leaves
pub left_is : (opening : Opening) (plan : List RoundPlan) (lists : List (List (List Item))) (rounds : List Round) (serves : ServesFrom opening plan lists rounds)
    → left_by opening rounds ≡ closing opening (all_served opening plan lists rounds serves)
left_is opening [] [] [] serves = refl
left_is opening [] [] (r ∷ rounds) serves = absurd serves
left_is opening [] (l ∷ lists) rounds serves = absurd serves
left_is opening (p ∷ plan) [] rounds serves = absurd serves
left_is opening (p ∷ plan) (l ∷ lists) [] serves = absurd serves
left_is opening (p ∷ plan) (l ∷ lists) (r ∷ rounds) serves =
    left_is r.carried plan lists rounds serves.1 ∙ ap (λ (o : Opening). closing o (all_served r.carried plan lists rounds serves.1)) (leaves p opening l r serves.0)

-- their numbers are those that the program's types can have
abbrev HasRowValues : RoundRows → Type 0
HasRowValues rows = All IsRowValue rows.rows

one_valued : (p : RoundPlan) (opening : Opening) (list : List (List Item)) (round : Round) (next : ServesNext p.limits opening list round) → IsSized p → FitsRound p list
    → All IsDeclaredValue opening.list → HasRowValues (first_rows p opening list round next) × All IsDeclaredValue (next_opening opening (first_rows p opening list round next).rows).list
one_valued p opening list round next sized fits carried =
    let serves = next.serves in
    let rows = first_rows p opening list round next in
    let lawful = one_lawful p opening list round next sized in
    let may : AllByRecursion MayBeServed list = recursion_from_All MayBeServed list fits.served in
    let known = all_known p.limits opening list round serves may in
    let few : length rows.rows ≤ 2 ^ 32 = omega (arith, fits.many, sized.callers, all_few p.limits opening list round serves may) in
    (round_values opening rows lawful carried known few, next_values opening rows lawful carried known)

all_valued : (opening : Opening) (plan : List RoundPlan) (lists : List (List (List Item))) (rounds : List Round) (serves : ServesFrom opening plan lists rounds) → AllByRecursion IsSized plan
    → AllZip FitsRound plan lists → All IsDeclaredValue opening.list → AllByRecursion HasRowValues (all_served opening plan lists rounds serves)
all_valued opening [] [] [] serves sized fits carried = tt
all_valued opening [] [] (r ∷ rounds) serves sized fits carried = absurd serves
all_valued opening [] (l ∷ lists) rounds serves sized fits carried = absurd serves
all_valued opening (p ∷ plan) [] rounds serves sized fits carried = absurd serves
all_valued opening (p ∷ plan) (l ∷ lists) [] serves sized fits carried = absurd serves
all_valued opening (p ∷ plan) (l ∷ lists) (r ∷ rounds) serves sized fits carried =
    let here = one_valued p opening l r serves.0 sized.0 fits.0 carried in (
      here.0,
      all_valued r.carried plan lists rounds serves.1 sized.1 fits.1 (subst (λ (o : Opening). All IsDeclaredValue o.list) (sym (leaves p opening l r serves.0)) here.1),
    )

-- the seals are the accounts of the rows
pub all_kept : (opening : Opening) (plan : List RoundPlan) (lists : List (List (List Item))) (rounds : List Round) (serves : ServesFrom opening plan lists rounds) → AllZip FitsRound plan lists
    → round_accounts rounds ≡ map accounts_served (all_served opening plan lists rounds serves)
all_kept opening [] [] [] serves fits = refl
all_kept opening [] [] (r ∷ rounds) serves fits = absurd serves
all_kept opening [] (l ∷ lists) rounds serves fits = absurd serves
all_kept opening (p ∷ plan) [] rounds serves fits = absurd serves
all_kept opening (p ∷ plan) (l ∷ lists) [] serves fits = absurd serves
all_kept opening (p ∷ plan) (l ∷ lists) (r ∷ rounds) serves fits =
    let first : ServesNext p.limits opening l r = serves.0 in
    let one : FitsRound p l = fits.0 in
    ap₂ (λ (a : List (List Row)) (more : List (List (List Row))). a ∷ more) (accounts_kept p.limits opening l r first.serves one.many) (all_kept r.carried plan lists rounds serves.1 fits.1)

-- what the last of them leaves
last_left : (opening : Opening) (rounds : List Round) (at : ℕ) (last : Round) → at + 1 ≡ length rounds → slice_get rounds at ≡ Some last → left_by opening rounds ≡ last.carried
last_left opening [] at last many is = absurd (omega (arith, many))
last_left opening (r ∷ []) zero last many is = ap (λ (x : Round). x.carried) (same_Some r last is)
last_left opening (r ∷ []) (suc at) last many is = absurd (omega (arith, many))
last_left opening (r ∷ s ∷ rounds) zero last many is = absurd (omega (arith, many))
last_left opening (r ∷ s ∷ rounds) (suc at) last many is = last_left r.carried (s ∷ rounds) at last (omega (arith, many)) is

pub left_last : (opening : Opening) (rounds : List Round) (last : Round) → slice_get rounds (length rounds - 1) ≡ Some last → left_by opening rounds ≡ last.carried
left_last opening rounds last is =
    let within = slice_get_within rounds (length rounds - 1) last is in
    last_left opening rounds (length rounds - 1) last (omega (arith, within)) is

-- ---- the round at a place of the plan

pub one_plan : (plan : List RoundPlan) (at : ℕ) → at < length plan → (p : RoundPlan) × (slice_get plan at ≡ Some p)
one_plan [] at low = absurd (omega (arith, low))
one_plan (p ∷ plan) zero low = (p, refl)
one_plan (p ∷ plan) (suc at) low = one_plan plan at (omega (arith, low))

pub of_some : {X : Type 0} (P : X → Type 0) (o : Option X) (x : X) → IfSome o P → o ≡ Some x → P x
of_some P o x holds is = subst (λ a. IfSome a P) is holds

zip_at : {A B : Type 0} (R : A → B → Type 0) (xs : List A) (ys : List B) (k : ℕ) (x : A) (y : B) → AllZip R xs ys → slice_get xs k ≡ Some x → slice_get ys k ≡ Some y → R x y
zip_at R [] ys k x y zip at there = absurd (none-some x at)
zip_at R (a ∷ xs) [] k x y zip at there = absurd (none-some y there)
zip_at R (a ∷ xs) (b ∷ ys) zero x y zip at there = subst (λ c. R c y) (same_Some a x at) (subst (R a) (same_Some b y there) zip.0)
zip_at R (a ∷ xs) (b ∷ ys) (suc k) x y zip at there = zip_at R xs ys k x y zip.1 at there

-- there are as many lists as plans
pub many_fit : (plan : List RoundPlan) (lists : List (List (List Item))) → AllZip FitsRound plan lists → length lists ≡ length plan
many_fit plan lists fits = AllZip-long FitsRound plan lists fits

-- the lists at the place of a plan are for its sessions
pub fits_at : (plan : List RoundPlan) (lists : List (List (List Item))) (at : ℕ) (p : RoundPlan) (list : List (List Item)) → AllZip FitsRound plan lists → slice_get plan at ≡ Some p
    → list ≡ get_or lists at list → FitsRound p list
fits_at plan lists at p list fits there is =
    let low : at < length lists = omega (arith, many_fit plan lists fits, slice_get_within plan at p there) in
    zip_at FitsRound plan lists at p list fits there (slice_get-get_or lists at list low ∙ ap Some (sym is))

pub many_served : (opening : Opening) (plan : List RoundPlan) (lists : List (List (List Item))) (rounds : List Round) → ServesFrom opening plan lists rounds → length rounds ≡ length plan
many_served opening [] [] [] serves = refl
many_served opening [] [] (r ∷ rounds) serves = absurd serves
many_served opening [] (l ∷ lists) rounds serves = absurd serves
many_served opening (p ∷ plan) [] rounds serves = absurd serves
many_served opening (p ∷ plan) (l ∷ lists) [] serves = absurd serves
many_served opening (p ∷ plan) (l ∷ lists) (r ∷ rounds) serves = ap suc (many_served r.carried plan lists rounds serves.1)

-- as many rounds were served as places are passed
pub served_before : (opening : Opening) (plan : List RoundPlan) (lists : List (List (List Item))) (rounds : List Round) (at : ℕ) → at ≤ length plan
    → ServesFrom opening (take at plan) (take at lists) rounds → length rounds ≡ at
served_before opening plan lists rounds at low serves = many_served opening (take at plan) (take at lists) rounds serves ∙ length-take-le at plan low

-- one place more
pub serves_at : (opening : Opening) (plan : List RoundPlan) (lists : List (List (List Item))) (rounds : List Round) (at : ℕ) (p : RoundPlan) (list : List (List Item)) (round : Round)
    → AllZip FitsRound plan lists → slice_get plan at ≡ Some p → list ≡ get_or lists at list → ServesFrom opening (take at plan) (take at lists) rounds
    → ServesNext p.limits (left_by opening rounds) list round → ServesFrom opening (take (at + 1) plan) (take (at + 1) lists) (rounds ++ round ∷ [])
serves_at opening plan lists rounds at p list round fits there is serves next =
    let low : at < length lists = omega (arith, many_fit plan lists fits, slice_get_within plan at p there) in
    let here : slice_get lists at ≡ Some list = slice_get-get_or lists at list low ∙ ap Some (sym is) in
    subst (λ (ps : List RoundPlan). ServesFrom opening ps (take (at + 1) lists) (rounds ++ round ∷ [])) (sym (front_more plan at p there))
    (subst (λ (ls : List (List (List Item))). ServesFrom opening (take at plan ++ p ∷ []) ls (rounds ++ round ∷ [])) (sym (front_more lists at list here))
    (serves_more opening (take at plan) (take at lists) rounds p list round serves next))

-- all places
pub serves_all : (opening : Opening) (plan : List RoundPlan) (lists : List (List (List Item))) (rounds : List Round) (at : ℕ) → AllZip FitsRound plan lists → length plan ≤ at
    → ServesFrom opening (take at plan) (take at lists) rounds → ServesFrom opening plan lists rounds
serves_all opening plan lists rounds at fits past serves =
    subst (λ (ps : List RoundPlan). ServesFrom opening ps lists rounds) (take_all at plan past)
    (subst (λ (ls : List (List (List Item))). ServesFrom opening (take at plan) ls rounds) (take_all at lists (omega (arith, many_fit plan lists fits, past))) serves)

-- the seals with one round more
pub kept_more : (rounds : List Round) (round : Round) (old new : List (List (List Row))) → old ≡ round_accounts rounds → new ≡ old ++ round.accounts ∷ [] → new ≡ round_accounts (rounds ++ round ∷ [])
kept_more rounds round old new kept more =
    more ∙ ap (λ (seals : List (List (List Row))). seals ++ round.accounts ∷ []) kept ∙ sym (map-append (λ (r : Round). r.accounts) rounds (round ∷ []))

-- the place at which a round isn't served
pub declined_at : (opening : Opening) (plan : List RoundPlan) (lists : List (List (List Item))) (seals : List (List (List Row))) (why : Declined) (rounds : List Round) (at : ℕ) (p : RoundPlan)
    → slice_get plan at ≡ Some p → ServesFrom opening (take at plan) (take at lists) rounds → seals ≡ round_accounts rounds
    → IsDeclinedNext (length rounds) p.limits (left_by opening rounds) why → IsDeclinedAt opening plan lists seals why
declined_at opening plan lists seals (declines.Refused refusal) rounds at p there serves kept is =
    let low = slice_get_within plan at p there in
    let many : length rounds ≡ at = served_before opening plan lists rounds at (omega (arith, low)) serves in
    record {
      at = at;
      next = p;
      there = there;
      rounds = rounds;
      served = serves;
      kept = kept;
      why = subst (λ n. round_refusal n p.limits (left_by opening rounds) ≡ Some refusal) many is;
    }
declined_at opening plan lists seals declines.NoMemory rounds at p there serves kept is = tt

-- ---- the texts

-- the replies by accounts are those by rows
pub texts_kept : (number session : ℕ) (lists : List (List Item)) (rows : List Row) (n : ℕ) → n ≡ length lists
    → account_texts number session lists (map (λ s. session_rows s rows) (range_with_len session n)) ≡ session_texts number session lists rows
texts_kept number session [] rows n many = refl
texts_kept number session (list ∷ lists) rows zero many = absurd (omega (arith, many))
texts_kept number session (list ∷ lists) rows (suc n) many =
    ap (λ rest. line (spaced (codes "replies" ∷ decimal number ∷ decimal session ∷ [])) ++ item_lines list (session_rows session rows) ++ rest)
    (texts_kept number (session + 1) lists rows n (omega (arith, many)))

-- the replies of a round by its accounts are those by its rows
one_text : (number : ℕ) (p : RoundPlan) (opening : Opening) (list : List (List Item)) (round : Round) (next : ServesNext p.limits opening list round) → length list ≡ p.limits.callers
    → account_texts number 0 list round.accounts ≡ session_texts number 0 list (first_rows p opening list round next).rows
one_text number p opening list round next many =
    ap (account_texts number 0 list) (accounts_kept p.limits opening list round next.serves many)
    ∙ texts_kept number 0 list (first_rows p opening list round next).rows p.limits.callers (sym many)

all_texts : (number : ℕ) (opening : Opening) (plan : List RoundPlan) (lists : List (List (List Item))) (rounds : List Round) (serves : ServesFrom opening plan lists rounds)
    → AllZip FitsRound plan lists → round_texts number lists rounds ≡ reply_texts number lists (all_served opening plan lists rounds serves)
all_texts number opening [] [] [] serves fits = refl
all_texts number opening [] [] (r ∷ rounds) serves fits = absurd serves
all_texts number opening [] (l ∷ lists) rounds serves fits = absurd serves
all_texts number opening (p ∷ plan) [] rounds serves fits = absurd serves
all_texts number opening (p ∷ plan) (l ∷ lists) [] serves fits = absurd serves
all_texts number opening (p ∷ plan) (l ∷ lists) (r ∷ rounds) serves fits =
    let one : FitsRound p l = fits.0 in
    ap₂ (λ text more. text ++ more) (one_text number p opening l r serves.0 one.many) (all_texts (number + 1) r.carried plan lists rounds serves.1 fits.1)

-- ---- the run

-- the lists are the items of the files
files_read : (files : Files) (names : List (List ℕ)) (lists : List (List Item)) → AllZip (IsRead (Some files)) names lists → AllZip (IsFileOf files) names lists
files_read files [] [] read = tt
files_read files (name ∷ names) (list ∷ lists) read = ((read.0.bytes, read.0.held, read.0.items), files_read files names lists read.1)
files_read files [] (list ∷ lists) read = absurd read
files_read files (name ∷ names) [] read = absurd read

rounds_read : (files : Files) (plan : List RoundPlan) (lists : List (List (List Item))) → AllZip (ReadsRound (Some files)) plan lists
    → AllZip (λ (p : RoundPlan) list. AllZip (IsFileOf files) p.names list) plan lists
rounds_read files [] [] read = tt
rounds_read files [] (l ∷ lists) read = absurd read
rounds_read files (p ∷ plan) [] read = absurd read
rounds_read files (p ∷ plan) (l ∷ lists) read = (files_read files p.names l read.0, rounds_read files plan lists read.1)

-- the first rounds of a plan, as they were read and served
pub makes_plan : (files : Files) (opening : Opening) (plan : List RoundPlan) (lists : List (List (List Item))) (rounds : List Round) (serves : ServesFrom opening plan lists rounds) → Begins opening
    → AllByRecursion IsSized plan → All (λ (p : RoundPlan). p.limits.callers ≡ length p.names) plan → AllZip FitsRound plan lists → AllZip (ReadsRound (Some files)) plan lists
    → MakesPlan opening plan files (all_served opening plan lists rounds serves)
makes_plan files opening plan lists rounds serves begins sized callers fits read =
    let rows = all_served opening plan lists rounds serves in
    record {
      items = lists;
      callers = callers;
      read = rounds_read files plan lists read;
      sizes = planned_sizes opening plan lists rounds serves;
      calls = all_made opening plan lists rounds serves;
      alone = all_asked opening plan lists rounds serves;
      values = record { carried = begins.values; rows = All-from_recursion HasRowValues rows (all_valued opening plan lists rounds serves sized fits begins.values) };
    }

-- the replies and the history are the output of a run
pub run_output : (files : Files) (opening : Opening) (plan : List RoundPlan) (lists : List (List (List Item))) (rounds : List Round) (serves : ServesFrom opening plan lists rounds) (output : List ℕ)
    → Begins opening → MayBeRun plan → AllZip FitsRound plan lists → AllZip (ReadsRound (Some files)) plan lists
    → output ≡ round_texts 0 lists rounds ++ history_text opening (all_served opening plan lists rounds serves)
    → IsOutputFrom opening plan files (all_served opening plan lists rounds serves) output
unfolding makes_plan
run_output files opening plan lists rounds serves output begins may fits read text =
    let rows = all_served opening plan lists rounds serves in
    let sized : AllByRecursion IsSized plan = recursion_from_All IsSized plan may.in_range in
    let many : length plan ≡ length rows =
    sym (length-map plan (λ (p : RoundPlan). p.limits)) ∙ ap length (planned_sizes opening plan lists rounds serves) ∙ length-map rows (λ (r : RoundRows). r.limits) in
    record {
      made = makes_plan files opening plan lists rounds serves begins sized may.callers fits read;
      lawful = record {
        opens = begins.opens;
        some = omega (arith, many, may.some);
        few = omega (arith, many, may.few);
        lawful = all_lawful opening plan lists rounds serves sized;
      };
      text = text ∙ ap (λ lines. lines ++ history_text opening rows) (all_texts 0 opening plan lists rounds serves fits);
    }

-- what is left has an image
pub left_few : (opening : Opening) (plan : List RoundPlan) (lists : List (List (List Item))) (rounds : List Round) → ServesFrom opening plan lists rounds → Begins opening → MayBeRun plan
    → length (left_by opening rounds).list ≤ DECLARED_MOST
left_few opening plan lists rounds serves begins may =
    subst (λ (o : Opening). length o.list ≤ DECLARED_MOST) (sym (left_is opening plan lists rounds serves))
    (run_leaves opening (all_served opening plan lists rounds serves) (all_lawful opening plan lists rounds serves (recursion_from_All IsSized plan may.in_range)) begins.few)

-- ---- the first rounds

zip_take : {A B : Type 0} (R : A → B → Type 0) (n : ℕ) (xs : List A) (ys : List B) → AllZip R xs ys → AllZip R (take n xs) (take n ys)
zip_take R zero xs ys zip = tt
zip_take R (suc n) [] [] zip = tt
zip_take R (suc n) [] (y ∷ ys) zip = absurd zip
zip_take R (suc n) (x ∷ xs) [] zip = absurd zip
zip_take R (suc n) (x ∷ xs) (y ∷ ys) zip = (zip.0, zip_take R n xs ys zip.1)

-- the rounds of a plan before the one that is refused
abbrev pub rows_before : (opening : Opening) (plan : List RoundPlan) (lists : List (List (List Item))) (seals : List (List (List Row))) (refusal : Refusal)
    → StopsAt opening plan lists seals refusal → List RoundRows
rows_before opening plan lists seals refusal stops = all_served opening (take stops.at plan) (take stops.at lists) stops.rounds stops.served

pub refuses_after : (opening : Opening) (plan : List RoundPlan) (lists : List (List (List Item))) (seals : List (List (List Row))) (refusal : Refusal) (stops : StopsAt opening plan lists seals refusal)
    → Begins opening → MayBeRun plan → RefusesAfter opening plan (rows_before opening plan lists seals refusal stops) refusal
refuses_after opening plan lists seals refusal stops begins may =
    let at = stops.at in
    let before = take at plan in
    let rows = rows_before opening plan lists seals refusal stops in
    let sized : AllByRecursion IsSized before = recursion_from_All IsSized before (All-take IsSized at plan may.in_range) in
    let sizes = planned_sizes opening before (take at lists) stops.rounds stops.served in
    let many : length before ≡ length rows = sym (length-map before (λ (p : RoundPlan). p.limits)) ∙ ap length sizes ∙ length-map rows (λ (r : RoundRows). r.limits) in
    let number : at ≡ length rows = sym (length-take-le at plan (let low = slice_get_within plan at stops.next stops.there in omega (arith, low))) ∙ many in
    record {
      before = before;
      next = stops.next;
      rest = drop (at + 1) plan;
      split = cut_at plan at stops.next stops.there;
      sizes = sizes;
      opens = begins.opens;
      lawful = all_lawful opening before (take at lists) stops.rounds stops.served sized;
      why = subst (λ n. round_refusal n stops.next.limits (closing opening rows) ≡ Some refusal) number
          (subst (λ (o : Opening). round_refusal at stops.next.limits o ≡ Some refusal) (left_is opening before (take at lists) stops.rounds stops.served) stops.why);
    }

-- they make the calls of the files that were read
pub refuses_round : (files : Files) (plan : Plan) (opening : Opening) (lists : List (List (List Item))) (seals : List (List (List Row))) (refusal : Refusal)
    (stops : StopsAt opening plan.rounds lists seals refusal) → IsOpeningOf plan.load files opening → Begins opening → MayBeRun plan.rounds → AllZip FitsRound plan.rounds lists
    → AllZip (ReadsRound (Some files)) plan.rounds lists → RefusesRound plan files (rows_before opening plan.rounds lists seals refusal stops) refusal
unfolding refuses_after
refuses_round files plan opening lists seals refusal stops opens begins may fits read =
    let at = stops.at in
    let before = take at plan.rounds in
    let sized : AllByRecursion IsSized before = recursion_from_All IsSized before (All-take IsSized at plan.rounds may.in_range) in
    record {
      opening = opening;
      opens = opens;
      after = refuses_after opening plan.rounds lists seals refusal stops begins may;
      made = makes_plan files opening before (take at lists) stops.rounds stops.served begins sized (All-take (λ (p : RoundPlan). p.limits.callers ≡ length p.names) at plan.rounds may.callers)
          (zip_take FitsRound at plan.rounds lists fits) (zip_take (ReadsRound (Some files)) at plan.rounds lists read);
    }

-- its seals are the accounts of those rounds
pub refused_kept : (opening : Opening) (plan : List RoundPlan) (lists : List (List (List Item))) (seals : List (List (List Row))) (refusal : Refusal) (stops : StopsAt opening plan lists seals refusal)
    → AllZip FitsRound plan lists → seals ≡ map accounts_served (rows_before opening plan lists seals refusal stops)
refused_kept opening plan lists seals refusal stops fits =
    stops.kept ∙ all_kept opening (take stops.at plan) (take stops.at lists) stops.rounds stops.served (zip_take FitsRound stops.at plan lists fits)
