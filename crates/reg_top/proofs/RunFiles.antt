-- The files of a run: all of them are read, or the first that gave nothing is told.
use Rattle.std.proofs.Common.{◌≡◌, ℕ, suc, ◌+◌, ◌^◌, ◌≤◌, List, [], ◌∷◌, ◌++◌, map, length, take, drop, Option, Some, None, Err, refl, sym, ◌∙◌, ap, subst, append_assoc, arith}
use Rattle.std.specs.Prelude.{All, IfSome, IsSomeAnd, Contains, slice_get}
use Rattle.std.specs.List.{AllZip, flat_map}
use Rattle.std.specs.Option.{option_to_list}
use Rattle.std.proofs.lemmas.List.{map-append, length-map, length-append}
use Rattle.std.proofs.lemmas.List.Elements.{All-nil, All-cons, All-append, All-from_recursion, recursion_from_All, All-map, All-weaker}
use Rattle.std.proofs.lemmas.Grind.{flat_map-append}
use Rattle.std.specs.List.{AllByRecursion}
use Rattle.reg_model.specs.Limits.{IsInRange}
use Rattle.reg_model.specs.Runs.{RoundRows}
use Rattle.reg_model.proofs.RowSteps.{IfSome-weaker}
use Rattle.reg_requests.specs.declared.items.Item.{Item}
use Rattle.reg_requests.specs.Requests.{calls_of}
use Rattle.reg_session.specs.declared.shelf.FetchFault.{FetchFault}
use Rattle.reg_session.specs.declared.shelf.FetchFault.TheVariants as faults
use Rattle.reg_session.specs.declared.shelf.FetchFault.TheVariants.{Failed}
use Rattle.reg_session.specs.Faults.{HasCause}
use Rattle.reg_session.specs.Files.{Files, FetchTells}
use Rattle.reg_session.specs.Outside.{Outside, Tells}
use Rattle.reg_session.specs.Sessions.{MayBeMade}
use Rattle.reg_top.specs.declared.run_files.Unread.{Unread}
use Rattle.reg_top.specs.declared.run_files.Unread.TheVariants as unreads
use Rattle.reg_top.specs.declared.ending.Ending.TheVariants as endings
use Rattle.reg_top.specs.Fetches.{RoundPlan, Plan, Fetch, fetch_of, image_fetches, request_fetches, fetches}
use Rattle.reg_top.specs.Fetches.Command.{Run}
use Rattle.reg_top.specs.Outcomes.{GivenBy, IsHeld, IsReached}
use Rattle.reg_top.specs.inner.Endings.{UnreadWhy, unread_line, Fetched, Untouched, Ends}
use Rattle.reg_top.specs.inner.RunPlans.{MayBeRun}
use Rattle.reg_top.specs.inner.RunFiles.{MayBeServed, IsRead, ReadsRound, LoadsImage, IsFirstUnread, AreUnread}
use Rattle.reg_top.specs.inner.RunRounds.{FitsRound}
use Rattle.reg_top.proofs.BehindFirst.{cut_at}

-- the files of a round
abbrev names_of : RoundPlan → List (List ℕ)
names_of p = p.names

abbrev request : List ℕ → Fetch
request name = fetch_of (2 ^ 24) name

-- what follows of two facts of the files that are told
both : (files : Option Files) (P Q R : Files → Type 0) → ((told : Files) → P told → Q told → R told) → IfSome files P → IfSome files Q → IfSome files R
both None P Q R f p q = tt
both (Some told) P Q R f p q = f told p q

-- ---- files that were read

held_of : (told : Files) (names : List (List ℕ)) (lists : List (List Item)) → AllZip (IsRead (Some told)) names lists → All (IsHeld told) (map request names)
held_of told [] [] read = All-nil (IsHeld told)
held_of told [] (l ∷ lists) read = absurd read
held_of told (n ∷ names) [] read = absurd read
held_of told (n ∷ names) (l ∷ lists) read =
    let first : IsRead (Some told) n l = read.0 in
    All-cons (IsHeld told) (request n) (map request names) (subst (λ h. IsSomeAnd h (λ bytes. length bytes ≤ 2 ^ 24)) (sym first.held) first.within) (held_of told names lists read.1)

pub held_from : (files : Option Files) (names : List (List ℕ)) (lists : List (List Item)) → AllZip (IsRead files) names lists → IfSome files (λ told. All (IsHeld told) (map request names))
held_from None names lists read = tt
held_from (Some told) names lists read = held_of told names lists read

all_held : (told : Files) (plan : List RoundPlan) (lists : List (List (List Item))) → AllZip (ReadsRound (Some told)) plan lists → All (IsHeld told) (map request (flat_map names_of plan))
all_held told [] [] read = All-nil (IsHeld told)
all_held told [] (l ∷ lists) read = absurd read
all_held told (p ∷ plan) [] read = absurd read
all_held told (p ∷ plan) (l ∷ lists) read =
    subst (All (IsHeld told)) (sym (map-append request p.names (flat_map names_of plan)))
    (All-append (IsHeld told) (map request p.names) (map request (flat_map names_of plan)) (held_of told p.names l read.0) (all_held told plan lists read.1))

pub rounds_held : (files : Option Files) (plan : List RoundPlan) (lists : List (List (List Item))) → AllZip (ReadsRound files) plan lists
    → IfSome files (λ told. All (IsHeld told) (map request (flat_map names_of plan)))
rounds_held None plan lists read = tt
rounds_held (Some told) plan lists read = all_held told plan lists read

pub image_held : (files : Option Files) (plan : Plan) (image : Option (List ℕ)) → LoadsImage files plan.load image → IfSome files (λ told. All (IsHeld told) (image_fetches plan))
image_held None plan image loads = tt
image_held (Some told) plan image loads = held_so plan.load image loads
  where
    held_so : (load given : Option (List ℕ)) → LoadsImage (Some told) load given → All (IsHeld told) (map (fetch_of (2 ^ 25)) (option_to_list load))
    held_so None given loads = All-nil (IsHeld told)
    held_so (Some name) None loads = absurd loads
    held_so (Some name) (Some bytes) loads =
        All-cons (IsHeld told) (fetch_of (2 ^ 25) name) [] (subst (λ h. IsSomeAnd h (λ b. length b ≤ 2 ^ 25)) (sym loads.held) loads.within) (All-nil (IsHeld told))

pub all_fetched : (plan : Plan) (image : Option (List ℕ)) (lists : List (List (List Item))) (before after : Outside) → LoadsImage before.shelf.files plan.load image
    → AllZip (ReadsRound before.shelf.files) plan.rounds lists → after.shelf.fetch_faults ≡ before.shelf.fetch_faults → Fetched (Run plan) before after
all_fetched plan image lists before after loads read quiet = record {
  held = both before.shelf.files _ _ (λ told. All (IsHeld told) (image_fetches plan ++ request_fetches plan))
      (λ told first rest. All-append (IsHeld told) (image_fetches plan) (request_fetches plan) first rest)
      (image_held before.shelf.files plan image loads) (rounds_held before.shelf.files plan.rounds lists read);
  quiet = quiet;
}

-- ---- the sessions

pub may_be_made : (lists : List (List Item)) → All MayBeServed lists → All MayBeMade (map calls_of lists)
may_be_made lists may =
    All-map MayBeMade calls_of lists (All-weaker MayBeServed (λ list. MayBeMade (calls_of list)) (λ list served. record { few = omega (arith, served.few); known = served.known }) lists may)

served_of : (files : Option Files) (names : List (List ℕ)) (lists : List (List Item)) → AllZip (IsRead files) names lists → AllByRecursion MayBeServed lists
served_of files [] [] read = tt
served_of files [] (l ∷ lists) read = absurd read
served_of files (n ∷ names) [] read = absurd read
served_of files (n ∷ names) (l ∷ lists) read = (read.0.served, served_of files names lists read.1)

many_lists : (files : Option Files) (names : List (List ℕ)) (lists : List (List Item)) → AllZip (IsRead files) names lists → length lists ≡ length names
many_lists files [] [] read = refl
many_lists files [] (l ∷ lists) read = absurd read
many_lists files (n ∷ names) [] read = absurd read
many_lists files (n ∷ names) (l ∷ lists) read = let rest = many_lists files names lists read.1 in omega (arith, rest)

abbrev HasCallers : RoundPlan → Type 0
HasCallers p = p.limits.callers ≡ length p.names

fits_from : (files : Option Files) (plan : List RoundPlan) (lists : List (List (List Item))) → AllByRecursion HasCallers plan → AllZip (ReadsRound files) plan lists → AllZip FitsRound plan lists
fits_from files [] [] callers read = tt
fits_from files [] (l ∷ lists) callers read = absurd read
fits_from files (p ∷ plan) [] callers read = absurd read
fits_from files (p ∷ plan) (l ∷ lists) callers read = (
  record { many = many_lists files p.names l read.0 ∙ sym callers.0; served = All-from_recursion MayBeServed l (served_of files p.names l read.0) },
  fits_from files plan lists callers.1 read.1,
)

-- there is a list for each session, and the sessions may be served
pub fit_rounds : (files : Option Files) (plan : List RoundPlan) (lists : List (List (List Item))) → MayBeRun plan → AllZip (ReadsRound files) plan lists → AllZip FitsRound plan lists
fit_rounds files plan lists may read = fits_from files plan lists (recursion_from_All HasCallers plan may.callers) read

-- ---- what is given

some_names : (plan : List RoundPlan) → 1 ≤ length plan → AllByRecursion (λ (p : RoundPlan). IsInRange p.limits) plan → AllByRecursion HasCallers plan → 1 ≤ length (flat_map names_of plan)
some_names [] some sized callers = absurd (omega (arith, some))
some_names (p ∷ plan) some sized callers = omega (arith, length-append p.names (flat_map names_of plan), sized.0.callers, callers.0)

-- a run fetches a file
pub some_fetched : (plan : Plan) → MayBeRun plan.rounds → 1 ≤ length (fetches (Run plan))
some_fetched plan may =
    omega (
      arith,
      length-append (image_fetches plan) (request_fetches plan),
      length-map (flat_map names_of plan.rounds) request,
      some_names plan.rounds may.some (recursion_from_All (λ (p : RoundPlan). IsInRange p.limits) plan.rounds may.in_range) (recursion_from_All HasCallers plan.rounds may.callers),
    )

-- what was read, where the shelf tells its files
pub record WasGiven (plan : Plan) (image : Option (List ℕ)) (lists : List (List (List Item))) (told : Files) : Type 0 where
  pub loads : LoadsImage (Some told) plan.load image
  pub read : AllZip (ReadsRound (Some told)) plan.rounds lists

given_of : (list : List Fetch) (files : Option Files) (plan : Plan) (image : Option (List ℕ)) (lists : List (List (List Item))) (P : Files → Type 0) → 1 ≤ length list
    → LoadsImage files plan.load image → AllZip (ReadsRound files) plan.rounds lists → ((told : Files) → WasGiven plan image lists told → P told) → GivenBy list files P
given_of [] files plan image lists P some loads read holds = absurd (omega (arith, some))
given_of (f ∷ list) None plan image lists P some loads read holds = tt
given_of (f ∷ list) (Some told) plan image lists P some loads read holds = holds told (record { loads = loads; read = read })

-- what holds of the files that were read, where the shelf tells them
pub given_read : (plan : Plan) (image : Option (List ℕ)) (lists : List (List (List Item))) (before : Outside) (P : Files → Type 0) → MayBeRun plan.rounds
    → LoadsImage before.shelf.files plan.load image → AllZip (ReadsRound before.shelf.files) plan.rounds lists
    → ((told : Files) → WasGiven plan image lists told → P told) → GivenBy (fetches (Run plan)) before.shelf.files P
given_read plan image lists before P may loads read holds = given_of (fetches (Run plan)) before.shelf.files plan image lists P (some_fetched plan may) loads read holds

-- ---- the first file that gave nothing

contains_behind : {X : Type 0} (front : List X) (x : X) (rest : List X) → Contains (front ++ x ∷ rest) x
contains_behind [] x rest = (0, omega arith, refl)
contains_behind (y ∷ front) x rest = let there = contains_behind front x rest in (suc there.0, omega (arith, there.1), there.2)

pub first_unread : (plan : Plan) (before after : Outside) (served : List RoundRows) (name : List ℕ) (fault : FetchFault)
    → IsFirstUnread before.shelf.files before.shelf.fetch_faults after.shelf.fetch_faults (fetches (Run plan)) name fault → Untouched before after
    → Tells before.sink after.sink (unread_line fault name) → Ends (Run plan) before after served (endings.Unread fault)
first_unread plan before after served name fault first untouched told = record {
  fetch = first.first;
  one = subst (λ (list : List Fetch). Contains list first.first) (sym first.split) (contains_behind first.front first.first first.rest);
  why = both before.shelf.files _ _ (λ files. IsReached (Run plan) files first.first × UnreadWhy fault files first.first)
      (λ files held why. (record { before = first.front; rest = first.rest; all = first.split; held = held }, why)) first.held first.why;
  cause = first.cause;
  untouched = untouched;
  told = subst (λ n. Tells before.sink after.sink (unread_line fault n)) (sym first.named) told;
}

why_told : (fault : FetchFault) (told : Files) (limit : ℕ) (name : List ℕ) → FetchTells (told name) limit (Err fault) [] → UnreadWhy fault told (fetch_of limit name)
why_told faults.Missing told limit name tells = tells
why_told faults.TooLong told limit name tells = tells
why_told faults.Failed told limit name tells = tt
why_told faults.NoMemory told limit name tells = tt

-- one file, which gave nothing
pub one_unread : (files : Option Files) (was after limit : ℕ) (name : List ℕ) (fault : FetchFault) → IfSome files (λ told. FetchTells (told name) limit (Err fault) [])
    → HasCause was after (fault ≡ Failed) → IsFirstUnread files was after (fetch_of limit name ∷ []) name fault
one_unread files was after limit name fault tells cause = record {
  front = [];
  first = fetch_of limit name;
  rest = [];
  split = refl;
  named = refl;
  held = IfSome-weaker _ _ (λ told _. All-nil (IsHeld told)) files tells;
  why = IfSome-weaker _ _ (λ told is. why_told fault told limit name is) files tells;
  cause = cause;
}

-- the first of these files, behind those that were passed
first_behind : (files : Option Files) (was now after : ℕ) (passed list more all : List Fetch) (name : List ℕ) (fault : FetchFault) → all ≡ passed ++ (list ++ more)
    → IfSome files (λ told. All (IsHeld told) passed) → now ≡ was → IsFirstUnread files now after list name fault → IsFirstUnread files was after all name fault
first_behind files was now after passed list more all name fault split held quiet first = record {
  front = passed ++ first.front;
  first = first.first;
  rest = first.rest ++ more;
  split = split ∙ ap (λ fs. passed ++ (fs ++ more)) first.split ∙ ap (λ fs. passed ++ fs) (append_assoc first.front (first.first ∷ first.rest) more)
      ∙ sym (append_assoc passed first.front (first.first ∷ (first.rest ++ more)));
  named = first.named;
  held = both files _ _ (λ told. All (IsHeld told) (passed ++ first.front)) (λ told before front. All-append (IsHeld told) passed first.front before front) held first.held;
  why = first.why;
  cause = subst (λ n. HasCause n after (fault ≡ Failed)) quiet first.cause;
}

-- the files that weren't read, behind those that were
pub unread_behind : (files : Option Files) (was now after : ℕ) (passed list more all : List Fetch) (unread : Unread) → all ≡ passed ++ (list ++ more)
    → IfSome files (λ told. All (IsHeld told) passed) → now ≡ was → AreUnread files now after list unread → AreUnread files was after all unread
unread_behind files was now after passed list more all (unreads.File name fault) split held quiet first = first_behind files was now after passed list more all name.now fault split held quiet first
unread_behind files was now after passed list more all unreads.NoMemory split held quiet same = same ∙ quiet

-- those of a round, behind the rounds that were
pub round_unread : (files : Option Files) (was now after : ℕ) (plan : List RoundPlan) (at : ℕ) (p : RoundPlan) (lists : List (List (List Item))) (unread : Unread) → slice_get plan at ≡ Some p
    → AllZip (ReadsRound files) (take at plan) lists → now ≡ was → AreUnread files now after (map request p.names) unread → AreUnread files was after (map request (flat_map names_of plan)) unread
round_unread files was now after plan at p lists unread there read quiet why =
    let before = flat_map names_of (take at plan) in
    let more = flat_map names_of (drop (at + 1) plan) in
    let names : flat_map names_of plan ≡ before ++ (p.names ++ more) = ap (flat_map names_of) (cut_at plan at p there) ∙ flat_map-append names_of (take at plan) (p ∷ drop (at + 1) plan) in
    let all : map request (flat_map names_of plan) ≡ map request before ++ (map request p.names ++ map request more) =
    ap (map request) names ∙ map-append request before (p.names ++ more) ∙ ap (λ fs. map request before ++ fs) (map-append request p.names more) in
    unread_behind files was now after (map request before) (map request p.names) (map request more) (map request (flat_map names_of plan)) unread all
    (rounds_held files (take at plan) lists read) quiet why
