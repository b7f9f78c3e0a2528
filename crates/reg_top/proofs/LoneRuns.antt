-- Runs whose rounds have one session each.
use Rattle.std.proofs.Common.{◌≡◌, ℕ, ◌≤◌, true, List, [], ◌∷◌, ◌++◌, map, length, drop, refl, sym, ◌∙◌, ap, ap₂, subst, arith}
use Rattle.std.specs.Prelude.{All, ◌==◌, Option, Some, IfSome}
use Rattle.std.specs.List.{AllZip, AllByRecursion}
use Rattle.std.proofs.lemmas.Option.{same_Some}
use Rattle.std.proofs.lemmas.List.Elements.{recursion_from_All}
use Rattle.reg_model.specs.declared.call.Call.{Call}
use Rattle.reg_model.specs.declared.reply.Row.{Row}
use Rattle.reg_model.specs.Limits.{Limits}
use Rattle.reg_model.specs.Opening.{Opening, IsOpening}
use Rattle.reg_model.specs.Rows.{MayFollow, EachAfter, IsLawful, AsksLogFirst, session_rows}
use Rattle.reg_model.specs.Runs.{RoundRows, next_opening, IsLawfulRound, IsLawfulRun}
use Rattle.reg_model.proofs.LawfulRounds.{next_opens}
use Rattle.reg_model.proofs.LoneRounds.{lone_round}
use Rattle.reg_requests.specs.declared.items.Item.{Item}
use Rattle.reg_requests.specs.Requests.{AreItems, calls_of}
use Rattle.reg_requests.proofs.FileItems.{one_list}
use Rattle.reg_history.specs.History.{history_text}
use Rattle.reg_session.specs.Files.{Files}
use Rattle.reg_session.specs.Outside.{Outside, TakesWhole}
use Rattle.reg_top.specs.Fetches.{RoundPlan, Plan, Fetch, fetches}
use Rattle.reg_top.specs.Fetches.Command.{Run}
use Rattle.reg_top.specs.Words.{IsForm}
use Rattle.reg_top.specs.Outcomes.{GivenBy, Writes, TakesLoneOutput}
use Rattle.reg_top.proofs.PlannedRuns.{may_be_run}
use Rattle.reg_top.proofs.RunFiles.{some_fetched}
use Rattle.reg_top.proofs.Forms.{one_form}
use Rattle.reg_top.proofs.RoundRefusals.{same_opening}
use Rattle.reg_top.specs.commands.Run.{IsRunOutput, IsOutputFrom, reply_texts, MakesCalls, IsFileOf, AskLogFirst}
use Rattle.reg_top.specs.Laws.{LoneWordsTellOutput}

-- ---- lists side by side

zip_same : {A B : Type 0} (R : A → B → Type 0) → ((x : A) (y z : B) → R x y → R x z → y ≡ z) → (xs : List A) (ys zs : List B) → AllZip R xs ys → AllZip R xs zs → ys ≡ zs
zip_same R one [] [] [] h k = refl
zip_same R one [] [] (z ∷ zs) h k = absurd k
zip_same R one [] (y ∷ ys) zs h k = absurd h
zip_same R one (x ∷ xs) [] zs h k = absurd h
zip_same R one (x ∷ xs) (y ∷ ys) [] h k = absurd k
zip_same R one (x ∷ xs) (y ∷ ys) (z ∷ zs) h k = ap₂ (λ b bs. b ∷ bs) (one x y z h.0 k.0) (zip_same R one xs ys zs h.1 k.1)

zip_length : {A B : Type 0} (R : A → B → Type 0) (xs : List A) (ys : List B) → AllZip R xs ys → length xs ≡ length ys
zip_length R [] [] h = refl
zip_length R [] (y ∷ ys) h = absurd h
zip_length R (x ∷ xs) [] h = absurd h
zip_length R (x ∷ xs) (y ∷ ys) h = let rest = zip_length R xs ys h.1 in omega (arith, rest)

-- ---- the items of the files

file_same : (files : Files) (name : List ℕ) (x y : List Item) → IsFileOf files name x → IsFileOf files name y → x ≡ y
file_same files name x y h k =
    let bytes : h.0 ≡ k.0 = same_Some h.0 k.0 (sym h.1 ∙ k.1) in
    one_list k.0 x y (subst (λ b. AreItems b x) bytes h.2) k.2

abbrev ReadsFiles : Files → RoundPlan → List (List Item) → Type 0
ReadsFiles files p lists = AllZip (IsFileOf files) p.names lists

items_same : (plan : List RoundPlan) (files : Files) (a b : List (List (List Item))) → AllZip (ReadsFiles files) plan a → AllZip (ReadsFiles files) plan b → a ≡ b
items_same plan files a b h k = zip_same (ReadsFiles files) (λ p x y hx hy. zip_same (IsFileOf files) (file_same files) p.names x y hx hy) plan a b h k

-- ---- one session in each round

abbrev IsLone : RoundPlan → Type 0
IsLone p = p.limits.callers ≡ 1

abbrev IsNamed : RoundPlan → Type 0
IsNamed p = p.limits.callers ≡ length p.names

abbrev HasOne : List (List Item) → Type 0
HasOne lists = length lists ≡ 1

each_one : (files : Files) (plan : List RoundPlan) (items : List (List (List Item))) → AllByRecursion IsLone plan → AllByRecursion IsNamed plan
    → AllZip (ReadsFiles files) plan items → AllByRecursion HasOne items
each_one files [] [] lone named read = tt
each_one files [] (l ∷ ls) lone named read = absurd read
each_one files (p ∷ ps) [] lone named read = absurd read
each_one files (p ∷ ps) (l ∷ ls) lone named read =
    (sym (zip_length (IsFileOf files) p.names l read.0) ∙ sym named.0 ∙ lone.0, each_one files ps ls lone.1 named.1 read.1)

abbrev IsLoneRow : RoundRows → Type 0
IsLoneRow r = r.limits.callers ≡ 1

abbrev sizes_planned : List RoundPlan → List Limits
sizes_planned plan = map (λ (p : RoundPlan). p.limits) plan

abbrev sizes_had : List RoundRows → List Limits
sizes_had rounds = map (λ (r : RoundRows). r.limits) rounds

lone_rounds : (plan : List RoundPlan) (rounds : List RoundRows) → sizes_planned plan ≡ sizes_had rounds → AllByRecursion IsLone plan → AllByRecursion IsLoneRow rounds
lone_rounds [] [] same lone = tt
lone_rounds [] (r ∷ rs) same lone = absurd (cc)
lone_rounds (p ∷ ps) [] same lone = absurd (cc)
lone_rounds (p ∷ ps) (r ∷ rs) same lone =
    let first : p.limits ≡ r.limits = cc in
    (subst (λ (l : Limits). l.callers ≡ 1) first lone.0, lone_rounds ps rs (ap (drop 1) same) lone.1)

-- the one session makes all rows
alone : (limits : Limits) (opening : Opening) (before rows : List Row) → limits.callers ≡ 1 → EachAfter (MayFollow limits opening) before rows → session_rows 0 rows ≡ rows
alone limits opening before [] lone each = refl
alone limits opening before (row ∷ rows) lone each =
    let follows : MayFollow limits opening before row = each.0 in
    let first : (row.session == 0) ≡ true = grind (arith, follows.session, lone) in
    rw first (ap (λ rs. row ∷ rs) (alone limits opening (before ++ row ∷ []) rows lone each.1))

-- ---- rounds

abbrev round_of : Limits → List Row → RoundRows
round_of limits rows = record { limits = limits; rows = rows }

abbrev row_calls : List Row → List Call
row_calls rows = map (λ (row : Row). row.call) rows

lone_calls : (opening : Opening) (list : List Item) (round : RoundRows) → MakesCalls (list ∷ []) round → round.limits.callers ≡ 1
    → IsLawful round.limits opening round.rows → row_calls round.rows ≡ calls_of list
lone_calls opening list round made lone lawful =
    ap row_calls (sym (alone round.limits opening [] round.rows lone lawful)) ∙ made 0 list refl

one_round : (opening : Opening) (lists : List (List Item)) (a b : RoundRows) → length lists ≡ 1 → a.limits ≡ b.limits → a.limits.callers ≡ 1
    → MakesCalls lists a → MakesCalls lists b → IsOpening opening → IsLawfulRound opening a → IsLawfulRound opening b
    → (a.limits.callers ≡ 1 → All (AsksLogFirst a.limits opening) a.rows) → (b.limits.callers ≡ 1 → All (AsksLogFirst b.limits opening) b.rows) → a ≡ b
one_round opening [] a b one limits lone made made' opens x y asks asks' = absurd (omega (arith, one))
one_round opening (list ∷ l ∷ lists) a b one limits lone made made' opens x y asks asks' = absurd (omega (arith, one))
one_round opening (list ∷ []) a b one limits lone made made' opens x y asks asks' =
    let lone' : b.limits.callers ≡ 1 = subst (λ (l : Limits). l.callers ≡ 1) limits lone in
    let lawful' : IsLawful a.limits opening b.rows = subst (λ (l : Limits). IsLawful l opening b.rows) (sym limits) y.rows in
    let first' : All (AsksLogFirst a.limits opening) b.rows = subst (λ (l : Limits). All (AsksLogFirst l opening) b.rows) (sym limits) (asks' lone') in
    let calls : row_calls a.rows ≡ row_calls b.rows = lone_calls opening list a made lone x.rows ∙ sym (lone_calls opening list b made' lone' y.rows) in
    let rows : a.rows ≡ b.rows = lone_round a.limits opening a.rows b.rows opens lone x.rows lawful' (asks lone) first' calls in
    ap₂ round_of limits rows

rounds_same : (opening : Opening) (items : List (List (List Item))) (xs ys : List RoundRows) → AllByRecursion HasOne items → sizes_had xs ≡ sizes_had ys → AllByRecursion IsLoneRow xs
    → AllZip MakesCalls items xs → AllZip MakesCalls items ys → IsOpening opening → IsLawfulRun opening xs → IsLawfulRun opening ys
    → AskLogFirst opening xs → AskLogFirst opening ys → xs ≡ ys
rounds_same opening [] [] [] one sizes lone made made' opens x y asks asks' = refl
rounds_same opening [] [] (b ∷ ys) one sizes lone made made' opens x y asks asks' = absurd made'
rounds_same opening [] (a ∷ xs) ys one sizes lone made made' opens x y asks asks' = absurd made
rounds_same opening (l ∷ ls) [] ys one sizes lone made made' opens x y asks asks' = absurd made
rounds_same opening (l ∷ ls) (a ∷ xs) [] one sizes lone made made' opens x y asks asks' = absurd made'
rounds_same opening (l ∷ ls) (a ∷ xs) (b ∷ ys) one sizes lone made made' opens x y asks asks' =
    let limits : a.limits ≡ b.limits = cc in
    let first : a ≡ b = one_round opening l a b one.0 limits lone.0 made.0 made'.0 opens x.0 y.0 asks.0 asks'.0 in
    let next = next_opening opening a.rows in
    let behind : IsLawfulRun next ys = subst (λ (r : RoundRows). IsLawfulRun (next_opening opening r.rows) ys) (sym first) y.1 in
    let asked : AskLogFirst next ys = subst (λ (r : RoundRows). AskLogFirst (next_opening opening r.rows) ys) (sym first) asks'.1 in
    ap₂ (λ r rs. r ∷ rs) first
    (rounds_same next ls xs ys one.1 (ap (drop 1) sizes) lone.1 made.1 made'.1 (next_opens opening a opens x.0) x.1 behind asks.1 asked)

-- ---- the output

lone_plans : (opening : Opening) (plan : List RoundPlan) (files : Files) (served other : List RoundRows) (output more : List ℕ)
    → All IsLone plan → IsOutputFrom opening plan files served output → IsOutputFrom opening plan files other more → (served ≡ other) × (output ≡ more)
lone_plans opening plan files served other output more lone a b =
    let x = a.made in
    let y = b.made in
    let items : x.items ≡ y.items = items_same plan files x.items y.items x.read y.read in
    let planned : AllByRecursion IsLone plan = recursion_from_All IsLone plan lone in
    let ones : AllByRecursion HasOne x.items = each_one files plan x.items planned (recursion_from_All IsNamed plan x.callers) x.read in
    let rounds : served ≡ other =
    rounds_same opening x.items served other ones (sym x.sizes ∙ y.sizes) (lone_rounds plan served x.sizes planned) x.calls
    (subst (λ is. AllZip MakesCalls is other) (sym items) y.calls) a.lawful.opens a.lawful.lawful b.lawful.lawful x.alone y.alone in
    (rounds, a.text ∙ ap₂ (λ is rs. reply_texts 0 is rs ++ history_text opening rs) items rounds ∙ sym b.text)

same_plan : (words : List (List ℕ)) (plan again : Plan) → IsForm words (Run plan) → IsForm words (Run again) → again ≡ plan
same_plan words plan again form other = let same : Run again ≡ Run plan = one_form words (Run again) (Run plan) other form in cc

-- one plan, one opening, and so one list of rounds
lone_outputs : (plan : Plan) (files : Files) (served other : List RoundRows) (output more : List ℕ)
    → All IsLone plan.rounds → IsRunOutput plan files served output → IsRunOutput plan files other more → (served ≡ other) × (output ≡ more)
lone_outputs plan files served other output more lone a b =
    let same : b.opening ≡ a.opening = same_opening plan.load files b.opening a.opening b.opens a.opens in
    lone_plans a.opening plan.rounds files served other output more lone a.is (subst (λ (o : Opening). IsOutputFrom o plan.rounds files other more) same b.is)

pub lone_runs : LoneWordsTellOutput
lone_runs words plan again files served other output more form repeated lone a b =
    lone_outputs plan files served other output more lone a (subst (λ (p : Plan). IsRunOutput p files other more) (same_plan words plan again form repeated) b)

-- ---- what the sink has taken

given_some : (list : List Fetch) (told : Option Files) (files : Files) (P : Files → Type 0) → 1 ≤ length list → told ≡ Some files → GivenBy list told P → P files
given_some [] told files P some held given = absurd (omega (arith, some))
given_some (f ∷ list) told files P some held given = subst (λ o. IfSome o P) held given

pub lone_taken : (words : List (List ℕ)) (plan : Plan) (before after : Outside) (served : List RoundRows) → IsForm words (Run plan) → Writes (Run plan) before after served
    → TakesLoneOutput plan before after
lone_taken words plan before after served form writes files other output lone held is =
    let wrote = given_some (fetches (Run plan)) before.shelf.files files (λ map. (text : List ℕ) × IsRunOutput plan map served text × TakesWhole before.sink.taken after.sink.taken text)
    (some_fetched plan (may_be_run words plan form)) held writes in
    let same = lone_outputs plan files served other wrote.0 output lone wrote.1 is in
    subst (TakesWhole before.sink.taken after.sink.taken) same.1 wrote.2
