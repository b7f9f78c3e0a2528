-- The rounds of a workload may be served.
use Rattle.std.proofs.Common.{◌≡◌, ℕ, zero, suc, ◌+◌, ◌*◌, ◌^◌, ◌<◌, ◌≤◌, false, not, List, [], ◌∷◌, ◌++◌, map, length, None, refl, sym, subst, arith, lit≤}
use Rattle.std.specs.Prelude.{All, nat_lt}
use Rattle.std.specs.List.{AllByRecursion, range_with_len}
use Rattle.std.proofs.lemmas.Bool.Decides.{nat_tests}
use Rattle.std.proofs.lemmas.List.Elements.{All-from_recursion, All-append, All-cons, All-nil}
use Rattle.std.proofs.lemmas.List.FromFn.{length-map-range_with_len}
use Rattle.std.proofs.lemmas.List.Sums.{length-filter, count_by-le-length}
use Rattle.std.proofs.Math.Nat.{mul-le-mul_left}
use Rattle.reg_model.specs.declared.call.Call.{Call}
use Rattle.reg_model.specs.declared.call.Call.TheVariants as calls
use Rattle.reg_model.specs.declared.round.Round.{Round}
use Rattle.reg_model.specs.declared.update.Update.{Update}
use Rattle.reg_model.specs.declared.update.Update.TheVariants.{Decl, Wd}
use Rattle.reg_model.specs.declared.update.Declared.{Declared}
use Rattle.reg_model.specs.Calls.{IsRequest}
use Rattle.reg_model.specs.Limits.{Limits}
use Rattle.reg_model.specs.Live.{declared_from, declared, is_withdrawn, live}
use Rattle.reg_model.specs.Opening.{Opening}
use Rattle.reg_model.specs.Registry.{start_refusal}
use Rattle.reg_model.specs.Rows.{log_of}
use Rattle.reg_model.specs.Runs.{nothing}
use Rattle.reg_model.proofs.LawfulRounds.{log_fits}
use Rattle.reg_session.specs.Sessions.{MayBeMade, ServesRound}
use Rattle.reg_make.specs.Generator.{centre, unit}
use Rattle.reg_make.specs.Workloads.{Work, IsWork, unit_count, withdrawal_count, work_limits, declare_calls, first_calls, second_calls}
use Rattle.reg_make.proofs.Numbers.{centre_fits, unit_fits}

-- ---- the calls may be asked for

each_of_range : {X : Type 0} (P : X → Type 0) (f : ℕ → X) (a n : ℕ) → ((i : ℕ) → i < a + n → P (f i)) → AllByRecursion P (map f (range_with_len a n))
each_of_range P f a zero h = tt
each_of_range P f a (suc n) h = (h a (omega arith), each_of_range P f (a + 1) n (λ i low. h i (omega (arith, low))))

all_of_range : {X : Type 0} (P : X → Type 0) (f : ℕ → X) (a n : ℕ) → ((i : ℕ) → i < a + n → P (f i)) → All P (map f (range_with_len a n))
all_of_range P f a n h = All-from_recursion P (map f (range_with_len a n)) (each_of_range P f a n h)

each_few : (work : Work) → IsWork work → work.each ≤ 1000000
each_few work is = omega (arith, is.units, is.sessions.0, mul-le-mul_left work.each is.sessions.0)

pub may_declare : (work : Work) → IsWork work → All MayBeMade (first_calls work)
may_declare work is = all_of_range MayBeMade (declare_calls work) 0 work.sessions
    (λ s low. record {
      few = omega (arith, each_few work is, length-map-range_with_len (λ i. calls.Declare (unit work.seed i)) (s * work.each) work.each);
      known = all_of_range IsRequest (λ i. calls.Declare (unit work.seed i)) (s * work.each) work.each (λ i inside. unit_fits work.seed i);
    })

pub may_withdraw : (work : Work) → IsWork work → All MayBeMade (second_calls work)
may_withdraw work is =
    let queries = map (λ j. calls.Near (centre work.seed j) 1) (range_with_len 0 16) in
    let withdrawals = map calls.Withdraw (range_with_len 0 (withdrawal_count work)) in
    All-cons MayBeMade (queries ++ withdrawals) []
    (record {
      few = omega (arith, is.units, length-map-range_with_len calls.Withdraw 0 (withdrawal_count work));
      known = All-append IsRequest queries withdrawals
          (all_of_range IsRequest (λ j. calls.Near (centre work.seed j) 1) 0 16 (λ j low. (centre_fits work.seed j, lit≤ tt)))
          (all_of_range IsRequest calls.Withdraw 0 (withdrawal_count work) (λ id low. omega (arith, is.units, low)));
    })
    (All-nil MayBeMade)

-- there are as many lists as sessions
pub many_lists : (work : Work) → length (first_calls work) ≡ work.sessions
many_lists work = length-map-range_with_len (declare_calls work) 0 work.sessions

-- ---- the rounds can begin

pub begins : (work : Work) (callers : ℕ) (opening : Opening) → IsWork work → opening.base ≤ unit_count work + 16 → length opening.list ≤ unit_count work + 16
    → start_refusal (work_limits work callers) opening ≡ None
begins work callers opening is base few =
    let room : nat_lt (unit_count work + 16) (length opening.list) ≡ false = grind (arith, nat_tests, few) in
    let ids : nat_lt (2 ^ 34) (opening.base + (unit_count work + 16)) ≡ false = grind (arith, nat_tests, base, is.units) in
    rw (room, ids) refl

declared_few : (id : ℕ) (log : List Update) → length (declared_from id log) ≤ length log
declared_few id [] = omega arith
declared_few id (Decl unit ∷ log) = omega (arith, declared_few (id + 1) log)
declared_few id (Wd other ∷ log) = omega (arith, declared_few (id + 1) log)

-- behind a round that began with nothing
pub begins_behind : (work : Work) (callers : ℕ) (limits : Limits) (made : List (List Call)) (round : Round) → IsWork work → limits.log ≡ unit_count work + 16 → ServesRound limits nothing made round
    → start_refusal (work_limits work callers) round.carried ≡ None
begins_behind work callers limits made round is long serves =
    let fits : length (log_of serves.merge.rows) ≤ limits.log = log_fits limits nothing [] serves.merge.rows serves.merge.lawful (omega arith) in
    let log : length serves.log ≤ limits.log = subst (λ log. length log ≤ limits.log) serves.merge.makes fits in
    let few : length (live nothing serves.log) ≤ length serves.log =
    omega (arith, length-filter (λ (d : Declared). not (is_withdrawn serves.log d.id)) (declared nothing serves.log), count_by-le-length (λ (d : Declared). not (is_withdrawn serves.log d.id)) (declared nothing serves.log), declared_few 0 serves.log) in
    subst (λ (opening : Opening). start_refusal (work_limits work callers) opening ≡ None) (sym serves.carried)
    (begins work callers (record { base = 0 + length serves.log; list = live nothing serves.log }) is (omega (arith, log, long)) (omega (arith, few, log, long)))
