-- The rounds of a workload that were served: they are a lawful run of it, and their seals have its rows.
use Rattle.std.proofs.Common.{◌≡◌, ℕ, ◌+◌, ◌≤◌, List, [], ◌∷◌, ◌++◌, length, get_or, map, None, Some, refl, sym, ◌∙◌, ap, ap₂, subst, arith, lit≤}
use Rattle.std.specs.List.{range_with_len}
use Rattle.std.proofs.lemmas.List.{length-map}
use Rattle.std.proofs.lemmas.List.FromFn.{length-range_with_len}
use Rattle.std.proofs.lemmas.Option.{slice_get-get_or}
use Rattle.reg_model.specs.declared.call.Call.{Call}
use Rattle.reg_model.specs.declared.reply.Row.{Row}
use Rattle.reg_model.specs.declared.round.Round.{Round}
use Rattle.reg_model.specs.Limits.{Limits, IsInRange}
use Rattle.reg_model.specs.Opening.{Opening}
use Rattle.reg_model.specs.Registry.{start_refusal}
use Rattle.reg_model.specs.Rows.{session_rows}
use Rattle.reg_model.specs.Runs.{RoundRows, IsLawfulRound, nothing}
use Rattle.reg_model.proofs.SessionAccounts.{kept_account}
use Rattle.reg_requests.specs.Lines.{line}
use Rattle.reg_session.specs.Sessions.{ServesRound, calls_made}
use Rattle.reg_make.specs.declared.counts.Counts.{Counts}
use Rattle.reg_make.specs.Workloads.{Work, IsWork, IsWorkRun, work_limits, declare_calls, first_calls, second_calls, work_counts}
use Rattle.reg_make.proofs.ServedCounts.{rows_of, made_lists, behind}
use Rattle.reg_make.proofs.WorkCounts.{tells_counts}
use Rattle.reg_top.specs.commands.Make.{counts_text, IsMakeOutput}
use Rattle.reg_top.specs.commands.Run.{accounts_served}
use Rattle.reg_top.proofs.RunImages.{nothing_opens}
use Rattle.reg_top.proofs.ServedRounds.{tabulated, may_begin}

-- the accounts of a round are the rows of each session
accounts_kept : (limits : Limits) (opening : Opening) (lists : List (List Call)) (round : Round) (serves : ServesRound limits opening lists round) → length lists ≡ limits.callers
    → round.accounts ≡ accounts_served (rows_of limits opening lists round serves)
accounts_kept limits opening lists round serves many =
    let merged : List Row = serves.merge.rows in
    tabulated round.accounts (λ session. session_rows session merged) 0
    (λ n low.
    let at = slice_get-get_or round.accounts n [] low in
    at
    ∙ ap Some (sym (kept_account round.accounts merged n (get_or round.accounts n []) serves.numbered serves.seen serves.merge.merge at))
    ∙ ap (λ k. Some (session_rows k merged)) (let same : n ≡ 0 + n = omega arith in same))
    ∙ ap (λ n. map (λ session. session_rows session merged) (range_with_len 0 n)) (sym (length-map round.accounts calls_made) ∙ ap length serves.makes ∙ many)

-- the sizes of a workload's rounds are in range
in_range : (work : Work) (callers : ℕ) → IsWork work → 1 ≤ callers → callers ≤ 16 → IsInRange (work_limits work callers)
in_range work callers is some few = record {
  entries = (omega arith, omega (arith, is.units));
  log = (omega arith, omega (arith, is.units));
  bits = (lit≤ tt, lit≤ tt);
  callers = (some, few);
}

many_first : (work : Work) → length (first_calls work) ≡ work.sessions
many_first work = length-map (range_with_len 0 work.sessions) (declare_calls work) ∙ length-range_with_len 0 work.sessions

-- both rounds, as they were served
pub record HasServed (work : Work) (first second : Round) : Type 0 where
  pub is : IsWork work
  pub one : ServesRound (work_limits work work.sessions) nothing (first_calls work) first
  pub two : ServesRound (work_limits work 1) first.carried (second_calls work) second
  pub one_begins : start_refusal (work_limits work work.sessions) nothing ≡ None
  pub two_begins : start_refusal (work_limits work 1) first.carried ≡ None

-- their rows
abbrev pub work_rows : (work : Work) (first second : Round) → HasServed work first second → List RoundRows
work_rows work first second has =
    rows_of (work_limits work work.sessions) nothing (first_calls work) first has.one ∷ rows_of (work_limits work 1) first.carried (second_calls work) second has.two ∷ []

pub work_run : (work : Work) (first second : Round) (has : HasServed work first second) → IsWorkRun work (work_rows work first second has)
work_run work first second has =
    let one_may = may_begin (work_limits work work.sessions) nothing has.one_begins in
    let two_may = may_begin (work_limits work 1) first.carried has.two_begins in
    let next : IsLawfulRound first.carried (rows_of (work_limits work 1) first.carried (second_calls work) second has.two) =
    record { sizes = in_range work 1 has.is (lit≤ tt) (lit≤ tt); room = two_may.0; ids = two_may.1; rows = has.two.merge.lawful } in
    record {
      sizes = refl;
      made = (
        made_lists (work_limits work work.sessions) nothing (first_calls work) first has.one,
        (made_lists (work_limits work 1) first.carried (second_calls work) second has.two, tt),
      );
      lawful = record {
        opens = nothing_opens;
        some = lit≤ tt;
        few = lit≤ tt;
        lawful = (
          record { sizes = in_range work work.sessions has.is has.is.sessions.0 has.is.sessions.1; room = one_may.0; ids = one_may.1; rows = has.one.merge.lawful },
          (
            subst (λ o. IsLawfulRound o (rows_of (work_limits work 1) first.carried (second_calls work) second has.two)) (behind work first second has.is has.one has.two) next,
            tt,
          ),
        );
      };
    }

-- the seals are those of the rows
pub seals_kept : (work : Work) (first second : Round) (has : HasServed work first second) → first.accounts ∷ second.accounts ∷ [] ≡ map accounts_served (work_rows work first second has)
seals_kept work first second has =
    ap₂ (λ (a b : List (List Row)). a ∷ b ∷ [])
    (accounts_kept (work_limits work work.sessions) nothing (first_calls work) first has.one (many_first work))
    (accounts_kept (work_limits work 1) first.carried (second_calls work) second has.two refl)

-- and the line with the counts is the output
pub work_output : (work : Work) (first second : Round) (has : HasServed work first second) (counts : Counts) (text : List ℕ) → counts ≡ work_counts work → text ≡ line (counts_text counts)
    → IsMakeOutput work (work_rows work first second has) text
work_output work first second has counts text told is =
    let run = work_run work first second has in
    record { made = run; text = is ∙ ap (λ c. line (counts_text c)) (told ∙ sym (tells_counts work (work_rows work first second has) has.is run)) }

-- two seals were kept, one behind the other
pub both_kept : {X : Type 0} {old one both : List X} {s t a b : X} → old ≡ [] → one ≡ old ++ s ∷ [] → both ≡ one ++ t ∷ [] → s ≡ a → t ≡ b → both ≡ a ∷ b ∷ []
both_kept none first second is other = rw (second, first, none, is, other) refl
