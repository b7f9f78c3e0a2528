-- The rounds of a run, from the items of their sessions' files on.
use Rattle.std.specs.Prelude.{◌≡◌, ℕ, ◌+◌, List, [], ◌∷◌, ◌++◌, length, map, take, slice_get, All, Some, None, codes}
use Rattle.std.specs.Fmt.{decimal}
use Rattle.reg_model.specs.declared.reply.Row.{Row}
use Rattle.reg_model.specs.declared.round.Round.{Round}
use Rattle.reg_model.specs.Limits.{Limits}
use Rattle.reg_model.specs.Opening.{Opening}
use Rattle.reg_model.specs.Registry.{start_refusal}
use Rattle.reg_model.specs.Runs.{RoundRows}
use Rattle.reg_requests.specs.declared.items.Item.{Item}
use Rattle.reg_requests.specs.Lines.{line, spaced}
use Rattle.reg_requests.specs.Requests.{calls_of}
use Rattle.reg_session.specs.Sessions.{ServesRound}
use Rattle.reg_history.specs.History.{history_text}
use Rattle.reg_top.specs.declared.ending.Declined.{Declined}
use Rattle.reg_top.specs.declared.ending.Declined.TheVariants as declines
use Rattle.reg_top.specs.declared.refusal.Refusal.{Refusal}
use Rattle.reg_top.specs.Fetches.{RoundPlan}
use Rattle.reg_top.specs.commands.Run.{item_lines, round_refusal}
use Rattle.reg_top.specs.inner.RunFiles.{MayBeServed}

-- ---- rounds

-- the lists are for the sessions of the round
pub record FitsRound (plan : RoundPlan) (lists : List (List Item)) : Type 0 where
  pub many : length lists ≡ plan.limits.callers
  pub served : All MayBeServed lists

-- the round can begin, and its sessions make the calls of these items
pub record ServesNext (limits : Limits) (opening : Opening) (lists : List (List Item)) (round : Round) : Type 0 where
  pub begins : start_refusal limits opening ≡ None
  pub serves : ServesRound limits opening (map calls_of lists) round

-- each of the rounds begins with what the one before it leaves
abbrev pub ServesFrom : Opening → List RoundPlan → List (List (List Item)) → List Round → Type 0
ServesFrom opening [] [] [] = Unit {0}
ServesFrom opening (p ∷ plan) (list ∷ lists) (round ∷ rounds) = ServesNext p.limits opening list round × ServesFrom round.carried plan lists rounds
ServesFrom opening plan lists rounds = ⊥

-- what the last of the rounds leaves
abbrev pub left_by : Opening → List Round → Opening
left_by opening [] = opening
left_by opening (round ∷ rounds) = left_by round.carried rounds

abbrev pub round_accounts : List Round → List (List (List Row))
round_accounts rounds = map (λ (round : Round). round.accounts) rounds

-- The rounds before the one at a place were served and their seals kept, and that one is refused.
pub record StopsAt (opening : Opening) (plan : List RoundPlan) (lists : List (List (List Item))) (seals : List (List (List Row))) (refusal : Refusal) : Type 0 where
  pub at : ℕ
  pub next : RoundPlan
  pub there : slice_get plan at ≡ Some next
  pub rounds : List Round
  pub served : ServesFrom opening (take at plan) (take at lists) rounds
  pub kept : seals ≡ round_accounts rounds
  pub why : round_refusal at next.limits (left_by opening rounds) ≡ Some refusal

-- why a round isn't served: it is refused, or memory is wanting
abbrev pub IsDeclinedNext : ℕ → Limits → Opening → Declined → Type 0
IsDeclinedNext number limits opening (declines.Refused refusal) = round_refusal number limits opening ≡ Some refusal
IsDeclinedNext number limits opening declines.NoMemory = Unit {0}

-- why the rounds of a plan aren't served
abbrev pub IsDeclinedAt : Opening → List RoundPlan → List (List (List Item)) → List (List (List Row)) → Declined → Type 0
IsDeclinedAt opening plan lists seals (declines.Refused refusal) = StopsAt opening plan lists seals refusal
IsDeclinedAt opening plan lists seals declines.NoMemory = Unit {0}

-- ---- the output

-- the replies of a round to its sessions, from a session on, whose accounts these are
abbrev pub account_texts : ℕ → ℕ → List (List Item) → List (List Row) → List ℕ
account_texts round session [] accounts = []
account_texts round session (list ∷ lists) [] = []
account_texts round session (list ∷ lists) (account ∷ accounts) =
    line (spaced (codes "replies" ∷ decimal round ∷ decimal session ∷ []))
    ++ item_lines list account
    ++ account_texts round (session + 1) lists accounts

-- the replies of the rounds, from a round on
abbrev pub round_texts : ℕ → List (List (List Item)) → List Round → List ℕ
round_texts number [] rounds = []
round_texts number (lists ∷ more) [] = []
round_texts number (lists ∷ more) (round ∷ rounds) = account_texts number 0 lists round.accounts ++ round_texts (number + 1) more rounds

-- the rows of a round that was served
abbrev pub rows_served : (limits : Limits) (opening : Opening) (lists : List (List Item)) (round : Round) → ServesRound limits opening (map calls_of lists) round → RoundRows
rows_served limits opening lists round serves = record { limits = limits; rows = (let merge = serves.merge in merge.rows) }

abbrev pub all_served : (opening : Opening) (plan : List RoundPlan) (lists : List (List (List Item))) (rounds : List Round) → ServesFrom opening plan lists rounds → List RoundRows
all_served opening [] [] [] serves = []
all_served opening (p ∷ plan) (list ∷ lists) (round ∷ rounds) serves =
    rows_served p.limits opening list round (let first = serves.0 in first.serves) ∷ all_served round.carried plan lists rounds serves.1
all_served opening plan lists rounds serves = []

-- The text of a run whose rounds were served, and whose seals were kept.
pub record IsServedText (opening : Opening) (plan : List RoundPlan) (lists : List (List (List Item))) (seals : List (List (List Row))) (text : List ℕ) : Type 0 where
  pub rounds : List Round
  pub served : ServesFrom opening plan lists rounds
  pub kept : seals ≡ round_accounts rounds
  pub is : text ≡ round_texts 0 lists rounds ++ history_text opening (all_served opening plan lists rounds served)
