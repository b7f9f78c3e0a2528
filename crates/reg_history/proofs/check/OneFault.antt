-- A text has one first line that can't stand, or none and one end.
use Rattle.std.proofs.Common.{◌≡◌, ℕ, ◌+◌, ◌<◌, List, [], ◌∷◌, ◌++◌, length, Option, Some, None, inl, inr, refl, sym, ◌∙◌, ap, ap₂, subst, lit<, arith, append_assoc, append-nil}
use Rattle.std.specs.List.{flat_map}
use Rattle.std.proofs.lemmas.Bool.{cases_order}
use Rattle.reg_history.specs.declared.lines.told.HistoryLine.{HistoryLine}
use Rattle.reg_history.specs.declared.lines.told.HistoryLine.TheVariants as lines
use Rattle.reg_history.specs.declared.check.fault.CheckWhy.{CheckWhy}
use Rattle.reg_history.specs.declared.check.fault.CheckWhy.TheVariants as why
use Rattle.reg_history.specs.lines.HistoryLines.{whole_line, IsLineValue}
use Rattle.reg_history.specs.check.Checking.{Front, Nothing, Carried, Serving, Ended, after, after_all, Owes, CanStand, EachStands, rank, Fails, FailsAt, HasLineFault}
use Rattle.reg_history.proofs.lines.OneLine.{some_line, same_line}

-- ---- the cause of a line

same_rank : (v w : CheckWhy) → rank v ≡ rank w → v ≡ w
same_rank why.Form why.Form e = refl
same_rank why.Round why.Round e = refl
same_rank why.Session why.Session e = refl
same_rank why.Order why.Order e = refl
same_rank why.Point why.Point e = refl
same_rank why.Reply why.Reply e = refl
same_rank why.End why.End e = refl
same_rank v w e = absurd (omega (arith, e))

one_cause : (front : Front) (told : HistoryLine) (v w : CheckWhy) → Fails front told v → Fails front told w → v ≡ w
one_cause front told v w f g = elim (cases_order (rank v) (rank w)) [
  | inl same ↦ same_rank v w same
  | inr (inl below) ↦ absurd (f.this (g.earlier v below))
  | inr (inr above) ↦ absurd (g.this (f.earlier w above))
]

-- ---- the rest of a text

value_of : (front : Front) (told : HistoryLine) → CanStand front told → IsLineValue told
value_of front told h = let form = h why.Form in form.1

-- the rest begins with a line that owes what it hasn't
abbrev BeginsWith : Front → List ℕ → CheckWhy → Type 0
BeginsWith front rest cause = (told : HistoryLine) × (behind : List ℕ) × (rest ≡ whole_line told ++ behind) × Fails front told cause

failing_value : (front : Front) (told : HistoryLine) (cause : CheckWhy) → rank why.Form < rank cause → Fails front told cause → IsLineValue told
failing_value front told cause low f = let form = f.earlier why.Form low in form.1

failing_stands : (front : Front) (told : HistoryLine) (rest behind : List ℕ) (cause : CheckWhy) → rank why.Form < rank cause
    → CanStand front told → rest ≡ whole_line told ++ behind → BeginsWith front rest cause → ⊥
failing_stands front told rest behind cause low h e f =
    let other = f.0 in
    let fails = f.3 in
    let same = same_line told other behind f.1 (value_of front told h) (failing_value front other cause low fails) (sym e ∙ f.2) in
    fails.this (subst (λ (l : HistoryLine). Owes front l cause) same.0 (h cause))

-- a line that can stand isn't a fault
stands_fails : (front : Front) (told : HistoryLine) (rest behind : List ℕ) (cause : CheckWhy) → CanStand front told → rest ≡ whole_line told ++ behind
    → FailsAt front rest cause → ⊥
stands_fails Ended told rest behind cause h e f = let form = h why.Form in form.0
stands_fails front told [] behind cause h e f = some_line told behind (sym e)
stands_fails front told (x ∷ rest) behind why.Form h e f = f told behind e (h why.Form)
stands_fails front told (x ∷ rest) behind cause h e f = failing_stands front told (x ∷ rest) behind cause (lit< tt) h e f

-- a line of no form has no other cause
formless : (front : Front) (rest : List ℕ) (cause : CheckWhy) → rank why.Form < rank cause
    → ((told : HistoryLine) (behind : List ℕ) → rest ≡ whole_line told ++ behind → Owes front told why.Form → ⊥) → BeginsWith front rest cause → ⊥
formless front rest cause low f g = let fails = g.3 in f g.0 g.1 g.2 (fails.earlier why.Form low)

one_beginning : (front : Front) (rest : List ℕ) (v w : CheckWhy) → rank why.Form < rank v → rank why.Form < rank w → BeginsWith front rest v → BeginsWith front rest w → v ≡ w
one_beginning front rest v w low high f g =
    let same = same_line f.0 g.0 f.1 g.1 (failing_value front f.0 v low f.3) (failing_value front g.0 w high g.3) (sym f.2 ∙ g.2) in
    one_cause front g.0 v w (subst (λ (l : HistoryLine). Fails front l v) same.0 f.3) g.3

one_why : (front : Front) (rest : List ℕ) (v w : CheckWhy) → FailsAt front rest v → FailsAt front rest w → v ≡ w
one_why Ended [] v w f g = absurd f
one_why Ended (x ∷ rest) v w f g = f ∙ sym g
one_why front [] v w f g = f ∙ sym g
one_why front (x ∷ rest) why.Form why.Form f g = refl
one_why front (x ∷ rest) why.Form w f g = absurd (formless front (x ∷ rest) w (lit< tt) f g)
one_why front (x ∷ rest) v why.Form f g = absurd (formless front (x ∷ rest) v (lit< tt) g f)
one_why front (x ∷ rest) v w f g = one_beginning front (x ∷ rest) v w (lit< tt) (lit< tt) f g

-- ---- where lines stop

-- at the end of a history, or at a fault
abbrev StopsAt : Front → List ℕ → Option CheckWhy → Type 0
StopsAt front rest None = (front ≡ Ended) × (rest ≡ [])
StopsAt front rest (Some cause) = FailsAt front rest cause

stands_stops : (front : Front) (told : HistoryLine) (rest behind : List ℕ) (stop : Option CheckWhy) → CanStand front told → rest ≡ whole_line told ++ behind
    → StopsAt front rest stop → ⊥
stands_stops front told rest behind None h e f = some_line told behind (sym e ∙ f.1)
stands_stops front told rest behind (Some cause) h e f = stands_fails front told rest behind cause h e f

ended_fails : (front : Front) (rest : List ℕ) (cause : CheckWhy) → front ≡ Ended → rest ≡ [] → FailsAt front rest cause → ⊥
ended_fails front rest cause p q f = subst (λ r. FailsAt Ended r cause) q (subst (λ (t : Front). FailsAt t rest cause) p f)

one_stop : (front : Front) (rest : List ℕ) (v w : Option CheckWhy) → StopsAt front rest v → StopsAt front rest w → v ≡ w
one_stop front rest None None f g = refl
one_stop front rest None (Some w) f g = absurd (ended_fails front rest w f.0 f.1 g)
one_stop front rest (Some v) None f g = absurd (ended_fails front rest v g.0 g.1 f)
one_stop front rest (Some v) (Some w) f g = ap (λ cause. Some cause) (one_why front rest v w f g)

behind_first : (told : HistoryLine) (more : List HistoryLine) (rest : List ℕ) → flat_map whole_line (told ∷ more) ++ rest ≡ whole_line told ++ (flat_map whole_line more ++ rest)
behind_first told more rest = append_assoc (whole_line told) (flat_map whole_line more) rest

-- lines that stand, up to where they stop
same_lines : (front : Front) (a b : List HistoryLine) (r s : List ℕ) (v w : Option CheckWhy) → EachStands front a → EachStands front b
    → flat_map whole_line a ++ r ≡ flat_map whole_line b ++ s → StopsAt (after_all front a) r v → StopsAt (after_all front b) s w → (a ≡ b) × (v ≡ w)
same_lines front [] [] r s v w h k e f g = (refl, one_stop front s v w (subst (λ t. StopsAt front t v) e f) g)
same_lines front [] (y ∷ b) r s v w h k e f g = absurd (stands_stops front y r (flat_map whole_line b ++ s) v k.0 (e ∙ behind_first y b s) f)
same_lines front (x ∷ a) [] r s v w h k e f g = absurd (stands_stops front x s (flat_map whole_line a ++ r) w h.0 (sym e ∙ behind_first x a r) g)
same_lines front (x ∷ a) (y ∷ b) r s v w h k e f g =
    let first = same_line x y (flat_map whole_line a ++ r) (flat_map whole_line b ++ s) (value_of front x h.0) (value_of front y k.0) (sym (behind_first x a r) ∙ e ∙ behind_first y b s) in
    let back : y ≡ x = sym first.0 in
    let more = same_lines (after front x) a b r s v w h.1 (subst (λ (l : HistoryLine). EachStands (after front l) b) back k.1) first.1 f
    (subst (λ (l : HistoryLine). StopsAt (after_all (after front l) b) s w) back g) in
    (ap₂ (λ z zs. z ∷ zs) first.0 more.0, more.1)

-- ---- the end

-- a round goes on
abbrev pub IsServing : Front → Type 0
IsServing (Serving opening ended now) = Unit {0}
IsServing front = ⊥

abbrev with_end : List HistoryLine → ℕ → ℕ → List HistoryLine
with_end list rows live = list ++ lines.End rows live ∷ []

ended_by : (front : Front) (list : List HistoryLine) (rows live : ℕ) → IsServing (after_all front list) → after_all front (with_end list rows live) ≡ Ended
ended_by Nothing [] rows live h = absurd h
ended_by (Carried carried) [] rows live h = absurd h
ended_by (Serving opening ended now) [] rows live h = refl
ended_by Ended [] rows live h = absurd h
ended_by front (told ∷ list) rows live h = ended_by (after front told) list rows live h

last_or : HistoryLine → List HistoryLine → HistoryLine
last_or other [] = other
last_or other (told ∷ list) = last_or told list

last_push : (other : HistoryLine) (list : List HistoryLine) (last : HistoryLine) → last_or other (list ++ last ∷ []) ≡ last
unfolding last_or
last_push other [] last = refl
last_push other (told ∷ list) last = last_push told list last

-- ---- faults

-- a text has at most one fault
pub one_fault : (text : List ℕ) (m n : ℕ) (v w : CheckWhy) → HasLineFault text m v → HasLineFault text n w → (m ≡ n) × (v ≡ w)
one_fault text m n v w h k =
    let same = same_lines Nothing h.before k.before h.rest k.rest (Some v) (Some w) h.stand k.stand (sym h.whole ∙ k.whole) h.fails k.fails in
    let stops = same.1 in
    (h.is ∙ ap (λ list. length list + 1) same.0 ∙ sym k.is, cc)

-- a history has no fault
pub no_fault : (list : List HistoryLine) (rows live n : ℕ) (w : CheckWhy) → EachStands Nothing (list ++ lines.End rows live ∷ []) → IsServing (after_all Nothing list)
    → HasLineFault (flat_map whole_line (list ++ lines.End rows live ∷ [])) n w → ⊥
no_fault list rows live n w h serving k =
    let same = same_lines Nothing (with_end list rows live) k.before [] k.rest None (Some w) h k.stand (append-nil (flat_map whole_line (with_end list rows live)) ∙ k.whole)
    (ended_by Nothing list rows live serving, refl) k.fails in
    let stops = same.1 in
    cc

-- a history has one end
pub one_end : (list more : List HistoryLine) (rows live total left : ℕ) → EachStands Nothing (list ++ lines.End rows live ∷ []) → IsServing (after_all Nothing list)
    → EachStands Nothing (more ++ lines.End total left ∷ []) → IsServing (after_all Nothing more)
    → flat_map whole_line (list ++ lines.End rows live ∷ []) ≡ flat_map whole_line (more ++ lines.End total left ∷ []) → (rows ≡ total) × (live ≡ left)
one_end list more rows live total left h serving k serving_too e =
    let a = with_end list rows live in
    let b = with_end more total left in
    let same = same_lines Nothing a b [] [] None None h k (append-nil (flat_map whole_line a) ∙ e ∙ sym (append-nil (flat_map whole_line b)))
    (ended_by Nothing list rows live serving, refl) (ended_by Nothing more total left serving_too, refl) in
    let last : lines.End rows live ≡ lines.End total left =
    sym (last_push lines.Head list (lines.End rows live)) ∙ ap (last_or lines.Head) same.0 ∙ last_push lines.Head more (lines.End total left) in
    (cc, cc)
