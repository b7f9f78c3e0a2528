-- What the lines that a check has read make of its answer.
use Rattle.std.proofs.Common.{◌≡◌, ℕ, ◌+◌, ◌^◌, ◌<◌, Bool, true, false, Err, List, [], ◌∷◌, ◌++◌, length, refl, sym, ◌∙◌, ap, subst, append_assoc, append-nil, arith, length-append}
use Rattle.std.specs.Prelude.{◌==◌}
use Rattle.std.specs.List.{flat_map}
use Rattle.std.proofs.lemmas.List.{length_push, nil_from_length}
use Rattle.std.proofs.lemmas.Bool.{true≢false, eqb-true}
use Rattle.std.proofs.lemmas.Grind.{flat_map-append}
use Rattle.reg_model.specs.Opening.{IsRising}
use Rattle.reg_history.specs.declared.lines.told.HistoryLine.{HistoryLine}
use Rattle.reg_history.specs.declared.lines.told.HistoryLine.TheVariants as lines
use Rattle.reg_history.specs.declared.check.fault.CheckWhy.{CheckWhy}
use Rattle.reg_history.specs.declared.check.fault.CheckWhy.TheVariants as why
use Rattle.reg_history.specs.declared.check.fault.CheckRefusal.{CheckRefusal}
use Rattle.reg_history.specs.declared.check.fault.CheckRefusal.TheVariants as refusals
use Rattle.reg_history.specs.declared.check.fault.Summary.{Summary}
use Rattle.reg_history.specs.declared.check.step.State.{State}
use Rattle.reg_history.specs.declared.check.step.State.TheVariants as states
use Rattle.reg_history.specs.declared.check.step.Step.{Step}
use Rattle.reg_history.specs.declared.check.step.Step.TheVariants as steps
use Rattle.reg_history.specs.lines.HistoryLines.{whole_line, IsLineValue}
use Rattle.reg_history.specs.check.Checking.{IsHistoryOf, HasLineFault, Front, Nothing, Carried, Serving, Ended, IsAllowed, after, after_all, Owes, CanStand, EachStands, Fails, FailsAt}
use Rattle.reg_history.specs.inner.CheckSteps.{IsOneLine, IsReady, IsStateOf, StepTells, BytesTell, TellsOutcome, rows_so_far}
use Rattle.reg_history.proofs.lines.WordsBack.{free, cut_piece, at_byte, behind}
use Rattle.reg_history.proofs.lines.OneLine.{same_line, some_line, line_content}
use Rattle.reg_history.proofs.check.LinesToHistory.{lines_are_history}

-- ---- before the end

abbrev IsOpen : Front → Type 0
IsOpen Ended = ⊥
IsOpen front = Unit {0}

is_open : (state : State) (front : Front) → IsStateOf state front → IsOpen front
is_open states.Start Ended h = absurd h
is_open (states.Carrying carried) Ended h = absurd h
is_open (states.Serving serving) Ended h = absurd h
is_open state Nothing h = tt
is_open state (Carried list) h = tt
is_open state (Serving opening ended now) h = tt

-- ---- faults of a line

formless_at : (front : Front) (rest : List ℕ) → IsOpen front → (rest ≡ [] → ⊥)
    → ((told : HistoryLine) (behind : List ℕ) → rest ≡ whole_line told ++ behind → Owes front told why.Form → ⊥) → FailsAt front rest why.Form
formless_at Ended rest goes some none = absurd goes
formless_at front [] goes some none = absurd (some refl)
formless_at front (x ∷ rest) goes some none = none

fails_at : (front : Front) (told : HistoryLine) (rest behind : List ℕ) (cause : CheckWhy) → IsOpen front → IsLineValue told → rest ≡ whole_line told ++ behind
    → Fails front told cause → FailsAt front rest cause
fails_at Ended told rest behind cause goes value e f = absurd goes
fails_at front told [] behind cause goes value e f = absurd (some_line told behind (sym e))
fails_at front told (x ∷ rest) behind why.Form goes value e f =
    λ line more same owes.
    let twice = same_line told line behind more value owes.1 (sym e ∙ same) in
    f.this (subst (λ (l : HistoryLine). Owes front l why.Form) (sym twice.0) owes)
fails_at front told (x ∷ rest) behind cause goes value e f = (told, behind, e, f)

-- bytes that are a line's text but of no line that is told
pub none_told : (state : State) (front : Front) (bytes behind : List ℕ) → IsStateOf state front → IsOneLine bytes
    → ((told : HistoryLine) → IsLineValue told → bytes ≡ whole_line told → ⊥) → FailsAt front (bytes ++ behind) why.Form
none_told state front bytes behind is one none =
    let content = one.0 in
    formless_at front (bytes ++ behind) (is_open state front is)
    (λ e. omega (arith, ap length e, ap length one.2, length-append bytes behind, length-append content (10 ∷ [])))
    (λ told more same owes.
    let line = line_content told in
    let same_text : (content ++ 10 ∷ []) ++ behind ≡ (line.0 ++ 10 ∷ []) ++ more = sym (ap (λ t. t ++ behind) one.2) ∙ same ∙ ap (λ t. t ++ more) line.2 in
    let parts = cut_piece 10 content line.0 behind more one.1 line.1 same_text in
    none told owes.1 (one.2 ∙ ap (λ t. t ++ 10 ∷ []) parts.0 ∙ sym line.2))

-- what a told line makes of the state, told of its bytes
pub bytes_tell : (state : State) (front : Front) (told : HistoryLine) (bytes : List ℕ) (step : Step) → IsStateOf state front → bytes ≡ whole_line told → IsLineValue told
    → StepTells front told step → BytesTell front bytes step
bytes_tell state front told bytes (steps.Next next) is e value tells = (told, e, tells)
bytes_tell state front told bytes (steps.Ends summary) is e value tells = (told, e, tells)
bytes_tell state front told bytes (steps.Fails cause) is e value tells =
    λ behind. fails_at front told (bytes ++ behind) behind cause (is_open state front is) value (ap (λ t. t ++ behind) e) tells

-- ---- texts

pub is_nothing : (xs : List ℕ) (test : Bool) → test ≡ (length xs == 0) → test ≡ true → xs ≡ []
is_nothing xs test is holds = nil_from_length xs (eqb-true (length xs) 0 (sym is ∙ holds))

pub is_some : (xs : List ℕ) (test : Bool) → test ≡ (length xs == 0) → test ≡ false → xs ≡ [] → ⊥
is_some xs test is fails e = true≢false (sym (ap (λ ys. length ys == 0) e) ∙ sym is ∙ fails)

-- ---- lines that stand

-- lines that stand, and the rest of the text behind them
pub record HasRead (text rest : List ℕ) (line : ℕ) (state : State) : Type 0 where
  pub before : List HistoryLine
  pub whole : text ≡ flat_map whole_line before ++ rest
  pub stand : EachStands Nothing before
  pub count : line ≡ length before + 1
  pub is : IsStateOf state (after_all Nothing before)

stand-push : (front : Front) (list : List HistoryLine) (told : HistoryLine) → EachStands front list → CanStand (after_all front list) told → EachStands front (list ++ told ∷ [])
stand-push front [] told each this = (this, tt)
stand-push front (x ∷ list) told each this = (each.0, stand-push (after front x) list told each.1 this)

after-push : (front : Front) (list : List HistoryLine) (told : HistoryLine) → after_all front (list ++ told ∷ []) ≡ after (after_all front list) told
after-push front [] told = refl
after-push front (x ∷ list) told = after-push (after front x) list told

whole-push : (text rest bytes behind : List ℕ) (list : List HistoryLine) (told : HistoryLine) → text ≡ flat_map whole_line list ++ rest → rest ≡ bytes ++ behind
    → bytes ≡ whole_line told → text ≡ flat_map whole_line (list ++ told ∷ []) ++ behind
whole-push text rest bytes behind list told whole cut is =
    let all : flat_map whole_line (list ++ told ∷ []) ≡ flat_map whole_line list ++ whole_line told =
    flat_map-append whole_line list (told ∷ []) ∙ ap (λ t. flat_map whole_line list ++ t) (append-nil (whole_line told)) in
    whole ∙ ap (λ t. flat_map whole_line list ++ t) (cut ∙ ap (λ t. t ++ behind) is)
    ∙ sym (append_assoc (flat_map whole_line list) (whole_line told) behind)
    ∙ sym (ap (λ t. t ++ behind) all)

-- what a line's bytes make of each state that may stand before them
abbrev pub MakesStep : State → List ℕ → Step → Type 0
MakesStep state bytes step = (front : Front) → IsStateOf state front → BytesTell front bytes step

pub read_nothing : (text : List ℕ) → HasRead text text 1 states.Start
read_nothing text = record { before = []; whole = refl; stand = tt; count = refl; is = tt }

pub read_more : (text rest bytes behind : List ℕ) (line : ℕ) (state next : State) → HasRead text rest line state → rest ≡ bytes ++ behind → MakesStep state bytes (steps.Next next)
    → HasRead text behind (line + 1) next
read_more text rest bytes behind line state next so_far cut makes =
    let before = so_far.before in
    let front = after_all Nothing before in
    let this = makes front so_far.is in
    let told = this.0 in
    let tells = this.2 in
    record {
      before = before ++ told ∷ [];
      whole = whole-push text rest bytes behind before told so_far.whole cut this.1;
      stand = stand-push Nothing before told so_far.stand tells.0;
      count = omega (arith, so_far.count, length_push before told);
      is = subst (IsStateOf next) (sym (after-push Nothing before told)) tells.1;
    }

-- the state takes a line more
pub is_ready : (state : State) (front : Front) → IsStateOf state front → rows_so_far state < 2 ^ 63 → IsReady state
is_ready states.Start Nothing is low = tt
is_ready (states.Carrying carried) (Carried list) is low = subst IsRising (sym is.0) is.1
is_ready (states.Serving serving) (Serving opening ended now) is low = low
is_ready state front is low = absurd is

-- ---- answers

pub tells_fault : (text : List ℕ) (line : ℕ) (cause : CheckWhy) (refusal : CheckRefusal) → refusal ≡ refusals.Fault (record { line = line; why = cause }) → HasLineFault text line cause
    → TellsOutcome text (Err refusal)
tells_fault text line cause refusal is h = subst (λ (r : CheckRefusal). TellsOutcome text (Err r)) (sym is) h

pub read_fault : (text rest bytes behind : List ℕ) (line : ℕ) (state : State) (cause : CheckWhy) → HasRead text rest line state → rest ≡ bytes ++ behind
    → MakesStep state bytes (steps.Fails cause) → HasLineFault text line cause
read_fault text rest bytes behind line state cause so_far cut makes =
    let front = after_all Nothing so_far.before in
    record {
      before = so_far.before;
      rest = bytes ++ behind;
      whole = so_far.whole ∙ ap (λ t. flat_map whole_line so_far.before ++ t) cut;
      stand = so_far.stand;
      is = so_far.count;
      fails = makes front so_far.is behind;
    }

pub read_end : (text rest bytes behind : List ℕ) (line : ℕ) (state : State) (summary : Summary) → HasRead text rest line state → rest ≡ bytes ++ behind
    → MakesStep state bytes (steps.Ends summary) → behind ≡ [] → IsHistoryOf text summary.rows summary.live
read_end text rest bytes behind line state summary so_far cut makes last =
    let before = so_far.before in
    let this = makes (after_all Nothing before) so_far.is in
    let tells = this.2 in
    let end = lines.End summary.rows summary.live in
    let whole = whole-push text rest bytes behind before end so_far.whole cut (this.1 ∙ ap whole_line tells.1) in
    let is : text ≡ flat_map whole_line (before ++ end ∷ []) = whole ∙ ap (λ t. flat_map whole_line (before ++ end ∷ []) ++ t) last ∙ append-nil (flat_map whole_line (before ++ end ∷ [])) in
    subst (λ t. IsHistoryOf t summary.rows summary.live) (sym is)
    (lines_are_history before summary.rows summary.live so_far.stand (subst (CanStand (after_all Nothing before)) tells.1 tells.0))

ended_by : (front : Front) (rows live : ℕ) → IsAllowed front (lines.End rows live) → after front (lines.End rows live) ≡ Ended
ended_by (Serving opening ended now) rows live allowed = refl
ended_by front rows live allowed = absurd allowed

some_behind : (behind : List ℕ) → (behind ≡ [] → ⊥) → FailsAt Ended behind why.End
some_behind [] some = absurd (some refl)
some_behind (x ∷ behind) some = refl

pub read_past : (text rest bytes behind : List ℕ) (line : ℕ) (state : State) (summary : Summary) → HasRead text rest line state → rest ≡ bytes ++ behind
    → MakesStep state bytes (steps.Ends summary) → (behind ≡ [] → ⊥) → HasLineFault text (line + 1) why.End
read_past text rest bytes behind line state summary so_far cut makes some =
    let before = so_far.before in
    let front = after_all Nothing before in
    let this = makes front so_far.is in
    let tells = this.2 in
    let end = lines.End summary.rows summary.live in
    let stands = subst (CanStand front) tells.1 tells.0 in
    let form = stands why.Form in
    record {
      before = before ++ end ∷ [];
      rest = behind;
      whole = whole-push text rest bytes behind before end so_far.whole cut (this.1 ∙ ap whole_line tells.1);
      stand = stand-push Nothing before end so_far.stand stands;
      is = omega (arith, so_far.count, length_push before end);
      fails = subst (λ (t : Front). FailsAt t behind why.End) (sym (after-push Nothing before end ∙ ended_by front summary.rows summary.live form.0)) (some_behind behind some);
    }

-- ---- a rest without a line feed

none_left : (front : Front) → IsOpen front → FailsAt front [] why.End
none_left Ended goes = absurd goes
none_left front goes = refl

free_front : (xs ys : List ℕ) → free 10 (xs ++ 10 ∷ ys) ≡ true → ⊥
free_front [] ys f = at_byte 10 10 (free 10 ys) refl f
free_front (x ∷ xs) ys f = free_front xs ys (behind (x == 10) (free 10 (xs ++ 10 ∷ ys)) f)

pub read_all : (text rest : List ℕ) (line : ℕ) (state : State) → HasRead text rest line state → rest ≡ [] → HasLineFault text line why.End
read_all text rest line state so_far last =
    let before = so_far.before in
    record {
      before = before;
      rest = [];
      whole = so_far.whole ∙ ap (λ t. flat_map whole_line before ++ t) last;
      stand = so_far.stand;
      is = so_far.count;
      fails = none_left (after_all Nothing before) (is_open state (after_all Nothing before) so_far.is);
    }

pub read_cut_off : (text rest : List ℕ) (line : ℕ) (state : State) → HasRead text rest line state → free 10 rest ≡ true → (rest ≡ [] → ⊥) → HasLineFault text line why.Form
read_cut_off text rest line state so_far feedless some =
    let before = so_far.before in
    record {
      before = before;
      rest = rest;
      whole = so_far.whole;
      stand = so_far.stand;
      is = so_far.count;
      fails = formless_at (after_all Nothing before) rest (is_open state (after_all Nothing before) so_far.is) some
          (λ told more same owes.
          let line = line_content told in
          let e : rest ≡ line.0 ++ 10 ∷ more = same ∙ ap (λ t. t ++ more) line.2 ∙ append_assoc line.0 (10 ∷ []) more in
          free_front line.0 more (subst (λ t. free 10 t ≡ true) e feedless));
    }
