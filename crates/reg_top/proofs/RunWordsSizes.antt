-- The sizes of the rounds, one round after the other.
use Rattle.std.proofs.Common.{◌≡◌, ℕ, ◌+◌, ◌<◌, ◌≤◌, List, [], ◌∷◌, ◌++◌, length, get_or, take, drop, map, refl, sym, ap, ◌∙◌, subst, arith}
use Rattle.std.specs.Prelude.{All}
use Rattle.std.proofs.lemmas.List.{append_assoc, append-nil, drop_more, drop_all, take_more, take_all, length_push, length-take-le}
use Rattle.std.proofs.lemmas.List.Elements.{All-push, All-tail, All-head}
use Rattle.reg_model.specs.Limits.{IsInRange}
use Rattle.reg_top.specs.Fetches.{RoundPlan}
use Rattle.reg_top.specs.Words.{planned, round_plan, sizes_from}
use Rattle.reg_top.specs.declared.run_words.MarkSizes.{MarkSizes}
use Rattle.reg_top.specs.declared.run_words.RoundSizes.{RoundSizes}
use Rattle.reg_top.specs.declared.run_words.RoundWords.{RoundWords}
use Rattle.reg_top.specs.inner.RunWords.{round_of}
use Rattle.reg_top.specs.inner.RunPlans.{plan_kept, plans_kept}
use Rattle.reg_top.proofs.RunWordsPlans.{AreInRange}

-- the first rounds have these sizes, and with the rounds that are left they are the plan
pub record SizedSoFar (first : MarkSizes) (bits : ℕ) (rounds : List RoundWords) (at : ℕ) (before : MarkSizes) (sizes : List RoundSizes) : Type 0 where
  pub long : length sizes ≡ at
  pub whole : plans_kept sizes (take at rounds) ++ planned before bits (map round_of (drop at rounds)) ≡ planned first bits (map round_of rounds)
  pub in_range : AreInRange (plans_kept sizes (take at rounds))

plans_kept-push : (sizes : List RoundSizes) (rounds : List RoundWords) (new : RoundSizes) (round : RoundWords) → length sizes ≡ length rounds
    → plans_kept (sizes ++ new ∷ []) (rounds ++ round ∷ []) ≡ plans_kept sizes rounds ++ plan_kept new round ∷ []
plans_kept-push [] [] new round e = refl
plans_kept-push [] (other ∷ rounds) new round e = absurd (omega (arith, e))
plans_kept-push (size ∷ sizes) [] new round e = absurd (omega (arith, e))
plans_kept-push (size ∷ sizes) (other ∷ rounds) new round e = ap (λ ps. plan_kept size other ∷ ps) (plans_kept-push sizes rounds new round (omega (arith, e)))

-- what is left begins with this round
left_is : (bits : ℕ) (rounds : List RoundWords) (at : ℕ) (before : MarkSizes) (round : RoundWords) → at < length rounds → get_or rounds at round ≡ round
    → planned before bits (map round_of (drop at rounds))
    ≡ round_plan (sizes_from before round.sizes) bits (map (λ name. name.now) round.names.items) ∷ planned (sizes_from before round.sizes) bits (map round_of (drop (at + 1) rounds))
left_is bits rounds at before round low is =
    ap (λ rs. planned before bits (map round_of rs)) (drop_more rounds at round low ∙ ap (λ r. r ∷ drop (at + 1) rounds) is)

plans_more : (rounds : List RoundWords) (at : ℕ) (sizes : List RoundSizes) (new : RoundSizes) (round : RoundWords) → length sizes ≡ at → at < length rounds → get_or rounds at round ≡ round
    → plans_kept (sizes ++ new ∷ []) (take (at + 1) rounds) ≡ plans_kept sizes (take at rounds) ++ plan_kept new round ∷ []
plans_more rounds at sizes new round long low is =
    ap (λ rs. plans_kept (sizes ++ new ∷ []) rs) (take_more rounds at round low ∙ ap (λ r. take at rounds ++ r ∷ []) is)
    ∙ plans_kept-push sizes (take at rounds) new round (long ∙ sym (length-take-le at rounds (omega arith)))

pub sized_more : (first : MarkSizes) (bits : ℕ) (rounds : List RoundWords) (at : ℕ) (before : MarkSizes) (sizes : List RoundSizes) (new : RoundSizes) (round : RoundWords)
    → SizedSoFar first bits rounds at before sizes → at < length rounds → get_or rounds at round ≡ round
    → plan_kept new round ≡ round_plan (sizes_from before round.sizes) bits (round_of round).names → IsInRange (round_plan (sizes_from before round.sizes) bits (round_of round).names).limits
    → SizedSoFar first bits rounds (at + 1) (sizes_from before round.sizes) (sizes ++ new ∷ [])
sized_more first bits rounds at before sizes new round sized low is kept range =
    let more = plans_more rounds at sizes new round sized.long low is in
    let rest = planned (sizes_from before round.sizes) bits (map round_of (drop (at + 1) rounds)) in
    record {
      long = length_push sizes new ∙ ap (λ n. n + 1) sized.long;
      whole = ap (λ ps. ps ++ rest) more ∙ append_assoc (plans_kept sizes (take at rounds)) (plan_kept new round ∷ []) rest
          ∙ ap (λ p. plans_kept sizes (take at rounds) ++ p ∷ rest) kept
          ∙ ap (λ ps. plans_kept sizes (take at rounds) ++ ps) (sym (left_is bits rounds at before round low is)) ∙ sized.whole;
      in_range = subst AreInRange (sym more)
          (All-push (λ (p : RoundPlan). IsInRange p.limits) (plans_kept sizes (take at rounds)) (plan_kept new round) sized.in_range (subst (λ (p : RoundPlan). IsInRange p.limits) (sym kept) range));
    }

-- the same, as the code names them
pub sized_next : (first : MarkSizes) (bits : ℕ) (rounds : List RoundWords) (at : ℕ) (before : MarkSizes) (sizes : List RoundSizes) (new : RoundSizes) (round : RoundWords) (next : MarkSizes) (items : List RoundSizes)
    → SizedSoFar first bits rounds at before sizes → at < length rounds → get_or rounds at round ≡ round → next ≡ sizes_from before round.sizes → items ≡ sizes ++ new ∷ []
    → plan_kept new round ≡ round_plan next bits (round_of round).names → IsInRange (round_plan next bits (round_of round).names).limits → SizedSoFar first bits rounds (at + 1) next items
sized_next first bits rounds at before sizes new round next items sized low is follows grown kept range =
    let names = (round_of round).names in
    let kept_so : plan_kept new round ≡ round_plan (sizes_from before round.sizes) bits names = kept ∙ ap (λ n. round_plan n bits names) follows in
    let more = sized_more first bits rounds at before sizes new round sized low is kept_so (subst (λ n. IsInRange (round_plan n bits names).limits) follows range) in
    subst (λ n. SizedSoFar first bits rounds (at + 1) n items) (sym follows)
    (subst (λ xs. SizedSoFar first bits rounds (at + 1) (sizes_from before round.sizes) xs) (sym grown) more)

all_behind : (P : RoundPlan → Type 0) (front back : List RoundPlan) → All P (front ++ back) → All P back
all_behind P [] back all = all
all_behind P (p ∷ front) back all = all_behind P front back (All-tail P p (front ++ back) all)

-- a round whose sizes are out of range
pub sized_not : (first : MarkSizes) (bits : ℕ) (rounds : List RoundWords) (at : ℕ) (before : MarkSizes) (sizes : List RoundSizes) (round : RoundWords)
    → SizedSoFar first bits rounds at before sizes → at < length rounds → get_or rounds at round ≡ round
    → (next : MarkSizes) → next ≡ sizes_from before round.sizes → (IsInRange (round_plan next bits (round_of round).names).limits → ⊥) → AreInRange (planned first bits (map round_of rounds)) → ⊥
sized_not first bits rounds at before sizes round sized low is next follows out are =
    let front = plans_kept sizes (take at rounds) in
    let left = planned (sizes_from before round.sizes) bits (map round_of (drop (at + 1) rounds)) in
    let here = round_plan (sizes_from before round.sizes) bits (round_of round).names in
    let all : AreInRange (front ++ here ∷ left) = subst AreInRange (sym sized.whole ∙ ap (λ ps. front ++ ps) (left_is bits rounds at before round low is)) are in
    let range = All-head (λ (p : RoundPlan). IsInRange p.limits) here left (all_behind (λ (p : RoundPlan). IsInRange p.limits) front (here ∷ left) all) in
    out (subst (λ n. IsInRange (round_plan n bits (round_of round).names).limits) (sym follows) range)

-- all rounds
pub sized_all : (first : MarkSizes) (bits : ℕ) (rounds : List RoundWords) (at : ℕ) (before : MarkSizes) (sizes : List RoundSizes) → SizedSoFar first bits rounds at before sizes → length rounds ≤ at
    → plans_kept sizes rounds ≡ planned first bits (map round_of rounds)
sized_all first bits rounds at before sizes sized long =
    ap (λ rs. plans_kept sizes rs) (sym (take_all at rounds long)) ∙ sym (append-nil (plans_kept sizes (take at rounds)))
    ∙ ap (λ rs. plans_kept sizes (take at rounds) ++ planned before bits (map round_of rs)) (sym (drop_all at rounds long)) ∙ sized.whole

pub sized_in_range : (first : MarkSizes) (bits : ℕ) (rounds : List RoundWords) (at : ℕ) (before : MarkSizes) (sizes : List RoundSizes) → SizedSoFar first bits rounds at before sizes → length rounds ≤ at
    → AreInRange (planned first bits (map round_of rounds))
sized_in_range first bits rounds at before sizes sized long =
    subst AreInRange (ap (λ rs. plans_kept sizes rs) (take_all at rounds long) ∙ sized_all first bits rounds at before sizes sized long) sized.in_range
