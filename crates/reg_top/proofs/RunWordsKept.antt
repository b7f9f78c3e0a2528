-- How the rounds of a plan are kept.
use Rattle.std.proofs.Common.{◌≡◌, ℕ, zero, suc, ◌<◌, List, [], ◌∷◌, length, get_or, map, Bor, Option, Some, None, refl, sym, ap, ◌∙◌, subst, arith, rules}
use Rattle.std.specs.Prelude.{slice_get, IfSome, IfNone}
use Rattle.std.specs.Option.{IsSome}
use Rattle.std.proofs.lemmas.List.Elements.{All-get_or}
use Rattle.std.proofs.lemmas.Option.{get_or_from_slice_get, slice_get_within}
use Rattle.reg_model.specs.Limits.{Limits, IsInRange}
use Rattle.reg_top.specs.Fetches.{RoundPlan}
use Rattle.reg_top.specs.declared.run_words.RoundSizes.{RoundSizes}
use Rattle.reg_top.specs.declared.run_words.RoundWords.{RoundWords}
use Rattle.reg_top.specs.inner.RunPlans.{plan_kept, plans_kept}
use Rattle.reg_top.proofs.RunWordsPlans.{AreInRange}

pub length_kept : (sizes : List RoundSizes) (rounds : List RoundWords) → length sizes ≡ length rounds → length (plans_kept sizes rounds) ≡ length rounds
length_kept [] [] e = refl
length_kept [] (round ∷ rounds) e = e
length_kept (size ∷ sizes) [] e = refl
length_kept (size ∷ sizes) (round ∷ rounds) e = ap suc (length_kept sizes rounds (omega (arith, e)))

plan_at : (sizes : List RoundSizes) (rounds : List RoundWords) (at : ℕ) (size : RoundSizes) (round : RoundWords) → at < length sizes → at < length rounds
    → slice_get (plans_kept sizes rounds) at ≡ Some (plan_kept (get_or sizes at size) (get_or rounds at round))
plan_at [] rounds at size round low within = absurd (omega arith)
plan_at (s ∷ sizes) [] at size round low within = absurd (omega arith)
plan_at (s ∷ sizes) (r ∷ rounds) zero size round low within = refl
plan_at (s ∷ sizes) (r ∷ rounds) (suc at) size round low within = plan_at sizes rounds at size round (omega arith) (omega arith)

abbrev pub no_size : RoundSizes
no_size = record { entries = 0; log = 0; bits = 0; callers = 0 }

abbrev no_round : RoundWords
no_round = record { sizes = None; names = record { items = [] } }

abbrev limits_kept : RoundSizes → Limits
limits_kept size = record { entries = size.entries; log = size.log; bits = size.bits; callers = size.callers }

some_if : (answer : Option Limits) (P : Type 0) → IfNone answer (P → ⊥) → P → IsSome answer
some_if None P none is = absurd (none is)
some_if (Some limits) P none is = search rules

-- the names that are kept are those of the plan
pub names_at : (plan : List RoundPlan) (sizes : List RoundSizes) (rounds : List RoundWords) (at : ℕ) (round : RoundWords) (items : List (Bor (List ℕ))) → plans_kept sizes rounds ≡ plan
    → length sizes ≡ length rounds → at < length rounds → round ≡ get_or rounds at round → items ≡ round.names.items → IfSome (slice_get plan at) (λ (p : RoundPlan). map (λ name. name.now) items ≡ p.names)
names_at plan sizes rounds at round items kept same low is are =
    let found : slice_get plan at ≡ Some (plan_kept (get_or sizes at no_size) round) =
    sym (ap (λ ps. slice_get ps at) kept) ∙ plan_at sizes rounds at no_size round (omega (arith, same)) low ∙ ap (λ r. Some (plan_kept (get_or sizes at no_size) r)) (sym is) in
    subst (λ o. IfSome o (λ (p : RoundPlan). map (λ name. name.now) items ≡ p.names)) (sym found) (ap (map (λ (name : Bor (List ℕ)). name.now)) are)

-- so are the sizes
module _ (plan : List RoundPlan) (sizes : List RoundSizes) (rounds : List RoundWords) (at : ℕ) (slice : List RoundSizes) (kept : plans_kept sizes rounds ≡ plan) (same : length sizes ≡ length rounds)
    (low : at < length rounds) (is : slice ≡ sizes) where
  plan_with : slice_get plan at ≡ Some (plan_kept (get_or slice at no_size) (get_or rounds at no_round))
  plan_with =
      sym (ap (λ ps. slice_get ps at) kept) ∙ plan_at sizes rounds at no_size no_round (omega (arith, same)) low ∙ ap (λ ss. Some (plan_kept (get_or ss at no_size) (get_or rounds at no_round))) (sym is)

  pub sizes_at : (answer : Option Limits) (limits : Limits) → answer ≡ Some limits → IfSome answer (λ (l : Limits). l ≡ limits_kept (get_or slice at no_size))
      → IfSome (slice_get plan at) (λ (p : RoundPlan). limits ≡ p.limits)
  sizes_at answer limits some found =
      subst (λ o. IfSome o (λ (p : RoundPlan). limits ≡ p.limits)) (sym plan_with) (subst (λ o. IfSome o (λ (l : Limits). l ≡ limits_kept (get_or slice at no_size))) some found)

  pub some_sizes : (answer : Option Limits) → AreInRange plan → IfNone answer (IsInRange (limits_kept (get_or slice at no_size)) → ⊥) → IsSome answer
  some_sizes answer are none =
      let here = plan_kept (get_or slice at no_size) (get_or rounds at no_round) in
      let range : IsInRange here.limits = subst (λ (p : RoundPlan). IsInRange p.limits) (get_or_from_slice_get plan at here here plan_with)
      (All-get_or (λ (p : RoundPlan). IsInRange p.limits) plan at here (slice_get_within plan at here plan_with) are) in
      some_if answer (IsInRange here.limits) none range
