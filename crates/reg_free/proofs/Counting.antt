-- How many declarations are live after places that were seen.
use Rattle.std.proofs.Common.{◌≡◌, ℕ, zero, suc, ◌+◌, ◌<◌, ◌≤◌, List, [], ◌∷◌, ◌++◌, length, take, Option, Some, IsSome, refl, sym, ap, ◌∙◌, subst, arith}
use Rattle.std.proofs.Math.Seq.{take-length}
use mathlib.Core.Option.{some, some-ne-none, some-injective}
use Rattle.reg_model.specs.Opening.{Opening, IsOpening}
use Rattle.reg_model.specs.Live.{live, live_at, declarations, withdrawals}
use Rattle.reg_model.specs.declared.update.Declared.{Declared}
use Rattle.reg_model.specs.declared.update.Update.{Update}
use Rattle.reg_model.specs.declared.update.Update.TheVariants.{Decl, Wd}
use Rattle.reg_model.proofs.Rising.{at_found}
use Rattle.reg_model.proofs.LiveSteps.{IsBalanced, balanced_start, balanced_declare, balanced_withdraw}
use Rattle.reg_rule.specs.declared.view.Key.{Key}
use Rattle.reg_rule.specs.declared.view.Place.{Place}
use Rattle.reg_rule.specs.Log.{At, updates, place_of}
use Rattle.reg_rule.specs.Steps.{SeenFits}
use Rattle.reg_rule.proofs.Bridge.{live_listed}

there_is : (l : List Place) (n : ℕ) → n < length l → (p : Place) × At l n p
there_is [] n h = absurd (omega (arith, h))
there_is (x ∷ l) zero h = (x, refl)
there_is (x ∷ l) (suc n) h = there_is l n (omega (arith, h))

one_more : (l : List Place) (n : ℕ) (p : Place) → At l n p → take (suc n) l ≡ take n l ++ p ∷ []
one_more [] n p e = absurd (some-ne-none p (sym e))
one_more (x ∷ l) zero p e = ap (λ (q : Place). q ∷ []) (some-injective x p e)
one_more (x ∷ l) (suc n) p e = ap (λ (r : List Place). x ∷ r) (one_more l n p e)

updates_more : (l : List Place) (p : Place) → updates (l ++ p ∷ []) ≡ updates l ++ p.update ∷ []
updates_more [] p = refl
updates_more (x ∷ l) p = ap (λ (r : List Update). x.update ∷ r) (updates_more l p)

is_found : (o : Opening) (log : List Update) (id : ℕ) (d : Declared) → live_at o log id ≡ Some d → IsSome (live_at o log id)
is_found o log id d e = subst (λ (x : Option Declared). IsSome x) (sym e) refl

balanced_to : (key : Key) (log : List Place) → IsOpening key.carried → SeenFits key log → (n : ℕ) → n ≤ length log → IsBalanced key.carried (updates (take n log))
balanced_to key log ok seen zero low = balanced_start key.carried
balanced_to key log ok seen (suc n) low =
    let p = there_is log n (omega (arith, low)) in
    subst (IsBalanced key.carried) (sym (ap updates (one_more log n p.0 p.1) ∙ updates_more (take n log) p.0)) (by p.0 p.1 (balanced_to key log ok seen n (omega (arith, low))) (p.0).update refl) where
      by : (p : Place) → At log n p → IsBalanced key.carried (updates (take n log)) → (u : Update) → p.update ≡ u → IsBalanced key.carried (updates (take n log) ++ u ∷ [])
      by p at before (Decl unit) is = balanced_declare key.carried (updates (take n log)) unit before
      by p at before (Wd id) is =
          let was = seen.lawful n id p.entry (at ∙ ap (λ (u : Update). some (place_of u p.entry)) is) in
          let found = at_found id (live key.carried (updates (take n log))) (is_found key.carried (updates (take n log)) id _ (live_listed key.carried (take n log) id p.entry was.0 ok was.1)) in
          balanced_withdraw key.carried (updates (take n log)) id found.0 ok found.1 before

pub balance : (key : Key) (log : List Place) → IsOpening key.carried → SeenFits key log → length (live key.carried (updates log)) + withdrawals (updates log) ≡ length key.carried.list + declarations (updates log)
balance key log ok seen = subst (λ (l : List Place). length (live key.carried (updates l)) + withdrawals (updates l) ≡ length key.carried.list + declarations (updates l)) (take-length log)
    (balanced_to key log ok seen (length log) (omega arith)).balance
