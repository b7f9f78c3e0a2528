-- One view stands in the place of another: what all views have in all, the entries in hands, the holder; and one step more.
use Rattle.std.proofs.Common.{◌≡◌, ℕ, zero, suc, ◌+◌, Bool, List, [], ◌∷◌, ◌++◌, set, count_by, cond, false, Option, sym, refl, ap, ◌∙◌, subst, arith}
use Rattle.std.proofs.lemmas.List.Sums.{sum_by-append}
use mathlib.Core.Option.{some, some-injective, some-ne-none}
use lib.ListN.{get_elem?}
use native.Mathlib.Decide.{ℕ_discrete}
use mathlib.Core.Logic.{dite}
use Rattle.atomic_table.proofs.Lists.{set_else}
use Rattle.reg_rule.specs.declared.view.Hand.{Hand}
use Rattle.reg_rule.specs.declared.view.View.{View}
use Rattle.reg_rule.specs.Log.{At}
use Rattle.reg_rule.specs.inner.World.{Use}
use Rattle.reg_rule.specs.inner.SeatParts.{total, InHands, IsSeat}

pub total_set : (f : View → ℕ) (views : List View) (id : ℕ) (v w : View) → get_elem? views id ≡ some v → f w ≡ f v → total f (set views id w) ≡ total f views
total_set f [] id v w at same = refl
total_set f (x ∷ views) zero v w at same = let h : x ≡ v = some-injective x v at in let e : f w ≡ f x = same ∙ sym (ap f h) in ap (λ (n : ℕ). n + total f views) e
total_set f (x ∷ views) (suc id) v w at same = ap (λ (n : ℕ). f x + n) (total_set f views id v w at same)

pub set_at_own : (views : List View) (id : ℕ) (v w : View) → get_elem? views id ≡ some v → get_elem? (set views id w) id ≡ some w
set_at_own [] id v w at = absurd (some-ne-none v (sym at))
set_at_own (x ∷ views) zero v w at = refl
set_at_own (x ∷ views) (suc id) v w at = set_at_own views id v w at

pub count_more : (p : ℕ → Bool) (l : List ℕ) (n : ℕ) → p n ≡ false → count_by p (l ++ n ∷ []) ≡ count_by p l
count_more p l n not =
    let h : count_by p (l ++ n ∷ []) ≡ count_by p l + (0 + cond {A = ℕ} (p n) 1 0) = sum_by-append (λ (k : ℕ). cond {A = ℕ} (p k) 1 0) l (n ∷ []) in
    let e : cond {A = ℕ} (p n) 1 0 ≡ 0 = ap (λ (b : Bool). cond {A = ℕ} b 1 0) not in
    omega arith

-- a view with the same hands may stand there
pub set_in_hands : (uses : ℕ → Use) (views : List View) (id : ℕ) (v w : View) → w.hands ≡ v.hands → get_elem? views id ≡ some v → InHands uses views → InHands uses (set views id w)
set_in_hands uses views id v w hands at old_hands entry seat i is = let old = old_hands entry seat i is in
    dite (ℕ_discrete seat id)
    (λ same. let here : old.0 ≡ v = some-injective old.0 v (sym old.2 ∙ (ap (λ k. get_elem? views k) same ∙ at)) in (
      w,
      old.1,
      subst (λ k. get_elem? (set views id w) k ≡ some w) (sym same) (set_at_own views id v w at),
      subst (λ (l : List Hand). At l i old.1) (ap (λ (u : View). u.hands) here ∙ sym hands) old.3,
      old.4,
    ))
    (λ apart. (old.0, old.1, set_else views id seat w apart ∙ old.2, old.3, old.4))

-- any other view may stand there
pub set_is_seat : (holder : Option ℕ) (views : List View) (id : ℕ) (v w : View) → get_elem? views id ≡ some v → IsSeat holder views → IsSeat holder (set views id w)
set_is_seat holder views id v w at seats seat is = let old = seats seat is in
    dite (ℕ_discrete seat id)
    (λ same. (w, subst (λ k. get_elem? (set views id w) k ≡ some w) (sym same) (set_at_own views id v w at)))
    (λ apart. (old.0, set_else views id seat w apart ∙ old.1))
