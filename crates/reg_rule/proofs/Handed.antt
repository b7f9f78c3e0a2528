-- One hand of a seat is another, of the same entry.
use Rattle.std.proofs.Common.{◌≡◌, ℕ, zero, suc, List, [], ◌∷◌, length, set, Some, sym, ap, ◌∙◌, refl, subst}
use mathlib.Core.Logic.{dite}
use native.Mathlib.Decide.{ℕ_discrete}
use mathlib.Core.Option.{some, some-injective, some-ne-none}
use lib.ListN.{get_elem?}
use Rattle.atomic_table.proofs.Lists.{set_else}
use Rattle.reg_rule.specs.declared.view.Hand.{Hand}
use Rattle.reg_rule.specs.declared.view.View.{View}
use Rattle.reg_rule.specs.Log.{At}
use Rattle.reg_rule.specs.Seats.{first_entry}
use Rattle.reg_rule.specs.inner.World.{Use}
use Rattle.reg_rule.specs.inner.SeatParts.{InHands}
use Rattle.reg_rule.specs.Moves.{on_hand}
use Rattle.reg_rule.proofs.Counted.{set_at_own}

pub on_hand-length : (f : Hand → Hand) (l : List Hand) → length (on_hand f l) ≡ length l
on_hand-length f [] = refl
on_hand-length f (h ∷ l) = refl

pub one_hand : (f : Hand → Hand) (l : List Hand) (h : Hand) → l ≡ h ∷ [] → (i : ℕ) (x : Hand) → At (on_hand f l) i x → (i ≡ 0) × (f h ≡ x)
one_hand f l h is i x e = alone i (subst (λ (z : List Hand). At (on_hand f z) i x) is e) where
  alone : (j : ℕ) → At (f h ∷ []) j x → (j ≡ 0) × (f h ≡ x)
  alone zero z = (refl, some-injective (f h) x z)
  alone (suc j) z = absurd (some-ne-none x (sym z))

pub handed-first : (g : Hand → Hand) → ((h : Hand) → (g h).entry ≡ h.entry) → (l : List Hand) → first_entry (on_hand g l) ≡ first_entry l
handed-first g same [] = refl
handed-first g same (h ∷ l) = ap (λ (e : ℕ). Some e) (same h)

handed_at : (g : Hand → Hand) → ((h : Hand) → (g h).entry ≡ h.entry) → (l : List Hand) (i : ℕ) (h : Hand) → At l i h → (h' : Hand) × At (on_hand g l) i h' × (h'.entry ≡ h.entry)
handed_at g same [] i h e = absurd (some-ne-none h (sym e))
handed_at g same (y ∷ l) zero h e = (g y, refl, same y ∙ ap (λ (z : Hand). z.entry) (some-injective y h e))
handed_at g same (y ∷ l) (suc i) h e = (h, e, refl)

pub handed_in_hands : (g : Hand → Hand) → ((h : Hand) → (g h).entry ≡ h.entry) → (uses : ℕ → Use) (views : List View) (id : ℕ) (v u : View) → u.hands ≡ on_hand g v.hands → get_elem? views id ≡ some v → InHands uses views → InHands uses (set views id u)
handed_in_hands g same_entry uses views id v u hands_are at old_hands entry seat i is = let old = old_hands entry seat i is in
    dite (ℕ_discrete seat id)
    (λ same. let here : old.0 ≡ v = some-injective old.0 v (sym old.2 ∙ (ap (λ k. get_elem? views k) same ∙ at)) in
    let now = handed_at g same_entry v.hands i old.1 (subst (λ (y : View). At y.hands i old.1) here old.3) in (
      u,
      now.0,
      subst (λ k. get_elem? (set views id u) k ≡ some u) (sym same) (set_at_own views id v u at),
      subst (λ (l : List Hand). At l i now.0) (sym hands_are) now.1,
      now.2 ∙ old.4,
    ))
    (λ apart. (old.0, old.1, set_else views id seat u apart ∙ old.2, old.3, old.4))
