-- A step of one seat leaves the views of the others.
use Rattle.std.proofs.Common.{◌≡◌, ◌≢◌, ℕ, zero, suc, ◌+◌, List, [], ◌∷◌, ◌++◌, length, set, sym, refl, ap, ◌∙◌, subst, ◌⊎◌, inl, inr, ⊎_elim, length-set, arith}
use mathlib.Core.Option.{some, some-injective, some-ne-none}
use lib.ListN.{get_elem?}
use Rattle.atomic_table.proofs.Lists.{at_set}
use Rattle.reg_rule.specs.declared.view.View.{View}
use Rattle.reg_rule.specs.inner.SeatParts.{Each, total}

-- a fact that stays as it is holds of each view where it holds of the new one
pub each_set : {V : Type 0} (F : ℕ → V → Type 0) (vs : List V) (me : ℕ) (w : V) → Each vs F → F me w → Each (set vs me w) F
each_set {V} F vs me w all mine j d e = ⊎_elim (λ (t : (j ≡ me) × (w ≡ d)). subst (λ (x : ℕ × V). F x.0 x.1) (λ i. (sym t.0 i, t.1 i)) mine)
    (λ (t : (j ≢ me) × (get_elem? vs j ≡ some d)). all j d t.1) (at_set vs me j w d e)

-- a fact that the others keep as it becomes another
pub each_moves : {V : Type 0} (F G : ℕ → V → Type 0) (vs : List V) (me : ℕ) (w : V) → Each vs F → ((j : ℕ) (d : V) → j ≢ me → F j d → G j d) → G me w → Each (set vs me w) G
each_moves {V} F G vs me w all others mine j d e = ⊎_elim (λ (t : (j ≡ me) × (w ≡ d)). subst (λ (x : ℕ × V). G x.0 x.1) (λ i. (sym t.0 i, t.1 i)) mine)
    (λ (t : (j ≢ me) × (get_elem? vs j ≡ some d)). others j d t.0 (all j d t.1)) (at_set vs me j w d e)

pub at_snoc_where : {V : Type 0} (l : List V) (a b : V) (j : ℕ) → get_elem? (l ++ a ∷ []) j ≡ some b → (get_elem? l j ≡ some b) ⊎ ((j ≡ length l) × (a ≡ b))
at_snoc_where [] a b zero e = inr (refl, some-injective a b e)
at_snoc_where [] a b (suc j) e = absurd (some-ne-none b (sym e))
at_snoc_where (x ∷ xs) a b zero e = inl e
at_snoc_where (x ∷ xs) a b (suc j) e = ⊎_elim (λ h. inl h) (λ t. inr (ap suc t.0, t.1)) (at_snoc_where xs a b j e)

-- a seat is cut in two, and the new one has the next number
pub each_split : {V : Type 0} (F G : ℕ → V → Type 0) (vs : List V) (id : ℕ) (left right : V) → Each vs F → ((j : ℕ) (d : V) → j ≢ id → F j d → G j d) → G id left → G (length vs) right → Each (set vs id left ++ right ∷ []) G
each_split {V} F G vs id left right all others mine new j d e = ⊎_elim (λ old. each_moves F G vs id left all others mine j d old)
    (λ (t : (j ≡ length (set vs id left)) × (right ≡ d)). subst (λ (x : ℕ × V). G x.0 x.1) (λ i. (sym (t.0 ∙ length-set vs id left) i, t.1 i)) new) (at_snoc_where (set vs id left) right d j e)

pub each_join : {V : Type 0} (F G : ℕ → V → Type 0) (vs : List V) (id other : ℕ) (both spent : V) → Each vs F → ((j : ℕ) (d : V) → j ≢ id → j ≢ other → F j d → G j d) → G id both → G other spent → Each (set (set vs id both) other spent) G
each_join {V} F G vs id other both spent all others mine theirs j d e = ⊎_elim (λ (t : (j ≡ other) × (spent ≡ d)). subst (λ (x : ℕ × V). G x.0 x.1) (λ i. (sym t.0 i, t.1 i)) theirs)
    (λ (t : (j ≢ other) × (get_elem? (set vs id both) j ≡ some d)). each_moves F (λ (i : ℕ) (x : V). i ≢ other → G i x) vs id both all (λ i x ne f not. others i x ne not f) (λ _. mine) j d t.1 t.0) (at_set (set vs id both) other j spent d e)

-- what a list of views has in all, once one is another
pub total_moves : (f : View → ℕ) (views : List View) (id : ℕ) (v w : View) → get_elem? views id ≡ some v → total f (set views id w) + f v ≡ total f views + f w
total_moves f [] id v w at = absurd (some-ne-none v (sym at))
total_moves f (x ∷ views) zero v w at = let h : f x ≡ f v = ap f (some-injective x v at) in omega arith
total_moves f (x ∷ views) (suc id) v w at = let h = total_moves f views id v w at in omega arith

pub total_snoc : (f : View → ℕ) (views : List View) (w : View) → total f (views ++ w ∷ []) ≡ total f views + f w
total_snoc f [] w = omega arith
total_snoc f (x ∷ views) w = let h = total_snoc f views w in omega arith
