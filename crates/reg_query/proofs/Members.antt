-- Members of lists: two lists without repetition that have the same members; and what is live, as members of a list.
use Rattle.std.proofs.Common.{◌≡◌, ℕ, zero, suc, ◌<◌, ◌⊎◌, inl, inr, ⊎_elim, not, Bool, true, false, true≢false, cond, List, [], ◌∷◌, map, filter, length, get_or, Contains, refl, sym, ap, ◌∙◌, subst, arith}
use Rattle.std.specs.Prelude.{IsPermutation}
use Rattle.std.specs.List.{remove}
use Rattle.std.proofs.lemmas.List.Sorted.{IsPermutation-refl, IsPermutation-cons, IsPermutation-trans, IsPermutation-sym, IsPermutation-remove, Contains-permutation}
use mathlib.Core.Option.{some, some-injective, some-ne-none}
use Rattle.reg_model.specs.Opening.{Opening}
use Rattle.reg_model.specs.Live.{live, declared, is_withdrawn}
use Rattle.reg_model.specs.declared.update.Declared.{Declared}
use Rattle.reg_rule.specs.declared.view.Place.{Place}
use Rattle.reg_rule.specs.Log.{At, updates, IsLiveIn}
use Rattle.reg_rule.proofs.Bridge.{at_filter, of_filter, not_withdrawn, none_withdraws}
use Rattle.reg_rule.proofs.Costs.{listed, of_list}
use Rattle.reg_query.proofs.Places.{at_inside}

module _ {A : Type 0} where
  pub first_member : (x : A) (xs : List A) → Contains (x ∷ xs) x
  first_member x xs = (0, omega arith, refl)

  pub next_member : (x y : A) (xs : List A) → Contains xs y → Contains (x ∷ xs) y
  next_member x y xs m = (suc m.0, (let l = m.1 in omega arith), m.2)

  pub none_member : (y : A) → Contains [] y → ⊥
  none_member y m = let l = m.1 in omega arith

  pub cons_cases : (x y : A) (xs : List A) → Contains (x ∷ xs) y → (x ≡ y) ⊎ Contains xs y
  cons_cases x y xs m = by m.0 m.1 m.2 where
    by : (k : ℕ) → k < length (x ∷ xs) → get_or (x ∷ xs) k y ≡ y → (x ≡ y) ⊎ Contains xs y
    by zero low is = inl is
    by (suc k) low is = inr (k, omega arith, is)

  -- ---- the same members

  -- no element stands twice
  abbrev pub IsSet : List A → Type 0
  IsSet [] = Unit {0}
  IsSet (x ∷ xs) = (Contains xs x → ⊥) × IsSet xs

  of_removed : (xs : List A) (i : ℕ) (y : A) → Contains (remove xs i) y → Contains xs y
  of_removed [] zero y m = m
  of_removed [] (suc i) y m = m
  of_removed (x ∷ xs) zero y m = next_member x y xs m
  of_removed (x ∷ xs) (suc i) y m = ⊎_elim
      (λ (h : x ≡ y). subst (Contains (x ∷ xs)) h (first_member x xs))
      (λ (h : Contains (remove xs i) y). next_member x y xs (of_removed xs i y h))
      (cons_cases x y (remove xs i) m)

  set_removed : (xs : List A) (i : ℕ) → IsSet xs → IsSet (remove xs i)
  set_removed [] zero s = s
  set_removed [] (suc i) s = s
  set_removed (x ∷ xs) zero s = s.1
  set_removed (x ∷ xs) (suc i) s = ((λ m. s.0 (of_removed xs i x m)), set_removed xs i s.1)

  not_removed : (xs : List A) (i : ℕ) (y : A) → IsSet xs → i < length xs → get_or xs i y ≡ y → Contains (remove xs i) y → ⊥
  not_removed [] i y s low is m = omega (arith, low)
  not_removed (x ∷ xs) zero y s low is m = s.0 (subst (Contains xs) (sym is) m)
  not_removed (x ∷ xs) (suc i) y s low is m = ⊎_elim
      (λ (h : x ≡ y). s.0 (subst (Contains xs) (sym h) (i, omega (arith, low), is)))
      (λ (h : Contains (remove xs i) y). not_removed xs i y s.1 (omega (arith, low)) is h)
      (cons_cases x y (remove xs i) m)

  pub same_members : (xs ys : List A) → IsSet xs → IsSet ys → ((z : A) → Contains xs z → Contains ys z) → ((z : A) → Contains ys z → Contains xs z) → IsPermutation xs ys
  same_members [] [] s t to from = IsPermutation-refl []
  same_members [] (y ∷ ys) s t to from = absurd (none_member y (from y (first_member y ys)))
  same_members (x ∷ xs) ys s t to from =
      let c = to x (first_member x xs) in
      let moved : IsPermutation ys (x ∷ remove ys c.0) = IsPermutation-remove ys c.0 x c.1 (sym c.2) in
      let rest = same_members xs (remove ys c.0) s.1 (set_removed ys c.0 t)
      (λ z m. ⊎_elim (λ (h : x ≡ z). absurd (s.0 (subst (Contains xs) (sym h) m))) (λ (h : Contains (remove ys c.0) z). h)
      (cons_cases x z (remove ys c.0) (Contains-permutation ys (x ∷ remove ys c.0) z moved (to z (next_member x z xs m)))))
      (λ z m. ⊎_elim (λ (h : x ≡ z). absurd (not_removed ys c.0 x t c.1 c.2 (subst (Contains (remove ys c.0)) (sym h) m))) (λ (h : Contains xs z). h)
      (cons_cases x z xs (from z (of_removed ys c.0 z m)))) in
      IsPermutation-trans (x ∷ xs) (x ∷ remove ys c.0) ys (IsPermutation-cons x xs (remove ys c.0) rest) (IsPermutation-sym ys (x ∷ remove ys c.0) moved)

  -- ---- lists that are filtered and mapped

  pub to_filtered : (p : A → Bool) (xs : List A) (y : A) → Contains xs y → p y ≡ true → Contains (filter p xs) y
  to_filtered p [] y m passes = m
  to_filtered p (x ∷ xs) y m passes = by (p x) refl (cons_cases x y xs m) (λ h. to_filtered p xs y h passes) where
    by : (b : Bool) → p x ≡ b → (x ≡ y) ⊎ Contains xs y → (Contains xs y → Contains (filter p xs) y) → Contains (cond {A = List A} b (x ∷ filter p xs) (filter p xs)) y
    by true is here rest = ⊎_elim (λ (h : x ≡ y). subst (Contains (x ∷ filter p xs)) h (first_member x (filter p xs))) (λ (h : Contains xs y). next_member x y (filter p xs) (rest h)) here
    by false is here rest = ⊎_elim (λ (h : x ≡ y). absurd (true≢false (sym passes ∙ (ap p (sym h) ∙ is)))) rest here

  pub of_filtered : (p : A → Bool) (xs : List A) (y : A) → Contains (filter p xs) y → Contains xs y × (p y ≡ true)
  of_filtered p [] y m = absurd (none_member y m)
  of_filtered p (x ∷ xs) y m = by (p x) refl m (λ h. let r = of_filtered p xs y h in (next_member x y xs r.0, r.1)) where
    by : (b : Bool) → p x ≡ b → Contains (cond {A = List A} b (x ∷ filter p xs) (filter p xs)) y → (Contains (filter p xs) y → Contains (x ∷ xs) y × (p y ≡ true)) → Contains (x ∷ xs) y × (p y ≡ true)
    by true is n more = ⊎_elim (λ (h : x ≡ y). (subst (Contains (x ∷ xs)) h (first_member x xs), ap p (sym h) ∙ is)) more (cons_cases x y (filter p xs) n)
    by false is n more = more n

  pub to_at : (xs : List A) (y : A) → Contains xs y → (i : ℕ) × At xs i y
  to_at [] y m = absurd (none_member y m)
  to_at (x ∷ xs) y m = ⊎_elim (λ (h : x ≡ y). (0, ap some h)) (λ (h : Contains xs y). let r = to_at xs y h in (suc r.0, r.1)) (cons_cases x y xs m)

  pub of_at : (xs : List A) (i : ℕ) (y : A) → At xs i y → Contains xs y
  of_at [] i y e = absurd (some-ne-none y (sym e))
  of_at (x ∷ xs) zero y e = subst (Contains (x ∷ xs)) (some-injective x y e) (first_member x xs)
  of_at (x ∷ xs) (suc i) y e = next_member x y xs (of_at xs i y e)

pub to_mapped : {A B : Type 0} (f : A → B) (xs : List A) (y : A) → Contains xs y → Contains (map f xs) (f y)
to_mapped f [] y m = absurd (none_member y m)
to_mapped f (x ∷ xs) y m = ⊎_elim (λ (h : x ≡ y). subst (Contains (f x ∷ map f xs)) (ap f h) (first_member (f x) (map f xs)))
    (λ (h : Contains xs y). next_member (f x) (f y) (map f xs) (to_mapped f xs y h)) (cons_cases x y xs m)

pub of_mapped : {A B : Type 0} (f : A → B) (xs : List A) (z : B) → Contains (map f xs) z → (y : A) × Contains xs y × (z ≡ f y)
of_mapped f [] z m = absurd (none_member z m)
of_mapped f (x ∷ xs) z m = ⊎_elim (λ (h : f x ≡ z). (x, first_member x xs, sym h))
    (λ (h : Contains (map f xs) z). let r = of_mapped f xs z h in (r.0, next_member x r.0 xs r.1, r.2)) (cons_cases (f x) z (map f xs) m)

-- ---- live

abbrev is_kept : List Place → Declared → Bool
is_kept log d = not (is_withdrawn (updates log) d.id)

pub to_live : (o : Opening) (log : List Place) (d : Declared) (entry : ℕ) → IsLiveIn o log d.id d.unit entry → Contains (live o (updates log)) d
to_live o log d entry is =
    let l = listed o log d.id entry d.unit is.declares in
    let none = not_withdrawn d.id log (λ c e w. let a = is.kept c e w in let b = at_inside log c _ w in omega arith) in
    let f = at_filter (is_kept log) (declared o (updates log)) l.0 d l.1 (ap not none) in of_at (live o (updates log)) f.0 d f.1

pub of_live : (o : Opening) (log : List Place) (d : Declared) → Contains (live o (updates log)) d → (entry : ℕ) × IsLiveIn o log d.id d.unit entry
of_live o log d m =
    let a = to_at (live o (updates log)) d m in let f = of_filter (is_kept log) (declared o (updates log)) a.0 d a.1 in let q = of_list o log f.1.0 d f.1.1 in
    (q.0, record { declares = q.1; kept = λ c x w. absurd (none_withdraws d.id log c x (not_true (is_withdrawn (updates log) d.id) f.0) w) }) where
      not_true : (b : Bool) → not b ≡ true → b ≡ false
      not_true true z = absurd (true≢false (sym z))
      not_true false z = refl
