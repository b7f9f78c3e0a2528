-- For readers: each session has a seat. The sessions of all seats are as many as there are, and no two are one.
use Rattle.std.proofs.Common.{◌≡◌, ℕ, zero, suc, ◌+◌, ◌<◌, ◌||◌, ◌⊎◌, inl, inr, ⊎_elim, eqb, Bool, true, false, true≢false, List, [], ◌∷◌, ◌++◌, map, length, length-append, sym, refl, ap, ◌∙◌, subst, ne_eqb, eq-eqb, tests, arith}
use mathlib.Core.Option.{some, some-injective, some-ne-none}
use Rattle.std.specs.List.{list_any}
use Rattle.std.specs.List.{IsDistinct, AllByRecursion}
use Rattle.std.proofs.lemmas.Map.Steps.{length-le_from_distinct_below}
use Rattle.reg_rule.specs.declared.view.Key.{Key}
use Rattle.reg_rule.specs.declared.view.Account.{Account}
use Rattle.reg_rule.specs.declared.view.View.{View}
use Rattle.reg_rule.specs.Log.{At}
use Rattle.reg_rule.specs.ReadersLog.{IsSeatOf}
use Rattle.reg_rule.specs.inner.World.{World}
use Rattle.reg_rule.specs.inner.SeatParts.{total}
use Rattle.reg_rule.specs.inner.Rule.{Inv}

-- ---- lists

at_split : {A : Type 0} (l r : List A) (j : ℕ) (x : A) → At (l ++ r) j x → At l j x ⊎ ((k : ℕ) × (j ≡ length l + k) × At r k x)
at_split [] r j x e = inr (j, (let h : j ≡ 0 + j = omega arith in h), e)
at_split (y ∷ l) r zero x e = inl e
at_split (y ∷ l) r (suc j) x e = ⊎_elim (λ h. inl h) (λ (t : (k : ℕ) × (j ≡ length l + k) × At r k x). inr (t.0, (let h = t.1 in omega arith), t.2)) (at_split l r j x e)

apart_all : (x : ℕ) (xs : List ℕ) → ((k : ℕ) → At xs k x → ⊥) → AllByRecursion (λ y. eqb x y ≡ false) xs
apart_all x [] h = tt
apart_all x (y ∷ ys) h = (ne_eqb x y (λ e. h 0 (ap some (sym e))), apart_all x ys (λ k at. h (suc k) at))

distinct_of : (l : List ℕ) → ((j k x : ℕ) → At l j x → At l k x → j ≡ k) → IsDistinct eqb l
unfolding IsDistinct
distinct_of [] h = tt
distinct_of (x ∷ xs) h = (apart_all x xs (λ k at. let e = h 0 (suc k) x refl at in let y : ⊥ = omega arith in y), distinct_of xs (λ j k y a b. let e = h (suc j) (suc k) y a b in omega arith))

any_at : (q : ℕ) (l : List ℕ) → list_any (eqb q) l ≡ true → (j : ℕ) × At l j q
any_at q [] e = absurd (true≢false (sym e))
any_at q (x ∷ xs) e = by_test (eqb q x) refl e (any_at q xs) where
  same_of : (a b : ℕ) → eqb a b ≡ true → a ≡ b
  same_of a b h = search (tests, h)

  by_test : (b : Bool) → eqb q x ≡ b → (b || list_any (eqb q) xs) ≡ true → (list_any (eqb q) xs ≡ true → (j : ℕ) × At xs j q) → (j : ℕ) × At (x ∷ xs) j q
  by_test true is e more = (0, ap some (sym (same_of q x is)))
  by_test false is e more = let r = more e in (suc r.0, r.1)

-- ---- the sessions of all seats

abbrev sessions_of : List Account → List ℕ
sessions_of l = map (λ (a : Account). a.number) l

abbrev numbers : List View → List ℕ
numbers [] = []
numbers (v ∷ views) = sessions_of v.accounts ++ numbers views

length_sessions : (l : List Account) → length (sessions_of l) ≡ length l
length_sessions [] = refl
length_sessions (a ∷ l) = ap suc (length_sessions l)

length_numbers : (views : List View) → length (numbers views) ≡ total (λ v. length v.accounts) views
length_numbers [] = refl
length_numbers (v ∷ views) = let a = length-append (sessions_of v.accounts) (numbers views) in let b = length_numbers views in let c = length_sessions v.accounts in omega arith

at_sessions : (l : List Account) (j x : ℕ) → At (sessions_of l) j x → (a : Account) × At l j a × (a.number ≡ x)
at_sessions [] j x e = absurd (some-ne-none x (sym e))
at_sessions (a ∷ l) zero x e = (a, refl, some-injective a.number x e)
at_sessions (a ∷ l) (suc j) x e = at_sessions l j x e

-- where the account of a seat stands among all
abbrev position : List View → ℕ → ℕ → ℕ
position [] seat i = i
position (v ∷ views) zero i = i
position (v ∷ views) (suc seat) i = length v.accounts + position views seat i

abbrev Found : List View → ℕ → ℕ → Type 0
Found views j x = (seat : ℕ) × (i : ℕ) × (v : View) × (a : Account) × IsSeatOf views seat v × At v.accounts i a × (a.number ≡ x) × (j ≡ position views seat i)

found : (views : List View) (j x : ℕ) → At (numbers views) j x → Found views j x
found [] j x e = absurd (some-ne-none x (sym e))
found (v ∷ views) j x e = ⊎_elim
    (λ here. let h = at_sessions v.accounts j x here in (0, j, v, h.0, refl, h.1, h.2, refl))
    (λ (t : (k : ℕ) × (j ≡ length (sessions_of v.accounts) + k) × At (numbers views) k x). let h = found views t.0 x t.2 in let a = length_sessions v.accounts in let b = t.1 in let c = h.7 in
    (suc h.0, h.1, h.2, h.3, h.4, h.5, h.6, omega arith))
    (at_split (sessions_of v.accounts) (numbers views) j x e)

module _ (key : Key) (m : ℕ → ℕ → ℕ) (w : World) (views : List View) (i : Inv key m w views) where
  once : (j k x : ℕ) → At (numbers views) j x → At (numbers views) k x → j ≡ k
  once j k x a b = let f = found views j x a in let g = found views k x b in
      let owners = sym (i.owns f.0 f.2 f.4 f.1 f.3 f.5).owner_is ∙ (ap w.owner (f.6 ∙ sym g.6) ∙ (i.owns g.0 g.2 g.4 g.1 g.3 g.5).owner_is) in
      f.7 ∙ ((λ z. position views (owners z).0 (owners z).1) ∙ sym g.7)

  pub a_seat : (n : ℕ) → n < key.sizes.callers → (seat : ℕ) × (k : ℕ) × (v : View) × (a : Account) × IsSeatOf views seat v × At v.accounts k a × (a.number ≡ n)
  a_seat n low = by_test (list_any (eqb n) (numbers views)) refl where
    within : (q j : ℕ) → At (n ∷ numbers views) j q → q < key.sizes.callers
    within q zero e = subst (λ (x : ℕ). x < key.sizes.callers) (some-injective n q e) low
    within q (suc j) e = let f = found views j q e in subst (λ (x : ℕ). x < key.sizes.callers) f.6 (i.owns f.0 f.2 f.4 f.1 f.3 f.5).below

    any_of : (l : List ℕ) (k : ℕ) → At l k n → list_any (eqb n) l ≡ true
    any_of [] k e = absurd (some-ne-none n (sym e))
    any_of (x ∷ l) zero e = ap (λ (b : Bool). b || list_any (eqb n) l) (eq-eqb n x (sym (some-injective x n e)))
    any_of (x ∷ l) (suc k) e = either_true (eqb n x) (list_any (eqb n) l) (any_of l k e) where
      either_true : (a b : Bool) → b ≡ true → (a || b) ≡ true
      either_true true b h = refl
      either_true false b h = h

    too_many : list_any (eqb n) (numbers views) ≡ false → ⊥
    too_many none = let all = length-le_from_distinct_below (n ∷ numbers views) key.sizes.callers
        (distinct_of (n ∷ numbers views) each) (λ q h. let f = any_at q (n ∷ numbers views) h in within q f.0 f.1) in
        let a = length_numbers views in let b = i.sessions in omega arith where
          not_there : (k : ℕ) → At (numbers views) k n → ⊥
          not_there k at = true≢false (sym (any_of (numbers views) k at) ∙ none)

          each : (j k x : ℕ) → At (n ∷ numbers views) j x → At (n ∷ numbers views) k x → j ≡ k
          each zero zero x a b = refl
          each zero (suc k) x a b = absurd (not_there k (subst (λ (q : ℕ). At (numbers views) k q) (sym (some-injective n x a)) b))
          each (suc j) zero x a b = absurd (not_there j (subst (λ (q : ℕ). At (numbers views) j q) (sym (some-injective n x b)) a))
          each (suc j) (suc k) x a b = ap suc (once j k x a b)

    by_test : (b : Bool) → list_any (eqb n) (numbers views) ≡ b → (seat : ℕ) × (k : ℕ) × (v : View) × (a : Account) × IsSeatOf views seat v × At v.accounts k a × (a.number ≡ n)
    by_test true is = let h = any_at n (numbers views) is in let f = found views h.0 n h.1 in (f.0, f.1, f.2, f.3, f.4, f.5, f.6)
    by_test false is = absurd (too_many is)
