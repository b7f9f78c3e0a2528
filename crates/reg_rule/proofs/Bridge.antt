-- What is live after a log, by the rule's words and by the registry's.
use Rattle.std.proofs.Common.{◌≡◌, ℕ, zero, suc, ◌==◌, ◌||◌, not, List, [], ◌∷◌, filter, find, cond, Bool, true, false, true≢false, Option, Some, sym, refl, ap, ◌∙◌, subst, eq-eqb, tests, arith}
use mathlib.Core.Option.{some, some-injective, some-ne-none}
use Rattle.iscc_header.specs.declared.unit.Unit64.{Unit64}
use Rattle.reg_model.specs.Opening.{Opening, IsOpening}
use Rattle.reg_model.specs.Live.{live, live_at, declared, withdraws, is_withdrawn}
use Rattle.reg_model.specs.declared.update.Declared.{Declared}
use Rattle.reg_model.specs.declared.update.Update.{Update}
use Rattle.reg_model.specs.declared.update.Update.TheVariants.{Decl, Wd}
use Rattle.reg_rule.specs.declared.view.Place.{Place}
use Rattle.reg_rule.specs.Log.{At, place_of, updates, IsWd, Declares, IsLiveIn}
use Rattle.reg_rule.proofs.Shows.{at_inside}
use Rattle.reg_rule.proofs.Once.{declares_once}
use Rattle.reg_rule.proofs.Costs.{listed, of_list}
use Rattle.reg_rule.proofs.Variants.{some_same}

same_of : (a b : ℕ) → (a == b) ≡ true → a ≡ b
same_of a b h = search (tests, h)

-- ---- the first that passes

pub find_some : {A : Type 0} (p : A → Bool) (l : List A) (i : ℕ) (x : A) → At l i x → p x ≡ true → (y : A) × (j : ℕ) × (find p l ≡ Some y) × (p y ≡ true) × At l j y
find_some p [] i x e t = absurd (some-ne-none x (sym e))
find_some {A} p (z ∷ l) zero x e t = let same = some-injective z x e in let pz : p z ≡ true = ap p same ∙ t in (z, 0, ap (λ (b : Bool). cond {A = Option A} b (Some z) (find p l)) pz, pz, refl)
find_some {A} p (z ∷ l) (suc i) x e t = by_test (p z) refl (find_some p l i x e t) where
  by_test : (b : Bool) → p z ≡ b → ((y : A) × (j : ℕ) × (find p l ≡ Some y) × (p y ≡ true) × At l j y) → (y : A) × (j : ℕ) × (find p (z ∷ l) ≡ Some y) × (p y ≡ true) × At (z ∷ l) j y
  by_test true is r = (z, 0, ap (λ (b : Bool). cond {A = Option A} b (Some z) (find p l)) is, is, refl)
  by_test false is r = (r.0, suc r.1, ap (λ (b : Bool). cond {A = Option A} b (Some z) (find p l)) is ∙ r.2, r.3, r.4)

pub find_was : {A : Type 0} (p : A → Bool) (l : List A) (y : A) → find p l ≡ Some y → (p y ≡ true) × ((j : ℕ) × At l j y)
find_was p [] y e = absurd cc
find_was {A} p (z ∷ l) y e = by_test (p z) refl (find_was p l y) where
  by_test : (b : Bool) → p z ≡ b → (find p l ≡ Some y → (p y ≡ true) × ((j : ℕ) × At l j y)) → (p y ≡ true) × ((j : ℕ) × At (z ∷ l) j y)
  by_test true is r = let same : z ≡ y = some_same z y (sym (ap (λ (b : Bool). cond {A = Option A} b (Some z) (find p l)) is) ∙ e) in (ap p (sym same) ∙ is, (0, ap some same))
  by_test false is r = let h = r (sym (ap (λ (b : Bool). cond {A = Option A} b (Some z) (find p l)) is) ∙ e) in (h.0, (suc h.1.0, h.1.1))

pub at_filter : {A : Type 0} (p : A → Bool) (l : List A) (i : ℕ) (x : A) → At l i x → p x ≡ true → (j : ℕ) × At (filter p l) j x
at_filter p [] i x e t = absurd (some-ne-none x (sym e))
at_filter {A} p (z ∷ l) zero x e t = let same = some-injective z x e in (0, subst (λ (k : List A). At k 0 x) (sym (ap (λ (b : Bool). cond {A = List A} b (z ∷ filter p l) (filter p l)) (ap p same ∙ t))) (ap some same))
at_filter {A} p (z ∷ l) (suc i) x e t = by_test (p z) refl (at_filter p l i x e t) where
  by_test : (b : Bool) → p z ≡ b → ((j : ℕ) × At (filter p l) j x) → (j : ℕ) × At (filter p (z ∷ l)) j x
  by_test true is r = (suc r.0, subst (λ (k : List A). At k (suc r.0) x) (sym (ap (λ (b : Bool). cond {A = List A} b (z ∷ filter p l) (filter p l)) is)) r.1)
  by_test false is r = (r.0, subst (λ (k : List A). At k r.0 x) (sym (ap (λ (b : Bool). cond {A = List A} b (z ∷ filter p l) (filter p l)) is)) r.1)

pub of_filter : {A : Type 0} (p : A → Bool) (l : List A) (j : ℕ) (x : A) → At (filter p l) j x → (p x ≡ true) × ((i : ℕ) × At l i x)
of_filter p [] j x e = absurd (some-ne-none x (sym e))
of_filter {A} p (z ∷ l) j x e = by_test (p z) refl j e (λ k h. of_filter p l k x h) where
  by_test : (b : Bool) → p z ≡ b → (j : ℕ) → At (filter p (z ∷ l)) j x → ((k : ℕ) → At (filter p l) k x → (p x ≡ true) × ((i : ℕ) × At l i x)) → (p x ≡ true) × ((i : ℕ) × At (z ∷ l) i x)
  by_test true is zero e r = let h = subst (λ (k : List A). At k 0 x) (ap (λ (b : Bool). cond {A = List A} b (z ∷ filter p l) (filter p l)) is) e in let same = some-injective z x h in (ap p (sym same) ∙ is, (0, h))
  by_test true is (suc j) e r = let h = r j (subst (λ (k : List A). At k (suc j) x) (ap (λ (b : Bool). cond {A = List A} b (z ∷ filter p l) (filter p l)) is) e) in (h.0, (suc h.1.0, h.1.1))
  by_test false is j e r = let h = r j (subst (λ (k : List A). At k j x) (ap (λ (b : Bool). cond {A = List A} b (z ∷ filter p l) (filter p l)) is) e) in (h.0, (suc h.1.0, h.1.1))

-- ---- withdrawals

pub not_withdrawn : (id : ℕ) (log : List Place) → ((d entry : ℕ) → IsWd log d id entry → ⊥) → is_withdrawn (updates log) id ≡ false
not_withdrawn id [] none = refl
not_withdrawn id (p ∷ log) none = by_update p.update refl (not_withdrawn id log (λ d e w. none (suc d) e w)) where
  by_update : (u : Update) → p.update ≡ u → is_withdrawn (updates log) id ≡ false → (withdraws id u || is_withdrawn (updates log) id) ≡ false
  by_update (Decl unit) is r = r
  by_update (Wd other) is r = by_test (other == id) refl where
    by_test : (b : Bool) → (other == id) ≡ b → (b || is_withdrawn (updates log) id) ≡ false
    by_test true q = absurd (none 0 p.entry (ap (λ (u : Update). some (place_of u p.entry)) (is ∙ ap Wd (same_of other id q))))
    by_test false q = r

pub none_withdraws : (id : ℕ) (log : List Place) (d entry : ℕ) → is_withdrawn (updates log) id ≡ false → IsWd log d id entry → ⊥
none_withdraws id [] d entry h w = some-ne-none _ (sym w)
none_withdraws id (p ∷ log) zero entry h w = let same = some-injective p _ w in
    true≢false (sym (ap (λ (b : Bool). b || is_withdrawn (updates log) id) (ap (λ (q : Place). withdraws id q.update) same ∙ eq-eqb id id refl)) ∙ h)
none_withdraws id (p ∷ log) (suc d) entry h w = none_withdraws id log d entry (right_false (withdraws id p.update) (is_withdrawn (updates log) id) h) w where
  right_false : (a b : Bool) → (a || b) ≡ false → b ≡ false
  right_false true b e = absurd (true≢false e)
  right_false false b e = e

-- ---- live

pub live_listed : (o : Opening) (log : List Place) (id entry : ℕ) (unit : Unit64) → IsOpening o → IsLiveIn o log id unit entry → live_at o (updates log) id ≡ Some (record { id = id; unit = unit })
live_listed o log id entry unit ok is =
    let l = listed o log id entry unit is.declares in let d : Declared = record { id = id; unit = unit } in
    let none = not_withdrawn id log (λ c e w. let a = is.kept c e w in let b = at_inside log c _ w in omega arith) in
    let f = at_filter (λ (x : Declared). not (is_withdrawn (updates log) x.id)) (declared o (updates log)) l.0 d l.1 (ap not none) in
    let g = find_some (λ (x : Declared). x.id == id) (live o (updates log)) f.0 d f.1 (eq-eqb id id refl) in
    let h = of_filter (λ (x : Declared). not (is_withdrawn (updates log) x.id)) (declared o (updates log)) g.1 g.0 g.4 in
    let q = of_list o log h.1.0 g.0 h.1.1 in
    let same : g.0.id ≡ id = same_of g.0.id id g.3 in
    let units : unit ≡ g.0.unit = (declares_once o log id entry q.0 unit g.0.unit ok is.declares (subst (λ (n : ℕ). Declares o log n g.0.unit q.0) same q.1)).0 in
    g.2 ∙ ap Some (λ k. record { id = same k; unit = sym units k })

pub listed_live : (o : Opening) (log : List Place) (id : ℕ) (d : Declared) → live_at o (updates log) id ≡ Some d → (d.id ≡ id) × ((entry : ℕ) × IsLiveIn o log id d.unit entry)
listed_live o log id d e =
    let f = find_was (λ (x : Declared). x.id == id) (live o (updates log)) d e in
    let h = of_filter (λ (x : Declared). not (is_withdrawn (updates log) x.id)) (declared o (updates log)) f.1.0 d f.1.1 in
    let q = of_list o log h.1.0 d h.1.1 in let same : d.id ≡ id = same_of d.id id f.0 in (
      same,
      (
        q.0,
        record {
          declares = subst (λ (n : ℕ). Declares o log n d.unit q.0) same q.1;
          kept = λ c x w. absurd (none_withdraws id log c x (not_true (is_withdrawn (updates log) id) (ap (λ (n : ℕ). not (is_withdrawn (updates log) n)) (sym same) ∙ h.0)) w);
        },
      ),
    ) where
      not_true : (b : Bool) → not b ≡ true → b ≡ false
      not_true true z = absurd (true≢false (sym z))
      not_true false z = refl
