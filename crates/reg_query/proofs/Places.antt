-- What a log says of an id: it is declared once, in one entry; what is live at a front is kept up to it.
use Rattle.std.proofs.Common.{◌≡◌, ℕ, zero, suc, ◌+◌, ◌<◌, ◌≤◌, inl, inr, ⊎_elim, List, [], ◌∷◌, ◌++◌, take, length, slice_index_or, sym, refl, ap, ◌∙◌, subst, arith}
use Rattle.std.proofs.lemmas.Bool.{cases_lt}
use mathlib.Core.Option.{some-injective, some-ne-none}
use Rattle.iscc_header.specs.declared.unit.Unit64.{Unit64}
use Rattle.reg_model.specs.Opening.{Opening, IsOpening}
use Rattle.reg_model.specs.declared.update.Declared.{Declared}
use Rattle.reg_model.specs.declared.update.Update.{Update}
use Rattle.reg_model.specs.declared.update.Update.TheVariants.{Decl, Wd}
use Rattle.reg_rule.specs.declared.view.Place.{Place}
use Rattle.reg_rule.specs.Log.{At, IsDecl, IsKeptUpTo, Declares, IsLiveIn}

pub at_same : {A : Type 0} (l : List A) (n : ℕ) (x y : A) → At l n x → At l n y → x ≡ y
at_same l n x y a b = some-injective x y (sym a ∙ b)

pub at_inside : {A : Type 0} (l : List A) (n : ℕ) (x : A) → At l n x → n < length l
at_inside [] n x e = absurd (some-ne-none x (sym e))
at_inside (y ∷ l) zero x e = omega arith
at_inside (y ∷ l) (suc n) x e = let h = at_inside l n x e in omega arith

at_nth : {A : Type 0} (l : List A) (n : ℕ) (x d : A) → At l n x → slice_index_or l n d ≡ x
at_nth [] n x d e = absurd (some-ne-none x (sym e))
at_nth (y ∷ l) zero x d e = some-injective y x e
at_nth (y ∷ l) (suc n) x d e = at_nth l n x d e

pub take_at : {A : Type 0} (l : List A) (d n : ℕ) (x : A) → At (take d l) n x → At l n x
take_at l zero n x e = absurd (some-ne-none x (sym e))
take_at [] (suc d) n x e = e
take_at (y ∷ l) (suc d) zero x e = e
take_at (y ∷ l) (suc d) (suc n) x e = take_at l d n x e

pub at_below : {A : Type 0} (l : List A) (d n : ℕ) (x : A) → n < d → At l n x → At (take d l) n x
at_below l zero n x h e = absurd (omega arith)
at_below [] (suc d) n x h e = e
at_below (y ∷ l) (suc d) zero x h e = e
at_below (y ∷ l) (suc d) (suc n) x h e = at_below l d n x (omega arith) e

pub length_take : {A : Type 0} (l : List A) (k : ℕ) → k ≤ length l → length (take k l) ≡ k
length_take l zero h = refl
length_take [] (suc k) h = absurd (omega arith)
length_take (y ∷ l) (suc k) h = ap suc (length_take l k (omega arith))

pub take_append : {A : Type 0} (l more : List A) (k : ℕ) → k ≤ length l → take k (l ++ more) ≡ take k l
take_append l more zero h = refl
take_append [] more (suc k) h = absurd (omega arith)
take_append (y ∷ l) more (suc k) h = ap (λ (r : List _). y ∷ r) (take_append l more k (omega arith))

pub declares_more : (o : Opening) (log : List Place) (k id entry : ℕ) (unit : Unit64) → Declares o (take k log) id unit entry → Declares o log id unit entry
declares_more o log k id entry unit h = ⊎_elim (λ (c : At o.list entry (record { id = id; unit = unit })). inl c)
    (λ (t : (n : ℕ) × (id ≡ o.base + n) × IsDecl (take k log) n unit entry). inr (t.0, t.1, take_at log k t.0 _ t.2)) h

-- what is live at the front is kept up to it
pub live_kept : (o : Opening) (log : List Place) (k id entry : ℕ) (unit : Unit64) → k ≤ length log → IsLiveIn o (take k log) id unit entry → IsKeptUpTo log k id
live_kept o log k id entry unit inside live d e wd = let len = length_take log k inside in
    ⊎_elim (λ (h : d < k). let p = live.kept d e (at_below log k d _ h wd) in let l = at_inside (take k log) d _ (at_below log k d _ h wd) in absurd (omega arith))
    (λ (h : k ≤ d). h) (cases_lt d k)

unit_in : Unit64 → Update → Unit64
unit_in d (Decl unit) = unit
unit_in d (Wd id) = d

decl_same : (log : List Place) (n e f : ℕ) (u v : Unit64) → IsDecl log n u e → IsDecl log n v f → (u ≡ v) × (e ≡ f)
unfolding unit_in
decl_same log n e f u v a b = let h = at_same log n _ _ a b in (ap (λ (p : Place). unit_in u p.update) h, ap (λ (p : Place). p.entry) h)

pub carried_below : (o : Opening) (n id : ℕ) (unit : Unit64) → IsOpening o → At o.list n (record { id = id; unit = unit }) → id < o.base
carried_below o n id unit ok a =
    let d : Declared = record { id = id; unit = unit } in let is = at_nth o.list n d d a in
    subst (λ (c : Declared). c.id < o.base) is (ok.below n d (at_inside o.list n d a))

rises_at : (o : Opening) (n m : ℕ) (a b : Declared) → IsOpening o → n < m → At o.list n a → At o.list m b → a.id < b.id
rises_at o n m a b ok less x y =
    let r : (slice_index_or o.list n a).id < (slice_index_or o.list m a).id = ok.rising n m a less (at_inside o.list m b y) in
    let p : (slice_index_or o.list n a).id ≡ a.id = ap (λ (d : Declared). d.id) (at_nth o.list n a a x) in
    let q : (slice_index_or o.list m a).id ≡ b.id = ap (λ (d : Declared). d.id) (at_nth o.list m b a y) in omega arith

carried_same : (o : Opening) (n m id : ℕ) (u v : Unit64) → IsOpening o → At o.list n (record { id = id; unit = u }) → At o.list m (record { id = id; unit = v }) → (u ≡ v) × (n ≡ m)
carried_same o n m id u v ok a b = let same : n ≡ m = ⊎_elim
    (λ (less : n < m). let h : id < id = rises_at o n m _ _ ok less a b in absurd (omega arith))
    (λ (le : m ≤ n). ⊎_elim (λ (less : m < n). let h : id < id = rises_at o m n _ _ ok less b a in absurd (omega arith)) (λ (ge : n ≤ m). let e : n ≡ m = omega arith in e) (cases_lt m n))
    (cases_lt n m) in
    (ap (λ (d : Declared). d.unit) (at_same o.list m (record { id = id; unit = u }) (record { id = id; unit = v }) (subst (λ (k : ℕ). At o.list k (record { id = id; unit = u })) same a) b), same)

-- an id is declared once
pub declares_once : (o : Opening) (log : List Place) (id e f : ℕ) (u v : Unit64) → IsOpening o → Declares o log id u e → Declares o log id v f → (u ≡ v) × (e ≡ f)
declares_once o log id e f u v ok a b =
    ⊎_elim (λ (x : At o.list e (record { id = id; unit = u })).
    ⊎_elim (λ (y : At o.list f (record { id = id; unit = v })). carried_same o e f id u v ok x y)
    (λ (y : (n : ℕ) × (id ≡ o.base + n) × IsDecl log n v f). let h = carried_below o e id u ok x in let g = y.1 in absurd (omega arith)) b)
    (λ (x : (n : ℕ) × (id ≡ o.base + n) × IsDecl log n u e).
    ⊎_elim (λ (y : At o.list f (record { id = id; unit = v })). let h = carried_below o f id v ok y in let g = x.1 in absurd (omega arith))
    (λ (y : (n : ℕ) × (id ≡ o.base + n) × IsDecl log n v f). let g = x.1 in let h = y.1 in let same : x.0 ≡ y.0 = omega arith in
    decl_same log y.0 e f u v (subst (λ (k : ℕ). IsDecl log k u e) same x.2) y.2) b)
    a

pub declared_below : (o : Opening) (log : List Place) (id entry : ℕ) (unit : Unit64) → IsOpening o → Declares o log id unit entry → id < o.base + length log
declared_below o log id entry unit ok dec =
    ⊎_elim (λ (x : At o.list entry (record { id = id; unit = unit })). let h = carried_below o entry id unit ok x in omega arith)
    (λ (x : (n : ℕ) × (id ≡ o.base + n) × IsDecl log n unit entry). let h = at_inside log x.0 _ x.2 in let g = x.1 in omega arith) dec
