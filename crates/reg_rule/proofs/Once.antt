-- What a lawful log says of an id: it is declared once, and withdrawn once, later, and in the entry of its declaration.
use Rattle.std.proofs.Common.{◌≡◌, ℕ, zero, suc, ◌+◌, ◌<◌, ◌≤◌, ◌⊎◌, inl, inr, ⊎_elim, List, [], ◌∷◌, ◌++◌, take, length, length-append, slice_index_or, sym, refl, ap, ◌∙◌, subst, lt_of_not-le, Bool, true, false, true≢false, arith}
use mathlib.Core.Logic.{dite}
use native.Mathlib.Decide.{dec_le}
use mathlib.Core.Option.{some-injective, some-ne-none}
use Rattle.iscc_header.specs.declared.unit.Unit64.{Unit64}
use Rattle.reg_model.specs.Opening.{Opening, IsOpening}
use Rattle.reg_model.specs.declared.update.Declared.{Declared}
use Rattle.reg_model.specs.declared.update.Update.{Update}
use Rattle.reg_model.specs.declared.update.Update.TheVariants.{Decl, Wd}
use Rattle.reg_rule.specs.declared.view.Place.{Place}
use Rattle.reg_rule.specs.Log.{At, place_of, IsDecl, IsWd, Declares, IsLiveIn}
use Rattle.atomic_table.proofs.Lists.{at_longer}
use Rattle.reg_rule.proofs.Held.{at_take, at_nth, all_at}
use Rattle.reg_rule.proofs.Shows.{take_at, at_below, at_inside, length_take}

abbrev pub IsLawfulLog : Opening → List Place → Type 0
IsLawfulLog opening log = (d id entry : ℕ) → IsWd log d id entry → (unit : Unit64) × IsLiveIn opening (take d log) id unit entry

pub at_same : {A : Type 0} (l : List A) (n : ℕ) (x y : A) → At l n x → At l n y → x ≡ y
at_same l n x y a b = some-injective x y (sym a ∙ b)

abbrev unit_in : Unit64 → Update → Unit64
unit_in d (Decl unit) = unit
unit_in d (Wd id) = d

abbrev id_in : Update → ℕ
id_in (Decl unit) = 0
id_in (Wd id) = id

abbrev pub is_decl : Update → Bool
is_decl (Decl unit) = true
is_decl (Wd id) = false

pub decl_same : (log : List Place) (n e f : ℕ) (u v : Unit64) → IsDecl log n u e → IsDecl log n v f → (u ≡ v) × (e ≡ f)
decl_same log n e f u v a b = let h = at_same log n _ _ a b in (ap (λ (p : Place). unit_in u p.update) h, ap (λ (p : Place). p.entry) h)

pub wd_same : (log : List Place) (n i j e f : ℕ) → IsWd log n i e → IsWd log n j f → (i ≡ j) × (e ≡ f)
wd_same log n i j e f a b = let h = at_same log n _ _ a b in (ap (λ (p : Place). id_in p.update) h, ap (λ (p : Place). p.entry) h)

pub decl_not_wd : (log : List Place) (n id e f : ℕ) (u : Unit64) → IsDecl log n u e → IsWd log n id f → ⊥
decl_not_wd log n id e f u a b = true≢false (ap (λ (p : Place). is_decl p.update) (at_same log n _ _ a b))

-- ids of what is carried rise, so an id stands there once
pub carried_below : (o : Opening) (n id : ℕ) (u : Unit64) → IsOpening o → At o.list n (record { id = id; unit = u }) → id < o.base
carried_below o n id u ok a = all_at (λ (c : Declared). c.id < o.base) o.list n (record { id = id; unit = u }) ok.below a

rises_at : (o : Opening) (n m : ℕ) (a b : Declared) → IsOpening o → n < m → At o.list n a → At o.list m b → a.id < b.id
rises_at o n m a b ok less x y = let g = at_nth o.list n a a x in let h = at_nth o.list m b a y in
    let r : (slice_index_or o.list n a).id < (slice_index_or o.list m a).id = ok.rising n m a less h.0 in
    let p : (slice_index_or o.list n a).id ≡ a.id = ap (λ (d : Declared). d.id) g.1 in
    let q : (slice_index_or o.list m a).id ≡ b.id = ap (λ (d : Declared). d.id) h.1 in omega arith

pub carried_same : (o : Opening) (n m id : ℕ) (u v : Unit64) → IsOpening o → At o.list n (record { id = id; unit = u }) → At o.list m (record { id = id; unit = v }) → (u ≡ v) × (n ≡ m)
carried_same o n m id u v ok a b = let same : n ≡ m = dite (dec_le n m)
    (λ le. dite (dec_le m n) (λ ge. omega arith) (λ apart. let less : n < m = lt_of_not-le apart in let h : id < id = rises_at o n m _ _ ok less a b in absurd (omega arith)))
    (λ apart. let less : m < n = lt_of_not-le apart in let h : id < id = rises_at o m n _ _ ok less b a in absurd (omega arith)) in
    (ap (λ (d : Declared). d.unit) (at_same o.list m (record { id = id; unit = u }) (record { id = id; unit = v }) (subst (λ (k : ℕ). At o.list k (record { id = id; unit = u })) same a) b), same)

-- an id is declared once
pub declares_once : (o : Opening) (log : List Place) (id e f : ℕ) (u v : Unit64) → IsOpening o → Declares o log id u e → Declares o log id v f → (u ≡ v) × (e ≡ f)
declares_once o log id e f u v ok a b =
    ⊎_elim (λ (x : At o.list e (record { id = id; unit = u })).
    ⊎_elim (λ (y : At o.list f (record { id = id; unit = v })). carried_same o e f id u v ok x y)
    (λ (y : (n : ℕ) × (id ≡ o.base + n) × IsDecl log n v f). let h = carried_below o e id u ok x in let g = y.1 in absurd (omega arith)) b)
    (λ (x : (n : ℕ) × (id ≡ o.base + n) × IsDecl log n u e).
    ⊎_elim (λ (y : At o.list f (record { id = id; unit = v })). let h = carried_below o f id v ok y in let g = x.1 in absurd (omega arith))
    (λ (y : (n : ℕ) × (id ≡ o.base + n) × IsDecl log n v f). let g = x.1 in let h = y.1 in let same : x.0 ≡ y.0 = omega arith in
    decl_same log y.0 e f u v (subst (λ (k : ℕ). IsDecl log k u e) same x.2) y.2) b)
    a

-- it is withdrawn in the entry of its declaration, later
pub wd_declares : (o : Opening) (log : List Place) (d id e : ℕ) → IsLawfulLog o log → IsWd log d id e → (unit : Unit64) × Declares o log id unit e
wd_declares o log d id e law wd = let live = law d id e wd in (
  live.0,
  ⊎_elim (λ (x : At o.list e (record { id = id; unit = live.0 })). inl x)
      (λ (x : (n : ℕ) × (id ≡ o.base + n) × IsDecl (take d log) n live.0 e). inr (x.0, x.1, take_at log d x.0 _ x.2)) live.1.declares,
)

pub wd_entry : (o : Opening) (log : List Place) (d id e f : ℕ) (u : Unit64) → IsOpening o → IsLawfulLog o log → IsWd log d id e → Declares o log id u f → e ≡ f
wd_entry o log d id e f u ok law wd dec = let h = wd_declares o log d id e law wd in (declares_once o log id e f h.0 u ok h.1 dec).1

pub wd_later : (o : Opening) (log : List Place) (n d e : ℕ) → IsOpening o → IsLawfulLog o log → IsWd log d (o.base + n) e → n < d
wd_later o log n d e ok law wd = let live = law d (o.base + n) e wd in
    ⊎_elim (λ (x : At o.list e (record { id = o.base + n; unit = live.0 })). let h = carried_below o e (o.base + n) live.0 ok x in absurd (omega arith))
    (λ (x : (m : ℕ) × (o.base + n ≡ o.base + m) × IsDecl (take d log) m live.0 e). let h = at_take log d x.0 _ x.2 in let g = x.1 in omega arith) live.1.declares

-- and once
pub wd_order : (o : Opening) (log : List Place) (d c id e f : ℕ) → IsLawfulLog o log → IsWd log d id e → IsWd log c id f → d ≤ c
wd_order o log d c id e f law x y = let live = law d id e x in let inside = at_inside log d _ x in let len = length_take log d (omega arith) in
    dite (dec_le d c) (λ h. h)
    (λ apart. let less : c < d = lt_of_not-le apart in let h = live.1.kept c f (at_below log d c _ less y) in let g = at_inside (take d log) c _ (at_below log d c _ less y) in absurd (omega arith))

pub wd_once : (o : Opening) (log : List Place) (d c id e f : ℕ) → IsLawfulLog o log → IsWd log d id e → IsWd log c id f → d ≡ c
wd_once o log d c id e f law x y = let g = wd_order o log d c id e f law x y in let h = wd_order o log c d id f e law y x in omega arith

-- ---- one place more

pub at_one_more : {A : Type 0} (l : List A) (x y : A) (n : ℕ) → At (l ++ x ∷ []) n y → At l n y ⊎ ((n ≡ length l) × (x ≡ y))
at_one_more [] x y zero e = inr (refl, some-injective x y e)
at_one_more [] x y (suc n) e = absurd (some-ne-none y (sym e))
at_one_more (z ∷ l) x y zero e = inl e
at_one_more (z ∷ l) x y (suc n) e = ⊎_elim (λ h. inl h) (λ t. inr (ap suc t.0, t.1)) (at_one_more l x y n e)

pub length_one_more : {A : Type 0} (l : List A) (x : A) → length (l ++ x ∷ []) ≡ length l + 1
length_one_more l x = length-append l (x ∷ []) ∙ (let h : length l + 1 ≡ length l + 1 = refl in h)

-- a declaration of the longer log is one of the log, or of the new place
pub declares_one_more : (o : Opening) (log : List Place) (p : Place) (id e : ℕ) (u : Unit64) → Declares o (log ++ p ∷ []) id u e
    → Declares o log id u e ⊎ ((id ≡ o.base + length log) × (p ≡ place_of (Decl u) e))
declares_one_more o log p id e u dec =
    ⊎_elim (λ (x : At o.list e (record { id = id; unit = u })). inl (inl x))
    (λ (x : (n : ℕ) × (id ≡ o.base + n) × IsDecl (log ++ p ∷ []) n u e).
    ⊎_elim (λ h. inl (inr (x.0, x.1, h))) (λ t. inr (x.1 ∙ ap (λ (k : ℕ). o.base + k) t.0, t.1)) (at_one_more log p _ x.0 x.2))
    dec

pub declares_longer : (o : Opening) (log more : List Place) (id e : ℕ) (u : Unit64) → Declares o log id u e → Declares o (log ++ more) id u e
declares_longer o log more id e u dec =
    ⊎_elim (λ (x : At o.list e (record { id = id; unit = u })). inl x)
    (λ (x : (n : ℕ) × (id ≡ o.base + n) × IsDecl log n u e). inr (x.0, x.1, at_longer log more x.0 _ x.2)) dec

-- an id that is declared is below the next one
pub declared_below : (o : Opening) (log : List Place) (id e : ℕ) (u : Unit64) → IsOpening o → Declares o log id u e → id < o.base + length log
declared_below o log id e u ok dec =
    ⊎_elim (λ (x : At o.list e (record { id = id; unit = u })). let h = carried_below o e id u ok x in omega arith)
    (λ (x : (n : ℕ) × (id ≡ o.base + n) × IsDecl log n u e). let h = at_inside log x.0 _ x.2 in let g = x.1 in omega arith) dec
