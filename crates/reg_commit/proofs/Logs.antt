-- What the places that a pass has seen say of an id: by whom it was declared, and that it is not yet withdrawn.
use Rattle.std.proofs.Common.{◌≡◌, ℕ, zero, suc, ◌+◌, ◌<◌, ◌≤◌, inl, inr, ⊎_elim, List, [], ◌∷◌, take, length, slice_index_or, sym, ◌∙◌, subst, arith}
use mathlib.Core.Option.{some-injective, some-ne-none}
use Rattle.iscc_header.specs.declared.unit.Unit64.{Unit64}
use Rattle.reg_model.specs.Opening.{Opening, IsOpening}
use Rattle.reg_model.specs.declared.update.Declared.{Declared}
use Rattle.reg_rule.specs.declared.view.Key.{Key}
use Rattle.reg_rule.specs.declared.view.Place.{Place}
use Rattle.reg_rule.specs.Log.{At, IsDecl, IsWd, Declares}
use Rattle.reg_rule.specs.Steps.{SeenFits}

-- ---- elements at a place

pub at_same : {A : Type 0} (l : List A) (n : ℕ) (x y : A) → At l n x → At l n y → x ≡ y
at_same l n x y a b = some-injective x y (sym a ∙ b)

pub at_inside : {A : Type 0} (l : List A) (n : ℕ) (x : A) → At l n x → n < length l
at_inside [] n x e = absurd (some-ne-none x (sym e))
at_inside (y ∷ l) zero x e = omega arith
at_inside (y ∷ l) (suc n) x e = let h = at_inside l n x e in omega arith

pub at_nth : {A : Type 0} (l : List A) (n : ℕ) (x d : A) → At l n x → slice_index_or l n d ≡ x
at_nth [] n x d e = absurd (some-ne-none x (sym e))
at_nth (y ∷ l) zero x d e = some-injective y x e
at_nth (y ∷ l) (suc n) x d e = at_nth l n x d e

take_at : {A : Type 0} (l : List A) (d n : ℕ) (x : A) → At (take d l) n x → (n < d) × At l n x
take_at l zero n x e = absurd (some-ne-none x (sym e))
take_at [] (suc d) n x e = absurd (some-ne-none x (sym e))
take_at (y ∷ l) (suc d) zero x e = (omega arith, e)
take_at (y ∷ l) (suc d) (suc n) x e = let h = take_at l d n x e in (omega arith, h.1)

-- ---- ids

pub carried_below : (o : Opening) (n id : ℕ) (unit : Unit64) → IsOpening o → At o.list n (record { id = id; unit = unit }) → id < o.base
carried_below o n id unit ok a =
    let d : Declared = record { id = id; unit = unit } in let is = at_nth o.list n d d a in
    subst (λ (c : Declared). c.id < o.base) is (ok.below n d (at_inside o.list n d a))

-- an id below the base is carried, and any other one is that of a place
pub declares_carried : (o : Opening) (log : List Place) (id entry : ℕ) (unit : Unit64) → id < o.base → Declares o log id unit entry → At o.list entry (record { id = id; unit = unit })
declares_carried o log id entry unit low dec = ⊎_elim (λ (x : At o.list entry (record { id = id; unit = unit })). x) (λ (x : (n : ℕ) × (id ≡ o.base + n) × IsDecl log n unit entry). let e = x.1 in absurd (omega arith)) dec

pub declares_placed : (o : Opening) (log : List Place) (id entry : ℕ) (unit : Unit64) → IsOpening o → o.base ≤ id → Declares o log id unit entry → (n : ℕ) × (id ≡ o.base + n) × IsDecl log n unit entry
declares_placed o log id entry unit ok high dec = ⊎_elim (λ (x : At o.list entry (record { id = id; unit = unit })). let h = carried_below o entry id unit ok x in absurd (omega arith)) (λ (x : (n : ℕ) × (id ≡ o.base + n) × IsDecl log n unit entry). x) dec

-- what is withdrawn was declared
pub wd_declares : (key : Key) (log : List Place) (d id entry : ℕ) → SeenFits key log → IsWd log d id entry → (unit : Unit64) × Declares key.carried log id unit entry
wd_declares key log d id entry seen wd = let live = seen.lawful d id entry wd in (
  live.0,
  ⊎_elim (λ (x : At key.carried.list entry (record { id = id; unit = live.0 })). inl x)
      (λ (x : (n : ℕ) × (id ≡ key.carried.base + n) × IsDecl (take d log) n live.0 entry). inr (x.0, x.1, (take_at log d x.0 _ x.2).1)) live.1.declares,
)

-- below that place
pub wd_later : (key : Key) (log : List Place) (n d entry : ℕ) → IsOpening key.carried → SeenFits key log → IsWd log d (key.carried.base + n) entry → n < d
wd_later key log n d entry ok seen wd = let live = seen.lawful d (key.carried.base + n) entry wd in
    ⊎_elim (λ (x : At key.carried.list entry (record { id = key.carried.base + n; unit = live.0 })). let h = carried_below key.carried entry (key.carried.base + n) live.0 ok x in absurd (omega arith))
    (λ (x : (m : ℕ) × (key.carried.base + n ≡ key.carried.base + m) × IsDecl (take d log) m live.0 entry). let h = (take_at log d x.0 _ x.2).0 in let g = x.1 in omega arith) live.1.declares

-- so what the last place declares is withdrawn nowhere
pub last_kept : (key : Key) (log : List Place) (n k : ℕ) → IsOpening key.carried → SeenFits key log → length log ≡ n + 1 → (d entry : ℕ) → IsWd log d (key.carried.base + n) entry → k ≤ d
last_kept key log n k ok seen last d entry wd = let later = wd_later key log n d entry ok seen wd in let inside = at_inside log d _ wd in absurd (omega arith)
