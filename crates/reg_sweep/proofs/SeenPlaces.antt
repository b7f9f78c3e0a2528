-- What is said of places that were seen.
use Rattle.std.proofs.Common.{◌≡◌, ◌≢◌, ℕ, zero, suc, ◌+◌, ◌<◌, inl, inr, ⊎_elim, List, [], ◌∷◌, ◌++◌, take, length, sym, ap, ◌∙◌, subst, arith}
use mathlib.Core.Logic.{dite}
use native.Mathlib.Decide.{ℕ_discrete}
use mathlib.Core.Option.{some-injective, some-ne-none}
use Rattle.iscc_header.specs.declared.unit.Unit64.{Unit64}
use Rattle.reg_model.specs.declared.update.Update.TheVariants.{Decl, Wd}
use Rattle.reg_rule.specs.declared.view.Key.{Key}
use Rattle.reg_rule.specs.declared.view.Place.{Place}
use Rattle.reg_rule.specs.Log.{At, IsDecl, IsWd, Declares, NoneWithdrawn}
use Rattle.reg_rule.specs.Steps.{SeenFits}

pub at_same : {A : Type 0} (l : List A) (n : ℕ) (x y : A) → At l n x → At l n y → x ≡ y
at_same l n x y a b = some-injective x y (sym a ∙ b)

pub at_inside : {A : Type 0} (l : List A) (n : ℕ) (x : A) → At l n x → n < length l
at_inside [] n x e = absurd (some-ne-none x (sym e))
at_inside (y ∷ l) zero x e = omega arith
at_inside (y ∷ l) (suc n) x e = let h = at_inside l n x e in omega arith

pub at_longer : {A : Type 0} (l m : List A) (n : ℕ) (x : A) → At l n x → At (l ++ m) n x
at_longer [] m n x e = absurd (some-ne-none x (sym e))
at_longer (y ∷ l) m zero x e = e
at_longer (y ∷ l) m (suc n) x e = at_longer l m n x e

at_taken : {A : Type 0} (l : List A) (d n : ℕ) (x : A) → At (take d l) n x → At l n x
at_taken l zero n x e = absurd (some-ne-none x (sym e))
at_taken [] (suc d) n x e = absurd (some-ne-none x (sym e))
at_taken (y ∷ l) (suc d) zero x e = e
at_taken (y ∷ l) (suc d) (suc n) x e = at_taken l d n x e

-- what is withdrawn was declared
pub wd_declares : (key : Key) (log : List Place) (d id entry : ℕ) → SeenFits key log → IsWd log d id entry → (unit : Unit64) × Declares key.carried log id unit entry
wd_declares key log d id entry seen wd = let live = seen.lawful d id entry wd in (
  live.0,
  ⊎_elim (λ (x : At key.carried.list entry (record { id = id; unit = live.0 })). inl x)
      (λ (x : (n : ℕ) × (id ≡ key.carried.base + n) × IsDecl (take d log) n live.0 entry). inr (x.0, x.1, at_taken log d x.0 _ x.2)) live.1.declares,
)

-- no place declares and withdraws
pub decl_wd : (log : List Place) (n : ℕ) (unit : Unit64) (entry id other : ℕ) → IsDecl log n unit entry → IsWd log n id other → ⊥
decl_wd log n unit entry id other decl wd = let same : Decl unit ≡ Wd id = ap (λ (p : Place). p.update) (at_same log n _ _ decl wd) in cc

-- a declaration more is passed
pub none_more : (log : List Place) (start place : ℕ) (unit : Unit64) (entry : ℕ) → IsDecl log place unit entry → NoneWithdrawn log start place → NoneWithdrawn log start (place + 1)
none_more log start place unit entry decl before d id e low high wd = dite (ℕ_discrete d place)
    (λ (same : d ≡ place). decl_wd log place unit entry id e decl (subst (λ (n : ℕ). IsWd log n id e) same wd))
    (λ (other : d ≢ place). before d id e low (omega arith) wd)

-- none is between
pub none_here : (log : List Place) (place : ℕ) → NoneWithdrawn log place place
none_here log place d id e low high wd = absurd (omega arith)
