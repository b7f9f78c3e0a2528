-- Why a helper finds the declaration still in its entry: its withdrawal, if any, stands above the front on which the helper relies.
use Rattle.std.proofs.Common.{◌≡◌, ℕ, zero, suc, ◌+◌, ◌<◌, ◌≤◌, inr, ⊎_elim, List, [], ◌∷◌, take, length, All, slice_index_or, sym, refl, subst, arith}
use mathlib.Core.Option.{some-injective, some-ne-none}
use Rattle.iscc_header.specs.declared.unit.Unit64.{Unit64}
use Rattle.reg_model.specs.declared.update.Declared.{Declared}
use Rattle.reg_rule.specs.declared.view.Key.{Key}
use Rattle.reg_rule.specs.declared.view.Place.{Place}
use Rattle.reg_rule.specs.Log.{At, IsDecl, IsLiveIn}
use Rattle.reg_rule.specs.inner.World.{Use, holds}
use Rattle.reg_rule.specs.inner.LogParts.{LogPart}
use Rattle.reg_rule.specs.inner.Entries.{UsesPart}

pub at_take : {A : Type 0} (l : List A) (d n : ℕ) (x : A) → At (take d l) n x → n < d
at_take l zero n x e = absurd (some-ne-none x (sym e))
at_take [] (suc d) n x e = absurd (some-ne-none x (sym e))
at_take (y ∷ l) (suc d) zero x e = omega arith
at_take (y ∷ l) (suc d) (suc n) x e = let h = at_take l d n x e in omega arith

pub at_nth : {A : Type 0} (l : List A) (n : ℕ) (x d : A) → At l n x → (n < length l) × (slice_index_or l n d ≡ x)
at_nth [] n x d e = absurd (some-ne-none x (sym e))
at_nth (y ∷ l) zero x d e = (omega arith, some-injective y x e)
at_nth (y ∷ l) (suc n) x d e = let h = at_nth l n x d e in (omega arith, h.1)

pub there : {A : Type 0} (l : List A) (i : ℕ) → i < length l → (a : A) × At l i a
there [] i h = absurd (omega arith)
there (x ∷ xs) zero h = (x, refl)
there (x ∷ xs) (suc i) h = there xs i (omega arith)

pub all_at : {A : Type 0} (P : A → Type 0) (l : List A) (n : ℕ) (x : A) → All P l → At l n x → P x
all_at P l n x all e = let h = at_nth l n x x e in subst P h.1 (all n x h.0)

pub declared_first : (key : Key) (log : List Place) (n d entry : ℕ) (unit : Unit64) → All (λ (c : Declared). c.id < key.carried.base) key.carried.list
    → IsLiveIn key.carried (take d log) (key.carried.base + n) unit entry → n < d
declared_first key log n d entry unit below live =
    ⊎_elim (λ (c : At key.carried.list entry (record { id = key.carried.base + n; unit = unit })).
    let h : key.carried.base + n < key.carried.base = all_at (λ (c : Declared). c.id < key.carried.base) key.carried.list entry (record { id = key.carried.base + n; unit = unit }) below c in absurd (omega arith))
    (λ (t : (k : ℕ) × (key.carried.base + n ≡ key.carried.base + k) × IsDecl (take d log) k unit entry).
    let h = at_take log d t.0 _ t.2 in let e = t.1 in omega arith)
    live.declares

pub helped_is_held : (key : Key) (cells : ℕ → ℕ) (log : List Place) (begun returned : ℕ) (uses : ℕ → Use) (n entry : ℕ) (unit : Unit64)
    → All (λ (c : Declared). c.id < key.carried.base) key.carried.list → LogPart key cells log → UsesPart key log returned uses → returned ≤ begun → begun ≤ n + 1
    → IsDecl log n unit entry → uses entry ≡ holds (key.carried.base + n)
helped_is_held key cells log begun returned uses n entry unit below part use_part order front place =
    use_part.held (key.carried.base + n) entry unit (inr (n, refl, place))
    (λ d e wd. let live = part.lawful d (key.carried.base + n) e wd in let h = declared_first key log n d e live.0 below live.1 in omega arith)
