-- What two values of one variant have in them is the same where they are, and values of two variants never are.
use Rattle.std.proofs.Common.{◌≡◌, ℕ, true, Option, None, Some, is_some, refl}
use Rattle.reg_rule.specs.inner.World.{free, in_hand, holds}

pub some_same : {A : Type 0} (a b : A) → Some a ≡ Some b → a ≡ b
some_same a b e = cc

pub none_some : {A : Type 0} (a : A) → None ≡ Some a → ⊥
none_some a e = cc

pub some_of : {A : Type 0} (x : Option A) → is_some x ≡ true → (a : A) × (x ≡ Some a)
some_of None e = absurd (cc)
some_of (Some a) e = (a, refl)

-- ---- where an entry is

pub free_same : (j k : ℕ) → free j ≡ free k → j ≡ k
free_same j k e = cc

pub holds_same : (id other : ℕ) → holds id ≡ holds other → id ≡ other
holds_same id other e = cc

pub hand_seat : (seat i other j : ℕ) → in_hand seat i ≡ in_hand other j → seat ≡ other
hand_seat seat i other j e = cc

pub hand_place : (seat i other j : ℕ) → in_hand seat i ≡ in_hand other j → i ≡ j
hand_place seat i other j e = cc

pub free_hand : (j seat i : ℕ) → free j ≡ in_hand seat i → ⊥
free_hand j seat i e = cc

pub not_free : (j id : ℕ) → free j ≡ holds id → ⊥
not_free j id e = cc

pub not_in_hand : (seat i id : ℕ) → in_hand seat i ≡ holds id → ⊥
not_in_hand seat i id e = cc
