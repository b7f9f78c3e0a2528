-- Each front on which a seat relies is above all unlinking that has begun; and what a seat has helped is complete.
use Rattle.std.proofs.Common.{◌≡◌, ℕ, ◌+◌, ◌<◌, ◌≤◌, inl, ⊎_elim, List, [], ◌∷◌, length, true, Option, Some, None, refl, subst, tests, arith}
use Rattle.reg_model.specs.declared.reply.Row.{Row}
use Rattle.reg_words.specs.declared.word.StampWord.{StampWord}
use Rattle.reg_words.specs.declared.word.SweepWord.{SweepWord}
use Rattle.reg_rule.specs.declared.view.Key.{Key}
use Rattle.reg_rule.specs.declared.view.Place.{Place}
use Rattle.reg_rule.specs.declared.view.Account.{Account}
use Rattle.reg_rule.specs.declared.view.View.{View}
use Rattle.reg_rule.specs.Log.{At}
use Rattle.reg_rule.specs.inner.World.{Use}
use Rattle.reg_rule.specs.inner.SeatParts.{Owns}
use Rattle.reg_rule.specs.Seats.{IsOf, ReliesOn}
use Rattle.reg_rule.specs.inner.Sweeping.{FloorsPart}
use Rattle.reg_rule.specs.inner.PinParts.{FitsPin, AboveFloor}
use Rattle.reg_rule.specs.inner.HelpParts.{IsComplete, Helps}
use Rattle.reg_rule.specs.Helping.{HasHelped, MayHelp, helped_up_to}

pub first_account : (l : List Account) → 0 < length l → (a : Account) × At l 0 a
first_account [] h = absurd (omega arith)
first_account (a ∷ l) h = (a, refl)

-- the session of a pinned seat
pub session_of : (callers : ℕ) (accounts : ℕ → List Row) (owner : ℕ → ℕ × ℕ) (id : ℕ) (v : View) → Owns callers accounts owner id v → 0 < length v.accounts → (n : ℕ) × IsOf v n × (n < callers)
session_of callers accounts owner id v owns some_accounts = let a = first_account v.accounts some_accounts in (a.0.number, (a.0, a.1, refl), (owns 0 a.0 a.1).below)

pub front_above : (callers : ℕ) (accounts : ℕ → List Row) (owner : ℕ → ℕ × ℕ) (log : List Place) (word : SweepWord) (begun returned : ℕ) (floor freed : ℕ → ℕ) (id k : ℕ) (v : View)
    → Owns callers accounts owner id v → FitsPin id v → AboveFloor floor id v → FloorsPart callers log word begun returned floor freed → ReliesOn v k → begun ≤ k
front_above callers accounts owner log word begun returned floor freed id k v owns pin above floors relies =
    let f = pin.fronts k relies in let s = session_of callers accounts owner id v owns (pin.session f.0) in
    let g : begun ≤ floor s.0 = floors.scanned s.0 s.2 in let h : floor s.0 ≤ k = above s.0 k s.1 relies in omega arith

-- a helper's front is one above its place, or its place
pub helper_above : (callers : ℕ) (accounts : ℕ → List Row) (owner : ℕ → ℕ × ℕ) (log : List Place) (word : SweepWord) (begun returned : ℕ) (floor freed : ℕ → ℕ) (id n : ℕ) (v : View)
    → Owns callers accounts owner id v → FitsPin id v → AboveFloor floor id v → FloorsPart callers log word begun returned floor freed → MayHelp v n → begun ≤ n + 1
helper_above callers accounts owner log word begun returned floor freed id n v owns pin above floors helps =
    ⊎_elim (λ h. front_above callers accounts owner log word begun returned floor freed id (n + 1) v owns pin above floors (inl h))
    (λ (t : (v.front ≡ Some n) × (v.committed ≡ Some n)). let h = front_above callers accounts owner log word begun returned floor freed id n v owns pin above floors (inl t.0) in omega arith)
    helps.1

-- where a seat has seen the whole log and helped up to its end, the last place is complete
pub last_complete : (key : Key) (notes : ℕ → ℕ) (log : List Place) (uses : ℕ → Use) (stamps : ℕ → StampWord) (id : ℕ) (v : View)
    → Helps key notes log uses stamps id v → length v.log ≡ length log → HasHelped v (length log)
    → (n : ℕ) → n + 1 ≡ length log → IsComplete key.carried.base notes uses stamps log n
last_complete key notes log uses stamps id v helps all has n last = of_helped v.helped refl (subst (λ (k : ℕ). helped_up_to v.helped k ≡ true) refl has) where
  of_helped : (o : Option ℕ) → v.helped ≡ o → helped_up_to o (length log) ≡ true → IsComplete key.carried.base notes uses stamps log n
  of_helped None is h = let z : length log ≡ 0 = search (tests, h) in absurd (omega arith)
  of_helped (Some m) is h = let le : length log ≤ m + 1 = search (tests, h) in let g = helps.helped m is in let below = g.0 in
      let same : m ≡ n = omega arith in subst (λ (k : ℕ). IsComplete key.carried.base notes uses stamps log k) same g.1
