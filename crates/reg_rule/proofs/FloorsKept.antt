-- Floors, and the fronts above them, after a place more (kind 2), the two scans (kind 18) and a cut (kinds 20 and 21).
use Rattle.std.proofs.Common.{◌≡◌, ℕ, ◌+◌, ◌<◌, ◌≤◌, ◌⊎◌, max, ⊎_elim, List, [], ◌∷◌, ◌++◌, length, Bool, true, false, true≢false, Option, Some, None, sym, refl, ap, ◌∙◌, tests, arith}
use mathlib.Core.Option.{some-injective}
use Rattle.reg_model.specs.declared.reply.Row.{Row}
use Rattle.reg_words.specs.declared.word.SweepWord.{SweepWord}
use Rattle.reg_words.specs.Memory.{set_at}
use Rattle.reg_rule.specs.declared.view.Key.{Key}
use Rattle.reg_rule.specs.declared.view.Place.{Place}
use Rattle.reg_rule.specs.declared.view.Account.{Account}
use Rattle.reg_rule.specs.declared.view.View.{View}
use Rattle.reg_rule.specs.Seats.{IsOf, IsFirst}
use Rattle.reg_rule.specs.inner.Sweeping.{FloorsPart}
use Rattle.reg_rule.specs.inner.PinParts.{FitsPin, Pinned, AboveFloor}
use Rattle.reg_rule.specs.inner.HolderParts.{CutsFit, ScansFit}
use Rattle.reg_rule.specs.Moves.{grown, is_free}
use Rattle.reg_rule.proofs.StampsKept.{at_set}

-- ---- a row more leaves the session as it was

pub grown_first : (accounts : List Account) (row : Option Row) (n : ℕ) → IsFirst (grown accounts row) n → IsFirst accounts n
grown_first accounts None n h = h
grown_first [] (Some row) n h = h
grown_first (a ∷ others) (Some row) n h = (a, refl, h.2 ∙ ap (λ (b : Account). b.number) (sym (some-injective _ _ h.1)))

-- kind 18, the first scan, of each seat
pub above_scanned : (pins floor : ℕ → ℕ) (id seat place : ℕ) (v : View) → Pinned pins id v → FitsPin id v → is_free (pins seat) place ≡ true → AboveFloor floor id v
    → AboveFloor (set_at floor seat (max (floor seat) (place + 1))) id v
above_scanned pins floor id seat place v pin fits free above n k of_v on_v =
    at_set floor seat (max (floor seat) (place + 1)) (λ j f. IsOf v j → f ≤ k)
    (λ mine. let own = ap pins mine.2 ∙ pin 0 mine.0 mine.1 in let f = fits.fronts k on_v in let low : floor seat ≤ k = above seat k mine on_v in
    let let_go : (pins seat ≡ 0) ⊎ (place + 1 < pins seat) = free_of (pins seat) place free in
    ⊎_elim (λ z. let h = f.0 in absurd (omega arith)) (λ z. let h = f.1 in omega arith) let_go)
    (λ j apart mine. above j k mine on_v)
    n of_v where
      free_of : (pin place : ℕ) → is_free pin place ≡ true → (pin ≡ 0) ⊎ (place + 1 < pin)
      free_of pin place h = grind (arith, tests, h)

-- ---- the floors themselves

-- kind 2
pub floors_longer : (callers : ℕ) (log : List Place) (p : Place) (word : SweepWord) (begun returned : ℕ) (floor freed : ℕ → ℕ) → length log ≤ length (log ++ p ∷ [])
    → FloorsPart callers log word begun returned floor freed → FloorsPart callers (log ++ p ∷ []) word begun returned floor freed
floors_longer callers log p word begun returned floor freed more part = record {
  scanned = part.scanned;
  ahead = λ n h. let a : floor n ≤ length log = part.ahead n h in omega arith;
  searched = part.searched;
  unscanned = part.unscanned;
}

-- kind 18, the first scan
pub floors_scanned : (callers : ℕ) (log : List Place) (word : SweepWord) (begun returned : ℕ) (floor freed : ℕ → ℕ) (seat place : ℕ) → place < length log
    → FloorsPart callers log word begun returned floor freed → FloorsPart callers log word begun returned (set_at floor seat (max (floor seat) (place + 1))) freed
floors_scanned callers log word begun returned floor freed seat place inside part = record {
  scanned = at_set floor seat (max (floor seat) (place + 1)) (λ j f. j < callers → begun ≤ f) (λ h. let a : begun ≤ floor seat = part.scanned seat h in omega arith) (λ j apart h. part.scanned j h);
  ahead = at_set floor seat (max (floor seat) (place + 1)) (λ j f. j < callers → f ≤ length log) (λ h. let a : floor seat ≤ length log = part.ahead seat h in omega arith) (λ j apart h. part.ahead j h);
  searched = part.searched;
  unscanned = part.unscanned;
}

-- kind 18, the second scan
pub floors_searched : (callers : ℕ) (log : List Place) (word : SweepWord) (begun returned : ℕ) (floor freed : ℕ → ℕ) (seat : ℕ) → word.limbo ≡ true
    → FloorsPart callers log word begun returned floor freed → FloorsPart callers log word begun returned floor (set_at freed seat begun)
floors_searched callers log word begun returned floor freed seat limbo part = record {
  scanned = part.scanned;
  ahead = part.ahead;
  searched = at_set freed seat begun (λ j f. j < callers → f ≤ begun) (λ h. let a : begun ≤ begun = omega arith in a) (λ j apart h. part.searched j h);
  unscanned = λ n h not_limbo open_work. absurd (true≢false (sym limbo ∙ not_limbo));
}

-- kinds 20 and 21: each session was found free of the place
pub floors_cut : (key : Key) (log : List Place) (word : SweepWord) (begun returned : ℕ) (floor freed : ℕ → ℕ) (mark marked : Option ℕ) (stamped : Bool) (place clear searched seen : ℕ) (tables : List ℕ)
    → word.limbo ≡ false → returned ≤ place → clear ≡ key.sizes.callers
    → ScansFit floor freed place clear searched → CutsFit begun returned seen mark word.limbo stamped place tables marked
    → FloorsPart key.sizes.callers log word begun returned floor freed → FloorsPart key.sizes.callers log word (place + 1) returned floor freed
floors_cut key log word begun returned floor freed mark marked stamped place clear searched seen tables still low all scans cuts part = record {
  scanned = λ n h. let a : place < floor n = scans.clear_of n (omega arith) in omega arith;
  ahead = part.ahead;
  searched = λ n h. let a : freed n ≤ begun = part.searched n h in
      let b = begun_low in omega arith;
  unscanned = λ n h not_limbo work. let a : freed n ≤ begun = part.searched n h in of_tables tables refl n h a;
} where
  begun_low : begun ≤ place + 1
  begun_low = by_tables tables refl where
    by_tables : (l : List ℕ) → tables ≡ l → begun ≤ place + 1
    by_tables [] is = let e = cuts.uncut still is in omega arith
    by_tables (t ∷ l) is = let e = cuts.cut still (λ none. nothing (sym none ∙ is)) in let f = e.0 in omega arith where
      nothing : [] ≡ t ∷ l → ⊥
      nothing z = cc

  of_tables : (l : List ℕ) → tables ≡ l → (n : ℕ) → n < key.sizes.callers → freed n ≤ begun → freed n < place + 1
  of_tables [] is n h a = let e = cuts.uncut still is in omega arith
  of_tables (t ∷ l) is n h a = let e = cuts.cut still (λ none. nothing (sym none ∙ is)) in let f = e.0 in let g = e.1 in
      let b : freed n < begun = part.unscanned n h still (omega arith) in omega arith where
        nothing : [] ≡ t ∷ l → ⊥
        nothing z = cc
