-- The stamps say what their entries are to say, after each step that changes a stamp, an entry or the log.
use Rattle.std.proofs.Common.{◌≡◌, ℕ, ◌+◌, ◌<◌, inr, ⊎_elim, List, [], ◌∷◌, ◌++◌, length, cond, Bool, sym, refl, ap, ◌∙◌, subst, eq-eqb, ne_eqb, arith}
use mathlib.Core.Logic.{dite}
use native.Mathlib.Decide.{ℕ_discrete}
use Rattle.iscc_header.specs.declared.unit.Unit64.{Unit64}
use Rattle.reg_model.specs.Opening.{Opening, IsOpening}
use Rattle.reg_model.specs.declared.update.Update.TheVariants.{Decl, Wd}
use Rattle.reg_words.specs.declared.word.StampWord.{StampWord}
use Rattle.reg_words.specs.declared.word.StampWord.TheVariants.{Unborn, Live, Dead}
use Rattle.reg_words.specs.Memory.{set_at}
use Rattle.reg_rule.specs.declared.view.Key.{Key}
use Rattle.reg_rule.specs.declared.view.Place.{Place}
use Rattle.reg_rule.specs.Log.{At, place_of, IsDecl, IsWd, Declares}
use Rattle.reg_rule.specs.inner.World.{Use, free, in_hand, holds}
use Rattle.reg_rule.specs.inner.Entries.{StampFits, IsKindOf}
use Rattle.reg_rule.specs.inner.HelpParts.{IsComplete}
use Rattle.atomic_table.proofs.Lists.{at_longer}
use Rattle.reg_rule.proofs.Shows.{at_inside}
use Rattle.reg_rule.proofs.Once.{IsLawfulLog, declares_once, declared_below, wd_entry, wd_later, at_one_more, length_one_more, declares_one_more, carried_below}

-- ---- kind 2

kind_longer : (o : Opening) (log : List Place) (p : Place) (id entry kind : ℕ) → IsOpening o → ((unit : Unit64) × Declares o log id unit entry) → IsKindOf o log id entry kind → IsKindOf o (log ++ p ∷ []) id entry kind
kind_longer o log p id entry kind ok here fits unit dec =
    ⊎_elim (λ (old : Declares o log id unit entry). fits unit old)
    (λ t. let h = declared_below o log id entry here.0 ok here.1 in let g = t.0 in absurd (omega arith))
    (declares_one_more o log p id entry unit dec)

-- the last place is complete, so no stamp lags behind
pub fits_longer : (o : Opening) (log : List Place) (p : Place) (returned entry : ℕ) (use_of : Use) (s : StampWord)
    → IsOpening o → IsLawfulLog o log
    → ((id : ℕ) → use_of ≡ holds id → (unit : Unit64) × Declares o log id unit entry)
    → ((n : ℕ) (unit : Unit64) → n + 1 ≡ length log → IsDecl log n unit entry → use_of ≡ holds (o.base + n) → s ≡ Unborn → ⊥)
    → ((n id kind : ℕ) → n + 1 ≡ length log → IsWd log n id entry → use_of ≡ holds id → s ≡ Live kind id → ⊥)
    → StampFits o log returned entry use_of s → StampFits o (log ++ p ∷ []) returned entry use_of s
fits_longer o log p returned entry (holds id) Unborn ok law here born dead fits = let mine = here id refl in absurd
    (⊎_elim (λ (c : At o.list entry (record { id = id; unit = mine.0 })). let h = carried_below o entry id mine.0 ok c in let g = fits.1 in let z : ⊥ = omega arith in z)
    (λ (t : (n : ℕ) × (id ≡ o.base + n) × IsDecl log n mine.0 entry).
    let e = t.1 in let f = fits.1 in let g = fits.2 in let at : t.0 + 1 ≡ length log = omega arith in
    born t.0 mine.0 at t.2 (ap holds t.1) refl)
    mine.1)
fits_longer o log p returned entry (holds id) (Live kind other) ok law here born dead fits = let mine = here id refl in (
  fits.0,
  kind_longer o log p id entry kind ok mine fits.1,
  λ d e wd. ⊎_elim
      (λ (old : IsWd log d id e). let at : d + 1 ≡ length log = fits.2 d e old in
      let same : e ≡ entry = wd_entry o log d id e entry mine.0 ok law old mine.1 in
      absurd (dead d id kind at (subst (λ (k : ℕ). IsWd log d id k) same old) refl (ap (Live kind) fits.0)))
      (λ t. let g = t.0 in let h = length_one_more log p in omega arith)
      (at_one_more log p _ d wd),
)
fits_longer o log p returned entry (holds id) (Dead kind other d) ok law here born dead fits = (fits.0, kind_longer o log p id entry kind ok (here id refl) fits.1, at_longer log (p ∷ []) d _ fits.2)
fits_longer o log p returned entry (free j) Unborn ok law here born dead fits = tt
fits_longer o log p returned entry (free j) (Live kind id) ok law here born dead fits = fits
fits_longer o log p returned entry (free j) (Dead kind id d) ok law here born dead fits = (at_longer log (p ∷ []) d _ fits.0, fits.1)
fits_longer o log p returned entry (in_hand seat i) Unborn ok law here born dead fits = tt
fits_longer o log p returned entry (in_hand seat i) (Live kind id) ok law here born dead fits = fits
fits_longer o log p returned entry (in_hand seat i) (Dead kind id d) ok law here born dead fits = (at_longer log (p ∷ []) d _ fits.0, fits.1)

-- ---- a function that is changed at one place

pub set_here : {A : Type 0} (f : ℕ → A) (k : ℕ) (x : A) → set_at f k x k ≡ x
set_here {A} f k x = ap (λ (b : Bool). cond {A = A} b x (f k)) (eq-eqb k k refl)

pub set_away : {A : Type 0} (f : ℕ → A) (k j : ℕ) (x : A) → (j ≡ k → ⊥) → set_at f k x j ≡ f j
set_away {A} f k j x apart = ap (λ (b : Bool). cond {A = A} b x (f j)) (ne_eqb j k apart)

-- by cases on the place
pub at_set : {A : Type 0} (f : ℕ → A) (k : ℕ) (x : A) (P : ℕ → A → Type 0) → P k x → ((j : ℕ) → (j ≡ k → ⊥) → P j (f j)) → (j : ℕ) → P j (set_at f k x j)
at_set {A} f k x P here away j = dite (ℕ_discrete j k)
    (λ same. subst (λ (i : ℕ). P i (set_at f k x i)) (sym same) (subst (λ (y : A). P k y) (sym (set_here f k x)) here))
    (λ apart. subst (λ (y : A). P j y) (sym (set_away f k j x apart)) (away j apart))

module _ (key : Key) (log : List Place) (returned : ℕ) (uses : ℕ → Use) (stamps : ℕ → StampWord) (ok : IsOpening key.carried) (law : IsLawfulLog key.carried log)
    (fits : (entry : ℕ) → entry < key.entries → StampFits key.carried log returned entry (uses entry) (stamps entry)) where
  -- an exchange of the log
  grows : (notes : ℕ → ℕ) (p : Place)
      → ((id entry : ℕ) → entry < key.entries → uses entry ≡ holds id → (unit : Unit64) × Declares key.carried log id unit entry)
      → ((n : ℕ) → n + 1 ≡ length log → IsComplete key.carried.base notes uses stamps log n)
      → (entry : ℕ) → entry < key.entries → StampFits key.carried (log ++ p ∷ []) returned entry (uses entry) (stamps entry)
  grows notes p holding complete entry inside =
      fits_longer key.carried log p returned entry (uses entry) (stamps entry) ok law
      (λ id is. holding id entry inside is)
      (λ n unit last here is unborn. (complete n last).born unit entry here is unborn)
      (λ n id kind last here is live. (complete n last).dead id entry kind here is live)
      (fits entry inside)

  -- kind 2, of a withdrawal
  pub fits_withdrawn : (notes : ℕ → ℕ) (id : ℕ) (e : ℕ)
      → ((id entry : ℕ) → entry < key.entries → uses entry ≡ holds id → (unit : Unit64) × Declares key.carried log id unit entry)
      → ((n : ℕ) → n + 1 ≡ length log → IsComplete key.carried.base notes uses stamps log n)
      → (entry : ℕ) → entry < key.entries → StampFits key.carried (log ++ place_of (Wd id) e ∷ []) returned entry (uses entry) (stamps entry)
  fits_withdrawn notes id e holding complete = grows notes (place_of (Wd id) e) holding complete

  -- kind 2, of a declaration
  pub fits_declared : (notes : ℕ → ℕ) (unit : Unit64) (e : ℕ)
      → ((id entry : ℕ) → entry < key.entries → uses entry ≡ holds id → (unit : Unit64) × Declares key.carried log id unit entry)
      → ((n : ℕ) → n + 1 ≡ length log → IsComplete key.carried.base notes uses stamps log n)
      → stamps e ≡ Unborn
      → (entry : ℕ) → entry < key.entries → StampFits key.carried (log ++ place_of (Decl unit) e ∷ []) returned entry (set_at uses e (holds (key.carried.base + length log)) entry) (stamps entry)
  fits_declared notes unit e holding complete unborn entry =
      let longer : List Place = log ++ place_of (Decl unit) e ∷ [] in
      at_set uses e (holds (key.carried.base + length log)) (λ j u. j < key.entries → StampFits key.carried longer returned j u (stamps j))
      (λ inside. subst (λ (s : StampWord). StampFits key.carried longer returned e (holds (key.carried.base + length log)) s) (sym unborn) (length log, refl, sym (length_one_more log _)))
      (λ j apart inside. grows notes (place_of (Decl unit) e) holding complete j inside)
      entry

  -- kind 5, won: the entry was unborn, and holds the declaration of the place that is helped
  pub fits_born : (unit : Unit64) (n e : ℕ) → IsDecl log n unit e → e < key.entries → uses e ≡ holds (key.carried.base + n) → stamps e ≡ Unborn
      → (entry : ℕ) → entry < key.entries → StampFits key.carried log returned entry (uses entry) (set_at stamps e (Live unit.kind (key.carried.base + n)) entry)
  fits_born unit n e place room is unborn entry =
      let id : ℕ = key.carried.base + n in
      at_set stamps e (Live unit.kind id) (λ j s. j < key.entries → StampFits key.carried log returned j (uses j) s)
      (λ inside. subst (λ (u : Use). StampFits key.carried log returned e u (Live unit.kind id)) (sym is) (
        refl,
        (λ other dec. ap (λ (u : Unit64). u.kind) (declares_once key.carried log id e e unit other ok (inr (n, refl, place)) dec).0),
        (λ d f wd. let old : StampFits key.carried log returned e (holds id) Unborn = subst (λ (u : Use). StampFits key.carried log returned e u Unborn) is (subst (λ (s : StampWord). StampFits key.carried log returned e (uses e) s) unborn (fits e room)) in
            let g = old.1 in let h = old.2 in let later = wd_later key.carried log n d f ok law wd in let below = at_inside log d _ wd in absurd (omega arith)),
      ))
      (λ j apart inside. fits j inside)
      entry

  -- a live stamp says that its entry holds the id
  pub live_holds : (e kind id : ℕ) → e < key.entries → stamps e ≡ Live kind id → (uses e ≡ holds id) × IsKindOf key.carried log id e kind × ((d f : ℕ) → IsWd log d id f → d + 1 ≡ length log)
  live_holds e kind id inside is = of_live (uses e) refl (subst (λ (s : StampWord). StampFits key.carried log returned e (uses e) s) is (fits e inside)) where
    of_live : (u : Use) → uses e ≡ u → StampFits key.carried log returned e u (Live kind id) → (uses e ≡ holds id) × IsKindOf key.carried log id e kind × ((d f : ℕ) → IsWd log d id f → d + 1 ≡ length log)
    of_live (holds other) same h = (same ∙ ap holds (sym h.0), subst (λ (i : ℕ). IsKindOf key.carried log i e kind) (sym h.0) h.1, subst (λ (i : ℕ). (d f : ℕ) → IsWd log d i f → d + 1 ≡ length log) (sym h.0) h.2)
    of_live (free j) same h = absurd h
    of_live (in_hand seat i) same h = absurd h

  -- kind 6, won: the entry was live, so it holds the declaration
  pub fits_died : (kind id n e : ℕ) → IsWd log n id e → e < key.entries → stamps e ≡ Live kind id
      → (entry : ℕ) → entry < key.entries → StampFits key.carried log returned entry (uses entry) (set_at stamps e (Dead kind id n) entry)
  fits_died kind id n e place room live entry =
      let held = live_holds e kind id room live in
      at_set stamps e (Dead kind id n) (λ j s. j < key.entries → StampFits key.carried log returned j (uses j) s)
      (λ inside. subst (λ (u : Use). StampFits key.carried log returned e u (Dead kind id n)) (sym held.0) (refl, held.1, place))
      (λ j apart inside. fits j inside)
      entry

  -- kind 8: the stamp of an entry in a hand is cleared
  pub fits_cleared : (e seat i : ℕ) → uses e ≡ in_hand seat i
      → (entry : ℕ) → entry < key.entries → StampFits key.carried log returned entry (uses entry) (set_at stamps e Unborn entry)
  fits_cleared e seat i is entry =
      at_set stamps e Unborn (λ j s. j < key.entries → StampFits key.carried log returned j (uses j) s)
      (λ inside. subst (λ (u : Use). StampFits key.carried log returned e u Unborn) (sym is) tt)
      (λ j apart inside. fits j inside)
      entry

  -- kind 12: an entry leaves the ring
  pub fits_taken : (e j seat i : ℕ) → uses e ≡ free j
      → (entry : ℕ) → entry < key.entries → StampFits key.carried log returned entry (set_at uses e (in_hand seat i) entry) (stamps entry)
  fits_taken e j seat i is entry =
      at_set uses e (in_hand seat i) (λ k u. k < key.entries → StampFits key.carried log returned k u (stamps k))
      (λ inside. moved (stamps e) (subst (λ (u : Use). StampFits key.carried log returned e u (stamps e)) is (fits e inside)))
      (λ k apart inside. fits k inside)
      entry where
        moved : (s : StampWord) → StampFits key.carried log returned e (free j) s → StampFits key.carried log returned e (in_hand seat i) s
        moved Unborn h = h
        moved (Live kind id) h = h
        moved (Dead kind id d) h = h
