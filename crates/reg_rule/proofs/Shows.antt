-- What a stamp shows at a front on which a seat relies, once the places below it are complete.
use Rattle.std.proofs.Common.{◌≡◌, ℕ, zero, suc, ◌+◌, ◌<◌, ◌≤◌, inl, inr, ⊎_elim, List, [], ◌∷◌, take, length, All, sym, refl, ap, ◌∙◌, subst, arith}
use Rattle.std.proofs.Math.Decide.{dec_le}
use Rattle.std.proofs.Math.Nat.{lt_of_not-le}
use mathlib.Core.Logic.{dite}
use mathlib.Core.Option.{some-ne-none}
use Rattle.iscc_header.specs.declared.unit.Unit64.{Unit64}
use Rattle.reg_model.specs.declared.update.Declared.{Declared}
use Rattle.reg_model.specs.Opening.{Opening}
use Rattle.reg_words.specs.declared.word.StampWord.{StampWord}
use Rattle.reg_words.specs.declared.word.StampWord.TheVariants.{Unborn, Live, Dead}
use Rattle.reg_rule.specs.declared.view.Key.{Key}
use Rattle.reg_rule.specs.declared.view.Place.{Place}
use Rattle.reg_rule.specs.Log.{At, IsDecl, IsKeptUpTo, Declares, IsLiveIn}
use Rattle.reg_rule.specs.inner.World.{Use, holds}
use Rattle.reg_rule.specs.inner.Entries.{UsesPart, StampFits}
use Rattle.reg_rule.specs.Steps.{LooksLive}
use Rattle.reg_rule.proofs.Held.{at_take, all_at}

pub take_at : {A : Type 0} (l : List A) (d n : ℕ) (x : A) → At (take d l) n x → At l n x
take_at l zero n x e = absurd (some-ne-none x (sym e))
take_at [] (suc d) n x e = e
take_at (y ∷ l) (suc d) zero x e = e
take_at (y ∷ l) (suc d) (suc n) x e = take_at l d n x e

pub at_below : {A : Type 0} (l : List A) (d n : ℕ) (x : A) → n < d → At l n x → At (take d l) n x
at_below l zero n x h e = absurd (omega arith)
at_below [] (suc d) n x h e = e
at_below (y ∷ l) (suc d) zero x h e = e
at_below (y ∷ l) (suc d) (suc n) x h e = at_below l d n x (omega arith) e

pub at_inside : {A : Type 0} (l : List A) (n : ℕ) (x : A) → At l n x → n < length l
at_inside [] n x e = absurd (some-ne-none x (sym e))
at_inside (y ∷ l) zero x e = omega arith
at_inside (y ∷ l) (suc n) x e = let h = at_inside l n x e in omega arith

pub declares_more : (o : Opening) (log : List Place) (k id entry : ℕ) (unit : Unit64) → Declares o (take k log) id unit entry → Declares o log id unit entry
declares_more o log k id entry unit h = ⊎_elim (λ (c : At o.list entry (record { id = id; unit = unit })). inl c)
    (λ (t : (n : ℕ) × (id ≡ o.base + n) × IsDecl (take k log) n unit entry). inr (t.0, t.1, take_at log k t.0 _ t.2)) h

pub length_take : {A : Type 0} (l : List A) (k : ℕ) → k ≤ length l → length (take k l) ≡ k
length_take l zero h = refl
length_take [] (suc k) h = absurd (omega arith)
length_take (y ∷ l) (suc k) h = ap suc (length_take l k (omega arith))

-- what is live at the front is kept up to it
pub live_kept : (o : Opening) (log : List Place) (k id entry : ℕ) (unit : Unit64) → k ≤ length log → IsLiveIn o (take k log) id unit entry → IsKeptUpTo log k id
live_kept o log k id entry unit inside live d e wd = let len = length_take log k inside in
    dite (dec_le k d)
    (λ h. h)
    (λ apart. let h : d < k = lt_of_not-le apart in
    let p = live.kept d e (at_below log k d _ h wd) in let l = at_inside (take k log) d _ (at_below log k d _ h wd) in absurd (omega arith))

live_case : (o : Opening) (log : List Place) (returned k entry id : ℕ) (unit : Unit64) (s : StampWord) → StampFits o log returned entry (holds id) s → (s ≡ Unborn → ⊥)
    → Declares o log id unit entry → IsKeptUpTo log k id → LooksLive k s id unit.kind
live_case o log returned k entry id unit Unborn fits born declares kept = absurd (born refl)
live_case o log returned k entry id unit (Live kind other) fits born declares kept = (fits.0, fits.1 unit declares)
live_case o log returned k entry id unit (Dead kind other d) fits born declares kept = (fits.0, fits.1 unit declares, kept d entry fits.2)

-- an unborn stamp of an entry that holds the id says that the id is at the last place
unborn_last : (o : Opening) (log : List Place) (returned entry id : ℕ) (s : StampWord) → s ≡ Unborn → StampFits o log returned entry (holds id) s → (n : ℕ) × (id ≡ o.base + n) × (n + 1 ≡ length log)
unborn_last o log returned entry id s is fits = subst (λ (z : StampWord). StampFits o log returned entry (holds id) z) is fits

-- Each declaration that is live at the front in this entry looks live: its withdrawal stands at the front or later, so it was not given back.
pub looks_live : (key : Key) (cells : ℕ → ℕ) (log : List Place) (returned k entry id : ℕ) (unit : Unit64) (uses : ℕ → Use) (s : StampWord)
    → All (λ (c : Declared). c.id < key.carried.base) key.carried.list → UsesPart key log returned uses → returned ≤ k → k ≤ length log
    → StampFits key.carried log returned entry (uses entry) s
    → ((n : ℕ) → n + 1 ≡ k → uses entry ≡ holds (key.carried.base + n) → s ≡ Unborn → ⊥)
    → IsLiveIn key.carried (take k log) id unit entry → LooksLive k s id unit.kind
looks_live key cells log returned k entry id unit uses s below part order inside fits born live =
    let declares = declares_more key.carried log k id entry unit live.declares in
    let kept = live_kept key.carried log k id entry unit inside live in
    let held : uses entry ≡ holds id = part.held id entry unit declares (λ d e wd. let h = kept d e wd in omega arith) in
    let here : StampFits key.carried log returned entry (holds id) s = subst (λ (u : Use). StampFits key.carried log returned entry u s) held fits in
    live_case key.carried log returned k entry id unit s here
    (λ is. let last = unborn_last key.carried log returned entry id s is here in
    ⊎_elim
    (λ (c : At key.carried.list entry (record { id = id; unit = unit })). let h : id < key.carried.base = all_at (λ (x : Declared). x.id < key.carried.base) key.carried.list entry (record { id = id; unit = unit }) below c in let e = last.1 in absurd (omega arith))
    (λ (t : (m : ℕ) × (id ≡ key.carried.base + m) × IsDecl (take k log) m unit entry).
    let h = at_take log k t.0 _ t.2 in let e = t.1 in let f = last.1 in let g = last.2 in
    let there : last.0 + 1 ≡ k = omega arith in
    born last.0 there (held ∙ ap holds f) is)
    live.declares)
    declares kept
