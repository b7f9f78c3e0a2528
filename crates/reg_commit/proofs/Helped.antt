-- What completes a record: its note, its birth, and the kind of what it withdraws.
use Rattle.std.proofs.Common.{◌≡◌, ℕ, ◌+◌, ◌<◌, ◌≤◌, ◌⊎◌, inl, inr, ⊎_elim, Bool, true, false, nat_lt, cond, ◌==◌, ◌-◌, List, length, Option, None, Some, IfSome, refl, sym, ap, ◌∙◌, subst, arith}
use Rattle.std.proofs.lemmas.Bool.{eqb-true, le-ltb}
use Rattle.iscc_header.specs.declared.unit.Unit64.{Unit64}
use Rattle.reg_model.specs.Opening.{Opening, IsOpening}
use Rattle.reg_model.specs.declared.update.Update.TheVariants.{Decl, Wd}
use Rattle.reg_words.specs.declared.word.LogWord.TheVariants as records
use Rattle.reg_words.specs.declared.word.StampWord.TheVariants.{Live, Dead}
use Rattle.reg_words.specs.Packing.{FitsLog, log_word, stamp_word}
use Rattle.reg_rule.specs.declared.told.Told.TheVariants.{Nothing}
use Rattle.reg_rule.specs.declared.view.Key.{Key}
use Rattle.reg_rule.specs.declared.view.Place.{Place}
use Rattle.reg_rule.specs.declared.view.View.{View}
use Rattle.reg_rule.specs.Log.{At, IsDecl, IsWd, Declares, place_of, place_word}
use Rattle.reg_rule.specs.Helping.{MayHelp}
use Rattle.reg_rule.specs.Conditions.{MayStoreNote, MaySwapBirth, MaySwapDeath}
use Rattle.reg_rule.specs.Moves.{with_step, again, noted}
use Rattle.reg_rule.specs.Steps.{SeenFits, LogLoaded, CodeLoaded}
use Rattle.reg_commit.specs.inner.Kinds.{kind_sought}
use Rattle.reg_commit.proofs.Logs.{at_same, at_inside, declares_carried, declares_placed, last_kept}

-- ---- a place that was seen is loaded again

pub again_helps : (v : View) (place : ℕ) → MayHelp v place → MayHelp (again Nothing v) place
again_helps v place helps = (helps.0, by (length v.log == v.key.sizes.log) (nat_lt 0 v.pin) refl) where
  by : (b c : Bool) → (length v.log == v.key.sizes.log) ≡ b → (cond b (cond c (Some v.key.sizes.log) v.front) v.front ≡ Some (place + 1)) ⊎ ((cond b (cond c (Some v.key.sizes.log) v.front) v.front ≡ Some place) × (v.committed ≡ Some place))
  by true true e = inl (ap Some (sym (eqb-true (length v.log) v.key.sizes.log e) ∙ helps.0))
  by true false e = helps.1
  by false c e = helps.1

pub sought_has : (P : View → Type 0) (id : ℕ) (v : View) → P v → P (again Nothing v) → P (kind_sought id v)
sought_has P id v here there = by (nat_lt id v.key.carried.base) where
  by : (b : Bool) → P (cond b v (again Nothing v))
  by true = here
  by false = there

-- ---- the kind

-- what holds of a kind that was found follows for it
pub found_too : (P Q : ℕ → Type 0) (kind : Option ℕ) → ((k : ℕ) → P k → Q k) → IfSome kind P → IfSome kind Q
found_too P Q None then is = tt
found_too P Q (Some k) then is = then k is

-- the id below the base is carried, and another is that of a place
pub listed : (key own : Key) (carried : Opening) (log : List Place) (base id entry : ℕ) (unit : Unit64) → own ≡ key → carried ≡ key.carried → base ≡ carried.base → id < base → Declares own.carried log id unit entry
    → At carried.list entry (record { id = id; unit = unit })
listed key own carried log base id entry unit same is base_is low dec = declares_carried carried log id entry unit (omega arith) (subst (λ (o : Opening). Declares o log id unit entry) (ap (λ (k : Key). k.carried) same ∙ sym is) dec)

pub placed : (key own : Key) (carried : Opening) (log : List Place) (base id entry : ℕ) (unit : Unit64) → own ≡ key → carried ≡ key.carried → IsOpening carried → base ≡ carried.base → base ≤ id → Declares own.carried log id unit entry
    → (base ≡ own.carried.base) × IsDecl log (id - base) unit entry
placed key own carried log base id entry unit same is ok base_is high dec =
    let all : own.carried ≡ carried = ap (λ (k : Key). k.carried) same ∙ sym is in
    let at = declares_placed carried log id entry unit ok (omega arith) (subst (λ (o : Opening). Declares o log id unit entry) all dec) in
    let place : at.0 ≡ id - base = (let e = at.1 in omega arith) in
    (base_is ∙ sym (ap (λ (o : Opening). o.base) all), subst (λ (n : ℕ). IsDecl log n unit entry) place at.2)

-- the word of a place that declares
pub word_there : (v w : View) (place entry found : ℕ) (unit : Unit64) → SeenFits v.key v.log → IsDecl v.log place unit entry → LogLoaded Nothing place v found w
    → FitsLog (records.Decl unit.kind entry (v.key.carried.base + place)) × (found ≡ log_word (records.Decl unit.kind entry (v.key.carried.base + place)))
word_there v w place entry found unit seen decl loaded =
    let old = loaded.old (at_inside v.log place _ decl) in let same = at_same v.log place old.0 (place_of (Decl unit) entry) old.1 decl in
    (seen.records place _ decl, old.2 ∙ ap (place_word v.key.carried.base place) same)

pub sought_loaded : (id : ℕ) (v : View) → v.key.carried.base ≤ id → kind_sought id v ≡ again Nothing v
sought_loaded id v high = ap (λ (b : Bool). cond b v (again Nothing v)) (le-ltb id v.key.carried.base high)

-- ---- the note and the death

-- the body that was loaded is that of the place
pub may_note : (v w : View) (place entry body note : ℕ) (unit : Unit64) → IsOpening v.key.carried → SeenFits v.key v.log → MayHelp v place → IsDecl v.log place unit entry → CodeLoaded Nothing entry v body w → note ≡ body → MayStoreNote place note w
may_note v w place entry body note unit ok seen helps decl loaded same = subst (MayStoreNote place note) (sym is) may where
  is : w ≡ with_step v 3
  is = loaded.view.2

  at : Declares v.key.carried v.log (v.key.carried.base + place) unit entry
  at = inr (place, refl, decl)

  read : body ≡ unit.body
  read = ⊎_elim (λ (e : v.front ≡ Some (place + 1)). loaded.body (v.key.carried.base + place) (place + 1) unit (inl e) at (last_kept v.key v.log place (place + 1) ok seen helps.0))
      (λ (e : (v.front ≡ Some place) × (v.committed ≡ Some place)). loaded.body (v.key.carried.base + place) place unit (inl e.0) at (last_kept v.key v.log place place ok seen helps.0)) helps.1

  may : MayStoreNote place note (with_step v 3)
  may = record {
    inside = (let a = helps.0 in let b = seen.room in omega arith);
    helps = helps;
    body = (unit, entry, decl, same ∙ read);
  }

-- the birth of what the place declares
pub may_birth : (v u w : View) (place entry new kind id : ℕ) (unit : Unit64) → SeenFits v.key v.log → MayHelp v place → IsDecl v.log place unit entry → u ≡ with_step v 3 → w ≡ noted u place
    → kind ≡ unit.kind → id ≡ v.key.carried.base + place → new ≡ stamp_word (Live kind id) → MaySwapBirth entry 0 new w
may_birth v u w place entry new kind id unit seen helps decl looked stored kind_is id_is word = subst (MaySwapBirth entry 0 new) (sym (stored ∙ ap (λ (z : View). noted z place) looked)) may where
  may : MaySwapBirth entry 0 new (noted (with_step v 3) place)
  may = record {
    inside = seen.entries place (place_of (Decl unit) entry) decl;
    unborn = refl;
    birth = (place, unit, helps, refl, decl, word ∙ (λ j. stamp_word (Live (kind_is j) (id_is j))));
  }

-- a stamp of a death, by its kind and its place
pub dead_word : (kind found id death place word : ℕ) → word ≡ stamp_word (Dead found id death) → found ≡ kind → death ≡ place → word ≡ stamp_word (Dead kind id place)
dead_word kind found id death place word is same here = is ∙ (λ j. stamp_word (Dead (same j) id (here j)))

-- the death of what the place withdraws
pub may_bury : (v : View) (place id entry old new : ℕ) (unit : Unit64) → SeenFits v.key v.log → MayHelp v place → IsWd v.log place id entry → Declares v.key.carried v.log id unit entry
    → old ≡ stamp_word (Live unit.kind id) → new ≡ stamp_word (Dead unit.kind id place) → MaySwapDeath entry old new (kind_sought id v)
may_bury v place id entry old new unit seen helps wd dec live dead = sought_has (MaySwapDeath entry old new) id v
    (record { inside = inside; death = (place, id, unit, helps, wd, dec, live, dead) })
    (record { inside = inside; death = (place, id, unit, again_helps v place helps, wd, dec, live, dead) }) where
      inside : entry < v.key.entries
      inside = seen.entries place (place_of (Wd id) entry) wd
