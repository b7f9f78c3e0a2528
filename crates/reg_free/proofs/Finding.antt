-- What is found of an id at the front: its declaration in the log, and what its stamp shows.
use Rattle.std.proofs.Common.{◌≡◌, ℕ, zero, suc, ◌+◌, ◌<◌, ◌≤◌, ◌==◌, ◌||◌, inl, inr, ⊎_elim, Bool, true, false, cond, nat_le, nat_lt, List, [], ◌∷◌, length, take, slice_index_or, Option, None, Some, IfSome, IfNone, refl, sym, ap, ◌∙◌, subst, arith, eq-eqb, lt-ltb}
use Rattle.std.specs.List.{list_any}
use Rattle.std.proofs.lemmas.Bool.{eqb-true, leb-true, le-leb, and_from, and_parts}
use mathlib.Core.Option.{some, some-injective, some-ne-none}
use Rattle.iscc_header.specs.declared.unit.Unit64.{Unit64}
use Rattle.reg_model.specs.Opening.{Opening, IsOpening}
use Rattle.reg_model.specs.Live.{declared, live_at}
use Rattle.reg_model.specs.declared.update.Declared.{Declared}
use Rattle.reg_model.specs.declared.update.Update.{Update}
use Rattle.reg_model.specs.declared.update.Update.TheVariants.{Decl, Wd}
use Rattle.reg_words.specs.declared.word.StampWord.{StampWord}
use Rattle.reg_words.specs.declared.word.StampWord.TheVariants.{Unborn, Live, Dead}
use Rattle.reg_rule.specs.declared.view.Found.{Found}
use Rattle.reg_rule.specs.declared.view.Place.{Place}
use Rattle.reg_rule.specs.declared.view.View.{View}
use Rattle.reg_rule.specs.Log.{At, updates, place_of, record_at, is_declared, Declares, IsLiveIn, IsDecl}
use Rattle.reg_rule.specs.Helping.{helped_up_to}
use Rattle.reg_rule.specs.Moves.{log_at, live_id, noted_live, found_at}
use Rattle.reg_rule.specs.Steps.{LooksLive, Shows}
use Rattle.reg_rule.proofs.Bridge.{live_listed, listed_live}
use Rattle.reg_rule.proofs.Costs.{listed, of_list}
use Rattle.reg_query.specs.Snapshots.{declared_entry}
use Rattle.reg_free.specs.inner.Withdrawals.{IsDeclaredIn, IsLiveThere, shows_live}

-- ---- places of lists

at_same : {A : Type 0} (l : List A) (n : ℕ) (x y : A) → At l n x → At l n y → x ≡ y
at_same l n x y a b = some-injective x y (sym a ∙ b)

pub at_inside : {A : Type 0} (l : List A) (n : ℕ) (x : A) → At l n x → n < length l
at_inside [] n x e = absurd (some-ne-none x (sym e))
at_inside (y ∷ l) zero x e = omega arith
at_inside (y ∷ l) (suc n) x e = let h = at_inside l n x e in omega arith

at_nth : {A : Type 0} (l : List A) (n : ℕ) (x d : A) → At l n x → slice_index_or l n d ≡ x
at_nth [] n x d e = absurd (some-ne-none x (sym e))
at_nth (y ∷ l) zero x d e = some-injective y x e
at_nth (y ∷ l) (suc n) x d e = at_nth l n x d e

take_at : {A : Type 0} (l : List A) (d n : ℕ) (x : A) → At (take d l) n x → At l n x
take_at l zero n x e = absurd (some-ne-none x (sym e))
take_at [] (suc d) n x e = e
take_at (y ∷ l) (suc d) zero x e = e
take_at (y ∷ l) (suc d) (suc n) x e = take_at l d n x e

at_below : {A : Type 0} (l : List A) (d n : ℕ) (x : A) → n < d → At l n x → At (take d l) n x
at_below l zero n x h e = absurd (omega arith)
at_below [] (suc d) n x h e = e
at_below (y ∷ l) (suc d) zero x h e = e
at_below (y ∷ l) (suc d) (suc n) x h e = at_below l d n x (omega arith) e

pub length_take : {A : Type 0} (l : List A) (k : ℕ) → k ≤ length l → length (take k l) ≡ k
length_take l zero h = refl
length_take [] (suc k) h = absurd (omega arith)
length_take (y ∷ l) (suc k) h = ap suc (length_take l k (omega arith))

-- ---- where the id is declared

carried_below : (o : Opening) (n id : ℕ) (unit : Unit64) → IsOpening o → At o.list n (record { id = id; unit = unit }) → id < o.base
carried_below o n id unit ok a =
    let d : Declared = record { id = id; unit = unit } in let is = at_nth o.list n d d a in
    subst (λ (c : Declared). c.id < o.base) is (ok.below n d (at_inside o.list n d a))

pub declared_below : (o : Opening) (log : List Place) (id entry : ℕ) (unit : Unit64) → IsOpening o → Declares o log id unit entry → id < o.base + length log
declared_below o log id entry unit ok dec =
    ⊎_elim (λ (x : At o.list entry (record { id = id; unit = unit })). let h = carried_below o entry id unit ok x in omega arith)
    (λ (x : (n : ℕ) × (id ≡ o.base + n) × IsDecl log n unit entry). let h = at_inside log x.0 _ x.2 in let g = x.1 in omega arith) dec

module _ (v : View) (k id : ℕ) (ok : IsOpening v.key.carried) where
  -- what the list of the carried says, of an id below the base
  pub carried_there : id < v.key.carried.base → (e : Option ℕ) → length v.key.carried.list ≤ v.key.entries → IfSome e (λ entry. (unit : Unit64) × At v.key.carried.list entry (record { id = id; unit = unit }))
      → IfNone e ((unit : Unit64) (entry : ℕ) → At v.key.carried.list entry (record { id = id; unit = unit }) → ⊥) → IsDeclaredIn v k id e
  carried_there low (Some entry) room there none = let h = at_inside v.key.carried.list entry _ there.1 in (omega arith, (there.0, inl there.1))
  carried_there low None room there none = λ unit entry d. ⊎_elim (λ (c : At v.key.carried.list entry (record { id = id; unit = unit })). none unit entry c)
      (λ (t : (m : ℕ) × (id ≡ v.key.carried.base + m) × IsDecl (take k v.log) m unit entry). let e = t.1 in absurd (omega arith)) d

  -- an id of the front or above isn't declared below it
  pub above : v.key.carried.base + k ≤ id → k ≤ length v.log → IsDeclaredIn v k id None
  above high inside = λ unit entry d. let h = declared_below v.key.carried (take k v.log) id entry unit ok d in let l = length_take v.log k inside in absurd (omega arith)

  -- the record of a place below the front
  pub placed : (n : ℕ) (p : Place) → n < k → id ≡ v.key.carried.base + n → At v.log n p → p.entry < v.key.entries → (e : Option ℕ) → e ≡ declared_entry (record_at v.key.carried.base n p.update p.entry) → IsDeclaredIn v k id e
  placed n p low is at room e same = subst (IsDeclaredIn v k id) (sym same) (by p.update refl) where
    by : (u : Update) → p.update ≡ u → IsDeclaredIn v k id (declared_entry (record_at v.key.carried.base n u p.entry))
    by (Decl unit) u = (room, (unit, inr (n, is, at_below v.log k n _ low (at ∙ ap some (λ j. record { update = u j; entry = p.entry })))))
    by (Wd other) u = λ unit entry d. ⊎_elim
        (λ (c : At v.key.carried.list entry (record { id = id; unit = unit })). let h = carried_below v.key.carried entry id unit ok c in absurd (omega arith))
        (λ (t : (m : ℕ) × (id ≡ v.key.carried.base + m) × IsDecl (take k v.log) m unit entry). let e = t.1 in let same : t.0 ≡ n = omega arith in
        no_decl unit entry (sym u ∙ ap (λ (q : Place). q.update) (at_same v.log n p _ at (subst (λ (m : ℕ). At v.log m (place_of (Decl unit) entry)) same (take_at v.log k t.0 _ t.2))))) d
      where
        no_decl : (unit : Unit64) (entry : ℕ) → Wd other ≡ Decl unit → ⊥
        no_decl unit entry e = absurd cc

-- ---- what the stamp shows

looks_none : (k id : ℕ) (s : StampWord) (kind : ℕ) → shows_live k id s ≡ false → LooksLive k s id kind → ⊥
looks_none k id Unborn kind e l = l
looks_none k id (Live found_kind found) kind e l = absurd (let h = eq-eqb found id l.0 in cc)
looks_none k id (Dead found_kind found death) kind e l = absurd (let h = and_from (found == id) (nat_le k death) (eq-eqb found id l.0) (le-leb k death l.2) in cc)

looks_some : (k id : ℕ) (s : StampWord) → shows_live k id s ≡ true → (kind : ℕ) × LooksLive k s id kind
looks_some k id Unborn e = absurd cc
looks_some k id (Live kind found) e = (kind, (eqb-true found id e, refl))
looks_some k id (Dead kind found death) e = let t = and_parts (found == id) (nat_le k death) e in (kind, (eqb-true found id t.0, refl, leb-true k death t.1))

-- so it is noted as found there
shown_id : (base k id : ℕ) (s : StampWord) → id < base + k → shows_live k id s ≡ true → live_id base k s ≡ Some id
shown_id base k id Unborn low e = absurd cc
shown_id base k id (Live kind found) low e = let same = eqb-true found id e in
    ap (λ (b : Bool). cond {A = Option ℕ} b (Some found) None) (lt-ltb found (base + k) (omega arith)) ∙ ap Some same
shown_id base k id (Dead kind found death) low e = let t = and_parts (found == id) (nat_le k death) e in let same = eqb-true found id t.0 in
    ap (λ (b : Bool). cond {A = Option ℕ} b (Some found) None) (and_from (nat_lt found (base + k)) (nat_le k death) (lt-ltb found (base + k) (omega arith)) t.1) ∙ ap Some same

pub noted_found : (v : View) (k id entry : ℕ) (s : StampWord) → id < v.key.carried.base + k → v.front ≡ Some k → helped_up_to v.helped k ≡ true → shows_live k id s ≡ true
    → found_at v.front entry s v ≡ Some (record { id = id; entry = entry; place = k })
noted_found v k id entry s low front complete e = ap (λ (f : Option ℕ). found_at f entry s v) front
    ∙ (ap (λ (b : Bool). cond {A = Option Found} b (noted_live (live_id v.key.carried.base k s) k entry v.found) v.found) complete
    ∙ ap (λ (o : Option ℕ). noted_live o k entry v.found) (shown_id v.key.carried.base k id s low e))

-- ---- what is live

any_at : {A : Type 0} (p : A → Bool) (l : List A) (j : ℕ) (x : A) → At l j x → p x ≡ true → list_any p l ≡ true
any_at p [] j x e t = absurd (some-ne-none x (sym e))
any_at p (y ∷ l) zero x e t = let same = at_same (y ∷ l) 0 y x refl e in ap (λ (b : Bool). b || list_any p l) (ap p same ∙ t)
any_at p (y ∷ l) (suc j) x e t = by (p y) (any_at p l j x e t) where
  by : (b : Bool) → list_any p l ≡ true → (b || list_any p l) ≡ true
  by true h = refl
  by false h = h

any_none : {A : Type 0} (p : A → Bool) (l : List A) → ((j : ℕ) (x : A) → At l j x → p x ≡ true → ⊥) → list_any p l ≡ false
any_none p [] none = refl
any_none p (y ∷ l) none = by (p y) refl (any_none p l (λ j x at t. none (suc j) x at t)) where
  by : (b : Bool) → p y ≡ b → list_any p l ≡ false → (b || list_any p l) ≡ false
  by true is h = absurd (none 0 y refl is)
  by false is h = h

module _ (v : View) (k id : ℕ) (ok : IsOpening v.key.carried) where
  abbrev known : List Place
  known = take k v.log

  pub declared_so : (unit : Unit64) (entry : ℕ) → Declares v.key.carried known id unit entry → is_declared v.key.carried known id ≡ true
  declared_so unit entry d = let l = listed v.key.carried known id entry unit d in any_at (λ (x : Declared). x.id == id) (declared v.key.carried (updates known)) l.0 _ l.1 (eq-eqb id id refl)

  pub undeclared_so : ((unit : Unit64) (entry : ℕ) → Declares v.key.carried known id unit entry → ⊥) → is_declared v.key.carried known id ≡ false
  undeclared_so none = any_none (λ (x : Declared). x.id == id) (declared v.key.carried (updates known)) (λ j x at t.
      let d = of_list v.key.carried known j x at in none x.unit d.0 (subst (λ (n : ℕ). Declares v.key.carried known n x.unit d.0) (eqb-true x.id id t) d.1))

  not_live : (x : Option Declared) → live_at v.key.carried (log_at v k) id ≡ x → ((unit : Unit64) (entry : ℕ) → IsLiveIn v.key.carried known id unit entry → ⊥) → x ≡ None
  not_live None is none = refl
  not_live (Some d) is none = let h = listed_live v.key.carried known id d is in absurd (none d.unit h.1.0 h.1.1)

  pub none_live : ((unit : Unit64) (entry : ℕ) → Declares v.key.carried known id unit entry → ⊥) → live_at v.key.carried (log_at v k) id ≡ None
  none_live none = not_live _ refl (λ unit entry live. none unit entry live.declares)

  -- the stamp of its entry shows whether the id is live
  pub dead_here : (unit : Unit64) (entry : ℕ) (s : StampWord) → Declares v.key.carried known id unit entry → Shows v.key.carried known k entry s → shows_live k id s ≡ false → live_at v.key.carried (log_at v k) id ≡ None
  dead_here unit entry s d shows e = not_live _ refl (λ other at live. looks_none k id s unit.kind e (shows.live id unit (record { declares = d; kept = live.kept })))

  pub live_here : (entry : ℕ) (s : StampWord) → id < v.key.carried.base + k → Shows v.key.carried known k entry s → shows_live k id s ≡ true → (d : Declared) × (live_at v.key.carried (log_at v k) id ≡ Some d)
  live_here entry s low shows e = let l = looks_some k id s e in let live = shows.nothing_else id l.0 l.1 low in (_, live_listed v.key.carried known id entry live.0 ok live.1)

-- what was found, by what the stamp shows
pub found_there : (v w : View) (k id entry : ℕ) (s : StampWord) (b : Bool) → IsOpening v.key.carried → IsDeclaredIn v k id (Some entry) → k ≤ length v.log → v.front ≡ Some k → helped_up_to v.helped k ≡ true
    → Shows v.key.carried (take k v.log) k entry s → w.found ≡ found_at v.front entry s v → b ≡ shows_live k id s → IsLiveThere v k id entry w b
found_there v w k id entry s true ok declared inside front complete shows is e =
    let below = declared_below v.key.carried (take k v.log) id entry declared.1.0 ok declared.1.1 in let l = length_take v.log k inside in let low : id < v.key.carried.base + k = omega arith in
    (live_here v k id ok entry s low shows (sym e), is ∙ noted_found v k id entry s low front complete (sym e))
found_there v w k id entry s false ok declared inside front complete shows is e = dead_here v k id ok declared.1.0 entry s declared.1.1 shows (sym e)
