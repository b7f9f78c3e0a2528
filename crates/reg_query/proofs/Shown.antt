-- What is shown of an id at a snapshot: its declaration in the log, its stamp, its body, and the row.
use Rattle.std.proofs.Common.{◌≡◌, ℕ, zero, suc, ◌+◌, ◌<◌, ◌≤◌, ◌==◌, ◌&&◌, ◌||◌, inl, inr, ⊎_elim, Bool, true, false, cond, nat_le, List, [], ◌∷◌, ◌++◌, append_assoc, length, length-append, take, count_by, Option, None, Some, IfSome, IfNone, option_map, find, refl, sym, ap, ◌∙◌, subst, arith, eq-eqb}
use Rattle.std.specs.List.{list_any}
use Rattle.std.proofs.lemmas.Bool.{eqb-true, leb-true, le-leb, and_from, and_parts}
use mathlib.Core.Option.{some, some-ne-none}
use Rattle.iscc_header.specs.declared.unit.Unit64.{Unit64}
use Rattle.reg_model.specs.Opening.{Opening, IsOpening}
use Rattle.reg_model.specs.Live.{declared, live_at}
use Rattle.reg_model.specs.Replies.{shown}
use Rattle.reg_model.specs.declared.call.Call.{Call}
use Rattle.reg_model.specs.declared.call.Call.TheVariants.{Show}
use Rattle.reg_model.specs.declared.reply.Hit.{Hit}
use Rattle.reg_model.specs.declared.reply.Reply.{Reply}
use Rattle.reg_model.specs.declared.reply.Reply.TheVariants.{Absent}
use Rattle.reg_model.specs.declared.update.Declared.{Declared}
use Rattle.reg_model.specs.declared.update.Update.{Update}
use Rattle.reg_model.specs.declared.update.Update.TheVariants.{Decl, Wd}
use Rattle.reg_model.proofs.Rising.{IsAt}
use Rattle.reg_words.specs.declared.word.StampWord.{StampWord}
use Rattle.reg_words.specs.declared.word.StampWord.TheVariants.{Unborn, Live, Dead}
use Rattle.reg_rule.specs.declared.told.Told.{Told}
use Rattle.reg_rule.specs.declared.view.Account.{Account}
use Rattle.reg_rule.specs.declared.view.Found.{Found}
use Rattle.reg_rule.specs.declared.view.Holding.{Holding}
use Rattle.reg_rule.specs.declared.view.Met.{Met}
use Rattle.reg_rule.specs.declared.view.Place.{Place}
use Rattle.reg_rule.specs.declared.view.View.{View}
use Rattle.reg_rule.specs.Log.{At, updates, place_of, record_at, is_declared, Declares, IsLiveIn, IsDecl}
use Rattle.reg_rule.specs.Moves.{log_at, next_row, grown, front_reply, stamp_reply, code_reply, absent_of, shown_of, replied_accounts, with_hits, coded, point_or}
use Rattle.reg_rule.specs.Steps.{LooksLive, Shows, CodeLoaded}
use Rattle.reg_rule.proofs.Bridge.{find_some, live_listed, listed_live}
use Rattle.reg_rule.proofs.Costs.{listed, of_list}
use Rattle.reg_query.specs.Snapshots.{declared_entry, IsOpenAt, ShownAt, shown_accounts, is_look, is_log_load}
use Rattle.reg_query.specs.inner.Showing.{Sought, LookedFor, IsDeclaredIn, IsLiveKind, kind_shown}
use Rattle.reg_query.proofs.Seeking.{Telling}
use Rattle.reg_query.proofs.Places.{at_same, at_inside, take_at, at_below, length_take, take_append, declares_once, declares_more, declared_below, live_kept, carried_below}

-- ---- where the id is declared

-- the carried declaration that a search by id has found
pub found_there : (l : List Declared) (i id : ℕ) → IsAt id i l → (unit : Unit64) × At l i (record { id = id; unit = unit })
found_there [] i id h = absurd h
found_there (d ∷ l) zero id h = (d.unit, ap some (λ j. record { id = h j; unit = d.unit }))
found_there (d ∷ l) (suc i) id h = found_there l i id h

pub found_nowhere : (l : List Declared) (id : ℕ) → find (λ (d : Declared). d.id == id) l ≡ None → (unit : Unit64) (entry : ℕ) → At l entry (record { id = id; unit = unit }) → ⊥
found_nowhere l id none unit entry at = let f = find_some (λ (d : Declared). d.id == id) l entry _ at (eq-eqb id id refl) in absurd (no_one f.0 (sym none ∙ f.2)) where
  no_one : (d : Declared) → None ≡ Some d → ⊥
  no_one d e = absurd cc

module _ (o : Opening) (log : List Place) (k id : ℕ) where
  -- the record of a place below the front
  pub placed : (n : ℕ) (p : Place) → n < k → id ≡ o.base + n → IsOpening o → At log n p → (e : Option ℕ) → e ≡ declared_entry (record_at o.base n p.update p.entry)
      → IfSome e (λ entry. (unit : Unit64) × Declares o (take k log) id unit entry) × IfNone e ((unit : Unit64) (entry : ℕ) → Declares o (take k log) id unit entry → ⊥)
  placed n p low is ok at e same = subst (λ (x : Option ℕ). IfSome x (λ entry. (unit : Unit64) × Declares o (take k log) id unit entry) × IfNone x ((unit : Unit64) (entry : ℕ) → Declares o (take k log) id unit entry → ⊥)) (sym same) (by p.update refl) where
    by : (u : Update) → p.update ≡ u → IfSome (declared_entry (record_at o.base n u p.entry)) (λ entry. (unit : Unit64) × Declares o (take k log) id unit entry)
        × IfNone (declared_entry (record_at o.base n u p.entry)) ((unit : Unit64) (entry : ℕ) → Declares o (take k log) id unit entry → ⊥)
    by (Decl unit) u = ((unit, inr (n, is, at_below log k n _ low (at ∙ ap some (λ j. record { update = u j; entry = p.entry })))), tt)
    by (Wd other) u = (
      tt,
      λ unit entry d. ⊎_elim
          (λ (c : At o.list entry (record { id = id; unit = unit })). let h = carried_below o entry id unit ok c in absurd (omega arith))
          (λ (t : (m : ℕ) × (id ≡ o.base + m) × IsDecl (take k log) m unit entry). let e = t.1 in let same : t.0 ≡ n = omega arith in
          no_decl unit entry (sym u ∙ ap (λ (q : Place). q.update) (at_same log n p _ at (subst (λ (m : ℕ). At log m (place_of (Decl unit) entry)) same (take_at log k t.0 _ t.2))))) d,
    ) where
      no_decl : (unit : Unit64) (entry : ℕ) → Wd other ≡ Decl unit → ⊥
      no_decl unit entry e = absurd cc

  -- what isn't given by a place below the front is carried, or isn't declared
  pub outside : IsOpening o → k ≤ length log → ((o.base ≤ id) → id < o.base + k → ⊥) → (e : Option ℕ) → IfSome e (λ entry. (unit : Unit64) × At o.list entry (record { id = id; unit = unit }))
      → IfNone e ((unit : Unit64) (entry : ℕ) → At o.list entry (record { id = id; unit = unit }) → ⊥)
      → IfSome e (λ entry. (unit : Unit64) × Declares o (take k log) id unit entry) × IfNone e ((unit : Unit64) (entry : ℕ) → Declares o (take k log) id unit entry → ⊥)
  outside ok inside apart (Some entry) there none = ((there.0, inl there.1), tt)
  outside ok inside apart None there none = (
    tt,
    λ unit entry d. ⊎_elim (λ (c : At o.list entry (record { id = id; unit = unit })). none unit entry c)
        (λ (t : (m : ℕ) × (id ≡ o.base + m) × IsDecl (take k log) m unit entry). let l = length_take log k inside in let i = at_inside (take k log) t.0 _ t.2 in let e = t.1 in absurd (apart (omega arith) (omega arith))) d,
  )

-- what is carried has room among the entries
pub carried_inside : (l : List Declared) (n id : ℕ) (e : Option ℕ) → length l ≤ n → IfSome e (λ entry. (unit : Unit64) × At l entry (record { id = id; unit = unit })) → IfSome e (λ entry. entry < n)
carried_inside l n id None room there = tt
carried_inside l n id (Some entry) room there = let h = at_inside l entry _ there.1 in omega arith

-- the two halves are what the look for a declaration tells
pub declared_is : (v : View) (k id : ℕ) (e : Option ℕ) → IfSome e (λ entry. (unit : Unit64) × Declares v.key.carried (take k v.log) id unit entry) × IfNone e ((unit : Unit64) (entry : ℕ) → Declares v.key.carried (take k v.log) id unit entry → ⊥) → IsDeclaredIn v k id e
declared_is v k id None h = h.1
declared_is v k id (Some entry) h = h.0

-- ---- what the stamp shows

looks_none : (k id : ℕ) (s : StampWord) (kind : ℕ) → kind_shown k id s ≡ None → LooksLive k s id kind → ⊥
looks_none k id Unborn kind e l = l
looks_none k id (Live found_kind found) kind e l = no_kind found_kind (sym (ap (λ (b : Bool). cond {A = Option ℕ} b (Some found_kind) None) (eq-eqb found id l.0)) ∙ e) where
  no_kind : (x : ℕ) → Some x ≡ None → ⊥
  no_kind x e = absurd cc
looks_none k id (Dead found_kind found death) kind e l = no_kind found_kind (sym (ap (λ (b : Bool). cond {A = Option ℕ} b (Some found_kind) None) (and_from (found == id) (nat_le k death) (eq-eqb found id l.0) (le-leb k death l.2))) ∙ e) where
  no_kind : (x : ℕ) → Some x ≡ None → ⊥
  no_kind x e = absurd cc

by_cond : (b : Bool) (x y : ℕ) → cond {A = Option ℕ} b (Some x) None ≡ Some y → (b ≡ true) × (x ≡ y)
by_cond true x y e = (refl, inner x y e) where
  inner : (x y : ℕ) → Some x ≡ Some y → x ≡ y
  inner x y e = cc
by_cond false x y e = absurd (inner y e) where
  inner : (y : ℕ) → None ≡ Some y → ⊥
  inner y e = absurd cc

looks_some : (k id : ℕ) (s : StampWord) (kind : ℕ) → kind_shown k id s ≡ Some kind → LooksLive k s id kind
looks_some k id Unborn kind e = absurd (inner kind e) where
  inner : (y : ℕ) → None ≡ Some y → ⊥
  inner y e = absurd cc
looks_some k id (Live found_kind found) kind e = let h = by_cond (found == id) found_kind kind e in (eqb-true found id h.0, h.1)
looks_some k id (Dead found_kind found death) kind e = let h = by_cond ((found == id) && nat_le k death) found_kind kind e in let t = and_parts (found == id) (nat_le k death) h.0 in (eqb-true found id t.0, h.1, leb-true k death t.1)

pub kind_is : (v : View) (k id entry : ℕ) (s : StampWord) (e : Option ℕ) → id < v.key.carried.base + k → Shows v.key.carried (take k v.log) k entry s → e ≡ kind_shown k id s → IsLiveKind v k id entry e
kind_is v k id entry s None low shows is = λ unit live. looks_none k id s unit.kind (sym is) (shows.live id unit live)
kind_is v k id entry s (Some kind) low shows is = shows.nothing_else id kind (looks_some k id s kind (sym is)) low

-- ---- what is live

any_at : {A : Type 0} (p : A → Bool) (l : List A) (j : ℕ) (x : A) → At l j x → p x ≡ true → list_any p l ≡ true
any_at p [] j x e t = absurd (some-ne-none x (sym e))
any_at p (y ∷ l) zero x e t = let same = at_same (y ∷ l) 0 y x refl e in ap (λ (b : Bool). b || list_any p l) (ap p same ∙ t)
any_at p (y ∷ l) (suc j) x e t = by (p y) (any_at p l j x e t) where
  by : (b : Bool) → list_any p l ≡ true → (b || list_any p l) ≡ true
  by true h = refl
  by false h = h

any_none : {A : Type 0} (p : A → Bool) (l : List A) → ((j : ℕ) (x : A) → At l j x → p x ≡ true → ⊥) → list_any p l ≡ false
any_none p [] none = refl
any_none p (y ∷ l) none = by (p y) refl (any_none p l (λ j x at t. none (suc j) x at t)) where
  by : (b : Bool) → p y ≡ b → list_any p l ≡ false → (b || list_any p l) ≡ false
  by true is h = absurd (none 0 y refl is)
  by false is h = h

module _ (v : View) (k id : ℕ) (ok : IsOpening v.key.carried) where
  abbrev known : List Place
  known = take k v.log

  pub declared_so : (unit : Unit64) (entry : ℕ) → Declares v.key.carried known id unit entry → is_declared v.key.carried known id ≡ true
  declared_so unit entry d = let l = listed v.key.carried known id entry unit d in any_at (λ (x : Declared). x.id == id) (declared v.key.carried (updates known)) l.0 _ l.1 (eq-eqb id id refl)

  pub undeclared_so : ((unit : Unit64) (entry : ℕ) → Declares v.key.carried known id unit entry → ⊥) → is_declared v.key.carried known id ≡ false
  undeclared_so none = any_none (λ (x : Declared). x.id == id) (declared v.key.carried (updates known)) (λ j x at t.
      let d = of_list v.key.carried known j x at in none x.unit d.0 (subst (λ (n : ℕ). Declares v.key.carried known n x.unit d.0) (eqb-true x.id id t) d.1))

  not_live : (x : Option Declared) → live_at v.key.carried (log_at v k) id ≡ x → ((unit : Unit64) (entry : ℕ) → IsLiveIn v.key.carried known id unit entry → ⊥) → x ≡ None
  not_live None is none = refl
  not_live (Some d) is none = let h = listed_live v.key.carried known id d is in absurd (none d.unit h.1.0 h.1.1)

  pub none_live : ((unit : Unit64) (entry : ℕ) → Declares v.key.carried known id unit entry → ⊥) → live_at v.key.carried (log_at v k) id ≡ None
  none_live none = not_live _ refl (λ unit entry live. none unit entry live.declares)

  pub dead_here : (unit : Unit64) (entry : ℕ) → Declares v.key.carried known id unit entry → ((unit : Unit64) → IsLiveIn v.key.carried known id unit entry → ⊥) → live_at v.key.carried (log_at v k) id ≡ None
  dead_here unit entry d none = not_live _ refl (λ other at live.
      let same = (declares_once v.key.carried known id entry at unit other ok d live.declares).1 in none other (subst (λ (e : ℕ). IsLiveIn v.key.carried known id other e) (sym same) live))

  pub live_here : (unit : Unit64) (entry : ℕ) → IsLiveIn v.key.carried known id unit entry → live_at v.key.carried (log_at v k) id ≡ Some (record { id = id; unit = unit })
  live_here unit entry live = live_listed v.key.carried known id entry unit ok live

-- ---- rows

module _ (v : View) (k id : ℕ) where
  -- a view with the same rows
  abbrev pub moved : List Place → Option ℕ → Option Holding → Option Found → List Met → List ℕ → View
  moved log front holding found met made = record v { log = log; front = front; holding = holding; found = found; met = met; made = made }

  abbrev pub row_if : Told → Option Reply → List Account
  row_if told r = replied_accounts (λ w n call. r) told v k

  pub decided : (decides : View → ℕ → Call → Option Reply) (told : Told) (log : List Place) (front : Option ℕ) (holding : Option Holding) (found : Option Found) (met : List Met) (made : List ℕ) (r : Option Reply) → Telling id told
      → decides (moved log front holding found met made) k (Show id) ≡ r → replied_accounts decides told (moved log front holding found met made) k ≡ row_if told r
  decided decides told log front holding found met made r tells is = ⊎_elim
      (λ e. subst (λ (t : Told). replied_accounts decides t (moved log front holding found met made) k ≡ row_if t r) (sym e) refl)
      (λ e. subst (λ (t : Told). replied_accounts decides t (moved log front holding found met made) k ≡ row_if t r) (sym e) (ap (λ (x : Option Reply). grown v.accounts (option_map (next_row v (Show id) k) x)) is))
      tells

  pub no_row : (told : Told) → Telling id told → row_if told None ≡ v.accounts
  no_row told tells = ⊎_elim
      (λ e. subst (λ (t : Told). row_if t None ≡ v.accounts) (sym e) refl)
      (λ e. subst (λ (t : Told). row_if t None ≡ v.accounts) (sym e) refl)
      tells

  pub the_row : (told : Told) (x : Option Declared) → Telling id told → live_at v.key.carried (log_at v k) id ≡ x → row_if told (Some (shown id x)) ≡ shown_accounts told v k id
  the_row told x tells is = ⊎_elim
      (λ e. subst (λ (t : Told). row_if t (Some (shown id x)) ≡ shown_accounts t v k id) (sym e) refl)
      (λ e. subst (λ (t : Told). row_if t (Some (shown id x)) ≡ shown_accounts t v k id) (sym e) (ap (λ (y : Option Declared). grown v.accounts (Some (next_row v (Show id) k (shown id y)))) (sym is)))
      tells

-- ---- the whole call

-- a query's row isn't told
no_hits : (id : ℕ) (told : Told) (hits : List Hit) (u : View) → Telling id told → with_hits told hits u ≡ u
no_hits id told hits u tells = ⊎_elim
    (λ e. subst (λ (t : Told). with_hits t hits u ≡ u) (sym e) refl)
    (λ e. subst (λ (t : Told). with_hits t hits u ≡ u) (sym e) refl)
    tells

module _ (v : View) (k id : ℕ) (told : Told) (tells : Telling id told) (opens : IsOpenAt v k) (ok : IsOpening v.key.carried) where
  abbrev answered : List Place → Option ℕ → Option Holding → Option Found → List Met → List ℕ → View
  answered places front holding found met steps = record v { log = v.log ++ places; front = front; holding = holding; found = found; met = met; accounts = shown_accounts told v k id; made = v.made ++ steps }

  shown_by : (w : View) (x : Option Declared) (unit : Option Unit64) (places : List Place) (front : Option ℕ) (holding : Option Holding) (found : Option Found) (met : List Met) (steps : List ℕ)
      → w ≡ answered places front holding found met steps → live_at v.key.carried (log_at v k) id ≡ x → unit ≡ option_map (λ (d : Declared). d.unit) x → length places ≤ 1 → length (v.log ++ places) ≤ v.key.sizes.log → (v.key.sizes.callers ≡ 1 → places ≡ []) → (v.holding ≡ None → holding ≡ None)
      → count_by is_log_load steps ≡ 1 → length steps ≡ count_by is_log_load steps + count_by is_look steps → count_by is_look steps ≤ 2 → ShownAt told v k id unit w
  shown_by w x unit places front holding found met steps is live same few room alone none loads only looks = record {
    unit_is = same ∙ ap (option_map (λ (d : Declared). d.unit)) (sym live);
    opens = subst (λ (z : View). IsOpenAt z k) (sym is) (record { snapshot = opens.snapshot; pinned = opens.pinned; helped = opens.helped; inside = (let l = length-append v.log places in let i = opens.inside in omega arith); within = opens.within });
    places = places;
    few = few;
    room = room;
    alone = alone;
    steps = steps;
    view = is ∙ (λ j. answered places (ap (λ (z : View). z.front) (sym is) j) (ap (λ (z : View). z.holding) (sym is) j) (ap (λ (z : View). z.found) (sym is) j) (ap (λ (z : View). z.met) (sym is) j) steps);
    holding = λ e. ap (λ (z : View). z.holding) is ∙ none e;
    loads = loads;
    only = only;
    looks = looks;
  }

  module _ (w : View) (s : Sought told v k id w) where
    front_decides : (b : Bool) → is_declared v.key.carried (take k v.log) id ≡ b → replied_accounts front_reply told v k ≡ row_if v k id told (cond b None (Some (Absent id)))
    front_decides b is = decided v k id front_reply told v.log v.front v.holding v.found v.met v.made (cond b None (Some (Absent id))) tells (ap (λ (c : Bool). cond {A = Option Reply} c None (Some (Absent id))) is)

    -- it isn't declared below the snapshot
    pub shown_nowhere : IsDeclaredIn v k id None → ShownAt told v k id None w
    shown_nowhere none = let live = none_live v k id ok none in
        let rows = front_decides false (undeclared_so v k id ok none) ∙ the_row v k id told None tells live in
        shown_by w None None s.places w.front w.holding v.found v.met (1 ∷ [])
        (s.view ∙ (λ j. record v { log = v.log ++ s.places; front = w.front; holding = w.holding; accounts = rows j; made = v.made ++ 1 ∷ [] }))
        live refl s.few s.room s.alone s.holding refl refl (omega arith)

    abbrev sought : View
    sought = moved v k id (v.log ++ s.places) w.front w.holding v.found v.met (v.made ++ 1 ∷ [])

    module _ (entry : ℕ) (declares : IsDeclaredIn v k id (Some entry)) where
      sought_is : w ≡ sought
      sought_is = let rows = front_decides true (declared_so v k id ok declares.0 entry declares.1) ∙ no_row v k id told tells in
          s.view ∙ (λ j. record v { log = v.log ++ s.places; front = w.front; holding = w.holding; accounts = rows j; made = v.made ++ 1 ∷ [] })

      known_more : take k (v.log ++ s.places) ≡ take k v.log
      known_more = take_append v.log s.places k opens.inside

      pub declared_low : id < w.key.carried.base + k
      declared_low = let h = declared_below v.key.carried (take k v.log) id entry declares.0 ok declares.1 in let l = length_take v.log k opens.inside in
          subst (λ (z : View). id < z.key.carried.base + k) (sym s.view) (omega arith)

      module _ (x : View) (f : LookedFor told w k id x) where
        abbrev looked_at : List Account → View
        looked_at accounts = record sought { found = x.found; met = x.met; accounts = accounts; made = (v.made ++ 1 ∷ []) ++ 7 ∷ [] }

        looked_is : (d : Option Declared) → live_at v.key.carried (log_at v k) id ≡ d → x ≡ looked_at (row_if v k id told (absent_of d id))
        looked_is d live = f.view ∙ (ap (λ (z : View). record z { found = x.found; met = x.met; accounts = replied_accounts stamp_reply told z k; made = z.made ++ 7 ∷ [] }) sought_is
            ∙ ap looked_at (decided v k id stamp_reply told (v.log ++ s.places) w.front w.holding v.found v.met (v.made ++ 1 ∷ []) (absent_of d id) tells
            (ap (λ (l : List Place). absent_of (live_at v.key.carried (updates l) id) id) known_more ∙ ap (λ (z : Option Declared). absent_of z id) live)))

        -- it isn't live there
        pub shown_dead : IsLiveKind w k id entry None → ShownAt told v k id None x
        shown_dead none = let live = dead_here v k id ok declares.0 entry declares.1 (λ unit l. none unit (subst (λ (z : View). IsLiveIn z.key.carried (take k z.log) id unit entry) (sym s.view) (subst (λ (p : List Place). IsLiveIn v.key.carried p id unit entry) (sym known_more) l))) in
            let rows = the_row v k id told None tells live in
            shown_by x None None s.places w.front w.holding x.found x.met (1 ∷ 7 ∷ [])
            (looked_is None live ∙ (λ j. record v { log = v.log ++ s.places; front = w.front; holding = w.holding; found = x.found; met = x.met; accounts = rows j; made = append_assoc v.made (1 ∷ []) (7 ∷ []) j }))
            live refl s.few s.room s.alone s.holding refl refl (omega arith)

        module _ (kind body : ℕ) (y : View) (shows : IsLiveKind w k id entry (Some kind)) (code : CodeLoaded told entry x body y) where
          live_so : IsLiveIn v.key.carried (take k v.log) id shows.0 entry
          live_so = subst (λ (p : List Place). IsLiveIn v.key.carried p id shows.0 entry) known_more (subst (λ (z : View). IsLiveIn z.key.carried (take k z.log) id shows.0 entry) s.view shows.1)

          live_is : live_at v.key.carried (log_at v k) id ≡ Some (record { id = id; unit = shows.0 })
          live_is = live_here v k id ok shows.0 entry live_so

          abbrev stamped : View
          stamped = moved v k id (v.log ++ s.places) w.front w.holding x.found x.met ((v.made ++ 1 ∷ []) ++ 7 ∷ [])

          stamped_is : x ≡ stamped
          stamped_is = looked_is _ live_is ∙ ap looked_at (no_row v k id told tells)

          body_is : body ≡ shows.0.body
          body_is = (subst (λ (z : View). CodeLoaded told entry z body y → body ≡ shows.0.body) (sym stamped_is) (λ (c : CodeLoaded told entry stamped body y).
              let d = declares_more v.key.carried (v.log ++ s.places) k id entry shows.0 (subst (λ (p : List Place). Declares v.key.carried p id shows.0 entry) (sym known_more) live_so.declares) in
              let kept = live_kept v.key.carried (v.log ++ s.places) k id entry shows.0 (let l = length-append v.log s.places in let i = opens.inside in omega arith) (subst (λ (p : List Place). IsLiveIn v.key.carried p id shows.0 entry) (sym known_more) live_so) in
              c.body id k shows.0 (inr opens.snapshot) d kept)) code

          abbrev coded_at : List Account → View
          coded_at accounts = record stamped { accounts = accounts; made = ((v.made ++ 1 ∷ []) ++ 7 ∷ []) ++ 3 ∷ [] }

          coded_is : y ≡ coded_at (row_if v k id told (Some (shown id (Some (record { id = id; unit = shows.0 })))))
          coded_is = code.view.2 ∙ (no_hits id told code.view.0 (coded told x) tells ∙ (ap (coded told) stamped_is
              ∙ ap coded_at (ap (λ (o : Option ℕ). replied_accounts code_reply told (record stamped { made = ((v.made ++ 1 ∷ []) ++ 7 ∷ []) ++ 3 ∷ [] }) (point_or o (point_or w.front (length (v.log ++ s.places))))) opens.snapshot
              ∙ decided v k id code_reply told (v.log ++ s.places) w.front w.holding x.found x.met (((v.made ++ 1 ∷ []) ++ 7 ∷ []) ++ 3 ∷ []) (Some (shown id (Some (record { id = id; unit = shows.0 })))) tells
              (ap (λ (l : List Place). shown_of (live_at v.key.carried (updates l) id)) known_more ∙ ap shown_of live_is))))

          -- it is live there, and its unit was found
          pub shown_live : ShownAt told v k id (Some (record { kind = kind; body = body })) y
          shown_live = let rows = the_row v k id told _ tells live_is in
              shown_by y (Some (record { id = id; unit = shows.0 })) (Some (record { kind = kind; body = body })) s.places w.front w.holding x.found x.met (1 ∷ 7 ∷ 3 ∷ [])
              (coded_is ∙ (λ j. record v { log = v.log ++ s.places; front = w.front; holding = w.holding; found = x.found; met = x.met; accounts = rows j; made = three v.made j }))
              live_is (ap Some (λ j. record { kind = shows.2 j; body = body_is j })) s.few s.room s.alone s.holding refl refl (omega arith)
            where
              three : (made : List ℕ) → ((made ++ 1 ∷ []) ++ 7 ∷ []) ++ 3 ∷ [] ≡ made ++ (1 ∷ 7 ∷ 3 ∷ [])
              three made = append_assoc (made ++ 1 ∷ []) (7 ∷ []) (3 ∷ []) ∙ append_assoc made (1 ∷ []) (7 ∷ 3 ∷ [])
