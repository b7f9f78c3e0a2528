-- What the stamp of an entry says to a seat that looks at it (kind 7).
use Rattle.std.proofs.Common.{◌≡◌, ℕ, ◌+◌, ◌<◌, ◌≤◌, ◌==◌, ◌&&◌, nat_lt, nat_le, cond, Bool, true, false, inl, ⊎_elim, List, [], ◌∷◌, ◌++◌, length, take, Option, None, Some, sym, refl, ap, ◌∙◌, subst, arith, tests}
use Rattle.std.proofs.lemmas.List.{take-append-le}
use mathlib.Core.Option.{some}
use lib.ListN.{get_elem?}
use Rattle.iscc_header.specs.declared.unit.Unit64.{Unit64}
use Rattle.reg_words.specs.declared.word.StampWord.{StampWord}
use Rattle.reg_words.specs.declared.word.StampWord.TheVariants.{Unborn, Live, Dead}
use Rattle.reg_words.specs.Memory.{LOG, NOTE, CODE}
use Rattle.reg_rule.specs.declared.view.Key.{Key}
use Rattle.reg_rule.specs.declared.view.Place.{Place}
use Rattle.reg_rule.specs.declared.view.Found.{Found}
use Rattle.reg_rule.specs.declared.view.Cursor.{Cursor}
use Rattle.reg_rule.specs.declared.view.Met.{Met}
use Rattle.reg_rule.specs.declared.view.View.{View}
use Rattle.reg_rule.specs.Log.{At, IsDecl, IsWd, IsLiveIn}
use Rattle.reg_rule.specs.Seats.{ReliesOn}
use Rattle.reg_rule.specs.Helping.{helped_up_to, HasHelped}
use Rattle.reg_rule.specs.Moves.{found_at, noted_live, live_id, met_at, id_of}
use Rattle.reg_rule.specs.Steps.{Shows, LooksLive}
use Rattle.reg_rule.specs.inner.World.{Use, holds, World}
use Rattle.reg_rule.specs.inner.Entries.{StampFits}
use Rattle.reg_rule.specs.inner.HelpParts.{IsComplete}
use Rattle.reg_rule.specs.inner.Queries.{MetFits}
use Rattle.reg_rule.specs.inner.Rule.{Inv}
use Rattle.reg_rule.proofs.Shows.{looks_live}
use Rattle.reg_rule.proofs.Once.{at_one_more, carried_below}
use Rattle.reg_rule.proofs.Floors.{front_above}
use Rattle.reg_rule.proofs.Tells.{nothing_else}
use Rattle.reg_rule.proofs.MetKept.{met_fits}
use Rattle.reg_rule.proofs.Variants.{some_same}

-- what a live id says
named_live : (base k x : ℕ) (s : StampWord) → live_id base k s ≡ Some x → (kind : ℕ) × LooksLive k s x kind × (x < base + k)
named_live base k x Unborn e = absurd (cc)
named_live base k x (Live kind id) e = by_test (nat_lt id (base + k)) refl e where
  by_test : (b : Bool) → nat_lt id (base + k) ≡ b → cond b (Some id) None ≡ Some x → (n : ℕ) × LooksLive k (Live kind id) x n × (x < base + k)
  by_test true is z = let same = some_same id x z in let low : id < base + k = search (tests, is) in (kind, (same, refl), omega arith)
  by_test false is z = absurd (cc)
named_live base k x (Dead kind id d) e = by_tests (nat_lt id (base + k)) (nat_le k d) refl refl e where
  by_tests : (a b : Bool) → nat_lt id (base + k) ≡ a → nat_le k d ≡ b → cond (a && b) (Some id) None ≡ Some x → (n : ℕ) × LooksLive k (Dead kind id d) x n × (x < base + k)
  by_tests true true is_a is_b z = let same = some_same id x z in let low : id < base + k = search (tests, is_a) in let late : k ≤ d = search (tests, is_b) in (kind, (same, refl, late), omega arith)
  by_tests true false is_a is_b z = absurd (cc)
  by_tests false b is_a is_b z = absurd (cc)

module _ (key : Key) (m : ℕ → ℕ → ℕ) (w : World) (views : List View) (id : ℕ) (v : View) (i : Inv key m w views) (at : get_elem? views id ≡ some v) (knows : v.key ≡ key) (entry : ℕ) (room : entry < key.entries) where
  abbrev s : StampWord
  s = w.stamps entry

  pub seen_low : length v.log ≤ length w.log
  seen_low = let saw = i.saw id v at in let a : length w.log ≡ length (v.log ++ saw.0) = ap length saw.1 in let b = length_more v.log saw.0 in omega arith where
    length_more : (l k : List Place) → length l ≤ length (l ++ k)
    length_more [] k = omega arith
    length_more (x ∷ l) k = let h = length_more l k in omega arith

  -- the last place of the log is complete, where the seat has helped up to its end
  pub last_helped : (k n : ℕ) → HasHelped v k → n + 1 ≡ k → n + 1 ≡ length w.log → IsComplete key.carried.base (m NOTE) w.uses w.stamps w.log n
  last_helped k n has is last = by_helped v.helped refl has where
    by_helped : (o : Option ℕ) → v.helped ≡ o → helped_up_to o k ≡ true → IsComplete key.carried.base (m NOTE) w.uses w.stamps w.log n
    by_helped None e z = let zero_k : k ≡ 0 = search (tests, z) in absurd (omega arith)
    by_helped (Some h) e z = let le : k ≤ h + 1 = search (tests, z) in let g = (i.helps id v at).helped h e in let low = g.0 in let l = seen_low in let same : h ≡ n = omega arith in
        subst (IsComplete key.carried.base (m NOTE) w.uses w.stamps w.log) same g.1

  pub holds_fits : (x : ℕ) (t : StampWord) → w.uses entry ≡ holds x → s ≡ t → StampFits key.carried w.log w.returned entry (holds x) t
  holds_fits x t is e = subst (λ (z : Use × StampWord). StampFits key.carried w.log w.returned entry z.0 z.1) (λ j. (is j, e j)) (i.stamps.fits entry room)

  not_unborn : (k : ℕ) → HasHelped v k → (n : ℕ) → n + 1 ≡ k → w.uses entry ≡ holds (key.carried.base + n) → s ≡ Unborn → ⊥
  not_unborn k has n is held unborn = let f = holds_fits (key.carried.base + n) Unborn held unborn in let a = f.1 in let b = f.2 in let dec = (i.uses.holding (key.carried.base + n) entry room held).0 in
      let last : n + 1 ≡ length w.log = omega arith in
      ⊎_elim (λ (c : At key.carried.list entry (record { id = key.carried.base + n; unit = dec.0 })). let low = carried_low n dec.0 c in omega arith)
      (λ t. let z = t.1 in let same : t.0 ≡ n = omega arith in (last_helped k n has is last).born dec.0 entry (subst (λ (y : ℕ). IsDecl w.log y dec.0 entry) same t.2) held unborn) dec.1 where
        carried_low : (y : ℕ) (unit : Unit64) → At key.carried.list entry (record { id = key.carried.base + y; unit = unit }) → key.carried.base + y < key.carried.base
        carried_low y unit c = carried_below key.carried entry (key.carried.base + y) unit i.key_part.opening c

  not_living : (k : ℕ) → HasHelped v k → (n x kind : ℕ) → n + 1 ≡ k → IsWd w.log n x entry → w.uses entry ≡ holds x → s ≡ Live kind x → ⊥
  not_living k has n x kind is wd held live = let f = holds_fits x (Live kind x) held live in let last = f.2 n entry wd in (last_helped k n has is last).dead x entry kind wd held live

  -- what the seat knows at a front on which it relies, once it has helped up to it
  low_returned : (k : ℕ) → ReliesOn v k → w.returned ≤ k
  low_returned k relies = let a = front_above key.sizes.callers w.accounts w.owner w.log w.word w.begun w.returned w.floor w.freed id k v (i.owns id v at) (i.fits_pin id v at) (i.above_floor id v at) i.floors relies in let b = i.sweep.order in omega arith

  low_front : (k : ℕ) → ReliesOn v k → k ≤ length v.log
  low_front k relies = ((i.fits_pin id v at).fronts k relies).2

  same_take : (k : ℕ) → k ≤ length v.log → take k w.log ≡ take k v.log
  same_take k low = let saw = i.saw id v at in ap (take k) saw.1 ∙ take-append-le k v.log saw.0 low

  pub shows : (k : ℕ) → ReliesOn v k → HasHelped v k → Shows v.key.carried (take k v.log) k entry s
  shows k relies has = let low = low_front k relies in let l = seen_low in
      subst (λ (z : Key). Shows z.carried (take k v.log) k entry s) (sym knows) (subst (λ (log : List Place). Shows key.carried log k entry s) (same_take k low) record {
        live = λ x unit live. looks_live key (m LOG) w.log w.returned k entry x unit w.uses s i.key_part.opening.below i.uses (low_returned k relies) (omega arith) (i.stamps.fits entry room) (not_unborn k has) live;
        nothing_else = λ x kind looks below. nothing_else key (m LOG) w.log w.returned k entry w.uses s i.key_part.opening i.log.lawful i.uses (low_returned k relies) (omega arith) room (i.stamps.fits entry room) (not_living k has) x kind looks below;
      })

  -- the declaration that it finds live is so
  pub found_live : (f : Found) → found_at v.front entry s v ≡ Some f → (f.place ≤ length v.log) × ((unit : Unit64) × IsLiveIn key.carried (take f.place v.log) f.id unit f.entry)
  found_live f e = by_front v.front refl e where
    by_id : (k : ℕ) (o : Option ℕ) → ReliesOn v k → HasHelped v k → live_id v.key.carried.base k s ≡ o → noted_live o k entry v.found ≡ Some f → (f.place ≤ length v.log) × ((unit : Unit64) × IsLiveIn key.carried (take f.place v.log) f.id unit f.entry)
    by_id k None relies has is z = i.found id v at f z
    by_id k (Some x) relies has is z = let n = named_live v.key.carried.base k x s is in let sh = (shows k relies has).nothing_else x n.0 n.1 n.2 in
        let live : (unit : Unit64) × IsLiveIn key.carried (take k v.log) x unit entry = (sh.0, subst (λ (y : Key). IsLiveIn y.carried (take k v.log) x sh.0 entry) knows sh.1) in
        subst (λ (y : Found). (y.place ≤ length v.log) × ((unit : Unit64) × IsLiveIn key.carried (take y.place v.log) y.id unit y.entry)) (some_same (record { id = x; entry = entry; place = k }) f z) (low_front k relies, live)

    by_helped : (k : ℕ) (b : Bool) → v.front ≡ Some k → helped_up_to v.helped k ≡ b → cond b (noted_live (live_id v.key.carried.base k s) k entry v.found) v.found ≡ Some f → (f.place ≤ length v.log) × ((unit : Unit64) × IsLiveIn key.carried (take f.place v.log) f.id unit f.entry)
    by_helped k true front has z = by_id k (live_id v.key.carried.base k s) (inl front) has refl z
    by_helped k false front has z = i.found id v at f z

    by_front : (o : Option ℕ) → v.front ≡ o → found_at o entry s v ≡ Some f → (f.place ≤ length v.log) × ((unit : Unit64) × IsLiveIn key.carried (take f.place v.log) f.id unit f.entry)
    by_front None is z = i.found id v at f z
    by_front (Some k) is z = by_helped k (helped_up_to v.helped k) is refl z

  -- what the query meets is of its bucket
  pub met_live : (l k : ℕ) (x : Met) → v.snapshot ≡ Some k → At (met_at v.cursor entry s v.met) l x → MetFits key (m CODE) w.log w.uses w.linked k x
  met_live l k x opened there = by_cursor v.cursor refl there where
    by_same : (c : Cursor) (b : Bool) → v.cursor ≡ Some c → (c.entry == entry) ≡ b → At (cond b (v.met ++ record { table = c.table; bucket = c.bucket; entry = entry; id = id_of s } ∷ []) v.met) l x → MetFits key (m CODE) w.log w.uses w.linked k x
    by_same c true is same z = let here : c.entry ≡ entry = search (tests, same) in ⊎_elim (λ old. i.meets id v at l k x opened old)
        (λ t. subst (MetFits key (m CODE) w.log w.uses w.linked k) t.1 (subst (λ (y : ℕ). MetFits key (m CODE) w.log w.uses w.linked k (record { table = c.table; bucket = c.bucket; entry = y; id = id_of (w.stamps y) })) here (met_fits key m w views id v i at c is k opened)))
        (at_one_more v.met _ x l z)
    by_same c false is same z = i.meets id v at l k x opened z

    by_cursor : (o : Option Cursor) → v.cursor ≡ o → At (met_at o entry s v.met) l x → MetFits key (m CODE) w.log w.uses w.linked k x
    by_cursor None is z = i.meets id v at l k x opened z
    by_cursor (Some c) is z = by_same c (c.entry == entry) is refl z
