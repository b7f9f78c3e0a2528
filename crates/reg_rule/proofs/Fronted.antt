-- A seat has found the front: it is noted under a pin, by the holder that has unlinked an entry, and where a snapshot opens.
use Rattle.std.proofs.Common.{◌≡◌, ◌≢◌, ℕ, zero, suc, ◌<◌, ◌≤◌, is_some, ltb, not, ◌&&◌, cond, Bool, true, false, inr, ⊎_elim, List, [], ◌∷◌, length, set, Option, None, Some, sym, ap, ◌∙◌, refl, subst, arith, ltb-true}
use mathlib.Core.Option.{some}
use lib.ListN.{get_elem?}
use Rattle.atomic_table.proofs.Lists.{set_again}
use Rattle.reg_words.specs.Memory.{TAKE, PUT, PIN, CODE, NEXT, GIVE, NOTE}
use Rattle.reg_rule.specs.declared.view.Key.{Key}
use Rattle.reg_rule.specs.declared.view.Place.{Place}
use Rattle.reg_rule.specs.declared.view.Holding.{Holding}
use Rattle.reg_rule.specs.declared.view.View.{View}
use Rattle.reg_rule.specs.inner.World.{World}
use Rattle.reg_rule.specs.Log.{IsWd, Declares}
use Rattle.reg_rule.specs.inner.SeatParts.{Knows, Owns, Saw, HasSessions}
use Rattle.reg_rule.specs.inner.Entries.{CountsPart}
use Rattle.reg_rule.specs.inner.PinParts.{FitsRows, FoundLive, FewExchanges, FitsPin, Pinned, AboveFloor}
use Rattle.reg_rule.specs.inner.HelpParts.{Helps}
use Rattle.reg_rule.specs.Tables.{is_in, are_all}
use Rattle.reg_rule.specs.inner.HandParts.{Holds}
use Rattle.reg_rule.specs.inner.Walks.{Cursors, Covers}
use Rattle.reg_rule.specs.inner.Takers.{Takes, FoundEmpty, Stopped}
use Rattle.reg_rule.specs.inner.HolderParts.{LastWord, IsHolder, AtWord, WordFits, Idles, Scans, ScansFit, Cuts, CutsFit, Gives, GivesFit, Victims, VictimFits}
use Rattle.reg_rule.specs.inner.Queries.{Meets, Costs}
use Rattle.reg_rule.specs.inner.Rule.{Inv}
use Rattle.reg_rule.specs.Moves.{marked_at, fronted}
use Rattle.reg_rule.proofs.Views.{each_set, each_moves}
use Rattle.reg_rule.proofs.Counted.{total_set, set_at_own, set_is_seat, set_in_hands}
use Rattle.reg_rule.proofs.Shows.{declares_more}
use Rattle.reg_rule.proofs.Fits.{Fits, fits_of}
use Rattle.reg_rule.proofs.Sets.{fits_set}
use Rattle.reg_rule.proofs.Variants.{some_same}
use Rattle.reg_rule.proofs.CursorsSeen.{cursors_marked}

pub set_twice : {A : Type 0} (l : List A) (i : ℕ) (a b : A) → set (set l i a) i b ≡ set l i b
set_twice [] i a b = refl
set_twice (x ∷ xs) zero a b = refl
set_twice (x ∷ xs) (suc i) a b = λ k. x ∷ set_twice xs i a b k

four_true : (a b c d : Bool) → (a && b && c && d) ≡ true → (a ≡ true) × (b ≡ true) × (c ≡ true) × (d ≡ true)
four_true true true true true e = (refl, refl, refl, refl)
four_true true true true false e = absurd (cc)
four_true true true false d e = absurd (cc)
four_true true false c d e = absurd (cc)
four_true false b c d e = absurd (cc)

pub all_in : (cut : List ℕ) (table : ℕ) → table < 4 → are_all cut ≡ true → is_in table cut ≡ true
all_in cut zero low e = (four_true (is_in 0 cut) (is_in 1 cut) (is_in 2 cut) (is_in 3 cut) e).0
all_in cut (suc zero) low e = (four_true (is_in 0 cut) (is_in 1 cut) (is_in 2 cut) (is_in 3 cut) e).1
all_in cut (suc (suc zero)) low e = (four_true (is_in 0 cut) (is_in 1 cut) (is_in 2 cut) (is_in 3 cut) e).2
all_in cut (suc (suc (suc zero))) low e = (four_true (is_in 0 cut) (is_in 1 cut) (is_in 2 cut) (is_in 3 cut) e).3
all_in cut (suc (suc (suc (suc n)))) low e = absurd (omega arith)

not_none : (cut : List ℕ) → are_all cut ≡ true → cut ≢ []
not_none cut all none = let z : are_all cut ≡ false = ap are_all none in absurd (cc)

-- the mark of the entry that the holder has unlinked from all tables
marked_inv : (key : Key) (m : ℕ → ℕ → ℕ) (w : World) (views : List View) (id : ℕ) (v : View) (h : Holding) (k : ℕ) → Inv key m w views → get_elem? views id ≡ some v → v.holding ≡ Some h
    → w.log ≡ v.log → k ≡ length v.log → h.word.limbo ≡ false → are_all h.cut ≡ true → Inv key m (record w { mark = Some k }) (set views id (record v { holding = Some (record h { marked = Some k }) }))
marked_inv key m w views id v h k i at holds all here out cut =
    let h' : Holding = record h { marked = Some k } in let u : View = record v { holding = Some h' } in let sessions_fit = i.has_sessions id v at in let one : is_some v.holding ≡ true = ap is_some holds in let own = i.is_holder id v at in
    let loosened : (j : ℕ) (d : View) → get_elem? views j ≡ some d → Cursors key (m NEXT) w.log w.chains w.linked w.begun w.returned (Some k) w.freed j d = λ j d there.
    subst (λ (n : ℕ). Cursors key (m NEXT) w.log w.chains w.linked w.begun w.returned (Some n) w.freed j d) (sym (here ∙ sym (ap length all))) (cursors_marked key m w views j d i there) in record {
      key_part = i.key_part;
      log = i.log;
      notes = i.notes;
      accounts = i.accounts;
      uses = i.uses;
      stamps = i.stamps;
      codes = i.codes;
      counts = subst (CountsPart key (m TAKE) (m PUT) w.log w.returned w.taken w.put) (sym (total_set (λ x. length x.hands) views id v u at refl)) i.counts;
      ring = i.ring;
      chains = i.chains;
      links = i.links;
      sweep = i.sweep;
      reclaimed = record {
        dead = i.reclaimed.dead;
        apart = λ d withdrawn entry mark rec is.
            let same : k ≡ mark = cc in let work = (i.cuts id v at h holds).cut out (not_none h.cut cut) in let last = rec.last in let begun = work.0 in let place : d ≡ h.place = omega arith in let inside = work.3 in
            let live = i.log.lawful d withdrawn entry rec.withdraws in
            let wd : IsWd v.log h.place withdrawn entry = subst (λ (l : List Place). IsWd l h.place withdrawn entry) all (subst (λ (z : ℕ). IsWd w.log z withdrawn entry) place rec.withdraws) in
            let declares : Declares key.carried v.log withdrawn live.0 entry = subst (λ (l : List Place). Declares key.carried l withdrawn live.0 entry) all (declares_more key.carried w.log d withdrawn entry live.0 live.1.declares) in
            let fit = i.victims id v at h withdrawn entry live.0 holds wd declares in
            let long : length w.log ≡ length v.log = ap length all in
            ((λ table low. (fit.tables table low out).1 (all_in h.cut table low cut)), omega arith, omega arith);
        marked = λ l. let word : w.word.limbo ≡ false = ap (λ z. z.limbo) (i.at_word id v at h holds).word_is ∙ out in absurd (cc);
      };
      floors = i.floors;
      sessions = total_set (λ x. length x.accounts) views id v u at refl ∙ i.sessions;
      in_hands = set_in_hands w.uses views id v u refl at i.in_hands;
      sweeper = set_is_seat w.holder views id v u at i.sweeper;
      knows = each_set (Knows key) views id u i.knows (i.knows id v at);
      owns = each_set (Owns key.sizes.callers w.accounts w.owner) views id u i.owns (i.owns id v at);
      saw = each_set (Saw w.log) views id u i.saw (i.saw id v at);
      has_sessions = each_set HasSessions views id u i.has_sessions (record { hands_most = sessions_fit.hands_most; holding = λ e. sessions_fit.holding one; spent = sessions_fit.spent });
      rows = each_set (FitsRows key) views id u i.rows (i.rows id v at);
      found = each_set (FoundLive key) views id u i.found (i.found id v at);
      exchanges = each_set FewExchanges views id u i.exchanges (i.exchanges id v at);
      fits_pin = each_set FitsPin views id u i.fits_pin (i.fits_pin id v at);
      pinned = each_set (Pinned (m PIN)) views id u i.pinned (i.pinned id v at);
      above_floor = each_set (AboveFloor w.floor) views id u i.above_floor (i.above_floor id v at);
      helps = each_set (Helps key (m NOTE) w.log w.uses w.stamps) views id u i.helps (i.helps id v at);
      hands = each_set (Holds key (m CODE) (m NEXT) w.uses w.stamps w.linked) views id u i.hands (i.hands id v at);
      cursors = each_set (Cursors key (m NEXT) w.log w.chains w.linked w.begun w.returned (Some k) w.freed) views id u loosened (loosened id v at);
      covers = each_set (Covers key (m NEXT) w.chains) views id u i.covers (i.covers id v at);
      takes = each_set (Takes w.taken w.put w.ring) views id u i.takes (i.takes id v at);
      found_empty = each_set (FoundEmpty key w.log) views id u i.found_empty (i.found_empty id v at);
      stopped = each_set (Stopped w.log w.returned) views id u i.stopped (i.stopped id v at);
      last_word = each_set (LastWord w.word) views id u i.last_word (i.last_word id v at);
      is_holder = each_set (IsHolder w.holder) views id u i.is_holder ((λ e. own.0 one), (λ e. refl));
      at_word = each_set (AtWord w.log w.word) views id u i.at_word (λ x e. subst (λ (z : Holding). WordFits w.log w.word z.word z.place) (some_same h' x e) (i.at_word id v at h holds));
      idles = each_set Idles views id u i.idles (λ x e. subst (λ (z : Holding). length v.log ≤ z.place → (z.stamped ≡ false) × (z.cut ≡ []) × (z.way ≡ None) × (z.behind ≡ None) × (z.gave ≡ false)) (some_same h' x e) (i.idles id v at h holds));
      scans = each_set (Scans w.floor w.freed) views id u i.scans (λ x e. subst (λ (z : Holding). ScansFit w.floor w.freed z.place z.clear z.freed) (some_same h' x e) (i.scans id v at h holds));
      cuts = each_moves (IsHolder w.holder) (Cuts w.begun w.returned (Some k)) views id u i.is_holder
          (λ j d ne hold x e. let other : w.holder ≡ Some j = hold.0 (ap is_some e) in let mine : w.holder ≡ Some id = own.0 one in let same : j ≡ id = cc in absurd (ne same))
          (λ x e. subst (λ (z : Holding). CutsFit w.begun w.returned (length v.log) (Some k) z.word.limbo z.stamped z.place z.cut z.marked) (some_same h' x e)
          (let o = i.cuts id v at h holds in record { uncut = o.uncut; cut = o.cut; unmarked = λ l none. absurd (cc); mark_is = λ n l e. (e, cut) }));
      gives = each_set (Gives key (m GIVE) w.returned w.put) views id u i.gives (λ x e. subst (λ (z : Holding). GivesFit key (m GIVE) v.log w.returned w.put z.word.limbo z.place z.put z.gave z.paid) (some_same h' x e) (i.gives id v at h holds));
      victims = each_set (Victims key (m NEXT) w.stamps w.chains w.linked w.returned) views id u i.victims
          (λ x withdrawn entry unit e. subst (λ (z : Holding). IsWd v.log z.place withdrawn entry → Declares key.carried v.log withdrawn unit entry → VictimFits key (m NEXT) w.stamps w.chains w.linked w.returned z.word.limbo z.stamped z.place z.cut z.behind z.way withdrawn entry unit)
          (some_same h' x e) (λ wd declares. i.victims id v at h withdrawn entry unit holds wd declares));
      meets = each_set (Meets key (m CODE) w.log w.uses w.linked) views id u i.meets (i.meets id v at);
      costs = each_set (Costs key w.log) views id u i.costs (i.costs id v at);
    }

-- ---- the front is noted

abbrev Marks : Key → (ℕ → ℕ → ℕ) → World → List View → ℕ → View → Type 0
Marks key m w views id u = (mark : Option ℕ) × Inv key m (record w { mark = mark }) (set views id u)

not_and : (a b : Bool) → (not a && b) ≡ true → (a ≡ false) × (b ≡ true)
not_and false b e = (refl, e)
not_and true b e = absurd (cc)

marks_if : (key : Key) (m : ℕ → ℕ → ℕ) (w : World) (views : List View) (id : ℕ) (v : View) (k : ℕ) (h : Holding) (b : Bool) → (not h.word.limbo && are_all h.cut) ≡ b → Some h ≡ v.holding → Inv key m w views → get_elem? views id ≡ some v
    → w.log ≡ v.log → k ≡ length v.log → Marks key m w views id (record v { holding = Some (cond b (record h { marked = Some k }) h) })
marks_if key m w views id v k h true e is i at all here = let both = not_and h.word.limbo (are_all h.cut) e in (Some k, marked_inv key m w views id v h k i at (sym is) all here both.0 both.1)
marks_if key m w views id v k h false e is i at all here = (w.mark, subst (λ (y : Option Holding). Inv key m w (set views id (record v { holding = y }))) (sym is) (subst (Inv key m w) (sym (set_again views id v at)) i))

marks_by : (key : Key) (m : ℕ → ℕ → ℕ) (w : World) (views : List View) (id : ℕ) (v : View) (k : ℕ) (x : Option Holding) → x ≡ v.holding → Inv key m w views → get_elem? views id ≡ some v → w.log ≡ v.log → k ≡ length v.log
    → Marks key m w views id (record v { holding = marked_at x k })
marks_by key m w views id v k None is i at all here = (w.mark, subst (λ (y : Option Holding). Inv key m w (set views id (record v { holding = y }))) (sym is) (subst (Inv key m w) (sym (set_again views id v at)) i))
marks_by key m w views id v k (Some h) is i at all here = marks_if key m w views id v k h (not h.word.limbo && are_all h.cut) refl is i at all here

front_by : (key : Key) (m : ℕ → ℕ → ℕ) (w : World) (views : List View) (id : ℕ) (v : View) (k : ℕ) (b : Bool) → (b ≡ true → 0 < v.pin) → Inv key m w views → get_elem? views id ≡ some v → w.log ≡ v.log → k ≡ length v.log
    → Fits key m w id (record v { front = cond b (Some k) v.front })
front_by key m w views id v k false pin i at all here = fits_of key m w views i id v at
front_by key m w views id v k true pin i at all here = let f = fits_of key m w views i id v at in let low = pin refl in record {
  knows = f.knows;
  owns = f.owns;
  saw = f.saw;
  has_sessions = f.has_sessions;
  rows = f.rows;
  found = f.found;
  exchanges = f.exchanges;
  fits_pin = record { session = f.fits_pin.session; covers = f.fits_pin.covers; fronts = λ n h. ⊎_elim (λ e. let same : k ≡ n = cc in let c = f.fits_pin.covers in (low, omega arith, omega arith)) (λ e. f.fits_pin.fronts n (inr e)) h; cursor_pinned = f.fits_pin.cursor_pinned };
  pinned = f.pinned;
  above_floor = λ n j of relies. ⊎_elim (λ e. let same : k ≡ j = cc in let o = (i.owns id v at 0 of.0 of.1).below in let num = of.2 in let a = i.floors.ahead n (omega arith) in let long : length w.log ≡ length v.log = ap length all in omega arith) (λ e. f.above_floor n j of (inr e)) relies;
  helps = f.helps;
  hands = f.hands;
  cursors = f.cursors;
  covers = f.covers;
  takes = f.takes;
  found_empty = f.found_empty;
  stopped = f.stopped;
  last_word = f.last_word;
  is_holder = f.is_holder;
  at_word = f.at_word;
  idles = f.idles;
  scans = f.scans;
  cuts = f.cuts;
  gives = f.gives;
  victims = f.victims;
  meets = f.meets;
  costs = f.costs;
}

pub fronted_inv : (key : Key) (m : ℕ → ℕ → ℕ) (w : World) (views : List View) (id : ℕ) (v : View) (k : ℕ) → Inv key m w views → get_elem? views id ≡ some v → w.log ≡ v.log → k ≡ length v.log → Marks key m w views id (fronted v k)
fronted_inv key m w views id v k i at all here =
    let u : View = record v { front = cond (ltb 0 v.pin) (Some k) v.front } in
    let j = fits_set key m w views id v u i at refl refl (front_by key m w views id v k (ltb 0 v.pin) (λ e. ltb-true 0 v.pin e) i at all here) in
    let done = marks_by key m w (set views id u) id u k v.holding refl j (set_at_own views id v u at) all here in
    (done.0, subst (Inv key m (record w { mark = done.0 })) (set_twice views id u (fronted v k)) done.1)
