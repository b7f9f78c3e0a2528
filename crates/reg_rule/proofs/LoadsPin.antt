-- Kind 18: a load of the pin of a session, by the holder of the sweep. A pin that is out of the way raises what is known
-- of the session: its floor in the first scan, and in the second that its seat has no cursor at the entry in limbo.
use Rattle.std.proofs.Common.{◌≡◌, ℕ, ◌+◌, ◌<◌, ◌≤◌, max, is_some, eqb, cond, Bool, true, false, List, [], length, set, get_or, Option, None, Some, sym, ap, ◌∙◌, refl, subst, arith, length-append}
use mathlib.Core.Logic.{dite}
use native.Mathlib.Decide.{ℕ_discrete}
use mathlib.Core.Option.{none, some}
use lib.ListN.{get_elem?}
use Rattle.atomic_table.specs.Table.{step, keeps, Allows}
use Rattle.reg_words.specs.declared.word.SweepWord.{SweepWord}
use Rattle.reg_words.specs.Memory.{TAKE, PUT, PIN, CODE, NEXT, GIVE, NOTE, start, mem, set_at}
use Rattle.reg_words.proofs.Memory.{mem-read, set_at-here, set_at-else}
use Rattle.reg_rule.specs.declared.view.Key.{Key}
use Rattle.reg_rule.specs.declared.view.Holding.{Holding}
use Rattle.reg_rule.specs.declared.view.View.{View}
use Rattle.reg_rule.specs.inner.World.{World}
use Rattle.reg_rule.specs.Log.{IsWd, Declares}
use Rattle.reg_rule.specs.inner.SeatParts.{Knows, Owns, Saw, HasSessions}
use Rattle.reg_rule.specs.inner.Entries.{CountsPart}
use Rattle.reg_rule.specs.inner.Sweeping.{FloorsPart}
use Rattle.reg_rule.specs.inner.PinParts.{FitsRows, FoundLive, FewExchanges, FitsPin, Pinned, AboveFloor}
use Rattle.reg_rule.specs.inner.HelpParts.{Helps}
use Rattle.reg_rule.specs.inner.HandParts.{Holds}
use Rattle.reg_rule.specs.inner.Walks.{Cursors, Covers}
use Rattle.reg_rule.specs.inner.Takers.{Takes, FoundEmpty, Stopped}
use Rattle.reg_rule.specs.inner.HolderParts.{LastWord, IsHolder, AtWord, WordFits, Idles, Scans, ScansFit, Cuts, CutsFit, Gives, GivesFit, Victims, VictimFits}
use Rattle.reg_rule.specs.inner.Queries.{Meets, Costs}
use Rattle.reg_rule.specs.inner.Rule.{Inv, Kept, sizes}
use Rattle.reg_rule.specs.Moves.{did, is_free, on_holding, scanned, pin_loaded}
use Rattle.reg_rule.specs.Conditions.{MayLoadPin}
use Rattle.reg_rule.specs.Steps.{PinLoaded}
use Rattle.reg_rule.specs.inner.Plays.{Sat, seated}
use Rattle.reg_rule.proofs.Views.{each_set, each_moves}
use Rattle.reg_rule.proofs.Counted.{total_set, set_is_seat, count_more, set_in_hands}
use Rattle.reg_rule.proofs.Doors.{load_keeps}
use Rattle.reg_rule.proofs.Variants.{some_same}
use Rattle.reg_rule.proofs.FloorsKept.{above_scanned, floors_scanned, floors_searched}
use Rattle.reg_rule.proofs.CursorsSeen.{cursors_searched}
use Rattle.reg_rule.proofs.StampsKept.{at_set}
use Rattle.reg_rule.proofs.Sets.{counted_inv}
use Rattle.reg_rule.proofs.RowsEnter.{has_head}

-- what the holder noted of its scans
abbrev scan : Holding → ℕ → ℕ → Holding
scan h clear found_free = record h { clear = clear; freed = found_free }

abbrev with_scan : View → Holding → ℕ → ℕ → View
with_scan v h clear found_free = record v { holding = Some (scan h clear found_free); made = did v 18 }

-- the rule once the holder has noted more, and floors and freed numbers have risen
rescanned_inv : (key : Key) (m : ℕ → ℕ → ℕ) (w : World) (views : List View) (id : ℕ) (v : View) (h : Holding) (clear found_free : ℕ) (floor freed : ℕ → ℕ) → Inv key m w views → get_elem? views id ≡ some v → v.holding ≡ Some h
    → FloorsPart key.sizes.callers w.log w.word w.begun w.returned floor freed
    → ((j : ℕ) (d : View) → get_elem? views j ≡ some d → AboveFloor floor j d)
    → ((j : ℕ) (d : View) → get_elem? views j ≡ some d → Cursors key (m NEXT) w.log w.chains w.linked w.begun w.returned w.mark freed j d)
    → ((n : ℕ) → w.floor n ≤ floor n) → ((n : ℕ) → w.freed n ≤ freed n)
    → ScansFit floor freed h.place clear found_free
    → Inv key m (record w { floor = floor; freed = freed }) (set views id (with_scan v h clear found_free))
rescanned_inv key m w views id v h clear found_free floor freed i at holds floors above cursors floor_rises freed_rises scans =
    let u : View = with_scan v h clear found_free in let h' : Holding = scan h clear found_free in let sessions_fit = i.has_sessions id v at in let one : is_some v.holding ≡ true = ap is_some holds in let own = i.is_holder id v at in record {
      key_part = i.key_part;
      log = i.log;
      notes = i.notes;
      accounts = i.accounts;
      uses = i.uses;
      stamps = i.stamps;
      codes = i.codes;
      counts = subst (CountsPart key (m TAKE) (m PUT) w.log w.returned w.taken w.put) (sym (total_set (λ x. length x.hands) views id v u at refl)) i.counts;
      ring = i.ring;
      chains = i.chains;
      links = i.links;
      sweep = i.sweep;
      reclaimed = i.reclaimed;
      floors = floors;
      sessions = total_set (λ x. length x.accounts) views id v u at refl ∙ i.sessions;
      in_hands = set_in_hands w.uses views id v u refl at i.in_hands;
      sweeper = set_is_seat w.holder views id v u at i.sweeper;
      knows = each_set (Knows key) views id u i.knows (i.knows id v at);
      owns = each_set (Owns key.sizes.callers w.accounts w.owner) views id u i.owns (i.owns id v at);
      saw = each_set (Saw w.log) views id u i.saw (i.saw id v at);
      has_sessions = each_set HasSessions views id u i.has_sessions (record { hands_most = sessions_fit.hands_most; holding = λ e. sessions_fit.holding one; spent = sessions_fit.spent });
      rows = each_set (FitsRows key) views id u i.rows (i.rows id v at);
      found = each_set (FoundLive key) views id u i.found (i.found id v at);
      exchanges = each_set FewExchanges views id u i.exchanges (let c = count_more (λ k. eqb k 2) v.made 18 refl in let e = i.exchanges id v at in omega arith);
      fits_pin = each_set FitsPin views id u i.fits_pin (i.fits_pin id v at);
      pinned = each_set (Pinned (m PIN)) views id u i.pinned (i.pinned id v at);
      above_floor = each_set (AboveFloor floor) views id u above (above id v at);
      helps = each_set (Helps key (m NOTE) w.log w.uses w.stamps) views id u i.helps (i.helps id v at);
      hands = each_set (Holds key (m CODE) (m NEXT) w.uses w.stamps w.linked) views id u i.hands (i.hands id v at);
      cursors = each_set (Cursors key (m NEXT) w.log w.chains w.linked w.begun w.returned w.mark freed) views id u cursors (cursors id v at);
      covers = each_set (Covers key (m NEXT) w.chains) views id u i.covers (i.covers id v at);
      takes = each_set (Takes w.taken w.put w.ring) views id u i.takes (i.takes id v at);
      found_empty = each_set (FoundEmpty key w.log) views id u i.found_empty (i.found_empty id v at);
      stopped = each_set (Stopped w.log w.returned) views id u i.stopped (i.stopped id v at);
      last_word = each_set (LastWord w.word) views id u i.last_word (i.last_word id v at);
      is_holder = each_set (IsHolder w.holder) views id u i.is_holder ((λ e. own.0 one), (λ e. refl));
      at_word = each_set (AtWord w.log w.word) views id u i.at_word (λ x e. subst (λ (z : Holding). WordFits w.log w.word z.word z.place) (some_same h' x e) (i.at_word id v at h holds));
      idles = each_set Idles views id u i.idles (λ x e. subst (λ (z : Holding). length v.log ≤ z.place → (z.stamped ≡ false) × (z.cut ≡ []) × (z.way ≡ None) × (z.behind ≡ None) × (z.gave ≡ false)) (some_same h' x e) (i.idles id v at h holds));
      scans = each_moves (Scans w.floor w.freed) (Scans floor freed) views id u i.scans
          (λ j d ne f x e. let s = f x e in record { clear_of = λ n low. let a = s.clear_of n low in let b = floor_rises n in omega arith; free_of = λ n low. let a = s.free_of n low in let b = freed_rises n in omega arith })
          (λ x e. subst (λ (z : Holding). ScansFit floor freed z.place z.clear z.freed) (some_same h' x e) scans);
      cuts = each_set (Cuts w.begun w.returned w.mark) views id u i.cuts (λ x e. subst (λ (z : Holding). CutsFit w.begun w.returned (length v.log) w.mark z.word.limbo z.stamped z.place z.cut z.marked) (some_same h' x e) (i.cuts id v at h holds));
      gives = each_set (Gives key (m GIVE) w.returned w.put) views id u i.gives (λ x e. subst (λ (z : Holding). GivesFit key (m GIVE) v.log w.returned w.put z.word.limbo z.place z.put z.gave z.paid) (some_same h' x e) (i.gives id v at h holds));
      victims = each_set (Victims key (m NEXT) w.stamps w.chains w.linked w.returned) views id u i.victims
          (λ x withdrawn entry unit e. subst (λ (z : Holding). IsWd v.log z.place withdrawn entry → Declares key.carried v.log withdrawn unit entry → VictimFits key (m NEXT) w.stamps w.chains w.linked w.returned z.word.limbo z.stamped z.place z.cut z.behind z.way withdrawn entry unit)
          (some_same h' x e) (λ wd declares. i.victims id v at h withdrawn entry unit holds wd declares));
      meets = each_set (Meets key (m CODE) w.log w.uses w.linked) views id u i.meets (i.meets id v at);
      costs = each_set (Costs key w.log) views id u i.costs (i.costs id v at);
    }

-- ---- floors and freed numbers, raised for one session

abbrev raised : (ℕ → ℕ) → ℕ → ℕ → ℕ → ℕ
raised f n x = set_at f n (max (f n) x)

raised-rises : (f : ℕ → ℕ) (n x k : ℕ) → f k ≤ raised f n x k
raised-rises f n x k = dite (ℕ_discrete k n)
    (λ same. let h : raised f n x k ≡ max (f n) x = ap (raised f n x) same ∙ set_at-here f n (max (f n) x) in let g : f k ≡ f n = ap f same in omega arith)
    (λ apart. let h = set_at-else f n (max (f n) x) k apart in omega arith)

raised-here : (f : ℕ → ℕ) (n x k : ℕ) → k ≡ n → raised f n x k ≡ max (f n) x
raised-here f n x k same = ap (raised f n x) same ∙ set_at-here f n (max (f n) x)

-- the first scan: no front that the seat relies on, or will, is at the place or before it
first_scan : (key : Key) (m : ℕ → ℕ → ℕ) (w : World) (views : List View) (id : ℕ) (v : View) (h : Holding) (seat : ℕ) → Inv key m w views → get_elem? views id ≡ some v → v.holding ≡ Some h
    → seat ≡ h.clear → h.place < length v.log → is_free (m PIN seat) h.place ≡ true
    → Inv key m (record w { floor = raised w.floor seat (h.place + 1); freed = w.freed }) (set views id (with_scan v h (seat + 1) h.freed))
first_scan key m w views id v h seat i at holds next inside free =
    let saw = i.saw id v at in let old = i.scans id v at h holds in
    let long : length w.log ≡ length v.log + length saw.0 = ap length saw.1 ∙ length-append v.log saw.0 in
    rescanned_inv key m w views id v h (seat + 1) h.freed (raised w.floor seat (h.place + 1)) w.freed i at holds
    (floors_scanned key.sizes.callers w.log w.word w.begun w.returned w.floor w.freed seat h.place (omega arith) i.floors)
    (λ j d there. above_scanned (m PIN) w.floor j seat h.place d (i.pinned j d there) (i.fits_pin j d there) free (i.above_floor j d there))
    i.cursors
    (raised-rises w.floor seat (h.place + 1))
    (λ n. omega arith)
    record {
      clear_of = λ n low. dite (ℕ_discrete n seat)
          (λ same. let a = raised-here w.floor seat (h.place + 1) n same in omega arith)
          (λ apart. let a = old.clear_of n (omega arith) in let b = raised-rises w.floor seat (h.place + 1) n in omega arith);
      free_of = old.free_of;
    }

-- the second scan: the seat has no cursor at the entry in limbo
second_scan : (key : Key) (m : ℕ → ℕ → ℕ) (w : World) (views : List View) (id : ℕ) (v : View) (h : Holding) (seat : ℕ) → Inv key m w views → get_elem? views id ≡ some v → v.holding ≡ Some h
    → seat < key.sizes.callers → seat ≡ h.freed → h.word.limbo ≡ true → is_free (m PIN seat) h.word.mark ≡ true
    → Inv key m (record w { freed = set_at w.freed seat w.begun }) (set views id (with_scan v h h.clear (seat + 1)))
second_scan key m w views id v h seat i at holds small next limbo free =
    let old = i.scans id v at h holds in let here = i.at_word id v at h holds in
    let in_limbo : w.word.limbo ≡ true = ap (λ (z : SweepWord). z.limbo) here.word_is ∙ limbo in
    let free_here : is_free (m PIN seat) w.word.mark ≡ true = ap (λ (z : SweepWord). is_free (m PIN seat) z.mark) here.word_is ∙ free in
    let begun = (i.sweep.limbo in_limbo).0 in let place : w.word.place ≡ h.word.place = ap (λ (z : SweepWord). z.place) here.word_is in let stays = here.limbo limbo in
    let most = i.floors.searched seat small in
    rescanned_inv key m w views id v h h.clear (seat + 1) w.floor (set_at w.freed seat w.begun) i at holds
    (floors_searched key.sizes.callers w.log w.word w.begun w.returned w.floor w.freed seat in_limbo i.floors)
    i.above_floor
    (λ j d there. cursors_searched key m w views j d i there seat in_limbo free_here)
    (λ n. omega arith)
    (at_set w.freed seat w.begun (λ n f. w.freed n ≤ f) most (λ n apart. omega arith))
    record {
      clear_of = old.clear_of;
      free_of = λ n low. at_set w.freed seat w.begun (λ k f. k ≡ n → h.place < f) (λ same. omega arith) (λ k apart same. let a = old.free_of n (omega arith) in subst (λ (z : ℕ). h.place < w.freed z) (sym same) a) n refl;
    }

-- ---- the step

abbrev limit : Holding → Bool → ℕ
limit h limbo = cond limbo h.word.mark h.place

scanned-is : (seat pin : ℕ) (h : Holding) (limbo free : Bool) → h.word.limbo ≡ limbo → is_free pin (limit h limbo) ≡ free → scanned seat pin h ≡ cond free (cond limbo (scan h h.clear (seat + 1)) (scan h (seat + 1) h.freed)) h
scanned-is seat pin h true free e f = ap (λ (b : Bool). cond b (cond (is_free pin h.word.mark) (scan h h.clear (seat + 1)) h) (cond (is_free pin h.place) (scan h (seat + 1) h.freed) h)) e ∙ ap (λ (b : Bool). cond b (scan h h.clear (seat + 1)) h) f
scanned-is seat pin h false free e f = ap (λ (b : Bool). cond b (cond (is_free pin h.word.mark) (scan h h.clear (seat + 1)) h) (cond (is_free pin h.place) (scan h (seat + 1) h.freed) h)) e ∙ ap (λ (b : Bool). cond b (scan h (seat + 1) h.freed) h) f

abbrev MayScan : ℕ → View → Holding → Bool → Type 0
MayScan seat v h limbo = cond limbo ((seat ≡ h.freed) × (h.paid ≡ false)) ((seat ≡ h.clear) × (h.stamped ≡ true) × (h.cut ≡ []) × (h.place < length v.log))

abbrev Loaded : Key → (ℕ → ℕ → ℕ) → List View → ℕ → View → ℕ → ℕ → Type 0
Loaded key m views id v seat pin = (w' : World) × Inv key m w' (set views id (pin_loaded v seat pin))

-- what the holder notes, given as an equation
noted_as : (key : Key) (m : ℕ → ℕ → ℕ) (w' : World) (views : List View) (id : ℕ) (v : View) (seat pin : ℕ) (h h' : Holding) → v.holding ≡ Some h → scanned seat pin h ≡ h'
    → Inv key m w' (set views id (record v { holding = Some h'; made = did v 18 })) → Loaded key m views id v seat pin
noted_as key m w' views id v seat pin h h' holds is inv =
    let e : Some h' ≡ on_holding (scanned seat pin) v.holding = sym (ap (on_holding (scanned seat pin)) holds ∙ ap Some is) in
    (w', subst (λ (x : Option Holding). Inv key m w' (set views id (record v { holding = x; made = did v 18 }))) e inv)

scans : (key : Key) (m : ℕ → ℕ → ℕ) (w : World) (views : List View) (id : ℕ) (v : View) (h : Holding) (seat : ℕ) (limbo free : Bool) → seat < key.sizes.callers → Inv key m w views → get_elem? views id ≡ some v → v.holding ≡ Some h
    → h.word.limbo ≡ limbo → is_free (m PIN seat) (limit h limbo) ≡ free → MayScan seat v h limbo → Loaded key m views id v seat (m PIN seat)
scans key m w views id v h seat false true inside i at holds l f may = noted_as key m _ views id v seat (m PIN seat) h _ holds (scanned-is seat (m PIN seat) h false true l f) (first_scan key m w views id v h seat i at holds may.0 may.3 f)
scans key m w views id v h seat true true inside i at holds l f may = noted_as key m _ views id v seat (m PIN seat) h _ holds (scanned-is seat (m PIN seat) h true true l f) (second_scan key m w views id v h seat i at holds inside may.0 l f)
scans key m w views id v h seat limbo false inside i at holds l f may = noted_as key m w views id v seat (m PIN seat) h h holds (scanned-is seat (m PIN seat) h limbo false l f)
    (subst (λ (x : Option Holding). Inv key m w (set views id (record v { holding = x; made = did v 18 }))) holds (counted_inv key m w views id v 18 refl at i))

pub loads_pin : (key : Key) (slots id : ℕ) (me : Sat) (seat : ℕ) → me.0.live ≡ true → 0 < length me.0.accounts → MayLoadPin seat me.0
    → Allows (Kept key) slots id me (start (sizes key) PIN + seat) (λ x. x) (seated (PinLoaded seat) (step slots (start (sizes key) PIN + seat) 0 0 none) me)
loads_pin key slots id me seat live one may s k wide at small =
    let v : View = me.0 in let m : ℕ → ℕ → ℕ = mem (sizes key) s.words in let a : ℕ = start (sizes key) PIN + seat in let knows : v.key ≡ key = k.inv.knows id v at live in
    let h : Holding = may.1.0 in
    let inside : seat < key.sizes.callers = subst (λ (z : Key). seat < z.sizes.callers) knows may.0 in
    let read : m PIN seat ≡ get_or s.words a 0 = mem-read (sizes key) s.words PIN seat inside in
    let done : Loaded key m s.views id v seat (get_or s.words a 0) = subst (Loaded key m s.views id v seat) read (scans key m k.world s.views id v h seat h.word.limbo (is_free (m PIN seat) (limit h h.word.limbo)) inside k.inv at may.1.1 refl refl may.1.2) in (
      pin_loaded v seat (get_or s.words a 0),
      keeps,
      tt,
      load_keeps key s k a id me (pin_loaded v seat (get_or s.words a 0)) done.0 done.1,
      (
        record { view = refl; own = λ of. let first = has_head v.accounts one in sym read ∙ (ap (m PIN) (of ∙ first.2) ∙ k.inv.pinned id v at 0 first.0 first.1) },
        record { live = refl; key = refl; sessions = refl; hand = refl; seen = omega arith; remembered = refl },
        refl,
      ),
    )

-- the same at an address that the code has computed
pub loads_pin_at : (key : Key) (slots id : ℕ) (me : Sat) (seat a : ℕ) → a ≡ start (sizes key) PIN + seat → me.0.live ≡ true → 0 < length me.0.accounts → MayLoadPin seat me.0 → Allows (Kept key) slots id me a (λ x. x) (seated (PinLoaded seat) (step slots a 0 0 none) me)
loads_pin_at key slots id me seat a is live one may = subst (λ (z : ℕ). Allows (Kept key) slots id me z (λ x. x) (seated (PinLoaded seat) (step slots z 0 0 none) me)) (sym is) (loads_pin key slots id me seat live one may)
