-- Kind 19, to take the sweep: an exchange of its word, from the one that the seat knows to the same, held.
use Rattle.std.proofs.Common.{◌≡◌, ◌≢◌, ℕ, ◌+◌, ◌*◌, ◌/◌, ◌%◌, ◌<◌, ◌≤◌, ◌==◌, cond, Bool, true, false, true≢false, is_some, List, length, set, Option, None, Some, sym, refl, ap, ◌∙◌, subst, lt_of_not-le, arith, eqb}
use mathlib.Core.Logic.{dite}
use native.Mathlib.Decide.{ℕ_discrete, dec_le}
use mathlib.Core.Option.{none, some}
use lib.ListN.{get_elem?}
use Rattle.atomic_table.specs.Table.{step, Allows}
use Rattle.atomic_table.proofs.Lists.{at_longer}
use Rattle.reg_words.specs.declared.word.SweepWord.{SweepWord}
use Rattle.reg_words.specs.declared.sweeping.Swept.{Swept}
use Rattle.reg_words.specs.Packing.{bit, sweep_word}
use Rattle.reg_words.specs.Memory.{TAKE, PUT, SWEEP, start, mem, write}
use Rattle.reg_rule.specs.declared.told.Told.{Told}
use Rattle.reg_rule.specs.declared.view.Key.{Key}
use Rattle.reg_rule.specs.declared.view.Place.{Place}
use Rattle.reg_rule.specs.declared.view.Holding.{Holding}
use Rattle.reg_rule.specs.declared.view.View.{View}
use Rattle.reg_rule.specs.Log.{IsWd}
use Rattle.reg_rule.specs.SweepWords.{rank, let_go}
use Rattle.reg_rule.specs.inner.World.{World}
use Rattle.reg_rule.specs.inner.Entries.{CountsPart}
use Rattle.reg_rule.specs.inner.Sweeping.{SweepPart, ReclaimedPart, FloorsPart}
use Rattle.reg_rule.specs.inner.HolderParts.{LastWordFits}
use Rattle.reg_rule.specs.inner.Rule.{Inv, Kept, sizes}
use Rattle.reg_rule.specs.Moves.{did, ended, seized, found_held, found_moved}
use Rattle.reg_rule.specs.Conditions.{MaySwapSweep}
use Rattle.reg_rule.specs.Steps.{SweepSwapped}
use Rattle.reg_rule.specs.inner.Plays.{Sat, Keeps, seated_leaving}
use Rattle.reg_rule.specs.Seats.{hand_of}
use Rattle.reg_rule.specs.inner.Remembering.{remembered_of, sweep_found}
use Rattle.reg_rule.proofs.Remembering.{held_rest, moved_rest, tells_held}
use Rattle.reg_rule.proofs.Views.{each_moves}
use Rattle.reg_rule.proofs.Counted.{total_set, set_at_own, count_more, set_in_hands}
use Rattle.reg_rule.proofs.Sets.{fits_set}
use Rattle.reg_rule.proofs.Floors.{first_account}
use Rattle.reg_rule.proofs.Fits.{Shared, Fits, fits_of, inv_of}
use Rattle.reg_rule.proofs.StoresSweep.{some_begins, fresh_tables}
use Rattle.reg_rule.proofs.Doors.{St, Loses, swap_keeps}
use Rattle.reg_rule.proofs.Variants.{some_same}
use Rattle.reg_rule.proofs.Holder.{HolderFits, none_begins}
use Rattle.reg_rule.proofs.SweepBits.{word_fits}

-- ---- a word tells whether it is held, and how far it has come

low_fields : (word h l p k : ℕ) → h < 2 → l < 2 → p < 33554432 → word ≡ h + 2 * l + 4 * p + 134217728 * k → (word % 2 ≡ h) × (word / 2 % 2 ≡ l) × (word / 4 % 33554432 ≡ p)
low_fields word h l p k hs ls ps e = (omega arith, omega arith, omega arith)

bit_low : (b : Bool) → bit b < 2
bit_low true = omega arith
bit_low false = omega arith

fields : (s : SweepWord) → s.place < 33554432 → (sweep_word s % 2 ≡ bit s.held) × (sweep_word s / 2 % 2 ≡ bit s.limbo) × (sweep_word s / 4 % 33554432 ≡ s.place)
unfolding sweep_word
fields s low = low_fields (sweep_word s) (bit s.held) (bit s.limbo) s.place s.mark (bit_low s.held) (bit_low s.limbo) low refl

same_fields : (s t : SweepWord) → s.place < 33554432 → t.place < 33554432 → sweep_word s ≡ sweep_word t → (bit s.held ≡ bit t.held) × (rank s ≡ rank t)
same_fields s t a b e = let f = fields s a in let g = fields t b in
    let l : bit s.limbo ≡ bit t.limbo = sym f.1 ∙ (ap (λ (n : ℕ). n / 2 % 2) e ∙ g.1) in
    let p : s.place ≡ t.place = sym f.2 ∙ (ap (λ (n : ℕ). n / 4 % 33554432) e ∙ g.2) in
    (sym f.0 ∙ (ap (λ (n : ℕ). n % 2) e ∙ g.0), omega arith)

not_held : (b : Bool) → bit b ≡ bit false → b ≡ false
not_held true e = absurd (omega arith)
not_held false e = refl

free_is : (word : SweepWord) → word.held ≡ false → word ≡ let_go word
free_is word e = λ x. record { held = e x; limbo = word.limbo; place = word.place; mark = word.mark }

no_seat : (a : ℕ) → None ≡ Some a → ⊥
no_seat a e = absurd (cc)

no_holder : (o : Option ℕ) → is_some o ≡ false → o ≡ None
no_holder None e = refl
no_holder (Some j) e = absurd (true≢false e)

a_holder : (o : Option ℕ) → is_some o ≡ true → (j : ℕ) × (o ≡ Some j)
a_holder None e = absurd (true≢false (sym e))
a_holder (Some j) e = (j, refl)

no_holding : (o : Option Holding) → (is_some o ≡ true → ⊥) → o ≡ None
no_holding None n = refl
no_holding (Some h) n = absurd (n refl)

abbrev knowing : View → SweepWord → List Swept → View
knowing v last sweeps = record v { last_word = last; sweeps = sweeps; made = did v 19 }

abbrev seize : SweepWord → SweepWord
seize word = record word { held = true }

module _ (key : Key) (m : ℕ → ℕ → ℕ) (w : World) (views : List View) (id : ℕ) (v : View) (i : Inv key m w views) (at : get_elem? views id ≡ some v) where
  -- the word was found elsewhere, or held: the seat knows more of it
  lost_inv : (last : SweepWord) (sweeps : List Swept) → LastWordFits w.word last → Inv key m w (set views id (knowing v last sweeps))
  lost_inv last sweeps fits = let f = fits_of key m w views i id v at in fits_set key m w views id v (knowing v last sweeps) i at refl refl record {
    knows = f.knows;
    owns = f.owns;
    saw = f.saw;
    has_sessions = f.has_sessions;
    rows = f.rows;
    found = f.found;
    exchanges = let c = count_more (λ k. eqb k 2) v.made 19 refl in let e = f.exchanges in omega arith;
    fits_pin = f.fits_pin;
    pinned = f.pinned;
    above_floor = f.above_floor;
    helps = f.helps;
    hands = f.hands;
    cursors = f.cursors;
    covers = f.covers;
    takes = f.takes;
    found_empty = f.found_empty;
    stopped = f.stopped;
    last_word = fits;
    is_holder = f.is_holder;
    at_word = f.at_word;
    idles = f.idles;
    scans = f.scans;
    cuts = f.cuts;
    gives = f.gives;
    victims = f.victims;
    meets = f.meets;
    costs = f.costs;
  }

  inside : w.word.place ≤ key.sizes.log
  inside = let a = i.sweep.within in let b = i.log.short in omega arith

  last_low : v.last_word.place ≤ w.word.place
  last_low = let a = (i.last_word id v at).rises in let b = bit_low w.word.limbo in omega arith

  -- a word of the same number is the one that the seat knows
  same_word : sweep_word w.word ≡ sweep_word v.last_word → w.word ≡ v.last_word
  same_word e = let l = i.last_word id v at in let a = inside in let b = last_low in let c = i.key_part.sizes.log.1 in
      let same = same_fields w.word v.last_word (omega arith) (omega arith) e in
      let free : w.word.held ≡ false = not_held w.word.held (same.0 ∙ ap bit l.free) in
      free_is w.word free ∙ sym (l.same (sym same.1))

  -- ---- it is held by another, which is of another session
  two_callers : v.holding ≡ None → 0 < length v.accounts → w.word.held ≡ true → key.sizes.callers ≢ 1
  two_callers nothing session held one =
      let h = a_holder w.holder (sym i.sweep.held ∙ held) in let d = i.sweeper h.0 h.1 in
      let has = (i.is_holder h.0 d.0 d.1).1 h.1 in
      let theirs = first_account d.0.accounts ((i.has_sessions h.0 d.0 d.1).holding has) in let mine = first_account v.accounts session in
      let a = i.owns h.0 d.0 d.1 0 theirs.0 theirs.1 in let b = i.owns id v at 0 mine.0 mine.1 in
      let number : theirs.0.number ≡ mine.0.number = (let x = a.below in let y = b.below in omega arith) in
      let same : h.0 ≡ id = ap (λ (z : ℕ × ℕ). z.0) (sym a.owner_is ∙ (ap w.owner number ∙ b.owner_is)) in
      let own : is_some v.holding ≡ true = (i.is_holder id v at).1 (h.1 ∙ ap (λ (x : ℕ). Some x) same) in
      true≢false (sym own ∙ ap is_some nothing)

  -- ---- it is taken

  module _ (is : w.word ≡ v.last_word) (session : 0 < length v.accounts) (new : ℕ) (stored : new ≡ sweep_word (seize v.last_word)) where
    free : v.last_word.held ≡ false
    free = (i.last_word id v at).free

    nobody : w.holder ≡ None
    nobody = no_holder w.holder (sym i.sweep.held ∙ (ap (λ (x : SweepWord). x.held) is ∙ free))

    before : SweepPart (m SWEEP) w.log v.last_word w.holder w.begun w.returned
    before = subst (λ (x : SweepWord). SweepPart (m SWEEP) w.log x w.holder w.begun w.returned) is i.sweep

    reclaimed : ReclaimedPart w.log w.stamps w.linked v.last_word w.begun w.returned w.mark
    reclaimed = subst (λ (x : SweepWord). ReclaimedPart w.log w.stamps w.linked x w.begun w.returned w.mark) is i.reclaimed

    floors : FloorsPart key.sizes.callers w.log v.last_word w.begun w.returned w.floor w.freed
    floors = subst (λ (x : SweepWord). FloorsPart key.sizes.callers w.log x w.begun w.returned w.floor w.freed) is i.floors

    abbrev taken_world : World
    taken_world = record w { word = seize v.last_word; holder = Some id }

    swept : SweepPart (write m SWEEP 0 new SWEEP) w.log (seize v.last_word) (Some id) w.begun w.returned
    swept = record {
      word_is = stored;
      held = refl;
      order = before.order;
      seen = before.seen;
      at_work = before.at_work;
      within = before.within;
      passed = before.passed;
      ahead = before.ahead;
      limbo = before.limbo;
      unmarked = before.unmarked;
      rests = λ x. absurd (no_seat id (sym x));
      waits = λ x. absurd (no_seat id (sym x));
    }

    shared : Shared key (write m SWEEP 0 new) taken_world (set views id (seized v))
    shared = record {
      key_part = i.key_part;
      log = i.log;
      notes = i.notes;
      accounts = i.accounts;
      uses = i.uses;
      stamps = i.stamps;
      codes = i.codes;
      counts = subst (CountsPart key (m TAKE) (m PUT) w.log w.returned w.taken w.put) (sym (total_set (λ x. length x.hands) views id v (seized v) at refl)) i.counts;
      ring = i.ring;
      chains = i.chains;
      links = i.links;
      sweep = swept;
      reclaimed = record { dead = reclaimed.dead; apart = reclaimed.apart; marked = reclaimed.marked };
      floors = record { scanned = floors.scanned; ahead = floors.ahead; searched = floors.searched; unscanned = floors.unscanned };
      sessions = total_set (λ x. length x.accounts) views id v (seized v) at refl ∙ i.sessions;
      in_hands = set_in_hands w.uses views id v (seized v) refl at i.in_hands;
      sweeper = λ j e. (seized v, subst (λ (k : ℕ). get_elem? (set views id (seized v)) k ≡ some (seized v)) (some_same id j e) (set_at_own views id v (seized v) at));
    }

    knows_still : (last : SweepWord) → LastWordFits w.word last → LastWordFits (seize v.last_word) last
    knows_still last f = let g : LastWordFits v.last_word last = subst (λ (x : SweepWord). LastWordFits x last) is f in record { free = g.free; rises = g.rises; same = g.same }

    others : (j : ℕ) (d : View) → j ≢ id → Fits key m w j d → Fits key (write m SWEEP 0 new) taken_world j d
    others j d apart f =
        let nothing = no_holding d.holding (λ e. no_seat j (sym nobody ∙ f.is_holder.0 e)) in let begins = none_begins key (write m SWEEP 0 new) taken_world j d nothing in record {
          knows = f.knows;
          owns = f.owns;
          saw = f.saw;
          has_sessions = f.has_sessions;
          rows = f.rows;
          found = f.found;
          exchanges = f.exchanges;
          fits_pin = f.fits_pin;
          pinned = f.pinned;
          above_floor = f.above_floor;
          helps = f.helps;
          hands = f.hands;
          cursors = f.cursors;
          covers = f.covers;
          takes = f.takes;
          found_empty = f.found_empty;
          stopped = f.stopped;
          last_word = knows_still d.last_word f.last_word;
          is_holder = ((λ e. absurd (true≢false (sym e ∙ ap is_some nothing))), (λ e. absurd (apart (sym (some_same id j e)))));
          at_word = begins.at_word;
          idles = f.idles;
          scans = f.scans;
          cuts = f.cuts;
          gives = f.gives;
          victims = f.victims;
          meets = f.meets;
          costs = f.costs;
        }

    seen_here : (d x entry : ℕ) → IsWd v.log d x entry → IsWd w.log d x entry
    seen_here d x entry wd = let saw = i.saw id v at in subst (λ (l : List Place). IsWd l d x entry) (sym saw.1) (at_longer v.log saw.0 d _ wd)

    begun_now : HolderFits key (write m SWEEP 0 new) taken_world id (seized v)
    begun_now = some_begins key (write m SWEEP 0 new) taken_world id (seized v) v.last_word refl refl before.within (before.rests nobody) (before.waits nobody)
        (λ x entry table l small wd. let there = seen_here v.last_word.place x entry wd in
        let low : w.returned ≤ v.last_word.place = dite (dec_le w.returned v.last_word.place) (λ le. le) (λ n. absurd (true≢false (sym (before.ahead v.last_word.place x entry (omega arith) (lt_of_not-le n) there).0 ∙ l))) in
        let a = before.rests nobody l in fresh_tables key m w views i v.last_word.place x entry table (omega arith) low small there)

    own : Fits key (write m SWEEP 0 new) taken_world id (seized v)
    own = let f = fits_of key m w views i id v at in record {
      knows = f.knows;
      owns = f.owns;
      saw = f.saw;
      has_sessions = record { hands_most = f.has_sessions.hands_most; holding = λ _. session; spent = f.has_sessions.spent };
      rows = f.rows;
      found = f.found;
      exchanges = let c = count_more (λ k. eqb k 2) v.made 19 refl in let x = f.exchanges in omega arith;
      fits_pin = f.fits_pin;
      pinned = f.pinned;
      above_floor = f.above_floor;
      helps = f.helps;
      hands = f.hands;
      cursors = f.cursors;
      covers = f.covers;
      takes = f.takes;
      found_empty = f.found_empty;
      stopped = f.stopped;
      last_word = knows_still v.last_word f.last_word;
      is_holder = ((λ e. refl), (λ e. refl));
      at_word = begun_now.at_word;
      idles = begun_now.idles;
      scans = begun_now.scans;
      cuts = begun_now.cuts;
      gives = begun_now.gives;
      victims = begun_now.victims;
      meets = f.meets;
      costs = f.costs;
    }

    seized_inv : Inv key (write m SWEEP 0 new) taken_world (set views id (seized v))
    seized_inv = inv_of key (write m SWEEP 0 new) taken_world (set views id (seized v)) shared (each_moves (Fits key m w) (Fits key (write m SWEEP 0 new) taken_world) views id (seized v) (fits_of key m w views i) others own)

rank_less : (a b : ℕ) → a ≤ b → a ≢ b → a < b
rank_less a b le n = dite (ℕ_discrete a b) (λ same. absurd (n same)) (λ apart. omega arith)

abbrev SweepTold : Told → ℕ → Sat → ℕ → Sat → Type 0
SweepTold told old me r n = SweepSwapped told old me.0 r n.0 × Keeps 0 (hand_of me.0) (sweep_found told r (remembered_of me.0)) me.0 n.0 × (n.1 ≡ me.1)

lost : (key : Key) (id : ℕ) (me : Sat) (told : Told) (old new : ℕ) (s : St) (k : Kept key s) → get_elem? s.views id ≡ some me.0 → MaySwapSweep old new me.0 → 0 < length me.0.accounts → me.0.key ≡ key → mem (sizes key) s.words SWEEP 0 ≢ old
    → (b : Bool) → k.world.word.held ≡ b → Loses key s SWEEP 0 id me (SweepTold told old me)
lost key id me told old new s k at may has knows other true e =
    let v : View = me.0 in let m : ℕ → ℕ → ℕ = mem (sizes key) s.words in let w : World = k.world in let i = k.inv in
    let two = two_callers key m w s.views id v i at may.free has e in (
      found_held told v,
      w,
      lost_inv key m w s.views id v i at v.last_word (ended told v.sweeps) (i.last_word id v at),
      (
        record {
          word = w.word;
          word_is = i.sweep.word_is;
          bits = word_fits key m w s.views i;
          won = λ same. absurd (other same);
          held = λ _. (refl, λ one. two (ap (λ (z : Key). z.sizes.callers) (sym knows) ∙ one));
          moved = λ _ free. absurd (true≢false (sym e ∙ free));
        },
        record { live = refl; key = refl; sessions = refl; hand = refl; seen = omega arith; remembered = held_rest told v (m SWEEP 0) (tells_held w.word (m SWEEP 0) true i.sweep.word_is e) },
        refl,
      ),
    )
lost key id me told old new s k at may has knows other false e =
    let v : View = me.0 in let m : ℕ → ℕ → ℕ = mem (sizes key) s.words in let w : World = k.world in let i = k.inv in
    let l = i.last_word id v at in let rises = l.rises in let low = inside key m w s.views id v i at in
    let later : rank v.last_word ≢ rank w.word = λ same. other (i.sweep.word_is ∙ (ap sweep_word (free_is w.word e ∙ sym (l.same same)) ∙ sym may.expects)) in (
      found_moved v w.word,
      w,
      lost_inv key m w s.views id v i at w.word v.sweeps (record { free = e; rises = omega arith; same = λ z. free_is w.word e }),
      (
        record {
          word = w.word;
          word_is = i.sweep.word_is;
          bits = word_fits key m w s.views i;
          won = λ same. absurd (other same);
          held = λ held. absurd (true≢false (sym held ∙ e));
          moved = λ _ _. (refl, rank_less (rank v.last_word) (rank w.word) rises later, subst (λ (z : Key). w.word.place ≤ z.sizes.log) (sym knows) low);
        },
        record { live = refl; key = refl; sessions = refl; hand = refl; seen = omega arith; remembered = (λ j. record (remembered_of v) { sweep_word = sym i.sweep.word_is j }) ∙ moved_rest told v (m SWEEP 0) (tells_held w.word (m SWEEP 0) false i.sweep.word_is e) },
        refl,
      ),
    )

pub swaps_sweep : (key : Key) (slots id : ℕ) (me : Sat) (told : Told) (old new : ℕ) → MaySwapSweep old new me.0 → me.0.live ≡ true → 0 < length me.0.accounts
    → Allows (Kept key) slots id me (start (sizes key) SWEEP + 0) (λ n. cond (n == old) new n) (seated_leaving (λ x v r. sweep_found told r (remembered_of v)) (λ x v r w. SweepSwapped told x v r w) (step slots (start (sizes key) SWEEP + 0) old new none) me)
swaps_sweep key slots id me told old new may live has s k wide at small =
    let v : View = me.0 in let m : ℕ → ℕ → ℕ = mem (sizes key) s.words in let w : World = k.world in let i = k.inv in let knows : v.key ≡ key = i.knows id v at live in
    swap_keeps key s k SWEEP 0 old new id me (seated_leaving (λ x v r. sweep_found told r (remembered_of v)) (λ x v r w. SweepSwapped told x v r w) (step slots (start (sizes key) SWEEP + 0) old new none) me) (omega arith)
    (λ same. let is = same_word key m w s.views id v i at (sym i.sweep.word_is ∙ (same ∙ may.expects)) in (
      seized v,
      _,
      seized_inv key m w s.views id v i at is has new may.takes,
      (
        record {
          word = w.word;
          word_is = i.sweep.word_is;
          bits = word_fits key m w s.views i;
          won = λ _. (refl, is);
          held = λ held. absurd (true≢false (sym held ∙ (ap (λ (x : SweepWord). x.held) is ∙ (i.last_word id v at).free)));
          moved = λ apart. absurd (apart same);
        },
        record { live = refl; key = refl; sessions = refl; hand = refl; seen = omega arith; remembered = (λ j. record (remembered_of v) { sweep_word = sym (same ∙ may.expects) j }) ∙ moved_rest told v (m SWEEP 0) (tells_held v.last_word (m SWEEP 0) false (same ∙ may.expects) (i.last_word id v at).free) },
        refl,
      ),
    ))
    (λ other. lost key id me told old new s k at may has knows other w.word.held refl)
