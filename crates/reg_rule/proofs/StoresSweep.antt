-- Kind 19, by the holder: a store of the word of the sweep, which keeps the sweep or gives it back.
use Rattle.std.proofs.Common.{◌≡◌, ◌≢◌, ℕ, ◌+◌, ◌<◌, ◌≤◌, cond, Bool, true, false, true≢false, is_some, List, length, set, Option, None, Some, sym, refl, ap, ◌∙◌, subst, lt_of_not-le, arith, eqb}
use mathlib.Core.Logic.{dite}
use native.Mathlib.Decide.{dec_le}
use mathlib.Core.Option.{none, some}
use lib.ListN.{get_elem?}
use Rattle.atomic_table.specs.Table.{step, keeps, Allows}
use Rattle.reg_words.specs.declared.word.SweepWord.{SweepWord}
use Rattle.reg_words.specs.Packing.{sweep_word}
use Rattle.reg_words.specs.Memory.{TAKE, PUT, SWEEP, start, mem, write}
use Rattle.reg_rule.specs.declared.told.Told.{Told}
use Rattle.reg_rule.specs.declared.view.Key.{Key}
use Rattle.reg_rule.specs.declared.view.Holding.{Holding}
use Rattle.reg_rule.specs.declared.view.View.{View}
use Rattle.reg_rule.specs.Log.{IsWd}
use Rattle.reg_rule.specs.Tables.{are_all}
use Rattle.reg_rule.specs.SweepWords.{let_go}
use Rattle.reg_rule.specs.inner.World.{World}
use Rattle.reg_rule.specs.inner.Entries.{CountsPart}
use Rattle.reg_rule.specs.inner.Takers.{Stopped}
use Rattle.reg_rule.specs.inner.Sweeping.{SweepPart}
use Rattle.reg_rule.specs.inner.HolderParts.{LastWord, IsHolder, WordFits, CutsFit}
use Rattle.reg_rule.specs.inner.Rule.{Inv, Kept, sizes}
use Rattle.reg_rule.specs.Moves.{did, holding_of, ended, swept_to}
use Rattle.reg_rule.specs.Conditions.{MayStoreSweep}
use Rattle.reg_rule.specs.Steps.{SweepStored}
use Rattle.reg_rule.specs.inner.Plays.{Sat, seated_leaving}
use Rattle.reg_rule.specs.inner.Remembering.{remembered_of, sweep_left}
use Rattle.reg_rule.proofs.Remembering.{left_rest, tells_held}
use Rattle.reg_rule.proofs.Views.{each_moves}
use Rattle.reg_rule.proofs.Counted.{total_set, set_at_own, count_more, set_in_hands}
use Rattle.reg_rule.proofs.Once.{wd_once}
use Rattle.reg_rule.proofs.StampsMoved.{held_still}
use Rattle.atomic_table.proofs.Lists.{at_longer}
use Rattle.reg_rule.specs.declared.view.Place.{Place}
use Rattle.reg_rule.proofs.WordKept.{Stores, on, stays, enters, passes, stores, last_kept, sweep_stored}
use Rattle.reg_rule.proofs.Fits.{Shared, Fits, fits_of, inv_of}
use Rattle.reg_rule.proofs.Doors.{write_keeps}
use Rattle.reg_rule.proofs.Variants.{some_same, none_some}
use Rattle.reg_rule.proofs.Holder.{HolderFits, holder_fits, none_begins, others_free}

-- ---- a holding that has done nothing yet

-- what is known of the entry that is withdrawn at the place of a word, where nobody has cut anything
pub fresh_tables : (key : Key) (m : ℕ → ℕ → ℕ) (w : World) (views : List View) → Inv key m w views → (d x entry table : ℕ) → w.begun ≤ d → w.returned ≤ d → table < 4 → IsWd w.log d x entry → w.linked table entry ≡ true
fresh_tables key m w views i d x entry table begun low small wd =
    i.links.held table x entry small (i.log.entries d _ wd) (held_still key m w views i d x entry wd low)
    (λ c f wc. let same = wd_once key.carried w.log d c x entry f i.log.lawful wd wc in omega arith)

abbrev in_world : World → SweepWord → Option ℕ → World
in_world w word holder = record w { word = word; holder = holder }

is_held : (word : SweepWord) → word.held ≡ true → word ≡ record word { held = true }
is_held word e = λ x. record { held = e x; limbo = word.limbo; place = word.place; mark = word.mark }

pub some_begins : (key : Key) (m : ℕ → ℕ → ℕ) (w : World) (id : ℕ) (v : View) (word : SweepWord) → v.holding ≡ Some (holding_of word) → w.word ≡ record word { held = true }
    → word.place ≤ length w.log → (word.limbo ≡ false → w.returned ≡ w.begun) → (word.limbo ≡ true → w.returned ≤ word.place)
    → ((x entry table : ℕ) → word.limbo ≡ false → table < 4 → IsWd v.log word.place x entry → w.linked table entry ≡ true)
    → HolderFits key m w id v
some_begins key m w id v word holds is inside settled waits tables = holder_fits key m w id v (holding_of word) holds record {
  at_word = record { word_is = is; held = refl; from = omega arith; within = inside; between = λ l d x y from to wd. absurd (omega arith); limbo = λ l. refl };
  idles = λ low. (refl, refl, refl, refl, refl);
  scans = record { clear_of = λ n low. absurd (omega arith); free_of = λ n low. absurd (omega arith) };
  cuts = record {
    uncut = λ l nothing. settled l;
    cut = λ l some_cut. absurd (some_cut refl);
    unmarked = λ l nothing some_cut. absurd (some_cut refl);
    mark_is = λ k l e. absurd (none_some k e);
  };
  gives = record {
    put_is = λ p e. absurd (none_some p e);
    given = λ e. absurd (true≢false (sym e));
    back = λ e. absurd (true≢false (sym e));
    kept = λ e l. waits l;
  };
  victims = λ x entry unit wd dec. record {
    dead = λ e. absurd (true≢false (sym e));
    tables = λ table small l. ((λ z. absurd (true≢false (sym (tables x entry table l small wd) ∙ z))), (λ z. absurd (true≢false (sym z))));
    behind = λ l e. absurd (none_some l e);
    way = λ l e. absurd (none_some l e);
  };
}

module _ (key : Key) (m : ℕ → ℕ → ℕ) (w : World) (views : List View) (id : ℕ) (v : View) (i : Inv key m w views) (at : get_elem? views id ≡ some v)
    (h : Holding) (holding : v.holding ≡ Some h) (word : SweepWord) (new : ℕ) (told : Told) (s : Stores v h word) (is : new ≡ sweep_word word) where
  fits : WordFits w.log w.word h.word h.place
  fits = i.at_word id v at h holding

  cuts : CutsFit w.begun w.returned (length v.log) w.mark h.word.limbo h.stamped h.place h.cut h.marked
  cuts = i.cuts id v at h holding

  -- out of limbo all is given back that was unlinked
  settled : Stores v h word → word.limbo ≡ false → w.returned ≡ w.begun
  settled (on paid limbo place mark) l = let a = (i.gives id v at h holding).back paid in let old : w.word.limbo ≡ true = ap (λ (x : SweepWord). x.limbo) fits.word_is ∙ a.0 in
      let b = (i.sweep.limbo old).0 in let c : h.place ≡ w.word.place = fits.limbo a.0 ∙ ap (λ (x : SweepWord). x.place) (sym fits.word_is) in let r = a.1 in omega arith
  settled (stays paid limbo same) l = absurd (true≢false (sym (ap (λ (x : SweepWord). x.limbo) same ∙ limbo) ∙ l))
  settled (enters paid limbo enter place mark) l = absurd (true≢false (sym enter ∙ l))
  settled (passes paid limbo nothing out mark more within clear) l = cuts.uncut limbo nothing

  waits : Stores v h word → word.limbo ≡ true → w.returned ≤ word.place
  waits (on paid limbo place mark) l = absurd (true≢false (sym l ∙ limbo))
  waits (stays paid limbo same) l = let a = (i.gives id v at h holding).kept paid limbo in let b = fits.limbo limbo in let c : word.place ≡ h.word.place = ap (λ (x : SweepWord). x.place) same in omega arith
  waits (enters paid limbo enter place mark) l = let all = cuts.mark_is word.mark limbo mark in
      let c = (cuts.cut limbo (λ nothing. true≢false (sym all.1 ∙ ap are_all nothing))).1 in omega arith
  waits (passes paid limbo nothing out mark more within clear) l = absurd (true≢false (sym l ∙ out))

  marked : Stores v h word → word.limbo ≡ true → w.mark ≡ Some word.mark
  marked (on paid limbo place mark) l = absurd (true≢false (sym l ∙ limbo))
  marked (stays paid limbo same) l = let old : w.word.limbo ≡ true = ap (λ (x : SweepWord). x.limbo) fits.word_is ∙ limbo in
      i.reclaimed.marked old ∙ ap (λ (x : ℕ). Some x) (ap (λ (x : SweepWord). x.mark) fits.word_is ∙ sym (ap (λ (x : SweepWord). x.mark) same))
  marked (enters paid limbo enter place mark) l = (cuts.mark_is word.mark limbo mark).0
  marked (passes paid limbo nothing out mark more within clear) l = absurd (true≢false (sym l ∙ out))

  abbrev holder_of : Bool → Option ℕ
  holder_of b = cond b (Some id) None

  abbrev after : Bool → View
  after b = record v {
    holding = cond b (Some (holding_of word)) None;
    last_word = cond b v.last_word word;
    stopped = cond b v.stopped word.place;
    sweeps = cond b v.sweeps (ended told v.sweeps);
    made = did v 19;
  }

  is_holder_of : (b : Bool) → b ≡ is_some (holder_of b)
  is_holder_of true = refl
  is_holder_of false = refl

  swept : (b : Bool) → word.held ≡ b → SweepPart (write m SWEEP 0 new SWEEP) w.log word (holder_of b) w.begun w.returned
  swept b e = sweep_stored key m w views id v i at h holding word (write m SWEEP 0 new SWEEP) (holder_of b) is (e ∙ is_holder_of b) (i.saw id v at) s

  abbrev world : Bool → World
  world b = in_world w word (holder_of b)

  shared : (b : Bool) → word.held ≡ b → Shared key (write m SWEEP 0 new) (world b) (set views id (after b))
  shared b e = record {
    key_part = i.key_part;
    log = i.log;
    notes = i.notes;
    accounts = i.accounts;
    uses = i.uses;
    stamps = i.stamps;
    codes = i.codes;
    counts = subst (CountsPart key (m TAKE) (m PUT) w.log w.returned w.taken w.put) (sym (total_set (λ x. length x.hands) views id v (after b) at refl)) i.counts;
    ring = i.ring;
    chains = i.chains;
    links = i.links;
    sweep = swept b e;
    reclaimed = record { dead = i.reclaimed.dead; apart = i.reclaimed.apart; marked = marked s };
    floors = record { scanned = i.floors.scanned; ahead = i.floors.ahead; searched = i.floors.searched; unscanned = λ n low l less. let a = settled s l in absurd (omega arith) };
    sessions = total_set (λ x. length x.accounts) views id v (after b) at refl ∙ i.sessions;
    in_hands = set_in_hands w.uses views id v (after b) refl at i.in_hands;
    sweeper = seat b;
  } where
    seat : (b : Bool) (j : ℕ) → holder_of b ≡ Some j → (x : View) × (get_elem? (set views id (after b)) j ≡ some x)
    seat true j e = (after true, subst (λ (k : ℕ). get_elem? (set views id (after true)) k ≡ some (after true)) (some_same id j e) (set_at_own views id v (after true) at))
    seat false j e = absurd (cc)

  held_by : w.holder ≡ Some id
  held_by = (i.is_holder id v at).0 (ap is_some holding)

  others : (b : Bool) (j : ℕ) (d : View) → j ≢ id → Fits key m w j d → Fits key (write m SWEEP 0 new) (world b) j d
  others b j d apart f = let nothing = others_free key m w id j d held_by apart f in let begins = none_begins key (write m SWEEP 0 new) (world b) j d nothing in record {
    knows = f.knows;
    owns = f.owns;
    saw = f.saw;
    has_sessions = f.has_sessions;
    rows = f.rows;
    found = f.found;
    exchanges = f.exchanges;
    fits_pin = f.fits_pin;
    pinned = f.pinned;
    above_floor = f.above_floor;
    helps = f.helps;
    hands = f.hands;
    cursors = f.cursors;
    covers = f.covers;
    takes = f.takes;
    found_empty = f.found_empty;
    stopped = f.stopped;
    last_word = last_kept key m w views id v i at h holding word s d.last_word f.last_word;
    is_holder = ((λ e. absurd (true≢false (sym e ∙ ap is_some nothing))), (λ e. absurd (not_other b e)));
    at_word = begins.at_word;
    idles = f.idles;
    scans = f.scans;
    cuts = f.cuts;
    gives = f.gives;
    victims = f.victims;
    meets = f.meets;
    costs = f.costs;
  } where
    not_other : (b : Bool) → holder_of b ≡ Some j → ⊥
    not_other true e = apart (sym (some_same id j e))
    not_other false e = absurd (cc)

  let_go_is : word.held ≡ false → word ≡ let_go word
  let_go_is e = λ x. record { held = e x; limbo = word.limbo; place = word.place; mark = word.mark }

  seen_here : (d x entry : ℕ) → IsWd v.log d x entry → IsWd w.log d x entry
  seen_here d x entry wd = let saw = i.saw id v at in subst (λ (l : List Place). IsWd l d x entry) (sym saw.1) (at_longer v.log saw.0 d _ wd)

  begins_after : (b : Bool) → word.held ≡ b → HolderFits key (write m SWEEP 0 new) (world b) id (after b)
  begins_after false e = none_begins key (write m SWEEP 0 new) (world false) id (after false) refl
  begins_after true e = let sweep = swept true e in some_begins key (write m SWEEP 0 new) (world true) id (after true) word refl (is_held word e) sweep.within (settled s) (waits s)
      (λ x entry table l small wd. let there = seen_here word.place x entry wd in
      let low : w.returned ≤ word.place = dite (dec_le w.returned word.place) (λ le. le) (λ n. absurd (true≢false (sym (sweep.ahead word.place x entry (omega arith) (lt_of_not-le n) there).0 ∙ l))) in
      let a = settled s l in fresh_tables key m w views i word.place x entry table (omega arith) low small there)

  own : (b : Bool) → word.held ≡ b → Fits key (write m SWEEP 0 new) (world b) id (after b)
  own b e = let f = fits_of key m w views i id v at in let begins = begins_after b e in let sweep = swept b e in record {
    knows = f.knows;
    owns = f.owns;
    saw = f.saw;
    has_sessions = record { hands_most = f.has_sessions.hands_most; holding = λ _. f.has_sessions.holding (ap is_some holding); spent = f.has_sessions.spent };
    rows = f.rows;
    found = f.found;
    exchanges = let c = count_more (λ k. eqb k 2) v.made 19 refl in let x = f.exchanges in omega arith;
    fits_pin = f.fits_pin;
    pinned = f.pinned;
    above_floor = f.above_floor;
    helps = f.helps;
    hands = f.hands;
    cursors = f.cursors;
    covers = f.covers;
    takes = f.takes;
    found_empty = f.found_empty;
    stopped = stopped_of b;
    last_word = last b e;
    is_holder = holds b;
    at_word = begins.at_word;
    idles = begins.idles;
    scans = begins.scans;
    cuts = begins.cuts;
    gives = begins.gives;
    victims = begins.victims;
    meets = f.meets;
    costs = f.costs;
  } where
    stopped_of : (b : Bool) → Stopped w.log w.returned id (after b)
    stopped_of true = i.stopped id v at
    stopped_of false = ((swept word.held refl).within, (swept word.held refl).passed)

    last : (b : Bool) → word.held ≡ b → LastWord word id (after b)
    last true e = last_kept key m w views id v i at h holding word s v.last_word (i.last_word id v at)
    last false e = record { free = e; rises = omega arith; same = λ z. let_go_is e }

    holds : (b : Bool) → IsHolder (holder_of b) id (after b)
    holds true = ((λ x. refl), (λ x. refl))
    holds false = ((λ x. absurd (true≢false (sym x))), (λ x. absurd (cc)))

  pub sweep_stored_inv : Inv key (write m SWEEP 0 new) (world word.held) (set views id (swept_to told v word))
  sweep_stored_inv = inv_of key (write m SWEEP 0 new) (world word.held) (set views id (after word.held)) (shared word.held refl)
      (each_moves (Fits key m w) (Fits key (write m SWEEP 0 new) (world word.held)) views id (after word.held) (fits_of key m w views i) (others word.held) (own word.held refl))

pub stores_sweep : (key : Key) (slots id : ℕ) (me : Sat) (told : Told) (word : SweepWord) (new : ℕ) → MayStoreSweep new word me.0
    → Allows (Kept key) slots id me (start (sizes key) SWEEP + 0) (λ _. new) (λ _. seated_leaving (λ x v r. sweep_left told x (remembered_of v)) (λ x v r w. SweepStored told word v w) (step slots (start (sizes key) SWEEP + 0) new 0 none) me new)
stores_sweep key slots id me told word new may s k wide at small =
    let v : View = me.0 in let m : ℕ → ℕ → ℕ = mem (sizes key) s.words in let h : Holding = may.holding.0 in let u : View = swept_to told v word in
    let inv = sweep_stored_inv key m k.world s.views id v k.inv at h may.holding.1 word new told (stores v h word may.holding.2) may.word_is in
    (u, keeps, tt, write_keeps key s k SWEEP 0 new id me u _ (omega arith) inv, (refl, record { live = refl; key = refl; sessions = refl; hand = refl; seen = omega arith; remembered = left_rest told v word new word.held (tells_held word new word.held may.word_is refl) (sym may.word_is) }, refl))

pub stores_sweep_at : (key : Key) (slots id : ℕ) (me : Sat) (told : Told) (word : SweepWord) (new a : ℕ) → a ≡ start (sizes key) SWEEP + 0 → MayStoreSweep new word me.0
    → Allows (Kept key) slots id me a (λ _. new) (λ _. seated_leaving (λ x v r. sweep_left told x (remembered_of v)) (λ x v r w. SweepStored told word v w) (step slots a new 0 none) me new)
stores_sweep_at key slots id me told word new a is may = subst (λ (z : ℕ). Allows (Kept key) slots id me z (λ _. new) (λ _. seated_leaving (λ x v r. sweep_left told x (remembered_of v)) (λ x v r w. SweepStored told word v w) (step slots z new 0 none) me new)) (sym is) (stores_sweep key slots id me told word new may)
