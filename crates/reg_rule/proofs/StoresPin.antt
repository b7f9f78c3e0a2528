-- Kind 17: a store of the seat's pin: it pins, unpins, or stores the same pin again.
use Rattle.std.proofs.Common.{◌≡◌, ◌≢◌, ℕ, ◌+◌, ◌<◌, ◌≤◌, ◌==◌, cond, Bool, true, inr, ⊎_elim, List, [], length, get_or, set, Option, None, Some, sym, refl, ap, ◌∙◌, subst, arith, eqb, eq-eqb, ne_eqb}
use mathlib.Core.Logic.{dite}
use native.Mathlib.Decide.{ℕ_discrete}
use mathlib.Core.Option.{none, some, some-injective}
use lib.ListN.{get_elem?}
use Rattle.atomic_table.specs.Table.{step, keeps, Allows}
use Rattle.atomic_table.proofs.Lists.{set_again}
use Rattle.reg_model.specs.declared.reply.Hit.{Hit}
use Rattle.reg_model.specs.declared.reply.Row.{Row}
use Rattle.reg_words.specs.Memory.{TAKE, PUT, PIN, start, mem, set_at, write}
use Rattle.reg_words.proofs.Memory.{mem-read, set_at-here, set_at-else}
use Rattle.reg_rule.specs.declared.told.Told.{Told}
use Rattle.reg_rule.specs.declared.told.Told.TheVariants.{Closes, Hits}
use Rattle.reg_rule.specs.declared.view.Key.{Key}
use Rattle.reg_rule.specs.declared.view.Account.{Account}
use Rattle.reg_rule.specs.declared.view.View.{View}
use Rattle.reg_rule.specs.inner.World.{World}
use Rattle.reg_rule.specs.Log.{At}
use Rattle.reg_rule.specs.Seats.{IsOf}
use Rattle.reg_rule.specs.inner.SeatParts.{Owns}
use Rattle.reg_rule.specs.inner.Entries.{CountsPart}
use Rattle.reg_rule.specs.inner.PinParts.{Pinned}
use Rattle.reg_rule.specs.inner.Rule.{Inv, Kept, sizes}
use Rattle.reg_rule.specs.Moves.{did, with_step, closed, with_hits, AreHitsOf, standing}
use Rattle.reg_rule.specs.Conditions.{MayPin, MayUnpin, MayKeepPin, MayStorePin, MayTellHits}
use Rattle.reg_rule.specs.Steps.{PinStored}
use Rattle.reg_rule.specs.inner.Plays.{Sat, Keeps, Stays, seated_leaving}
use Rattle.reg_rule.specs.Seats.{hand_of}
use Rattle.reg_rule.specs.inner.Remembering.{remembered_of, pinned_to}
use Rattle.reg_rule.proofs.Views.{each_moves}
use Rattle.reg_rule.proofs.Counted.{total_set, set_is_seat, set_at_own, count_more, set_in_hands}
use Rattle.reg_rule.proofs.Shows.{at_inside}
use Rattle.reg_rule.proofs.Fronted.{set_twice}
use Rattle.reg_rule.proofs.Fits.{Shared, Fits, shared_of, fits_of, inv_of}
use Rattle.reg_rule.proofs.LooksTell.{look_told, code_decides}
use Rattle.reg_rule.proofs.LoadsCode.{look_stays}
use Rattle.reg_rule.specs.Moves.{code_reply}
use Rattle.reg_rule.proofs.Doors.{St, Ended, load_keeps, write_keeps}
use Rattle.reg_rule.proofs.Sets.{counted_inv}

-- ---- pinned anew or not at all: no front and no cursor, and no snapshot is open

abbrev repinned : View → ℕ → Option ℕ → View
repinned v pin snapshot = record v { pin = pin; front = None; cursor = None; snapshot = snapshot; made = did v 17 }

abbrev pins_after : (ℕ → ℕ → ℕ) → ℕ → ℕ → ℕ → ℕ → ℕ
pins_after m n pin = write m PIN n pin

none_some : {A : Type 0} (x : A) → None ≡ Some x → ⊥
none_some x e = absurd (cc)

-- the word of another session is as it was
others_pinned : (callers : ℕ) (accounts : ℕ → List Row) (owner : ℕ → ℕ × ℕ) (pins : ℕ → ℕ) (n pin id j : ℕ) (v d : View) → Owns callers accounts owner id v → IsOf v n → Owns callers accounts owner j d → j ≢ id → Pinned pins j d → Pinned (set_at pins n pin) j d
others_pinned callers accounts owner pins n pin id j v d owns of theirs apart old i a there =
    let mine = (owns 0 of.0 of.1).owner_is in let other = (theirs i a there).owner_is in
    set_at-else pins n pin a.number (λ (same : a.number ≡ n). apart (ap (λ (z : ℕ × ℕ). z.0) (sym other ∙ (ap owner (same ∙ of.2) ∙ mine)))) ∙ old i a there

own_pinned : (callers : ℕ) (accounts : ℕ → List Row) (owner : ℕ → ℕ × ℕ) (pins : ℕ → ℕ) (n pin id : ℕ) (v : View) (snapshot : Option ℕ) → Owns callers accounts owner id v → IsOf v n → Pinned pins id v → Pinned (set_at pins n pin) id (repinned v pin snapshot)
own_pinned callers accounts owner pins n pin id v snapshot owns of old i a there = dite (ℕ_discrete i 0)
    (λ first. let same : a ≡ of.0 = some-injective _ _ (sym (subst (λ (k : ℕ). At v.accounts k a) first there) ∙ of.1) in
    ap (set_at pins n pin) (ap (λ (z : Account). z.number) same ∙ sym of.2) ∙ (set_at-here pins n pin ∙ sym (ap (λ (k : ℕ). cond (k == 0) pin 0) first)))
    (λ later. let mine = (owns 0 of.0 of.1).owner_is in let other = (owns i a there).owner_is in
    set_at-else pins n pin a.number (λ (same : a.number ≡ n). later (ap (λ (z : ℕ × ℕ). z.1) (sym other ∙ (ap owner (same ∙ of.2) ∙ mine))))
    ∙ (old i a there ∙ (ap (λ b. cond b v.pin 0) (ne_eqb i 0 later) ∙ sym (ap (λ b. cond b pin 0) (ne_eqb i 0 later)))))

others_fit : (key : Key) (m : ℕ → ℕ → ℕ) (w : World) (n pin id j : ℕ) (v d : View) → Fits key m w id v → IsOf v n → j ≢ id → Fits key m w j d → Fits key (pins_after m n pin) w j d
others_fit key m w n pin id j v d mine of apart f = record {
  knows = f.knows;
  owns = f.owns;
  saw = f.saw;
  has_sessions = f.has_sessions;
  rows = f.rows;
  found = f.found;
  exchanges = f.exchanges;
  fits_pin = f.fits_pin;
  pinned = others_pinned key.sizes.callers w.accounts w.owner (m PIN) n pin id j v d mine.owns of f.owns apart f.pinned;
  above_floor = f.above_floor;
  helps = f.helps;
  hands = f.hands;
  cursors = f.cursors;
  covers = f.covers;
  takes = f.takes;
  found_empty = f.found_empty;
  stopped = f.stopped;
  last_word = f.last_word;
  is_holder = f.is_holder;
  at_word = f.at_word;
  idles = f.idles;
  scans = f.scans;
  cuts = f.cuts;
  gives = f.gives;
  victims = f.victims;
  meets = f.meets;
  costs = f.costs;
}

own_fits : (key : Key) (m : ℕ → ℕ → ℕ) (w : World) (n pin id : ℕ) (v : View) → IsOf v n → pin ≤ length v.log + 1 → Fits key m w id v → Fits key (pins_after m n pin) w id (repinned v pin None)
own_fits key m w n pin id v of low f = record {
  knows = f.knows;
  owns = f.owns;
  saw = f.saw;
  has_sessions = f.has_sessions;
  rows = record { below = f.rows.below; opened = λ i j k a row e there at. absurd (none_some k e) };
  found = f.found;
  exchanges = let c = count_more (λ k. eqb k 2) v.made 17 refl in let e = f.exchanges in omega arith;
  fits_pin = record {
    session = λ _. let room = at_inside v.accounts 0 of.0 of.1 in omega arith;
    covers = low;
    fronts = λ k one. absurd (⊎_elim (none_some k) (none_some k) one);
    cursor_pinned = λ c e. absurd (none_some c e);
  };
  pinned = own_pinned key.sizes.callers w.accounts w.owner (m PIN) n pin id v None f.owns of f.pinned;
  above_floor = λ s k is one. absurd (⊎_elim (none_some k) (none_some k) one);
  helps = f.helps;
  hands = f.hands;
  cursors = λ c e. absurd (none_some c e);
  covers = λ c k declared entry unit e. absurd (none_some c e);
  takes = f.takes;
  found_empty = f.found_empty;
  stopped = f.stopped;
  last_word = f.last_word;
  is_holder = f.is_holder;
  at_word = f.at_word;
  idles = f.idles;
  scans = f.scans;
  cuts = f.cuts;
  gives = f.gives;
  victims = f.victims;
  meets = λ i k x e. absurd (none_some k e);
  costs = f.costs;
}

pins_shared : (key : Key) (m : ℕ → ℕ → ℕ) (w : World) (views : List View) (id : ℕ) (v : View) (n pin : ℕ) → get_elem? views id ≡ some v → Shared key m w views → Shared key (pins_after m n pin) w (set views id (repinned v pin None))
pins_shared key m w views id v n pin at s = let u : View = repinned v pin None in record {
  key_part = s.key_part;
  log = s.log;
  notes = s.notes;
  accounts = s.accounts;
  uses = s.uses;
  stamps = s.stamps;
  codes = s.codes;
  counts = subst (CountsPart key (m TAKE) (m PUT) w.log w.returned w.taken w.put) (sym (total_set (λ x. length x.hands) views id v u at refl)) s.counts;
  ring = s.ring;
  chains = s.chains;
  links = s.links;
  sweep = s.sweep;
  reclaimed = s.reclaimed;
  floors = s.floors;
  sessions = total_set (λ x. length x.accounts) views id v u at refl ∙ s.sessions;
  in_hands = set_in_hands w.uses views id v u refl at s.in_hands;
  sweeper = set_is_seat w.holder views id v u at s.sweeper;
}

repins_inv : (key : Key) (m : ℕ → ℕ → ℕ) (w : World) (views : List View) (id : ℕ) (v : View) (n pin : ℕ) → Inv key m w views → get_elem? views id ≡ some v → IsOf v n → pin ≤ length v.log + 1 → Inv key (pins_after m n pin) w (set views id (repinned v pin None))
repins_inv key m w views id v n pin i at of low =
    let all = fits_of key m w views i in let mine = all id v at in
    inv_of key (pins_after m n pin) w (set views id (repinned v pin None)) (pins_shared key m w views id v n pin at (shared_of key m w views i))
    (each_moves (Fits key m w) (Fits key (pins_after m n pin) w) views id (repinned v pin None) all (λ j d apart f. others_fit key m w n pin id j v d mine of apart f) (own_fits key m w n pin id v of low mine))

-- ---- the same pin, with the hits of a query

pub hits_told : (key : Key) (m : ℕ → ℕ → ℕ) (w : World) (views : List View) (id : ℕ) (v : View) (told : Told) → Inv key m w views → get_elem? views id ≡ some v → v.live ≡ true → 0 < length v.accounts → MayTellHits told v
    → (hits : List Hit) × AreHitsOf told v hits × ((accounts : ℕ → List Row) × Inv key m (record w { accounts = accounts }) (set views id (with_hits told hits v)))
hits_told key m w views id v (Hits unit radius looked) i at live one may = look_told code_reply code_decides key m w views id v (Hits unit radius looked) i at live one may
hits_told key m w views id v told i at live one may = ([], tt, (w.accounts, subst (Inv key m w) (sym (set_again views id v at)) i))

hits_counted : (told : Told) (v : View) (kind : ℕ) → MayTellHits told v → MayTellHits told (with_step v kind)
hits_counted (Hits unit radius looked) v kind may = (may.0, may.1, record { looks = may.2.looks; once = may.2.once; probes = may.2.probes })
hits_counted told v kind may = tt

hits_stay : (told : Told) (v : View) (hits : List Hit) → Stays v (with_hits told hits v)
hits_stay (Hits unit radius looked) v hits = look_stays code_reply (Hits unit radius looked) v (standing v) hits
hits_stay told v hits = record { live = refl; key = refl; sessions = refl; seen = omega arith; hand = refl; remembered = refl }

-- ---- the step

abbrev PinTold : Told → ℕ → Sat → ℕ → Sat → Type 0
PinTold told new me r n = PinStored told new me.0 n.0 × Keeps 0 (hand_of me.0) (pinned_to told new (remembered_of me.0)) me.0 n.0 × (n.1 ≡ me.1)

unopened : (key : Key) (m : ℕ → ℕ → ℕ) (w : World) (id : ℕ) (v : View) → Fits key m w id v → v.pin ≡ 0 → (x : Option ℕ) → v.snapshot ≡ x → x ≡ None
unopened key m w id v f free None e = refl
unopened key m w id v f free (Some k) e = let low = (f.fits_pin.fronts k (inr e)).0 in absurd (omega arith)

closed_all : (told : Told) (new : ℕ) (v : View) → MayUnpin told new v → closed told v.snapshot ≡ None
closed_all Closes new v may = refl
closed_all told new v may = may.2

unpins_at : (told : Told) (new : ℕ) (v : View) → MayUnpin told new v → (new ≡ 0) × (0 < v.pin)
unpins_at Closes new v may = (may.0, may.1)
unpins_at told new v may = (may.0, may.1)

module _ (key : Key) (id : ℕ) (me : Sat) (told : Told) (n new : ℕ) (s : St) (k : Kept key s) (at : get_elem? s.views id ≡ some me.0) (of : IsOf me.0 n) (live : me.0.live ≡ true) where
  abbrev v : View
  v = me.0

  abbrev m : ℕ → ℕ → ℕ
  m = mem (sizes key) s.words

  abbrev Done : Type 0
  Done = Ended key s (start (sizes key) PIN + n) new id me (PinTold told new me)

  inside : n < key.sizes.callers
  inside = subst (λ (z : ℕ). z < key.sizes.callers) (sym of.2) (k.inv.owns id v at 0 of.0 of.1).below

  repins : new ≤ length v.log + 1 → None ≡ cond (new == 0) (closed told v.snapshot) v.snapshot → PinStored told new v (repinned v new None) → Done
  repins low shut tells = (repinned v new None, keeps, tt, write_keeps key s k PIN n new id me (repinned v new None) k.world inside (repins_inv key m k.world s.views id v n new k.inv at of low), (tells, record { live = refl; key = refl; sessions = refl; hand = refl; seen = omega arith; remembered = λ i. record (remembered_of v) { pin = new; snapshot = shut i } }, refl))

  pins : MayPin new v → Done
  pins may = let none_open = unopened key m k.world id v (fits_of key m k.world s.views k.inv id v at) may.0 v.snapshot refl in let is : new ≡ length v.log + 1 = may.1 in
      repins (omega arith) (sym none_open ∙ ap (λ (b : Bool). cond b (closed told v.snapshot) v.snapshot) (sym (ne_eqb new 0 (λ z. omega arith)))) record {
        pins = λ _. ap (λ (p : ℕ). repinned v p None) is ∙ ap (repinned v (length v.log + 1)) (sym none_open);
        unpins = λ apart. absurd (apart may.0);
        keeps = λ apart. absurd (apart may.0);
      }

  unpins : MayUnpin told new v → Done
  unpins may = let a = unpins_at told new v may in let zero_is = a.0 in let low = a.1 in
      repins (omega arith) (sym (closed_all told new v may) ∙ ap (λ (b : Bool). cond b (closed told v.snapshot) v.snapshot) (sym (eq-eqb new 0 zero_is))) record {
        pins = λ e. absurd (omega arith);
        unpins = λ _ _. ap (λ (p : ℕ). repinned v p None) zero_is ∙ ap (repinned v 0) (sym (closed_all told new v may));
        keeps = λ _ apart. absurd (apart zero_is);
      }

  keeps_it : MayKeepPin told new v → Done
  keeps_it may =
      let same = may.0 in let low = may.1 in let u : View = with_step v 17 in let w : World = k.world in
      let one = at_inside v.accounts 0 of.0 of.1 in
      let r = hits_told key m w (set s.views id u) id u told (counted_inv key m w s.views id v 17 refl at k.inv) (set_at_own s.views id v u at) live (omega arith) (hits_counted told v 17 may.2) in
      let after : View = with_hits told r.0 u in let stays = hits_stay told u r.0 in
      let read : get_or s.words (start (sizes key) PIN + n) 0 ≡ new = sym (mem-read (sizes key) s.words PIN n inside) ∙ (ap (m PIN) of.2 ∙ (k.inv.pinned id v at 0 of.0 of.1 ∙ sym same)) in
      subst (λ (x : ℕ). Ended key s (start (sizes key) PIN + n) x id me (PinTold told new me)) read (
        after,
        keeps,
        tt,
        load_keeps key s k (start (sizes key) PIN + n) id me after (record w { accounts = r.2.0 }) (subst (Inv key m (record w { accounts = r.2.0 })) (set_twice s.views id u after) r.2.1),
        (
          record { pins = λ e. absurd (omega arith); unpins = λ _ e. absurd (omega arith); keeps = λ _ _. (r.0, r.1, refl) },
          record { live = stays.live; key = stays.key; sessions = stays.sessions; seen = stays.seen; hand = stays.hand; remembered = stays.remembered ∙ (λ i. record (remembered_of v) { pin = sym same i; snapshot = cond (sym (ne_eqb new 0 (λ z. omega arith)) i) (closed told v.snapshot) v.snapshot }) },
          refl,
        ),
      )

pub stores_pin : (key : Key) (slots id : ℕ) (me : Sat) (told : Told) (n new : ℕ) → MayStorePin told new me.0 → IsOf me.0 n → me.0.live ≡ true
    → Allows (Kept key) slots id me (start (sizes key) PIN + n) (λ _. new) (λ _. seated_leaving (λ x v r. pinned_to told x (remembered_of v)) (λ x v r w. PinStored told x v w) (step slots (start (sizes key) PIN + n) new 0 none) me new)
stores_pin key slots id me told n new may of live s k wide at small = ⊎_elim (pins key id me told n new s k at of live) (λ rest. ⊎_elim (unpins key id me told n new s k at of live) (keeps_it key id me told n new s k at of live) rest) may

-- the same at an address that the code has computed
pub stores_pin_at : (key : Key) (slots id : ℕ) (me : Sat) (told : Told) (n new a : ℕ) → a ≡ start (sizes key) PIN + n → MayStorePin told new me.0 → IsOf me.0 n → me.0.live ≡ true
    → Allows (Kept key) slots id me a (λ _. new) (λ _. seated_leaving (λ x v r. pinned_to told x (remembered_of v)) (λ x v r w. PinStored told x v w) (step slots a new 0 none) me new)
stores_pin_at key slots id me told n new a is may of live = subst (λ (z : ℕ). Allows (Kept key) slots id me z (λ _. new) (λ _. seated_leaving (λ x v r. pinned_to told x (remembered_of v)) (λ x v r w. PinStored told x v w) (step slots z new 0 none) me new)) (sym is) (stores_pin key slots id me told n new may of live)
