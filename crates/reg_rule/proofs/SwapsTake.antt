-- Kind 12: an exchange of the count taken. Where it is won, the entry of the ring place of that count is in hand.
use Rattle.std.proofs.Common.{◌≡◌, ◌≢◌, ℕ, zero, suc, ◌+◌, ◌<◌, ◌≤◌, ◌==◌, eqb, cond, Bool, true, inl, inr, ⊎_elim, List, [], ◌∷◌, length, set, Some, sym, ap, ◌∙◌, refl, subst, arith, eq-eqb, ne_eqb}
use mathlib.Core.Logic.{dite}
use native.Mathlib.Decide.{ℕ_discrete}
use mathlib.Core.Option.{none, some, some-injective, some-ne-none}
use lib.ListN.{get_elem?}
use Rattle.atomic_table.specs.Table.{step, Allows}
use Rattle.atomic_table.proofs.Lists.{set_else}
use Rattle.reg_words.specs.Memory.{TAKE, PUT, CODE, NEXT, NOTE, start, mem, write, set_at}
use Rattle.reg_rule.specs.declared.view.Key.{Key}
use Rattle.reg_rule.specs.declared.view.Hand.{Hand}
use Rattle.reg_rule.specs.declared.view.Taking.{Taking}
use Rattle.reg_rule.specs.declared.view.Taking.TheVariants.{Idle, Begun, Room, Named}
use Rattle.reg_rule.specs.declared.view.View.{View}
use Rattle.reg_rule.specs.Log.{At}
use Rattle.reg_rule.specs.Seats.{hand_of}
use Rattle.reg_rule.specs.inner.World.{free, in_hand, holds, World}
use Rattle.reg_rule.specs.inner.SeatParts.{InHands}
use Rattle.reg_rule.specs.inner.HelpParts.{IsComplete, Helps}
use Rattle.reg_rule.specs.inner.HandParts.{HandFits, Holds}
use Rattle.reg_rule.specs.inner.Takers.{TakingFits}
use Rattle.reg_rule.specs.inner.Queries.{Meets}
use Rattle.reg_rule.specs.inner.Rule.{Inv, Kept, sizes}
use Rattle.reg_rule.specs.Moves.{new_hand, took, missed}
use Rattle.reg_rule.specs.Conditions.{MaySwapTake}
use Rattle.reg_rule.specs.Steps.{TakeSwapped}
use Rattle.reg_rule.specs.inner.Plays.{Sat, seated_taking}
use Rattle.reg_rule.proofs.Views.{each_moves}
use Rattle.reg_rule.proofs.Counted.{total_set, set_at_own, set_is_seat, count_more}
use Rattle.reg_rule.proofs.Fits.{Fits, fits_of, inv_of}
use Rattle.reg_rule.proofs.Sets.{fits_set}
use Rattle.reg_rule.proofs.StampsKept.{set_here, set_away, fits_taken}
use Rattle.reg_rule.proofs.UsesKept.{uses_taken}
use Rattle.reg_rule.proofs.CountsKept.{counts_taken}
use Rattle.reg_rule.proofs.LoadsTake.{taken_most}
use Rattle.reg_rule.proofs.Doors.{swap_keeps}
use Rattle.reg_rule.proofs.Variants.{free_hand, free_same, hand_seat, hand_place, not_in_hand, not_free}

later : (a b : ℕ) → a ≤ b → b ≢ a → a + 1 ≤ b
later a b low apart = grind (arith)

-- the count only rises
rises : (taken put : ℕ) (ring : ℕ → ℕ) (t : Taking) → TakingFits taken put ring t → TakingFits (taken + 1) put ring t
rises taken put ring Idle f = tt
rises taken put ring (Begun t) f = omega arith
rises taken put ring (Room t p) f = let a = f.0 in (omega arith, f.1, f.2)
rises taken put ring (Named t p entry) f = let a = f.0 in (omega arith, f.1, f.2, λ e. absurd (omega arith))

module _ (key : Key) (m : ℕ → ℕ → ℕ) (w : World) (views : List View) (id : ℕ) (v : View) (i : Inv key m w views) (at : get_elem? views id ≡ some v) (empty : v.hands ≡ []) (session : 0 < length v.accounts)
    (p entry : ℕ) (named : v.taking ≡ Named w.taken p entry) where
  fits : TakingFits w.taken w.put w.ring (Named w.taken p entry)
  fits = subst (TakingFits w.taken w.put w.ring) named (i.takes id v at)

  more : w.taken < w.put
  more = let a = fits.1 in let b = fits.2 in omega arith

  is : entry ≡ w.ring w.taken
  is = fits.3 refl

  pub room : entry < key.entries
  room = subst (λ (x : ℕ). x < key.entries) (sym is) (i.ring.rests w.taken (omega arith) more).0

  was : w.uses entry ≡ free w.taken
  was = ap w.uses is ∙ (i.ring.rests w.taken (omega arith) more).1

  -- where an entry holds something, it holds it still
  held_still : (x y : ℕ) → w.uses x ≡ holds y → set_at w.uses entry (in_hand id 0) x ≡ holds y
  held_still x y e = set_away w.uses entry x (in_hand id 0) (λ same. not_free w.taken y (sym was ∙ (ap w.uses (sym same) ∙ e))) ∙ e

  hand_still : (x y z : ℕ) → w.uses x ≡ in_hand y z → set_at w.uses entry (in_hand id 0) x ≡ in_hand y z
  hand_still x y z e = set_away w.uses entry x (in_hand id 0) (λ same. free_hand w.taken y z (sym was ∙ (ap w.uses (sym same) ∙ e))) ∙ e

  held_before : (x y : ℕ) → set_at w.uses entry (in_hand id 0) x ≡ holds y → w.uses x ≡ holds y
  held_before x y e = dite (ℕ_discrete x entry)
      (λ same. absurd (not_in_hand id 0 y (sym (set_here w.uses entry (in_hand id 0)) ∙ (ap (set_at w.uses entry (in_hand id 0)) (sym same) ∙ e))))
      (λ apart. sym (set_away w.uses entry x (in_hand id 0) apart) ∙ e)

  free_before : (x y : ℕ) → set_at w.uses entry (in_hand id 0) x ≡ free y → (x ≢ entry) × (w.uses x ≡ free y)
  free_before x y e = dite (ℕ_discrete x entry)
      (λ same. absurd (free_hand y id 0 (sym (sym (set_here w.uses entry (in_hand id 0)) ∙ (ap (set_at w.uses entry (in_hand id 0)) (sym same) ∙ e)))))
      (λ apart. (apart, sym (set_away w.uses entry x (in_hand id 0) apart) ∙ e))

  complete : (n : ℕ) → IsComplete key.carried.base (m NOTE) w.uses w.stamps w.log n → IsComplete key.carried.base (m NOTE) (set_at w.uses entry (in_hand id 0)) w.stamps w.log n
  complete n c = record {
    noted = c.noted;
    born = λ un e d holding. c.born un e d (held_before e _ holding);
    dead = λ x e kind d holding. c.dead x e kind d (held_before e x holding);
  }

  helps_still : (j : ℕ) (d : View) → Helps key (m NOTE) w.log w.uses w.stamps j d → Helps key (m NOTE) w.log (set_at w.uses entry (in_hand id 0)) w.stamps j d
  helps_still j d f = record { noted = f.noted; noted_seen = f.noted_seen; helped = λ n e. let y = f.helped n e in (y.0, complete n y.1) }

  hands_still : (j : ℕ) (d : View) → Holds key (m CODE) (m NEXT) w.uses w.stamps w.linked j d → Holds key (m CODE) (m NEXT) (set_at w.uses entry (in_hand id 0)) w.stamps w.linked j d
  hands_still j d f l h there = let y = f l h there in record {
    inside = y.inside;
    use_is = hand_still h.entry j l y.use_is;
    unborn = y.unborn;
    code = y.code;
    tables = y.tables;
    written = y.written;
    ready = y.ready;
  }

  meets_still : (j : ℕ) (d : View) → Meets key (m CODE) w.log w.uses w.linked j d → Meets key (m CODE) w.log (set_at w.uses entry (in_hand id 0)) w.linked j d
  meets_still j d f l k x opened there = let y = f l k x opened there in record {
    table = y.table;
    inside = y.inside;
    named = y.named;
    unborn = λ e. let z = y.unborn e in (
      ⊎_elim (λ a. inl (a.0, a.1, hand_still x.entry a.0 a.1 a.2)) (λ a. inr (a.0, held_still x.entry a.0 a.1, a.2)) z.0,
      z.1,
      z.2,
    );
  }

  other_fits : (j : ℕ) (d : View) → Fits key m w j d → Fits key (write m TAKE 0 (w.taken + 1)) (record w { taken = w.taken + 1; uses = set_at w.uses entry (in_hand id 0) }) j d
  other_fits j d f = record {
    knows = f.knows;
    owns = f.owns;
    saw = f.saw;
    has_sessions = f.has_sessions;
    rows = f.rows;
    found = f.found;
    exchanges = f.exchanges;
    fits_pin = f.fits_pin;
    pinned = f.pinned;
    above_floor = f.above_floor;
    helps = helps_still j d f.helps;
    hands = hands_still j d f.hands;
    cursors = f.cursors;
    covers = f.covers;
    takes = rises w.taken w.put w.ring d.taking f.takes;
    found_empty = f.found_empty;
    stopped = f.stopped;
    last_word = f.last_word;
    is_holder = f.is_holder;
    at_word = f.at_word;
    idles = f.idles;
    scans = f.scans;
    cuts = f.cuts;
    gives = f.gives;
    victims = f.victims;
    meets = meets_still j d f.meets;
    costs = f.costs;
  }

  new_fits : (j : ℕ) (h : Hand) → At (new_hand entry ∷ []) j h → HandFits key (m CODE) (m NEXT) (set_at w.uses entry (in_hand id 0)) w.stamps w.linked id j h
  new_fits zero h there = subst (HandFits key (m CODE) (m NEXT) (set_at w.uses entry (in_hand id 0)) w.stamps w.linked id 0) (some-injective _ _ there) record {
    inside = room;
    use_is = set_here w.uses entry (in_hand id 0);
    unborn = λ e. absurd (cc);
    code = λ x e. absurd (cc);
    tables = λ table small. i.links.ring table entry w.taken small room was;
    written = λ table e. absurd (cc);
    ready = λ l e. absurd (cc);
  }
  new_fits (suc j) h there = absurd (some-ne-none _ (sym there))

  own_fits : Fits key m w id v → Fits key (write m TAKE 0 (w.taken + 1)) (record w { taken = w.taken + 1; uses = set_at w.uses entry (in_hand id 0) }) id (took v entry)
  own_fits f = record {
    knows = f.knows;
    owns = f.owns;
    saw = f.saw;
    has_sessions = record { hands_most = session; holding = f.has_sessions.holding; spent = f.has_sessions.spent };
    rows = f.rows;
    found = f.found;
    exchanges = let c = count_more (λ k. eqb k 2) v.made 12 refl in let x = f.exchanges in omega arith;
    fits_pin = f.fits_pin;
    pinned = f.pinned;
    above_floor = f.above_floor;
    helps = helps_still id v f.helps;
    hands = new_fits;
    cursors = f.cursors;
    covers = f.covers;
    takes = tt;
    found_empty = f.found_empty;
    stopped = f.stopped;
    last_word = f.last_word;
    is_holder = f.is_holder;
    at_word = f.at_word;
    idles = f.idles;
    scans = f.scans;
    cuts = f.cuts;
    gives = f.gives;
    victims = f.victims;
    meets = meets_still id v f.meets;
    costs = f.costs;
  }

  in_hands : InHands (set_at w.uses entry (in_hand id 0)) (set views id (took v entry))
  in_hands x seat j e = dite (ℕ_discrete x entry)
      (λ same. let one : in_hand id 0 ≡ in_hand seat j = sym (set_here w.uses entry (in_hand id 0)) ∙ (ap (set_at w.uses entry (in_hand id 0)) (sym same) ∙ e) in (
        took v entry,
        new_hand entry,
        subst (λ (n : ℕ). get_elem? (set views id (took v entry)) n ≡ some (took v entry)) (hand_seat id 0 seat j one) (set_at_own views id v (took v entry) at),
        subst (λ (n : ℕ). At (new_hand entry ∷ []) n (new_hand entry)) (hand_place id 0 seat j one) refl,
        sym same,
      ))
      (λ apart. let old = i.in_hands x seat j (sym (set_away w.uses entry x (in_hand id 0) apart) ∙ e) in
      dite (ℕ_discrete seat id)
      (λ own. let here : old.0 ≡ v = some-injective old.0 v (sym old.2 ∙ (ap (λ k. get_elem? views k) own ∙ at)) in
      absurd (some-ne-none _ (sym (subst (λ (l : List Hand). At l j old.1) (ap (λ (u : View). u.hands) here ∙ empty) old.3))))
      (λ away. (old.0, old.1, set_else views id seat (took v entry) away ∙ old.2, old.3, old.4)))

  pub won : Inv key (write m TAKE 0 (w.taken + 1)) (record w { taken = w.taken + 1; uses = set_at w.uses entry (in_hand id 0) }) (set views id (took v entry))
  won = inv_of key (write m TAKE 0 (w.taken + 1)) (record w { taken = w.taken + 1; uses = set_at w.uses entry (in_hand id 0) }) (set views id (took v entry)) record {
    key_part = i.key_part;
    log = i.log;
    notes = i.notes;
    accounts = i.accounts;
    uses = uses_taken key w.log w.returned w.uses i.key_part.opening i.log.lawful i.uses entry w.taken id 0 was;
    stamps = record { words = i.stamps.words; kinds = i.stamps.kinds; fits = fits_taken key w.log w.returned w.uses w.stamps i.key_part.opening i.log.lawful i.stamps.fits entry w.taken id 0 was };
    codes = record { bodies = λ x e un holding. i.codes.bodies x e un (held_before e x holding) };
    counts = counts_taken key (m TAKE) (m PUT) w.ring w.log w.returned w.taken w.put views id v p entry at empty named (i.takes id v at) i.counts;
    ring = record {
      named = λ j a b. i.ring.named j (omega arith) b;
      rests = λ j a b. let old = i.ring.rests j (omega arith) b in (old.0, set_away w.uses entry (w.ring j) (in_hand id 0) (λ same. let one : w.taken ≡ j = free_same w.taken j (sym was ∙ (ap w.uses (sym same) ∙ old.1)) in omega arith) ∙ old.1);
      none_else = λ x j inside e. let b = free_before x j e in let old = i.ring.none_else x j inside b.1 in (
        dite (ℕ_discrete j w.taken) (λ same. absurd (b.0 (sym old.2 ∙ (ap w.ring same ∙ sym is)))) (λ apart. let low = old.0 in later w.taken j low apart),
        old.1,
        old.2,
      );
    };
    chains = i.chains;
    links = record { held = λ t x e small inside holding kept. i.links.held t x e small inside (held_before e x holding) kept; ring = λ t e j small inside holding. i.links.ring t e j small inside (free_before e j holding).1 };
    sweep = i.sweep;
    reclaimed = i.reclaimed;
    floors = i.floors;
    sessions = total_set (λ x. length x.accounts) views id v (took v entry) at refl ∙ i.sessions;
    in_hands = in_hands;
    sweeper = set_is_seat w.holder views id v (took v entry) at i.sweeper;
  } (each_moves (Fits key m w) (Fits key (write m TAKE 0 (w.taken + 1)) (record w { taken = w.taken + 1; uses = set_at w.uses entry (in_hand id 0) })) views id (took v entry) (fits_of key m w views i) (λ j d ne f. other_fits j d f) (own_fits (fits_of key m w views i id v at)))

lost : (key : Key) (m : ℕ → ℕ → ℕ) (w : World) (views : List View) (id : ℕ) (v : View) (found : ℕ) → Inv key m w views → get_elem? views id ≡ some v → found ≡ w.taken → Inv key m w (set views id (missed v found))
lost key m w views id v found i at is = let f = fits_of key m w views i id v at in fits_set key m w views id v (missed v found) i at refl refl record {
  knows = f.knows;
  owns = f.owns;
  saw = f.saw;
  has_sessions = f.has_sessions;
  rows = f.rows;
  found = f.found;
  exchanges = let c = count_more (λ k. eqb k 2) v.made 12 refl in let x = f.exchanges in omega arith;
  fits_pin = f.fits_pin;
  pinned = f.pinned;
  above_floor = f.above_floor;
  helps = f.helps;
  hands = f.hands;
  cursors = f.cursors;
  covers = f.covers;
  takes = (let low : found ≤ w.taken = omega arith in low);
  found_empty = f.found_empty;
  stopped = f.stopped;
  last_word = f.last_word;
  is_holder = f.is_holder;
  at_word = f.at_word;
  idles = f.idles;
  scans = f.scans;
  cuts = f.cuts;
  gives = f.gives;
  victims = f.victims;
  meets = f.meets;
  costs = f.costs;
}

same_entry : (t p e a b c : ℕ) → Named t p e ≡ Named a b c → e ≡ c
same_entry t p e a b c x = cc

pub swaps_take : (key : Key) (slots id : ℕ) (me : Sat) (old new entry : ℕ) → MaySwapTake old new me.0 → ((p : ℕ) × (me.0.taking ≡ Named old p entry)) → me.0.live ≡ true → 0 < length me.0.accounts
    → Allows (Kept key) slots id me (start (sizes key) TAKE + 0) (λ n. cond (n == old) new n) (seated_taking entry TakeSwapped (step slots (start (sizes key) TAKE + 0) old new none) me)
swaps_take key slots id me old new entry may named live has s k wide at small =
    let v : View = me.0 in let w : World = k.world in let i = k.inv in let m : ℕ → ℕ → ℕ = mem (sizes key) s.words in let knows : v.key ≡ key = i.knows id v at live in
    let most = taken_most key m w s.views i in let word = i.counts.take_word in let low : old ≤ w.taken = (subst (TakingFits w.taken w.put w.ring) named.1 (i.takes id v at)).0 in
    swap_keeps key s k TAKE 0 old new id me (seated_taking entry TakeSwapped (step slots (start (sizes key) TAKE + 0) old new none) me) (omega arith)
    (λ same. let here : old ≡ w.taken = sym same ∙ word in let there : v.taking ≡ Named w.taken named.0 entry = named.1 ∙ ap (λ (n : ℕ). Named n named.0 entry) here in
    let next : w.taken + 1 ≡ new = ap (λ (n : ℕ). n + 1) (sym here) ∙ sym may.1 in (
      took v entry,
      record w { taken = w.taken + 1; uses = set_at w.uses entry (in_hand id 0) },
      subst (λ (n : ℕ). Inv key (write m TAKE 0 n) (record w { taken = w.taken + 1; uses = set_at w.uses entry (in_hand id 0) }) (set s.views id (took v entry))) next (won key m w s.views id v i at may.0 has named.0 entry there),
      (
        record {
          won = λ p e is _. let one : entry ≡ e = same_entry old named.0 entry old p e (sym named.1 ∙ is) in (
            ap (took v) one,
            subst (λ (z : Key). e < z.entries) (sym knows) (subst (λ (n : ℕ). n < key.entries) one (room key m w s.views id v i at may.0 has named.0 entry there)),
            subst (λ (z : Key). old < z.sizes.log + z.sizes.callers) (sym knows) (let more = taken_most key (write m TAKE 0 (w.taken + 1)) (record w { taken = w.taken + 1; uses = set_at w.uses entry (in_hand id 0) }) (set s.views id (took v entry)) (won key m w s.views id v i at may.0 has named.0 entry there) in omega arith),
          );
          lost = λ other. absurd (other same);
        },
        record { live = refl; key = refl; sessions = refl; seen = omega arith; hand = sym (ap (λ (b : Bool). cond b (Some entry) (hand_of v)) (eq-eqb (m TAKE 0) old same)); remembered = refl },
        refl,
      ),
    ))
    (λ apart. (
      missed v (m TAKE 0),
      w,
      lost key m w s.views id v (m TAKE 0) i at word,
      (
        record {
          won = λ p e is same. absurd (apart same);
          lost = λ other. (refl, above old (m TAKE 0) w.taken low word apart, subst (λ (z : Key). m TAKE 0 ≤ z.sizes.log + z.sizes.callers) (sym knows) (subst (λ (n : ℕ). n ≤ key.sizes.log + key.sizes.callers) (sym word) most));
        },
        record { live = refl; key = refl; sessions = refl; seen = omega arith; hand = sym (ap (λ (b : Bool). cond b (Some entry) (hand_of v)) (ne_eqb (m TAKE 0) old apart)); remembered = refl },
        refl,
      ),
    )) where
      above : (a b c : ℕ) → a ≤ c → b ≡ c → b ≢ a → a < b
      above a b c x y ne = grind (arith)
