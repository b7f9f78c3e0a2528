-- Kind 22, of the count put: the holder raises it for the entry in limbo, which is in the ring from then on.
use Rattle.std.proofs.Common.{◌≡◌, ◌≢◌, ℕ, ◌+◌, ◌%◌, ◌<◌, ◌≤◌, is_some, inl, inr, ⊎_elim, true, false, true≢false, List, length, set, Option, Some, sym, ap, ◌∙◌, refl, subst, arith}
use mathlib.Core.Logic.{dite}
use native.Mathlib.Decide.{ℕ_discrete}
use mathlib.Core.Option.{none, some}
use lib.ListN.{get_elem?}
use Rattle.atomic_table.specs.Table.{step, keeps, Allows}
use Rattle.reg_words.specs.Memory.{TAKE, PUT, CODE, NEXT, GIVE, start, mem, write, set_at}
use Rattle.reg_rule.specs.declared.view.Key.{Key}
use Rattle.reg_rule.specs.declared.view.Place.{Place}
use Rattle.reg_rule.specs.declared.view.Holding.{Holding}
use Rattle.reg_rule.specs.declared.view.Taking.{Taking}
use Rattle.reg_rule.specs.declared.view.Taking.TheVariants.{Idle, Begun, Room, Named}
use Rattle.reg_rule.specs.declared.view.View.{View}
use Rattle.reg_rule.specs.Log.{IsWd}
use Rattle.reg_rule.specs.inner.World.{free, in_hand, holds, World}
use Rattle.reg_rule.specs.inner.SeatParts.{InHands}
use Rattle.reg_rule.specs.inner.Entries.{CountsPart}
use Rattle.reg_rule.specs.inner.Takers.{TakingFits, Stopped}
use Rattle.reg_rule.specs.inner.Queries.{Meets}
use Rattle.reg_rule.specs.inner.Rule.{Inv, Kept, sizes}
use Rattle.reg_rule.specs.Moves.{did, put_stored, holder_did, on_holding}
use Rattle.reg_rule.specs.Conditions.{MayStorePut}
use Rattle.reg_rule.specs.Steps.{PutStored}
use Rattle.reg_rule.specs.inner.Plays.{Sat, seated}
use Rattle.reg_rule.proofs.Views.{each_moves}
use Rattle.reg_rule.proofs.Counted.{total_set, set_is_seat, set_in_hands}
use Rattle.reg_rule.proofs.Fits.{Fits, fits_of, inv_of}
use Rattle.reg_rule.proofs.StampsKept.{set_here, set_away}
use Rattle.reg_rule.proofs.UsesKept.{uses_returned}
use Rattle.reg_rule.proofs.UsesMoved.{helps_moved, hands_moved}
use Rattle.reg_rule.proofs.WordKept.{at_shorter}
use Rattle.reg_rule.proofs.Giving.{in_limbo, low, work, held, none_between, sweep_given, reclaimed_given, links_given, ring_given, counts_given, fits_given, unlinked_given, cursors_given}
use Rattle.reg_rule.proofs.Holder.{HolderFits, NotesFit, notes_of, holder_fits, none_begins, others_free}
use Rattle.reg_rule.proofs.Doors.{write_keeps}
use Rattle.reg_rule.proofs.Variants.{free_hand, not_in_hand, not_free, none_some}
use Rattle.reg_rule.proofs.Sets.{count_fits}

-- the count put only rises, and what was put under a lower one stays there
rises : (taken put e : ℕ) (ring : ℕ → ℕ) (t : Taking) → TakingFits taken put ring t → TakingFits taken (put + 1) (set_at ring put e) t
rises taken put e ring Idle f = tt
rises taken put e ring (Begun t) f = f
rises taken put e ring (Room t p) f = let a = f.2 in (f.0, f.1, omega arith)
rises taken put e ring (Named t p entry) f = let a = f.1 in let b = f.2 in (f.0, f.1, omega arith, λ same. f.3 same ∙ sym (set_away ring put t e (λ z. omega arith)))

module _ (key : Key) (m : ℕ → ℕ → ℕ) (w : World) (views : List View) (id : ℕ) (v : View) (i : Inv key m w views) (at : get_elem? views id ≡ some v) (knows : v.key ≡ key)
    (h : Holding) (holding : v.holding ≡ Some h) (limbo : h.word.limbo ≡ true) (unpaid : h.paid ≡ false) (withdrawn e : ℕ) (wd : IsWd w.log h.place withdrawn e)
    (seen : h.place < length v.log) (gave : h.gave ≡ true) (scanned : h.freed ≡ v.key.sizes.callers) where
  abbrev world : World
  world = record w { uses = set_at w.uses e (free w.put); ring = set_at w.ring w.put e; put = w.put + 1; returned = h.place + 1 }

  abbrev words : ℕ → ℕ → ℕ
  words = write m PUT 0 (w.put + 1)

  abbrev after : View
  after = record v { holding = Some (put_stored h); made = did v 22 }

  was : w.uses e ≡ holds withdrawn
  was = held key m w views id v i at knows h holding limbo unpaid withdrawn e wd

  below : w.returned ≤ h.place
  below = low key m w views id v i at knows h holding limbo unpaid

  held_by : w.holder ≡ Some id
  held_by = (i.is_holder id v at).0 (ap is_some holding)

  -- what is held or in a hand was so before
  held_before : (x y : ℕ) → world.uses x ≡ holds y → w.uses x ≡ holds y
  held_before x y is = dite (ℕ_discrete x e)
      (λ same. absurd (not_free w.put y (sym (set_here w.uses e (free w.put)) ∙ (ap (set_at w.uses e (free w.put)) (sym same) ∙ is))))
      (λ apart. sym (set_away w.uses e x (free w.put) apart) ∙ is)

  hand_before : (x y z : ℕ) → world.uses x ≡ in_hand y z → w.uses x ≡ in_hand y z
  hand_before x y z is = dite (ℕ_discrete x e)
      (λ same. absurd (free_hand w.put y z (sym (set_here w.uses e (free w.put)) ∙ (ap (set_at w.uses e (free w.put)) (sym same) ∙ is))))
      (λ apart. sym (set_away w.uses e x (free w.put) apart) ∙ is)

  hand_still : (x y z : ℕ) → w.uses x ≡ in_hand y z → world.uses x ≡ in_hand y z
  hand_still x y z is = set_away w.uses e x (free w.put) (λ same. not_in_hand y z withdrawn (sym is ∙ (ap w.uses same ∙ was))) ∙ is

  -- a query met the entry stamped, if at all
  meets_still : (j : ℕ) (d : View) → Meets key (m CODE) w.log w.uses w.linked j d → Meets key (m CODE) w.log world.uses w.linked j d
  meets_still j d f l k x opened there = let y = f l k x opened there in record {
    table = y.table;
    inside = y.inside;
    named = y.named;
    unborn = λ none. let z = y.unborn none in
        let apart : x.entry ≢ e = λ same. true≢false (sym z.1 ∙ (ap (w.linked x.table) same ∙ unlinked_given key m w views id v i at knows h holding limbo unpaid withdrawn e wd x.table y.table)) in (
          ⊎_elim (λ a. inl (a.0, a.1, hand_still x.entry a.0 a.1 a.2)) (λ a. inr (a.0, set_away w.uses e x.entry (free w.put) apart ∙ a.1, a.2)) z.0,
          z.1,
          z.2,
        );
  }

  stopped_still : (j : ℕ) (d : View) → Stopped w.log w.returned j d → Stopped w.log (h.place + 1) j d
  stopped_still j d f = (f.0, λ c x entry from to. let a = below in f.1 c x entry (omega arith) to)

  -- a seat, with this in the place of what it holds
  seat_fits : (j : ℕ) (d : View) (o : Option Holding) → get_elem? views j ≡ some d → is_some d.holding ≡ is_some o → HolderFits key words world j (record d { holding = o }) → Fits key m w j d → Fits key words world j (record d { holding = o })
  seat_fits j d o there same own f = record {
    knows = f.knows;
    owns = f.owns;
    saw = f.saw;
    has_sessions = record { hands_most = f.has_sessions.hands_most; holding = λ e. f.has_sessions.holding (same ∙ e); spent = f.has_sessions.spent };
    rows = f.rows;
    found = f.found;
    exchanges = f.exchanges;
    fits_pin = f.fits_pin;
    pinned = f.pinned;
    above_floor = f.above_floor;
    helps = helps_moved key w.uses world.uses w.stamps _ w.log j d held_before f.helps;
    hands = hands_moved key w.uses world.uses w.stamps (m CODE) (m NEXT) w.linked j d hand_still f.hands;
    cursors = cursors_given key m w views id v i at knows h holding limbo unpaid withdrawn e wd j d there scanned;
    covers = f.covers;
    takes = rises w.taken w.put e w.ring d.taking f.takes;
    found_empty = f.found_empty;
    stopped = stopped_still j d f.stopped;
    last_word = f.last_word;
    is_holder = ((λ e. f.is_holder.0 (same ∙ e)), (λ e. sym same ∙ f.is_holder.1 e));
    at_word = own.at_word;
    idles = own.idles;
    scans = own.scans;
    cuts = own.cuts;
    gives = own.gives;
    victims = own.victims;
    meets = meets_still j d f.meets;
    costs = f.costs;
  }

  -- the entry is in the ring, so the holder has put nothing of another into it
  put_notes : NotesFit key m w v.log h → NotesFit key words world v.log (put_stored h)
  put_notes n = record {
    at_word = n.at_word;
    idles = λ past. absurd (omega arith);
    scans = n.scans;
    cuts = record {
      uncut = λ out. absurd (true≢false (sym limbo ∙ out));
      cut = λ out. absurd (true≢false (sym limbo ∙ out));
      unmarked = λ out. absurd (true≢false (sym limbo ∙ out));
      mark_is = λ k out. absurd (true≢false (sym limbo ∙ out));
    };
    gives = record {
      put_is = λ p none. absurd (none_some p none);
      given = λ none. absurd (true≢false (sym none));
      back = λ _. (limbo, refl);
      kept = λ none. absurd (true≢false none);
    };
    victims = λ other entry unit there dec. let y = n.victims other entry unit there dec in record {
      dead = λ stamped kept. absurd (omega arith);
      tables = y.tables;
      behind = λ l loaded kept. absurd (omega arith);
      way = y.way;
    };
  }

  abbrev noted : View
  noted = record v { holding = Some (put_stored h) }

  own_fits : Fits key m w id v → Fits key words world id after
  own_fits f = count_fits key words world id noted 22 refl
      (seat_fits id v (Some (put_stored h)) at (ap is_some holding) (holder_fits key words world id noted (put_stored h) refl (put_notes (notes_of key m w id v h holding f))) f)

  other_fits : (j : ℕ) (d : View) → j ≢ id → (Fits key m w j d) × (get_elem? views j ≡ some d) → Fits key words world j d
  other_fits j d apart known = seat_fits j d d.holding known.1 refl (none_begins key words world j d (others_free key m w id j d held_by apart known.0)) known.0

  in_hands : InHands world.uses views
  in_hands x seat j is = i.in_hands x seat j (hand_before x seat j is)

  stored : m GIVE (w.put % key.entries) ≡ e
  stored = let g = (i.gives id v at h holding).given gave in let saw = i.saw id v at in
      let there : IsWd v.log h.place withdrawn e = at_shorter v.log saw.0 h.place _ seen (subst (λ (l : List Place). IsWd l h.place withdrawn e) saw.1 wd) in
      ap (λ (n : ℕ). m GIVE (n % key.entries)) ((i.gives id v at h holding).put_is g.0 g.1) ∙ g.2 withdrawn e there

  pub put_inv : Inv key words world (set views id after)
  put_inv = inv_of key words world (set views id after) record {
    key_part = i.key_part;
    log = i.log;
    notes = i.notes;
    accounts = i.accounts;
    uses = uses_returned key w.log w.returned w.uses i.key_part.opening i.log.lawful i.uses h.place withdrawn e w.put wd below (none_between key m w views id v i at knows h holding limbo unpaid withdrawn e wd) was;
    stamps = record { words = i.stamps.words; kinds = i.stamps.kinds; fits = fits_given key m w views id v i at knows h holding limbo unpaid withdrawn e wd };
    codes = record { bodies = λ x entry unit is. i.codes.bodies x entry unit (held_before entry x is) };
    counts = subst (CountsPart key (m TAKE) (set_at (m PUT) 0 (w.put + 1)) w.log (h.place + 1) w.taken (w.put + 1)) (sym (total_set (λ x. length x.hands) views id v after at refl)) (counts_given key m w views id v i at knows h holding limbo unpaid withdrawn e wd);
    ring = ring_given key m w views id v i at knows h holding limbo unpaid withdrawn e wd (m GIVE) i.ring.named stored;
    chains = i.chains;
    links = links_given key m w views id v i at knows h holding limbo unpaid withdrawn e wd;
    sweep = sweep_given key m w views id v i at knows h holding limbo unpaid withdrawn e wd;
    reclaimed = reclaimed_given key m w views id v i at knows h holding limbo unpaid withdrawn e wd;
    floors = record { scanned = i.floors.scanned; ahead = i.floors.ahead; searched = i.floors.searched; unscanned = λ n small out. absurd (true≢false (sym (in_limbo key m w views id v i at knows h holding limbo unpaid) ∙ out)) };
    sessions = total_set (λ x. length x.accounts) views id v after at refl ∙ i.sessions;
    in_hands = set_in_hands world.uses views id v after refl at in_hands;
    sweeper = set_is_seat w.holder views id v after at i.sweeper;
  } (each_moves (λ j d. (Fits key m w j d) × (get_elem? views j ≡ some d)) (Fits key words world) views id after (λ j d there. (fits_of key m w views i j d there, there)) other_fits (own_fits (fits_of key m w views i id v at)))

pub stores_put : (key : Key) (slots id : ℕ) (me : Sat) (new : ℕ) → MayStorePut new me.0 → me.0.key ≡ key
    → Allows (Kept key) slots id me (start (sizes key) PUT + 0) (λ _. new) (λ _. seated (λ v r w. PutStored v w) (step slots (start (sizes key) PUT + 0) new 0 none) me new)
stores_put key slots id me new may knows s k wide at small =
    let v : View = me.0 in let m : ℕ → ℕ → ℕ = mem (sizes key) s.words in let w : World = k.world in let u : View = holder_did put_stored v 22 in
    let h : Holding = may.0 in let holding : v.holding ≡ Some h = may.2 in
    let t = work key m w s.views id v k.inv at knows h holding may.3 may.4 in
    let same : w.put + 1 ≡ new = ap (λ (n : ℕ). n + 1) ((k.inv.gives id v at h holding).put_is may.1 may.6) ∙ sym may.7 in
    let to : World = record w { uses = set_at w.uses t.1 (free w.put); ring = set_at w.ring w.put t.1; put = w.put + 1; returned = h.place + 1 } in
    let inv : Inv key (write m PUT 0 (w.put + 1)) to (set s.views id (record v { holding = Some (put_stored h); made = did v 22 })) = put_inv key m w s.views id v k.inv at knows h holding may.3 may.4 t.0 t.1 t.2 may.9 may.5 may.8 in
    let kept : Inv key (write m PUT 0 new) to (set s.views id u) =
    subst (λ (o : Option Holding). Inv key (write m PUT 0 new) to (set s.views id (record v { holding = o; made = did v 22 }))) (sym (ap (on_holding put_stored) holding))
    (subst (λ (n : ℕ). Inv key (write m PUT 0 n) to (set s.views id (record v { holding = Some (put_stored h); made = did v 22 }))) same inv) in
    (u, keeps, tt, write_keeps key s k PUT 0 new id me u to (omega arith) kept, (refl, record { live = refl; key = refl; sessions = refl; hand = refl; seen = omega arith; remembered = refl }, refl))
