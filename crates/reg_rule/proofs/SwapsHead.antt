-- Kind 15: an exchange of a head, to push the entry in hand.
use Rattle.std.proofs.Common.{◌≡◌, ◌≢◌, ℕ, ◌+◌, ◌-◌, ◌*◌, ◌/◌, ◌^◌, ◌++◌, ◌<◌, ◌≤◌, ◌==◌, ◌||◌, cond, Bool, true, false, true≢false, ◌⊎◌, inr, List, [], ◌∷◌, set, length, IsSome, None, Some, sym, refl, ap, ◌∙◌, subst, eq-eqb, ne_eqb, arith}
use Rattle.std.proofs.Math.Nat.{mod-lt}
use Rattle.std.proofs.lemmas.Nat.{pow_pos}
use Rattle.std.proofs.Math.Decide.{dec_lt}
use mathlib.Core.Logic.{dite}
use native.Mathlib.Decide.{ℕ_discrete}
use mathlib.Core.Option.{none, some}
use lib.ListN.{get_elem?}
use Rattle.atomic_table.specs.Table.{step, Allows}
use Rattle.atomic_table.proofs.Lists.{at_longer}
use Rattle.mih_plan.specs.Buckets.{bucket_of}
use Rattle.reg_words.specs.Memory.{TAKE, PUT, HEAD, CODE, NEXT, start, mem, write}
use Rattle.reg_rule.specs.Links.{link_word}
use Rattle.reg_rule.specs.declared.view.Key.{Key}
use Rattle.reg_rule.specs.declared.view.Hand.{Hand}
use Rattle.reg_rule.specs.declared.view.Holding.{Holding}
use Rattle.reg_rule.specs.declared.view.Place.{Place}
use Rattle.reg_rule.specs.declared.view.View.{View}
use Rattle.reg_rule.specs.Log.{IsWd}
use Rattle.reg_rule.specs.Tables.{is_in}
use Rattle.reg_rule.specs.Chains.{Member}
use Rattle.reg_rule.specs.Conditions.{MaySwapHead}
use Rattle.reg_rule.specs.Moves.{pushed, with_step}
use Rattle.reg_rule.specs.Steps.{HeadSwapped}
use Rattle.reg_rule.specs.inner.World.{free, in_hand, holds, World}
use Rattle.reg_rule.specs.inner.SeatParts.{Saw}
use Rattle.reg_rule.specs.inner.Entries.{CountsPart}
use Rattle.reg_rule.specs.inner.Sweeping.{IsReclaimed}
use Rattle.reg_rule.specs.inner.ChainParts.{after, head_cell, next_in}
use Rattle.reg_rule.specs.inner.HandParts.{HandFits}
use Rattle.reg_rule.specs.inner.Walks.{Cursors, Covers}
use Rattle.reg_rule.specs.inner.HolderParts.{AtWord, Victims}
use Rattle.reg_rule.specs.inner.Queries.{Meets}
use Rattle.reg_rule.specs.inner.Plays.{Sat, seated_with}
use Rattle.reg_rule.specs.inner.Rule.{Inv, Kept, sizes}
use Rattle.reg_rule.proofs.Views.{each_moves}
use Rattle.reg_rule.proofs.Counted.{total_set, set_is_seat, count_more}
use Rattle.reg_rule.proofs.StampsMoved.{held_still}
use Rattle.reg_rule.proofs.StoresNext.{cell_inside}
use Rattle.reg_rule.proofs.Chained.{test_apart}
use Rattle.reg_rule.proofs.ChainSteps.{pushes}
use Rattle.reg_rule.proofs.CursorsCut.{set_in, set_in_here, set_in_away}
use Rattle.reg_rule.proofs.CursorsMoved.{cursor_pushed, walk_pushed}
use Rattle.reg_rule.proofs.Fits.{Fits, fits_of, inv_of}
use Rattle.reg_rule.proofs.Doors.{swap_keeps}
use Rattle.reg_rule.proofs.Variants.{none_some, not_in_hand, hand_seat}
use Rattle.reg_rule.proofs.Handed.{on_hand-length, one_hand, handed-first, handed_in_hands}
use Rattle.reg_rule.proofs.Sets.{counted_inv}

pub bucket_below : (code table bits : ℕ) → bucket_of code table bits < 2 ^ bits
bucket_below code table bits = mod-lt (code / 2 ^ (48 - 16 * table)) (pow_pos bits)

-- ---- one table more

or_false : (b : Bool) → (b || false) ≡ b
or_false true = refl
or_false false = refl

or_true : (b : Bool) → (b || true) ≡ true
or_true true = refl
or_true false = refl

pub in_more-here : (t table : ℕ) (l : List ℕ) → table ≡ t → is_in t (l ++ table ∷ []) ≡ true
in_more-here t table [] e = ap (λ (b : Bool). b || false) (eq-eqb table t e)
in_more-here t table (x ∷ l) e = ap (λ (b : Bool). (x == t) || b) (in_more-here t table l e) ∙ or_true (x == t)

pub in_more-else : (t table : ℕ) (l : List ℕ) → table ≢ t → is_in t (l ++ table ∷ []) ≡ is_in t l
in_more-else t table [] e = ap (λ (b : Bool). b || false) (ne_eqb table t e)
in_more-else t table (x ∷ l) e = ap (λ (b : Bool). (x == t) || b) (in_more-else t table l e)

module _ (key : Key) (m : ℕ → ℕ → ℕ) (w : World) (views : List View) (id : ℕ) (v : View) (i : Inv key m w views) (at : get_elem? views id ≡ some v)
    (h : Hand) (code : ℕ) (hand : v.hands ≡ h ∷ []) (unborn : h.unborn ≡ true) (code_is : h.code ≡ Some code) (table bucket old : ℕ) (small : table < 4) (unlinked : is_in table h.linked ≡ false)
    (ready : h.ready ≡ Some (record { table = table; word = old })) (in_bucket : bucket_of code table key.sizes.bits ≡ bucket) where
  mine : HandFits key (m CODE) (m NEXT) w.uses w.stamps w.linked id 0 h
  mine = i.hands id v at 0 h (ap (λ (z : List Hand). get_elem? z 0) hand)

  held : w.uses h.entry ≡ in_hand id 0
  held = mine.use_is

  off : w.linked table h.entry ≡ false
  off = mine.tables table small ∙ unlinked

  wide : bucket < 2 ^ key.sizes.bits
  wide = subst (λ (z : ℕ). z < 2 ^ key.sizes.bits) in_bucket (bucket_below code table key.sizes.bits)

  abbrev cell : ℕ
  cell = head_cell key.sizes.bits table bucket

  pub room : cell < 4 * 2 ^ key.sizes.bits
  room = cell_inside (2 ^ key.sizes.bits) table bucket small wide

  abbrev chains' : ℕ → ℕ → List ℕ
  chains' = set_in w.chains table bucket (h.entry ∷ w.chains table bucket)

  abbrev linked' : ℕ → ℕ → Bool
  linked' = set_in w.linked table h.entry true

  abbrev pub world' : World
  world' = record w { chains = chains'; linked = linked' }

  not_there : (b : ℕ) → Member h.entry (w.chains table b) → ⊥
  not_there b there = true≢false (sym (i.chains.inside table b h.entry there).1 ∙ off)

  else_same : (t x : ℕ) → (x ≡ h.entry → ⊥) → linked' t x ≡ w.linked t x
  else_same t x apart = set_in_away w.linked table h.entry t x true (λ p q. apart q)

  on_still : (t x : ℕ) → w.linked t x ≡ true → linked' t x ≡ true
  on_still t x on = dite (ℕ_discrete t table)
      (λ p. dite (ℕ_discrete x h.entry) (λ q. set_in_here w.linked table h.entry t x true p q) (λ q. else_same t x q ∙ on))
      (λ p. set_in_away w.linked table h.entry t x true (λ y z. p y) ∙ on)

  not_mine : (x entry : ℕ) → w.uses entry ≡ holds x → entry ≡ h.entry → ⊥
  not_mine x entry has q = not_in_hand id 0 x (sym held ∙ (ap w.uses (sym q) ∙ has))

  reclaimed_holds : (d x entry : ℕ) → IsReclaimed w.log w.begun w.returned d x entry → w.uses entry ≡ holds x
  reclaimed_holds d x entry r = held_still key m w views i d x entry r.withdraws r.kept

  hand_free : (j : ℕ) → in_hand id 0 ≡ free j → ⊥
  hand_free j e = cc

  -- ---- chains

  member_still : (t b x : ℕ) → Member x (w.chains t b) → Member x (chains' t b)
  member_still t b x there = dite (ℕ_discrete t table)
      (λ p. dite (ℕ_discrete b bucket)
      (λ q. subst (λ (l : List ℕ). Member x l) (sym (set_in_here w.chains table bucket t b (h.entry ∷ w.chains table bucket) p q)) (inr (subst (λ (z : ℕ × ℕ). Member x (w.chains z.0 z.1)) (λ k. (p k, q k)) there)))
      (λ q. subst (λ (l : List ℕ). Member x l) (sym (set_in_away w.chains table bucket t b (h.entry ∷ w.chains table bucket) (λ y z. q z))) there))
      (λ p. subst (λ (l : List ℕ). Member x l) (sym (set_in_away w.chains table bucket t b (h.entry ∷ w.chains table bucket) (λ y z. p y))) there)

  after_still : (t b x : ℕ) → Member x (w.chains t b) → after x (chains' t b) ≡ after x (w.chains t b)
  after_still t b x there = dite (ℕ_discrete t table)
      (λ p. dite (ℕ_discrete b bucket)
      (λ q. let same : w.chains t b ≡ w.chains table bucket = λ k. w.chains (p k) (q k) in
      ap (after x) (set_in_here w.chains table bucket t b (h.entry ∷ w.chains table bucket) p q)
      ∙ (test_apart h.entry x (w.chains table bucket) (after x (w.chains table bucket)) (λ e. not_there bucket (subst (λ (z : ℕ). Member z (w.chains table bucket)) (sym e) (subst (λ (l : List ℕ). Member x l) same there)))
      ∙ ap (after x) (sym same)))
      (λ q. ap (after x) (set_in_away w.chains table bucket t b (h.entry ∷ w.chains table bucket) (λ y z. q z))))
      (λ p. ap (after x) (set_in_away w.chains table bucket t b (h.entry ∷ w.chains table bucket) (λ y z. p y)))

  points : next_in key.entries (m NEXT) table h.entry ≡ old
  points = (mine.ready (record { table = table; word = old }) ready).1

  -- ---- seats

  walks : (j : ℕ) (d : View) → Cursors key (m NEXT) w.log w.chains w.linked w.begun w.returned w.mark w.freed j d → Cursors key (m NEXT) w.log chains' linked' w.begun w.returned w.mark w.freed j d
  walks j d before c is = cursor_pushed key (m NEXT) w.log w.chains w.linked w.begun w.returned w.mark w.freed (m HEAD) (m CODE) w.uses i.chains d.pin d.accounts table bucket h.entry id 0 held off reclaimed_holds d.visited c (before c is)

  meets_all : (j : ℕ) (d : View) → Cursors key (m NEXT) w.log w.chains w.linked w.begun w.returned w.mark w.freed j d → Covers key (m NEXT) w.chains j d → Covers key (m NEXT) chains' j d
  meets_all j d before all c k declared entry unit is snapshot live bucket_is = subst (λ (l : List ℕ). Member entry d.visited ⊎ Member entry l)
      (sym (walk_pushed key (m NEXT) w.log w.chains w.linked w.begun w.returned w.mark w.freed (m HEAD) (m CODE) w.uses i.chains d.pin d.accounts table bucket h.entry id 0 held off reclaimed_holds d.visited c (before c is)))
      (all c k declared entry unit is snapshot live bucket_is)

  -- the entry that the holder unlinks holds its declaration
  victim_apart : (j : ℕ) (d : View) → Saw w.log j d → AtWord w.log w.word j d → (g : Holding) (x entry : ℕ) → d.holding ≡ Some g → IsWd d.log g.place x entry → g.word.limbo ≡ false → entry ≡ h.entry → ⊥
  victim_apart j d saw word g x entry is wd free_word = let o = word g is in
      let there : IsWd w.log g.place x entry = subst (λ (l : List Place). IsWd l g.place x entry) (sym saw.1) (at_longer d.log saw.0 g.place _ wd) in
      let from = o.from in let place : w.word.place ≡ g.word.place = ap (λ z. z.place) o.word_is in
      let low : w.returned ≤ g.place = dite (dec_lt g.place w.returned)
      (λ l. let a = i.sweep.ahead g.place x entry (omega arith) l there in absurd (true≢false (sym a.0 ∙ (ap (λ z. z.limbo) o.word_is ∙ free_word))))
      (λ n. omega arith) in
      not_mine x entry (held_still key m w views i g.place x entry there low)

  victims_still : (j : ℕ) (d : View) → Saw w.log j d → AtWord w.log w.word j d → Victims key (m NEXT) w.stamps w.chains w.linked w.returned j d → Victims key (m NEXT) w.stamps chains' linked' w.returned j d
  victims_still j d saw word before g x entry unit is wd dec = let f = before g x entry unit is wd dec in record {
    dead = f.dead;
    tables = λ t low free_word. let o = f.tables t low free_word in let same = else_same t entry (victim_apart j d saw word g x entry is wd free_word) in ((λ e. o.0 (sym same ∙ e)), (λ e. same ∙ o.1 e));
    behind = f.behind;
    way = λ y e. let o = f.way y e in let b : ℕ = bucket_of unit.body y.table key.sizes.bits in (member_still y.table b y.entry o.0, (o.1.0, after_still y.table b y.entry o.0 ∙ o.1.1));
  }

  met_still : (j : ℕ) (d : View) → Meets key (m CODE) w.log w.uses w.linked j d → Meets key (m CODE) w.log w.uses linked' j d
  met_still j d f l k x snapshot there = let o = f l k x snapshot there in record {
    table = o.table;
    inside = o.inside;
    named = o.named;
    unborn = λ is. let q = o.unborn is in (q.0, on_still x.table x.entry q.1, q.2);
  }

  push_fits : (j : ℕ) (d : View) → j ≢ id → Fits key m w j d → Fits key (write m HEAD cell (link_word h.entry)) world' j d
  push_fits j d ne f = record {
    knows = f.knows;
    owns = f.owns;
    saw = f.saw;
    has_sessions = f.has_sessions;
    rows = f.rows;
    found = f.found;
    exchanges = f.exchanges;
    fits_pin = f.fits_pin;
    pinned = f.pinned;
    above_floor = f.above_floor;
    helps = f.helps;
    hands = λ l x e. let g = f.hands l x e in record { inside = g.inside; use_is = g.use_is; unborn = g.unborn; code = g.code; tables = λ t low. else_same t x.entry (λ q. ne (hand_seat j l id 0 (sym g.use_is ∙ (ap w.uses q ∙ held)))) ∙ g.tables t low; written = g.written; ready = g.ready };
    cursors = walks j d f.cursors;
    covers = meets_all j d f.cursors f.covers;
    takes = f.takes;
    found_empty = f.found_empty;
    stopped = f.stopped;
    last_word = f.last_word;
    is_holder = f.is_holder;
    at_word = f.at_word;
    idles = f.idles;
    scans = f.scans;
    cuts = f.cuts;
    gives = f.gives;
    victims = victims_still j d f.saw f.at_word f.victims;
    meets = met_still j d f.meets;
    costs = f.costs;
  }

  abbrev pushed_hand : Hand → Hand
  pushed_hand = λ (y : Hand). record y { linked = y.linked ++ table ∷ []; ready = None }

  own_tables : (t : ℕ) → t < 4 → linked' t h.entry ≡ is_in t (h.linked ++ table ∷ [])
  own_tables t low = dite (ℕ_discrete t table)
      (λ p. set_in_here w.linked table h.entry t h.entry true p refl ∙ sym (in_more-here t table h.linked (sym p)))
      (λ p. set_in_away w.linked table h.entry t h.entry true (λ y z. p y) ∙ (mine.tables t low ∙ sym (in_more-else t table h.linked (λ e. p (sym e)))))

  own_push : Fits key m w id v → Fits key (write m HEAD cell (link_word h.entry)) world' id (pushed v table)
  own_push f = record {
    knows = f.knows;
    owns = f.owns;
    saw = f.saw;
    has_sessions = record { hands_most = (let a = f.has_sessions.hands_most in let b = on_hand-length pushed_hand v.hands in omega arith); holding = f.has_sessions.holding; spent = f.has_sessions.spent };
    rows = f.rows;
    found = f.found;
    exchanges = let a = count_more (λ k. k == 2) v.made 15 refl in let e = f.exchanges in omega arith;
    fits_pin = f.fits_pin;
    pinned = f.pinned;
    above_floor = f.above_floor;
    helps = f.helps;
    hands = λ l x e. let t = one_hand pushed_hand v.hands h hand l x e in
        subst (λ (y : ℕ × Hand). HandFits key (m CODE) (m NEXT) w.uses w.stamps linked' id y.0 y.1) (λ k. (sym t.0 k, t.1 k)) record {
          inside = mine.inside;
          use_is = mine.use_is;
          unborn = mine.unborn;
          code = mine.code;
          tables = own_tables;
          written = λ t there. (unborn, subst IsSome (sym code_is) refl);
          ready = λ l is. absurd (none_some l is);
        };
    cursors = walks id v f.cursors;
    covers = meets_all id v f.cursors f.covers;
    takes = f.takes;
    found_empty = f.found_empty;
    stopped = f.stopped;
    last_word = f.last_word;
    is_holder = f.is_holder;
    at_word = f.at_word;
    idles = f.idles;
    scans = f.scans;
    cuts = f.cuts;
    gives = f.gives;
    victims = victims_still id v f.saw f.at_word f.victims;
    meets = met_still id v f.meets;
    costs = f.costs;
  }

  pub push_inv : (new : ℕ) → new ≡ link_word h.entry → m HEAD cell ≡ old → Inv key (write m HEAD cell new) world' (set views id (pushed v table))
  push_inv new is found = subst (λ (z : ℕ). Inv key (write m HEAD cell z) world' (set views id (pushed v table))) (sym is) whole where
    whole : Inv key (write m HEAD cell (link_word h.entry)) world' (set views id (pushed v table))
    whole = let u : View = pushed v table in inv_of key (write m HEAD cell (link_word h.entry)) world' (set views id u)
        record {
          key_part = i.key_part;
          log = i.log;
          notes = i.notes;
          accounts = i.accounts;
          uses = i.uses;
          stamps = i.stamps;
          codes = i.codes;
          counts = subst (CountsPart key (m TAKE) (m PUT) w.log w.returned w.taken w.put) (sym (total_set (λ x. length x.hands) views id v u at (on_hand-length pushed_hand v.hands))) i.counts;
          ring = i.ring;
          chains = pushes key (m HEAD) (m NEXT) (m CODE) w.chains w.linked table bucket h.entry small wide mine.inside off (ap (λ (z : ℕ). bucket_of z table key.sizes.bits) (mine.code code code_is) ∙ in_bucket) (points ∙ sym found) i.chains;
          links = record {
            held = λ t x entry low inside has kept. on_still t entry (i.links.held t x entry low inside has kept);
            ring = λ t entry j low inside has. else_same t entry (λ q. hand_free j (sym held ∙ (ap w.uses (sym q) ∙ has))) ∙ i.links.ring t entry j low inside has;
          };
          sweep = i.sweep;
          reclaimed = record {
            dead = i.reclaimed.dead;
            apart = λ d x entry k r is. let o = i.reclaimed.apart d x entry k r is in ((λ t low. else_same t entry (not_mine x entry (reclaimed_holds d x entry r)) ∙ o.0 t low), o.1, o.2);
            marked = i.reclaimed.marked;
          };
          floors = i.floors;
          sessions = total_set (λ x. length x.accounts) views id v u at refl ∙ i.sessions;
          in_hands = handed_in_hands pushed_hand (λ y. refl) w.uses views id v u refl at i.in_hands;
          sweeper = set_is_seat w.holder views id v u at i.sweeper;
        }
        (each_moves (Fits key m w) (Fits key (write m HEAD cell (link_word h.entry)) world') views id u (fits_of key m w views i) push_fits (own_push (fits_of key m w views i id v at)))

pub swaps_head : (key : Key) (slots id : ℕ) (me : Sat) (table bucket old new : ℕ) → MaySwapHead table bucket old new me.0 → me.0.live ≡ true
    → Allows (Kept key) slots id me (start (sizes key) HEAD + head_cell key.sizes.bits table bucket) (λ n. cond (n == old) new n) (seated_with (λ old new v r w. HeadSwapped table old v r w) (step slots (start (sizes key) HEAD + head_cell key.sizes.bits table bucket) old new none) me)
swaps_head key slots id me table bucket old new may live s k wide at small =
    let v : View = me.0 in let m : ℕ → ℕ → ℕ = mem (sizes key) s.words in let i = k.inv in let w : World = k.world in let knows : v.key ≡ key = i.knows id v at live in
    let o = may.hand in let h : Hand = o.0 in let cell : ℕ = head_cell key.sizes.bits table bucket in
    let in_bucket : bucket_of o.1 table key.sizes.bits ≡ bucket = ap (λ (z : Key). bucket_of o.1 table z.sizes.bits) (sym knows) ∙ sym o.7 in
    swap_keeps key s k HEAD cell old new id me (seated_with (λ old new v r w. HeadSwapped table old v r w) (step slots (start (sizes key) HEAD + cell) old new none) me)
    (room key m w s.views id v i at h o.1 o.2 o.3 o.4 table bucket old may.table_is o.5 o.6 in_bucket)
    (λ same. (
      pushed v table,
      _,
      push_inv key m w s.views id v i at h o.1 o.2 o.3 o.4 table bucket old may.table_is o.5 o.6 in_bucket new o.8 same,
      (record { won = λ _. refl; lost = λ ne. absurd (ne same) }, record { live = refl; key = refl; sessions = refl; hand = handed-first (λ (y : Hand). record y { linked = y.linked ++ table ∷ []; ready = None }) (λ y. refl) v.hands; seen = omega arith; remembered = refl }, refl),
    ))
    (λ other. (
      with_step v 15,
      w,
      counted_inv key m w s.views id v 15 refl at i,
      (record { won = λ e. absurd (other e); lost = λ _. refl }, record { live = refl; key = refl; sessions = refl; hand = refl; seen = omega arith; remembered = refl }, refl),
    ))

-- the table as a type tells it
pub swaps_head_as : (key : Key) (slots id : ℕ) (me : Sat) (told table bucket old new a : ℕ) → told ≡ table → a ≡ start (sizes key) HEAD + head_cell key.sizes.bits table bucket → MaySwapHead table bucket old new me.0 → me.0.live ≡ true
    → Allows (Kept key) slots id me a (λ n. cond (n == old) new n) (seated_with (λ old new v r w. HeadSwapped told old v r w) (step slots a old new none) me)
swaps_head_as key slots id me told table bucket old new a told_is is may live =
    subst (λ (y : ℕ × ℕ). Allows (Kept key) slots id me y.0 (λ n. cond (n == old) new n) (seated_with (λ old new v r w. HeadSwapped y.1 old v r w) (step slots y.0 old new none) me)) (λ k. (sym is k, sym told_is k)) (swaps_head key slots id me table bucket old new may live)
