-- Kind 14: a store of the next word of the entry in hand, which is not linked in the table.
use Rattle.std.proofs.Common.{◌≡◌, ◌≢◌, ℕ, suc, ◌+◌, ◌*◌, ◌++◌, ◌<◌, ◌≤◌, ◌==◌, true, false, true≢false, ◌⊎◌, inl, inr, ⊎_elim, List, [], ◌∷◌, set, length, Some, sym, refl, ap, ◌∙◌, subst, mul-le-mul_right, suc-mul, arith}
use mathlib.Core.Option.{none, some}
use lib.ListN.{get_elem?}
use Rattle.atomic_table.specs.Table.{step, keeps, Allows}
use Rattle.atomic_table.proofs.Lists.{at_longer}
use Rattle.reg_words.specs.Memory.{TAKE, PUT, HEAD, CODE, NEXT, start, mem, set_at, write}
use Rattle.reg_rule.specs.declared.view.Key.{Key}
use Rattle.reg_rule.specs.declared.view.Place.{Place}
use Rattle.reg_rule.specs.declared.view.Account.{Account}
use Rattle.reg_rule.specs.declared.view.Link.{Link}
use Rattle.reg_rule.specs.declared.view.Hand.{Hand}
use Rattle.reg_rule.specs.declared.view.Cursor.{Cursor}
use Rattle.reg_rule.specs.declared.view.View.{View}
use Rattle.reg_rule.specs.Log.{IsWd}
use Rattle.reg_rule.specs.Tables.{is_in}
use Rattle.reg_rule.specs.Chains.{Member, Once}
use Rattle.reg_rule.specs.Conditions.{MayStoreNext}
use Rattle.reg_rule.specs.Moves.{made_ready}
use Rattle.reg_rule.specs.Steps.{NextStored}
use Rattle.reg_rule.specs.inner.World.{in_hand, World}
use Rattle.reg_rule.specs.inner.SeatParts.{Saw}
use Rattle.reg_rule.specs.inner.Entries.{CountsPart}
use Rattle.reg_rule.specs.inner.ChainParts.{Names, next_cell, next_in}
use Rattle.reg_rule.specs.inner.HandParts.{HandFits}
use Rattle.reg_rule.specs.inner.Walks.{from, CursorFits, Cursors, Covers}
use Rattle.reg_rule.specs.inner.HolderParts.{Victims}
use Rattle.reg_rule.specs.inner.Plays.{Sat, seated_with}
use Rattle.reg_rule.specs.inner.Rule.{Inv, Kept, sizes}
use Rattle.reg_rule.proofs.Views.{each_moves}
use Rattle.reg_rule.proofs.Counted.{total_set, set_is_seat, count_more}
use Rattle.reg_rule.proofs.StampsKept.{set_here, set_away}
use Rattle.reg_rule.proofs.StampsMoved.{held_still}
use Rattle.reg_rule.proofs.ChainSteps.{stores_next}
use Rattle.reg_rule.proofs.ChainsKept.{cell_apart}
use Rattle.reg_rule.proofs.Fits.{Fits, fits_of, inv_of}
use Rattle.reg_rule.proofs.Doors.{write_keeps}
use Rattle.reg_rule.proofs.Variants.{hand_seat, some_same, not_in_hand}
use Rattle.reg_rule.proofs.Handed.{handed-first, handed_in_hands, on_hand-length, one_hand}

-- a cell of one of the four tables
pub cell_inside : (entries table entry : ℕ) → table < 4 → entry < entries → next_cell entries table entry < 4 * entries
cell_inside entries table entry low inside = let a : suc table * entries ≤ 4 * entries = mul-le-mul_right entries low in let b : suc table * entries ≡ table * entries + entries = suc-mul table entries in
    let x : ℕ = table * entries in let y : ℕ = 4 * entries in let z : ℕ = suc table * entries in let a' : z ≤ y = a in let b' : z ≡ x + entries = b in let r : x + entry < y = omega arith in r

module _ (key : Key) (m : ℕ → ℕ → ℕ) (w : World) (views : List View) (id : ℕ) (v : View) (i : Inv key m w views) (at : get_elem? views id ≡ some v)
    (h : Hand) (hand : v.hands ≡ h ∷ []) (table new : ℕ) (small : table < 4) (unlinked : is_in table h.linked ≡ false) where
  mine : HandFits key (m CODE) (m NEXT) w.uses w.stamps w.linked id 0 h
  mine = i.hands id v at 0 h (ap (λ (z : List Hand). get_elem? z 0) hand)

  held : w.uses h.entry ≡ in_hand id 0
  held = mine.use_is

  off : w.linked table h.entry ≡ false
  off = mine.tables table small ∙ unlinked

  abbrev cell : ℕ
  cell = next_cell key.entries table h.entry

  pub room : cell < 4 * key.entries
  room = cell_inside key.entries table h.entry small mine.inside

  abbrev nexts' : ℕ → ℕ
  nexts' = set_at (m NEXT) cell new

  away : (t x : ℕ) → x < key.entries → (t ≡ table → x ≡ h.entry → ⊥) → next_in key.entries nexts' t x ≡ next_in key.entries (m NEXT) t x
  away t x inside apart = set_away (m NEXT) cell (next_cell key.entries t x) new (λ same. let q = cell_apart key.entries t x table h.entry inside mine.inside same in apart q.0 q.1)

  -- an entry whose withdrawal was not given back is not the one in hand
  withdrawn_away : (d x entry t : ℕ) → IsWd w.log d x entry → w.returned ≤ d → next_in key.entries nexts' t entry ≡ next_in key.entries (m NEXT) t entry
  withdrawn_away d x entry t wd low = away t entry (i.log.entries d _ wd) (λ p q. not_in_hand id 0 x (sym held ∙ (ap w.uses (sym q) ∙ held_still key m w views i d x entry wd low)))

  -- the next word of a cursor's entry is the same
  walk_same : (pin : ℕ) (accounts : List Account) (visited : List ℕ) (c : Cursor) → CursorFits key (m NEXT) w.log w.chains w.linked w.begun w.returned w.mark w.freed pin accounts visited c
      → next_in key.entries nexts' c.table c.entry ≡ next_in key.entries (m NEXT) c.table c.entry
  walk_same pin accounts visited c f = ⊎_elim
      (λ there. let o = i.chains.inside c.table c.bucket c.entry there in away c.table c.entry o.0 (λ p q. let z : w.linked table h.entry ≡ true = (λ k. w.linked (sym p k) (sym q k)) ∙ o.1 in true≢false (sym z ∙ off)))
      (λ loose. let r = loose.reclaimed in withdrawn_away r.0 r.1 c.entry c.table r.2.withdraws r.2.kept) f.stands

  walks : (j : ℕ) (d : View) → Cursors key (m NEXT) w.log w.chains w.linked w.begun w.returned w.mark w.freed j d → Cursors key nexts' w.log w.chains w.linked w.begun w.returned w.mark w.freed j d
  walks j d old c is = let f = old c is in let same = walk_same d.pin d.accounts d.visited c f in record {
    table = f.table;
    bucket = f.bucket;
    stands = ⊎_elim (λ there. inl there) (λ loose. inr (record {
      reclaimed = loose.reclaimed;
      bucket = loose.bucket;
      cut = loose.cut;
      leads_back = subst (λ (z : ℕ). Names z (w.chains c.table c.bucket)) (sym same) loose.leads_back;
      pinned = loose.pinned;
      unscanned = loose.unscanned;
    })) f.stands;
    once = subst (λ (z : ℕ). Once (d.visited ++ from z (w.chains c.table c.bucket))) (sym same) f.once;
  }

  meets_all : (j : ℕ) (d : View) → Cursors key (m NEXT) w.log w.chains w.linked w.begun w.returned w.mark w.freed j d → Covers key (m NEXT) w.chains j d → Covers key nexts' w.chains j d
  meets_all j d old all c k declared entry unit is snapshot live bucket = subst (λ (z : ℕ). Member entry d.visited ⊎ Member entry (from z (w.chains c.table c.bucket)))
      (sym (walk_same d.pin d.accounts d.visited c (old c is))) (all c k declared entry unit is snapshot live bucket)

  victims_still : (j : ℕ) (d : View) → Saw w.log j d → Victims key (m NEXT) w.stamps w.chains w.linked w.returned j d → Victims key nexts' w.stamps w.chains w.linked w.returned j d
  victims_still j d saw old g x entry unit is wd dec = let f = old g x entry unit is wd dec in
      let there : IsWd w.log g.place x entry = subst (λ (l : List Place). IsWd l g.place x entry) (sym saw.1) (at_longer d.log saw.0 g.place _ wd) in record {
        dead = f.dead;
        tables = f.tables;
        behind = λ l e low. withdrawn_away g.place x entry l.table there low ∙ f.behind l e low;
        way = f.way;
      }

  next_fits : (j : ℕ) (d : View) → j ≢ id → Fits key m w j d → Fits key (write m NEXT cell new) w j d
  next_fits j d ne f = record {
    knows = f.knows;
    owns = f.owns;
    saw = f.saw;
    has_sessions = f.has_sessions;
    rows = f.rows;
    found = f.found;
    exchanges = f.exchanges;
    fits_pin = f.fits_pin;
    pinned = f.pinned;
    above_floor = f.above_floor;
    helps = f.helps;
    hands = λ l x e. let g = f.hands l x e in record { inside = g.inside; use_is = g.use_is; unborn = g.unborn; code = g.code; tables = g.tables; written = g.written; ready = λ y is. let r = g.ready y is in (r.0, away y.table x.entry g.inside (λ p q. ne (hand_seat j l id 0 (sym g.use_is ∙ (ap w.uses q ∙ held)))) ∙ r.1) };
    cursors = walks j d f.cursors;
    covers = meets_all j d f.cursors f.covers;
    takes = f.takes;
    found_empty = f.found_empty;
    stopped = f.stopped;
    last_word = f.last_word;
    is_holder = f.is_holder;
    at_word = f.at_word;
    idles = f.idles;
    scans = f.scans;
    cuts = f.cuts;
    gives = f.gives;
    victims = victims_still j d f.saw f.victims;
    meets = f.meets;
    costs = f.costs;
  }

  abbrev ready_now : Hand → Hand
  ready_now = λ (y : Hand). record y { ready = Some (record { table = table; word = new }) }

  link_is : (l : Link) → Some (record { table = table; word = new }) ≡ Some l → record { table = table; word = new } ≡ l
  link_is l e = some_same (record { table = table; word = new }) l e

  own_next : Fits key m w id v → Fits key (write m NEXT cell new) w id (made_ready v table new)
  own_next f = record {
    knows = f.knows;
    owns = f.owns;
    saw = f.saw;
    has_sessions = record { hands_most = (let a = f.has_sessions.hands_most in let b = on_hand-length ready_now v.hands in omega arith); holding = f.has_sessions.holding; spent = f.has_sessions.spent };
    rows = f.rows;
    found = f.found;
    exchanges = let a = count_more (λ k. k == 2) v.made 14 refl in let e = f.exchanges in omega arith;
    fits_pin = f.fits_pin;
    pinned = f.pinned;
    above_floor = f.above_floor;
    helps = f.helps;
    hands = λ l x e. let t = one_hand ready_now v.hands h hand l x e in
        subst (λ (y : ℕ × Hand). HandFits key (m CODE) nexts' w.uses w.stamps w.linked id y.0 y.1) (λ k. (sym t.0 k, t.1 k)) record {
          inside = mine.inside;
          use_is = mine.use_is;
          unborn = mine.unborn;
          code = mine.code;
          tables = mine.tables;
          written = mine.written;
          ready = λ l is. let same = link_is l is in subst (λ (y : Link). (is_in y.table h.linked ≡ false) × (next_in key.entries nexts' y.table h.entry ≡ y.word)) same (unlinked, set_here (m NEXT) cell new);
        };
    cursors = walks id v f.cursors;
    covers = meets_all id v f.cursors f.covers;
    takes = f.takes;
    found_empty = f.found_empty;
    stopped = f.stopped;
    last_word = f.last_word;
    is_holder = f.is_holder;
    at_word = f.at_word;
    idles = f.idles;
    scans = f.scans;
    cuts = f.cuts;
    gives = f.gives;
    victims = victims_still id v f.saw f.victims;
    meets = f.meets;
    costs = f.costs;
  }

  pub next_inv : Inv key (write m NEXT cell new) w (set views id (made_ready v table new))
  next_inv = let u : View = made_ready v table new in inv_of key (write m NEXT cell new) w (set views id u)
      record {
        key_part = i.key_part;
        log = i.log;
        notes = i.notes;
        accounts = i.accounts;
        uses = i.uses;
        stamps = i.stamps;
        codes = i.codes;
        counts = subst (CountsPart key (m TAKE) (m PUT) w.log w.returned w.taken w.put) (sym (total_set (λ x. length x.hands) views id v u at (on_hand-length ready_now v.hands))) i.counts;
        ring = i.ring;
        chains = stores_next key (m HEAD) (m NEXT) (m CODE) w.chains w.linked table h.entry new mine.inside off i.chains;
        links = i.links;
        sweep = i.sweep;
        reclaimed = i.reclaimed;
        floors = i.floors;
        sessions = total_set (λ x. length x.accounts) views id v u at refl ∙ i.sessions;
        in_hands = handed_in_hands ready_now (λ y. refl) w.uses views id v u refl at i.in_hands;
        sweeper = set_is_seat w.holder views id v u at i.sweeper;
      }
      (each_moves (Fits key m w) (Fits key (write m NEXT cell new) w) views id u (fits_of key m w views i) next_fits (own_next (fits_of key m w views i id v at)))

pub stores_next_of : (key : Key) (slots id : ℕ) (me : Sat) (table a new : ℕ) (may : MayStoreNext table me.0) → a ≡ start (sizes key) NEXT + next_cell key.entries table may.hand.0.entry
    → Allows (Kept key) slots id me a (λ _. new) (λ _. seated_with (λ new other v r w. NextStored table new v w) (step slots a new 0 none) me new)
stores_next_of key slots id me table a new may is = subst (λ (z : ℕ). Allows (Kept key) slots id me z (λ _. new) (λ _. seated_with (λ new other v r w. NextStored table new v w) (step slots z new 0 none) me new)) (sym is) (λ s k wide at small.
    let v : View = me.0 in let m : ℕ → ℕ → ℕ = mem (sizes key) s.words in let o = may.hand in let h : Hand = o.0 in (
      made_ready v table new,
      keeps,
      tt,
      write_keeps key s k NEXT (next_cell key.entries table h.entry) new id me (made_ready v table new) k.world (room key m k.world s.views id v k.inv at h o.1 table new may.table_is o.5)
          (next_inv key m k.world s.views id v k.inv at h o.1 table new may.table_is o.5),
      (refl, record { live = refl; key = refl; sessions = refl; seen = omega arith; hand = handed-first (λ (y : Hand). record y { ready = Some (record { table = table; word = new }) }) (λ y. refl) v.hands; remembered = refl }, refl),
    ))

-- the table as a type tells it
pub stores_next_as : (key : Key) (slots id : ℕ) (me : Sat) (told table a new : ℕ) (may : MayStoreNext table me.0) → told ≡ table → a ≡ start (sizes key) NEXT + next_cell key.entries table may.hand.0.entry
    → Allows (Kept key) slots id me a (λ _. new) (λ _. seated_with (λ new other v r w. NextStored told new v w) (step slots a new 0 none) me new)
stores_next_as key slots id me told table a new may is at = subst (λ (x : ℕ). Allows (Kept key) slots id me a (λ _. new) (λ _. seated_with (λ new other v r w. NextStored x new v w) (step slots a new 0 none) me new)) (sym is) (stores_next_of key slots id me table a new may at)
