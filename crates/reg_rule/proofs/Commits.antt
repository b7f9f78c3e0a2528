-- A record took the next place of the log, which was the front: the whole rule, given what is said of its entry.
use Rattle.std.proofs.Common.{◌≡◌, ◌≢◌, ℕ, ◌+◌, ◌<◌, ◌≤◌, ◌⊎◌, inr, ⊎_elim, List, [], ◌∷◌, ◌++◌, length, set, None, Some, sym, ap, ◌∙◌, arith}
use mathlib.Core.Option.{some}
use lib.ListN.{get_elem?}
use Rattle.reg_model.specs.declared.reply.Row.{Row}
use Rattle.reg_words.specs.Memory.{TAKE, PUT, CODE, NEXT, GIVE, LOG, NOTE, set_at, write}
use Rattle.reg_rule.specs.declared.view.Key.{Key}
use Rattle.reg_rule.specs.declared.view.Place.{Place}
use Rattle.reg_rule.specs.declared.view.Account.{Account}
use Rattle.reg_rule.specs.declared.view.Hand.{Hand}
use Rattle.reg_rule.specs.declared.view.View.{View}
use Rattle.reg_rule.specs.Log.{At}
use Rattle.reg_rule.specs.Seats.{IsOf}
use Rattle.reg_rule.specs.inner.AccountParts.{AccountsPart}
use Rattle.reg_rule.specs.Moves.{head_number, head_rows, hands_after, row_placed, committed, passed}
use Rattle.reg_rule.specs.inner.World.{Use, holds, World}
use Rattle.reg_rule.specs.inner.LogParts.{LogPart}
use Rattle.reg_rule.specs.inner.SeatParts.{total, Owned, InHands}
use Rattle.reg_rule.specs.inner.Entries.{UsesPart, StampFits, CodesPart, CountsPart, RingPart}
use Rattle.reg_rule.specs.inner.ChainParts.{LinksPart}
use Rattle.reg_rule.specs.inner.HandParts.{Holds}
use Rattle.reg_rule.specs.inner.HelpParts.{IsComplete}
use Rattle.reg_rule.specs.inner.Queries.{IsYoung}
use Rattle.reg_rule.specs.inner.Rule.{Inv}
use Rattle.reg_rule.proofs.Views.{each_moves}
use Rattle.reg_rule.proofs.Counted.{total_set, set_is_seat}
use Rattle.reg_rule.proofs.Once.{length_one_more}
use Rattle.reg_rule.proofs.StampsKept.{set_away}
use Rattle.reg_rule.proofs.FloorsKept.{floors_longer, grown_first}
use Rattle.reg_rule.proofs.Fits.{Fits, fits_of, inv_of}
use Rattle.reg_rule.proofs.Passed.{Ground, passed_fits}
use Rattle.reg_rule.proofs.RowsEnter.{with_row, with_account, has_head, length_grown, rowed_fits, own_fits}
use Rattle.reg_rule.proofs.LogGrows.{sweep_longer, reclaimed_part, notes_longer, grown, grown_fits}
use Rattle.reg_rule.proofs.Variants.{some_same, none_some}

-- ---- small moves of the acting seat

-- fewer entries are in hand
abbrev pub with_hands : View → List Hand → View
with_hands v hands = record v { hands = hands }

hands_fits : (key : Key) (m : ℕ → ℕ → ℕ) (w : World) (id : ℕ) (v : View) (hands : List Hand) → length hands ≤ length v.hands → Holds key (m CODE) (m NEXT) w.uses w.stamps w.linked id (with_hands v hands) → Fits key m w id v → Fits key m w id (with_hands v hands)
hands_fits key m w id v hands few fit f = record {
  knows = f.knows;
  owns = f.owns;
  saw = f.saw;
  has_sessions = record { hands_most = (let a = f.has_sessions.hands_most in omega arith); holding = f.has_sessions.holding; spent = f.has_sessions.spent };
  rows = f.rows;
  found = f.found;
  exchanges = f.exchanges;
  fits_pin = f.fits_pin;
  pinned = f.pinned;
  above_floor = f.above_floor;
  helps = f.helps;
  hands = fit;
  cursors = f.cursors;
  covers = f.covers;
  takes = f.takes;
  found_empty = f.found_empty;
  stopped = f.stopped;
  last_word = f.last_word;
  is_holder = f.is_holder;
  at_word = f.at_word;
  idles = f.idles;
  scans = f.scans;
  cuts = f.cuts;
  gives = f.gives;
  victims = f.victims;
  meets = f.meets;
  costs = f.costs;
}

-- the place committed is the front
abbrev pub with_front : View → ℕ → View
with_front v k = record v { front = Some k; committed = Some k }

front_fits : (key : Key) (m : ℕ → ℕ → ℕ) (w : World) (id : ℕ) (v : View) (k : ℕ) → 0 < v.pin → v.pin ≤ k + 1 → k ≤ length v.log → ((n : ℕ) → IsOf v n → w.floor n ≤ k) → Fits key m w id v → Fits key m w id (with_front v k)
front_fits key m w id v k pin low seen floors f = record {
  knows = f.knows;
  owns = f.owns;
  saw = f.saw;
  has_sessions = f.has_sessions;
  rows = f.rows;
  found = f.found;
  exchanges = f.exchanges;
  fits_pin = record { session = f.fits_pin.session; covers = f.fits_pin.covers; fronts = λ n h. ⊎_elim (λ e. let same : k ≡ n = some_same k n e in (pin, omega arith, omega arith)) (λ e. f.fits_pin.fronts n (inr e)) h; cursor_pinned = f.fits_pin.cursor_pinned };
  pinned = f.pinned;
  above_floor = λ n j of on. ⊎_elim (λ e. let same : k ≡ j = some_same k j e in let a = floors n of in omega arith) (λ e. f.above_floor n j of (inr e)) on;
  helps = f.helps;
  hands = f.hands;
  cursors = f.cursors;
  covers = f.covers;
  takes = f.takes;
  found_empty = f.found_empty;
  stopped = f.stopped;
  last_word = f.last_word;
  is_holder = f.is_holder;
  at_word = f.at_word;
  idles = f.idles;
  scans = f.scans;
  cuts = f.cuts;
  gives = f.gives;
  victims = f.victims;
  meets = f.meets;
  costs = f.costs;
}

module _ (key : Key) (m : ℕ → ℕ → ℕ) (w : World) (views : List View) (id : ℕ) (v : View) (i : Inv key m w views) (at : get_elem? views id ≡ some v) (one : 0 < length v.accounts)
    (p : Place) (all : w.log ≡ v.log) (pin : 0 < v.pin) (unopened : v.snapshot ≡ None) (base : v.key.carried.base ≡ key.carried.base) (new : ℕ)
    (done : (n : ℕ) → n + 1 ≡ length w.log → IsComplete key.carried.base (m NOTE) w.uses w.stamps w.log n)
    (uses' : ℕ → Use)
    (held_was : (e x : ℕ) → uses' e ≡ holds x → (w.uses e ≡ holds x) ⊎ (x ≡ key.carried.base + length w.log))
    (young : (k e : ℕ) → k ≤ length w.log → IsYoung key.carried.base k (w.uses e) → IsYoung key.carried.base k (uses' e))
    (others : (j : ℕ) (d : View) → j ≢ id → Fits key m w j d → (l : ℕ) (x : Hand) → At d.hands l x → uses' x.entry ≡ w.uses x.entry)
    (mine : (l : ℕ) (x : Hand) → At (hands_after p.update v.hands) l x → uses' x.entry ≡ w.uses x.entry)
    (few : length (hands_after p.update v.hands) ≤ length v.hands)
    (fit : Holds key (m CODE) (m NEXT) w.uses w.stamps w.linked id (with_hands v (hands_after p.update v.hands))) where
  abbrev row : Row
  row = row_placed v p.update

  abbrev n : ℕ
  n = head_number v.accounts

  abbrev pub after : World
  after = record w { log = w.log ++ p ∷ []; uses = uses'; accounts = with_row w.accounts n row }

  head : (a : Account) × At v.accounts 0 a × (head_number v.accounts ≡ a.number) × (head_rows v.accounts ≡ a.rows)
  head = has_head v.accounts one

  first : Owned key.sizes.callers w.accounts w.owner id 0 head.0
  first = i.owns id v at 0 head.0 head.1

  pub own_rows : w.accounts n ≡ head_rows v.accounts
  own_rows = ap w.accounts head.2 ∙ (first.rows_are ∙ sym head.3)

  long : length w.log ≡ length v.log
  long = ap length all

  other_fits : (j : ℕ) (d : View) → j ≢ id → Fits key m w j d → Fits key (write m LOG (length w.log) new) after j d
  other_fits j d ne f = let g = grown_fits key m w views i p uses' held_was young new j d (others j d ne f) f in
      rowed_fits key (write m LOG (length w.log) new) (grown key m w views i p uses' held_was young) (with_row w.accounts n row) j d g (λ k a e. let o = g.owns k a e in record {
        below = o.below;
        owner_is = o.owner_is;
        rows_are = set_away w.accounts n a.number (w.accounts n ++ row ∷ []) (λ num. ne (ap (λ (z : ℕ × ℕ). z.0) (sym o.owner_is ∙ (ap w.owner (num ∙ head.2) ∙ first.owner_is)))) ∙ o.rows_are;
      })

  mine_fits : Ground key (write m LOG (length w.log) new) after → row.point ≡ v.key.carried.base + (length v.log + 1) → Fits key (write m LOG (length w.log) new) after id (committed v p)
  mine_fits ground point =
      let f = fits_of key m w views i id v at in let v1 : View = with_hands v (hands_after p.update v.hands) in let v2 : View = passed v1 2 p in
      let g1 = hands_fits key m w id v (hands_after p.update v.hands) few fit f in
      let g2 = grown_fits key m w views i p uses' held_was young new id v1 mine g1 in
      let ground' : Ground key (write m LOG (length w.log) new) (grown key m w views i p uses' held_was young) = record { key_part = ground.key_part; log = ground.log; uses = ground.uses; links = ground.links; sweep = ground.sweep } in
      let g3 = passed_fits key (write m LOG (length w.log) new) (grown key m w views i p uses' held_was young) id v1 2 p [] one ground' g2 (ap (λ (l : List Place). l ++ p ∷ []) all) in
      let more = length_one_more v.log p in
      let g4 = own_fits key (write m LOG (length w.log) new) (grown key m w views i p uses' held_was young) id v2 row (omega arith) (λ k open_at. absurd (none_some k (sym unopened ∙ open_at))) own_rows one g3 in
      front_fits key (write m LOG (length w.log) new) after id (with_account v2 row) (length v.log) pin f.fits_pin.covers (omega arith)
      floor_low g4 where
        floor_low : (s : ℕ) → IsOf (with_account (passed (with_hands v (hands_after p.update v.hands)) 2 p) row) s → w.floor s ≤ length v.log
        floor_low s of = let was = grown_first v.accounts (Some row) s of in let o = (i.owns id v at 0 was.0 was.1).below in let num = was.2 in let a = i.floors.ahead s (omega arith) in let l = long in omega arith

  pub commit_inv : LogPart key (set_at (m LOG) (length w.log) new) (w.log ++ p ∷ []) → AccountsPart key (w.log ++ p ∷ []) (with_row w.accounts n row) → UsesPart key (w.log ++ p ∷ []) w.returned uses'
      → ((e : ℕ) → e < key.entries → StampFits key.carried (w.log ++ p ∷ []) w.returned e (uses' e) (w.stamps e))
      → CodesPart key (m CODE) (w.log ++ p ∷ []) uses' → CountsPart key (m TAKE) (m PUT) (w.log ++ p ∷ []) w.returned w.taken w.put (total (λ x. length x.hands) (set views id (committed v p)))
      → RingPart key (m GIVE) uses' w.taken w.put w.ring → LinksPart key (w.log ++ p ∷ []) w.begun uses' w.linked → InHands uses' (set views id (committed v p))
      → row.point ≡ v.key.carried.base + (length v.log + 1) → Inv key (write m LOG (length w.log) new) after (set views id (committed v p))
  commit_inv log_part accounts_part uses_part stamps_fit codes_part counts_part ring_part links_part hands_part point = inv_of key (write m LOG (length w.log) new) after (set views id (committed v p))
      record {
        key_part = i.key_part;
        log = log_part;
        notes = notes_longer key m w views i p done;
        accounts = accounts_part;
        uses = uses_part;
        stamps = record { words = i.stamps.words; kinds = i.stamps.kinds; fits = stamps_fit };
        codes = codes_part;
        counts = counts_part;
        ring = ring_part;
        chains = i.chains;
        links = links_part;
        sweep = sweep_longer key m w views i p;
        reclaimed = reclaimed_part key m w views i p;
        floors = floors_longer key.sizes.callers w.log p w.word w.begun w.returned w.floor w.freed (let a = length_one_more w.log p in omega arith) i.floors;
        sessions = total_set (λ x. length x.accounts) views id v (committed v p) at (length_grown v.accounts (Some row)) ∙ i.sessions;
        in_hands = hands_part;
        sweeper = set_is_seat w.holder views id v (committed v p) at i.sweeper;
      }
      (each_moves (Fits key m w) (Fits key (write m LOG (length w.log) new) after) views id (committed v p) (fits_of key m w views i) other_fits
      (mine_fits (record { key_part = i.key_part; log = log_part; uses = uses_part; links = links_part; sweep = sweep_longer key m w views i p }) point))
