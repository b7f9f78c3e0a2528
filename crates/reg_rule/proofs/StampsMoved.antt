-- A stamp is another: what each seat and the rest of the rule say of the entries is so still.
use Rattle.std.proofs.Common.{◌≡◌, ℕ, ◌≤◌, List, length, set, sym, ◌∙◌, subst, arith}
use mathlib.Core.Option.{some}
use lib.ListN.{get_elem?}
use Rattle.atomic_table.proofs.Lists.{at_longer}
use Rattle.reg_words.specs.declared.word.StampWord.{StampWord}
use Rattle.reg_words.specs.declared.word.StampWord.TheVariants.{Unborn, Dead}
use Rattle.reg_words.specs.Memory.{TAKE, PUT, STAMP, NOTE, set_at, write}
use Rattle.reg_rule.specs.declared.view.Key.{Key}
use Rattle.reg_rule.specs.declared.view.Place.{Place}
use Rattle.reg_rule.specs.declared.view.View.{View}
use Rattle.reg_rule.specs.Log.{IsWd}
use Rattle.reg_rule.specs.inner.World.{holds, in_hand, World}
use Rattle.reg_rule.specs.inner.SeatParts.{InHands}
use Rattle.reg_rule.specs.inner.Entries.{CountsPart, StampsPart}
use Rattle.reg_rule.specs.inner.HelpParts.{IsComplete}
use Rattle.reg_rule.specs.inner.Rule.{Inv}
use Rattle.reg_rule.proofs.Views.{each_moves}
use Rattle.reg_rule.proofs.Counted.{total_set, set_is_seat}
use Rattle.reg_rule.proofs.Once.{wd_declares, wd_once}
use Rattle.reg_rule.proofs.Fits.{Fits, fits_of, inv_of}

-- an entry whose withdrawal was not given back holds the declaration
pub held_still : (key : Key) (m : ℕ → ℕ → ℕ) (w : World) (views : List View) → Inv key m w views → (d id e : ℕ) → IsWd w.log d id e → w.returned ≤ d → w.uses e ≡ holds id
held_still key m w views i d id e wd low = let dec = wd_declares key.carried w.log d id e i.log.lawful wd in
    i.uses.held id e dec.0 dec.1 (λ c f wc. let same = wd_once key.carried w.log d c id e f i.log.lawful wd wc in omega arith)

module _ (key : Key) (m : ℕ → ℕ → ℕ) (w : World) (views : List View) (i : Inv key m w views) (entry new : ℕ) (s : StampWord)
    (complete : (n : ℕ) → IsComplete key.carried.base (m NOTE) w.uses w.stamps w.log n → IsComplete key.carried.base (m NOTE) w.uses (set_at w.stamps entry s) w.log n)
    (unborn : (e seat j : ℕ) → w.uses e ≡ in_hand seat j → w.stamps e ≡ Unborn → set_at w.stamps entry s e ≡ Unborn)
    (dead : (e kind id d : ℕ) → w.uses e ≡ holds id → w.stamps e ≡ Dead kind id d → set_at w.stamps entry s e ≡ Dead kind id d) where
  abbrev pub stamped : World
  stamped = record w { stamps = set_at w.stamps entry s }

  still_held : (d id e : ℕ) → IsWd w.log d id e → w.returned ≤ d → w.uses e ≡ holds id
  still_held = held_still key m w views i

  pub stamp_fits : (id : ℕ) (v : View) → Fits key m w id v → Fits key (write m STAMP entry new) stamped id v
  stamp_fits id v f = record {
    knows = f.knows;
    owns = f.owns;
    saw = f.saw;
    has_sessions = f.has_sessions;
    rows = f.rows;
    found = f.found;
    exchanges = f.exchanges;
    fits_pin = f.fits_pin;
    pinned = f.pinned;
    above_floor = f.above_floor;
    helps = record { noted = f.helps.noted; noted_seen = f.helps.noted_seen; helped = λ n e. let g = f.helps.helped n e in (g.0, complete n g.1) };
    hands = λ l x e. let g = f.hands l x e in record { inside = g.inside; use_is = g.use_is; unborn = λ z. unborn x.entry id l g.use_is (g.unborn z); code = g.code; tables = g.tables; written = g.written; ready = g.ready };
    cursors = f.cursors;
    covers = f.covers;
    takes = f.takes;
    found_empty = f.found_empty;
    stopped = f.stopped;
    last_word = f.last_word;
    is_holder = f.is_holder;
    at_word = f.at_word;
    idles = f.idles;
    scans = f.scans;
    cuts = f.cuts;
    gives = f.gives;
    victims = λ h x e un a b c. let g = f.victims h x e un a b c in let there = subst (λ (l : List Place). IsWd l h.place x e) (sym f.saw.1) (at_longer v.log f.saw.0 h.place _ b) in
        record { dead = λ st low. dead e un.kind x h.place (still_held h.place x e there low) (g.dead st low); tables = g.tables; behind = g.behind; way = g.way };
    meets = f.meets;
    costs = f.costs;
  }

  pub stamp_inv : (id : ℕ) (v u : View) → get_elem? views id ≡ some v → length u.hands ≡ length v.hands → length u.accounts ≡ length v.accounts → InHands w.uses (set views id u)
      → StampsPart key (set_at (m STAMP) entry new) w.log w.returned w.uses (set_at w.stamps entry s) → Fits key (write m STAMP entry new) stamped id u
      → Inv key (write m STAMP entry new) stamped (set views id u)
  stamp_inv id v u at hands accounts in_hands part mine = inv_of key (write m STAMP entry new) stamped (set views id u)
      record {
        key_part = i.key_part;
        log = i.log;
        notes = i.notes;
        accounts = i.accounts;
        uses = i.uses;
        stamps = part;
        codes = i.codes;
        counts = subst (CountsPart key (m TAKE) (m PUT) w.log w.returned w.taken w.put) (sym (total_set (λ x. length x.hands) views id v u at hands)) i.counts;
        ring = i.ring;
        chains = i.chains;
        links = i.links;
        sweep = i.sweep;
        reclaimed = record { dead = λ d j e r. let old = i.reclaimed.dead d j e r in (old.0, dead e old.0 j d (still_held d j e r.withdraws r.kept) old.1); apart = i.reclaimed.apart; marked = i.reclaimed.marked };
        floors = i.floors;
        sessions = total_set (λ x. length x.accounts) views id v u at accounts ∙ i.sessions;
        in_hands = in_hands;
        sweeper = set_is_seat w.holder views id v u at i.sweeper;
      }
      (each_moves (Fits key m w) (Fits key (write m STAMP entry new) stamped) views id u (fits_of key m w views i) (λ j d ne f. stamp_fits j d f) mine)
