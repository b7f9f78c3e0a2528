-- A step that changes no word and nothing of the world: what is said of its seat is all that there is to prove.
use Rattle.std.proofs.Common.{◌≡◌, ℕ, ◌==◌, false, List, length, set, sym, refl, ap, ◌∙◌, subst, arith}
use mathlib.Core.Option.{some}
use lib.ListN.{get_elem?}
use Rattle.reg_words.specs.Memory.{TAKE, PUT}
use Rattle.reg_rule.specs.declared.view.Key.{Key}
use Rattle.reg_rule.specs.declared.view.View.{View}
use Rattle.reg_rule.specs.inner.World.{World}
use Rattle.reg_rule.specs.inner.Entries.{CountsPart}
use Rattle.reg_rule.specs.inner.Rule.{Inv}
use Rattle.reg_rule.proofs.Views.{each_set}
use Rattle.reg_rule.proofs.Counted.{total_set, set_is_seat, set_in_hands, count_more}
use Rattle.reg_rule.proofs.Fits.{Shared, Fits, shared_of, fits_of, inv_of}
use Rattle.reg_rule.specs.Moves.{with_step}

pub shared_set : (key : Key) (m : ℕ → ℕ → ℕ) (w : World) (views : List View) (id : ℕ) (v u : View) → get_elem? views id ≡ some v → u.hands ≡ v.hands → length u.accounts ≡ length v.accounts → Shared key m w views → Shared key m w (set views id u)
shared_set key m w views id v u at hands accounts s = record {
  key_part = s.key_part;
  log = s.log;
  notes = s.notes;
  accounts = s.accounts;
  uses = s.uses;
  stamps = s.stamps;
  codes = s.codes;
  counts = subst (CountsPart key (m TAKE) (m PUT) w.log w.returned w.taken w.put) (sym (total_set (λ x. length x.hands) views id v u at (ap length hands))) s.counts;
  ring = s.ring;
  chains = s.chains;
  links = s.links;
  sweep = s.sweep;
  reclaimed = s.reclaimed;
  floors = s.floors;
  sessions = total_set (λ x. length x.accounts) views id v u at accounts ∙ s.sessions;
  in_hands = set_in_hands w.uses views id v u hands at s.in_hands;
  sweeper = set_is_seat w.holder views id v u at s.sweeper;
}

pub fits_set : (key : Key) (m : ℕ → ℕ → ℕ) (w : World) (views : List View) (id : ℕ) (v u : View) → Inv key m w views → get_elem? views id ≡ some v → u.hands ≡ v.hands → length u.accounts ≡ length v.accounts → Fits key m w id u → Inv key m w (set views id u)
fits_set key m w views id v u i at hands accounts fits = inv_of key m w (set views id u) (shared_set key m w views id v u at hands accounts (shared_of key m w views i)) (each_set (Fits key m w) views id u (fits_of key m w views i) fits)

-- a step more, which is no exchange of the log
pub count_fits : (key : Key) (m : ℕ → ℕ → ℕ) (w : World) (id : ℕ) (v : View) (kind : ℕ) → (kind == 2) ≡ false → Fits key m w id v → Fits key m w id (with_step v kind)
count_fits key m w id v kind other f = record {
  knows = f.knows;
  owns = f.owns;
  saw = f.saw;
  has_sessions = f.has_sessions;
  rows = f.rows;
  found = f.found;
  exchanges = let more = count_more (λ k. k == 2) v.made kind other in let few = f.exchanges in omega arith;
  fits_pin = f.fits_pin;
  pinned = f.pinned;
  above_floor = f.above_floor;
  helps = f.helps;
  hands = f.hands;
  cursors = f.cursors;
  covers = f.covers;
  takes = f.takes;
  found_empty = f.found_empty;
  stopped = f.stopped;
  last_word = f.last_word;
  is_holder = f.is_holder;
  at_word = f.at_word;
  idles = f.idles;
  scans = f.scans;
  cuts = f.cuts;
  gives = f.gives;
  victims = f.victims;
  meets = f.meets;
  costs = f.costs;
}

pub counted_inv : (key : Key) (m : ℕ → ℕ → ℕ) (w : World) (views : List View) (id : ℕ) (v : View) (kind : ℕ) → (kind == 2) ≡ false → get_elem? views id ≡ some v → Inv key m w views → Inv key m w (set views id (with_step v kind))
counted_inv key m w views id v kind other at i = fits_set key m w views id v (with_step v kind) i at refl refl (count_fits key m w id v kind other (fits_of key m w views i id v at))
