-- A snapshot is opened at the front.
use Rattle.std.proofs.Common.{◌≡◌, ℕ, ◌<◌, inl, ⊎_elim, List, [], length, set, None, Some, sym, ap, refl, arith}
use mathlib.Core.Option.{some, some-ne-none}
use lib.ListN.{get_elem?}
use Rattle.reg_rule.specs.declared.view.Key.{Key}
use Rattle.reg_rule.specs.declared.view.View.{View}
use Rattle.reg_rule.specs.inner.World.{World}
use Rattle.reg_rule.specs.inner.Rule.{Inv}
use Rattle.reg_rule.proofs.Fits.{fits_of}
use Rattle.reg_rule.proofs.Sets.{fits_set}

abbrev pub with_snapshot : View → ℕ → View
with_snapshot v k = record v { snapshot = Some k; cursor = None; visited = []; met = [] }

pub snapshot_inv : (key : Key) (m : ℕ → ℕ → ℕ) (w : World) (views : List View) (id : ℕ) (v : View) (k : ℕ) → Inv key m w views → get_elem? views id ≡ some v → w.log ≡ v.log → k ≡ length v.log → 0 < v.pin
    → Inv key m w (set views id (with_snapshot v k))
snapshot_inv key m w views id v k i at all here pin = fits_set key m w views id v (with_snapshot v k) i at refl refl (let f = fits_of key m w views i id v at in record {
  knows = f.knows;
  owns = f.owns;
  saw = f.saw;
  has_sessions = f.has_sessions;
  rows = record { below = f.rows.below; opened = λ n j s a row e there row_at. let same : k ≡ s = cc in let b = f.rows.below n j a row there row_at in omega arith };
  found = f.found;
  exchanges = f.exchanges;
  fits_pin = record { session = f.fits_pin.session; covers = f.fits_pin.covers; fronts = λ n h. ⊎_elim (λ e. f.fits_pin.fronts n (inl e)) (λ e. let same : k ≡ n = cc in let c = f.fits_pin.covers in (pin, omega arith, omega arith)) h; cursor_pinned = λ c e. absurd (cc) };
  pinned = f.pinned;
  above_floor = λ n j of relies. ⊎_elim (λ e. f.above_floor n j of (inl e)) (λ e. let same : k ≡ j = cc in let o = (i.owns id v at 0 of.0 of.1).below in let num = of.2 in let a = i.floors.ahead n (omega arith) in let long : length w.log ≡ length v.log = ap length all in omega arith) relies;
  helps = f.helps;
  hands = f.hands;
  cursors = λ c e. absurd (cc);
  covers = λ c n declared entry unit e. absurd (cc);
  takes = f.takes;
  found_empty = f.found_empty;
  stopped = f.stopped;
  last_word = f.last_word;
  is_holder = f.is_holder;
  at_word = f.at_word;
  idles = f.idles;
  scans = f.scans;
  cuts = f.cuts;
  gives = f.gives;
  victims = f.victims;
  meets = λ n j met e there. absurd (some-ne-none met (sym there));
  costs = f.costs;
})
