-- A seat has helped the last place that it has seen.
use Rattle.std.proofs.Common.{◌≡◌, ℕ, ◌+◌, ◌-◌, ◌==◌, false, length, subst, arith}
use Rattle.reg_words.specs.Memory.{NOTE}
use Rattle.reg_rule.specs.declared.view.Key.{Key}
use Rattle.reg_rule.specs.declared.view.View.{View}
use Rattle.reg_rule.specs.inner.World.{World}
use Rattle.reg_rule.specs.inner.HelpParts.{IsComplete}
use Rattle.reg_rule.specs.Moves.{helped}
use Rattle.reg_rule.proofs.Counted.{count_more}
use Rattle.reg_rule.proofs.Fits.{Fits}
use Rattle.reg_rule.proofs.Variants.{some_same}

pub helped_fits : (key : Key) (m : ℕ → ℕ → ℕ) (w : World) (id : ℕ) (v : View) (kind place : ℕ) → (kind == 2) ≡ false → length v.log ≡ place + 1 → IsComplete key.carried.base (m NOTE) w.uses w.stamps w.log place → Fits key m w id v
    → Fits key m w id (helped v kind)
helped_fits key m w id v kind place other last done f = record {
  knows = f.knows;
  owns = f.owns;
  saw = f.saw;
  has_sessions = f.has_sessions;
  rows = f.rows;
  found = f.found;
  exchanges = let a = count_more (λ k. k == 2) v.made kind other in let e = f.exchanges in omega arith;
  fits_pin = f.fits_pin;
  pinned = f.pinned;
  above_floor = f.above_floor;
  helps = record { noted = f.helps.noted; noted_seen = f.helps.noted_seen; helped = λ n e. let same : place ≡ n = (let a : length v.log - 1 ≡ n = some_same (length v.log - 1) n e in omega arith) in (omega arith, subst (IsComplete key.carried.base (m NOTE) w.uses w.stamps w.log) same done) };
  hands = f.hands;
  cursors = f.cursors;
  covers = f.covers;
  takes = f.takes;
  found_empty = f.found_empty;
  stopped = f.stopped;
  last_word = f.last_word;
  is_holder = f.is_holder;
  at_word = f.at_word;
  idles = f.idles;
  scans = f.scans;
  cuts = f.cuts;
  gives = f.gives;
  victims = f.victims;
  meets = f.meets;
  costs = f.costs;
}
