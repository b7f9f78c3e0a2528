-- What the record at the next place makes of it.
use Rattle.std.proofs.Common.{◌≡◌, ℕ, ◌+◌, ◌*◌, ◌^◌, ◌<◌, ◌≤◌, inl, inr, List, length, Option, Some, sym, refl, ap, ◌∙◌, subst, arith}
use Rattle.iscc_header.specs.declared.unit.Unit64.{Unit64}
use Rattle.reg_model.specs.declared.update.Update.{Update}
use Rattle.reg_model.specs.declared.update.Update.TheVariants as updates
use Rattle.reg_words.specs.declared.sweeping.Why.TheVariants.{Front}
use Rattle.reg_words.specs.declared.word.LogWord.{LogWord}
use Rattle.reg_words.specs.declared.word.LogWord.TheVariants as records
use Rattle.reg_words.specs.Packing.{FitsLog, log_word}
use Rattle.reg_rule.specs.declared.told.Told.TheVariants.{Nothing}
use Rattle.reg_rule.specs.declared.view.Key.{Key}
use Rattle.reg_rule.specs.declared.view.Place.{Place}
use Rattle.reg_rule.specs.declared.view.View.{View}
use Rattle.reg_rule.specs.Log.{At, IsDecl, IsWd, NoneWithdrawn, place_of, record_at}
use Rattle.reg_rule.specs.Steps.{SeenFits, LogLoaded}
use Rattle.reg_sweep.specs.declared.reclaiming.Turn.{Turn}
use Rattle.reg_sweep.specs.declared.reclaiming.Turn.TheVariants as turns
use Rattle.reg_sweep.specs.inner.Going.{GoesOn}
use Rattle.reg_sweep.specs.inner.Holders.{resting, IsAt}
use Rattle.reg_sweep.specs.inner.Turns.{HasTurned, Stops}
use Rattle.reg_sweep.proofs.Goes.{goes_key, stays, with_room, then_on, loaded_again}
use Rattle.reg_sweep.proofs.SeenPlaces.{none_more}
use Rattle.reg_sweep.proofs.Reclaims.{may_rest}

-- ---- a record and its place

wd_record : (base n : ℕ) (u : Update) (e entry id : ℕ) → record_at base n u e ≡ records.Wd entry id → place_of u e ≡ place_of (updates.Wd id) entry
wd_record base n (updates.Decl unit) e entry id is = absurd (cc)
wd_record base n (updates.Wd other) e entry id is = cc

decl_record : (base n : ℕ) (u : Update) (e kind entry id : ℕ) → record_at base n u e ≡ records.Decl kind entry id → (unit : Unit64) × (place_of u e ≡ place_of (updates.Decl unit) e)
decl_record base n (updates.Decl unit) e kind entry id is = (unit, refl)
decl_record base n (updates.Wd other) e kind entry id is = absurd (cc)

-- what is read back is the record that was packed
pub one_record : (o : Option LogWord) (a b c : LogWord) → o ≡ Some a → o ≡ Some b → b ≡ c → a ≡ c
one_record o a b c x y z = let same : Some a ≡ Some b = sym x ∙ y in cc

-- ---- after steps that go on, a turn is one from before them

pub turns_on : (t : Turn) (place : ℕ) (u v w : View) → GoesOn 0 u v → HasTurned t place v w → HasTurned t place u w
turns_on turns.Declared place u v w g t = (with_room (0 + 0) 0 u w (omega arith) (then_on 0 0 u v w g t.0), t.1, t.2)
turns_on turns.GaveBack place u v w g t =
    let n : v.key.sizes.callers ≡ u.key.sizes.callers = ap (λ (k : Key). k.sizes.callers) (goes_key 0 u v g) in
    (with_room (0 + 2 * v.key.sizes.callers) (2 * u.key.sizes.callers) u w (omega arith) (then_on 0 (2 * v.key.sizes.callers) u v w g t.0), t.1, t.2)
turns_on (turns.Stopped rest why) place u v w g t =
    let n : v.key.sizes.callers ≡ u.key.sizes.callers = ap (λ (k : Key). k.sizes.callers) (goes_key 0 u v g) in
    record {
      going = with_room (0 + 2 * v.key.sizes.callers) (2 * u.key.sizes.callers) u w (omega arith) (then_on 0 (2 * v.key.sizes.callers) u v w g t.going);
      h = t.h;
      holding = t.holding;
      next = t.next;
      free = t.free;
      at = t.at;
      fits = t.fits;
      within = t.within;
      why = t.why;
      unlimited = t.unlimited;
    }

-- ---- the next place

module _ (place : ℕ) (v : View) (at : IsAt place v) (seen : SeenFits v.key v.log) where
  -- nothing is behind it
  pub at_end : v.key.sizes.log ≤ 2 ^ 22 → place ≡ length v.log → Stops place v (resting place) Front v
  at_end small last = let room = seen.room in record {
    going = with_room 0 (2 * v.key.sizes.callers) v v (omega arith) (stays v);
    h = at.h;
    holding = at.holding;
    next = may_rest v at.h place at.unpaid at.unmoved at.uncut at.from at.within at.between;
    free = refl;
    at = refl;
    fits = record { place = omega arith; mark = omega arith };
    within = at.within;
    why = (refl, inl last);
    unlimited = λ e. cc;
  }

  pub is_behind : (place ≡ length v.log → ⊥) → place < length v.log
  is_behind more = let low = at.within in omega arith

  -- its record was loaded
  module _ (low : place < length v.log) (found : ℕ) (w : View) (told : LogLoaded Nothing place v found w) where
    abbrev p : Place
    p = (told.old low).0

    here : At v.log place p
    here = (told.old low).1

    pub fits_record : FitsLog (record_at v.key.carried.base place p.update p.entry)
    fits_record = seen.records place p here

    pub is_record : log_word (record_at v.key.carried.base place p.update p.entry) ≡ found
    is_record = sym (told.old low).2

    goes : GoesOn 0 v w
    goes = (loaded_again v w at.h at.holding (inr at.uncut) (told.old low).3).0

    same_log : w.log ≡ v.log
    same_log = ap (λ (z : View). z.log) (told.old low).3

    has : w.holding ≡ Some (at.h)
    has = (loaded_again v w at.h at.holding (inr at.uncut) (told.old low).3).1 ∙ at.holding

    pub at_there : IsAt place w
    at_there = record {
      h = at.h;
      holding = has;
      unmoved = at.unmoved;
      uncut = at.uncut;
      unpaid = at.unpaid;
      from = at.from;
      within = subst (λ (l : List Place). place ≤ length l) (sym same_log) at.within;
      between = subst (λ (l : List Place). NoneWithdrawn l at.h.place place) (sym same_log) at.between;
    }

    pub seen_there : SeenFits w.key w.log
    seen_there = subst (λ (k : Key). SeenFits k w.log) (sym (goes_key 0 v w goes)) told.seen

    -- a withdrawal
    pub wd_there : (entry id : ℕ) → record_at v.key.carried.base place p.update p.entry ≡ records.Wd entry id → IsWd w.log place id entry
    wd_there entry id is = subst (λ (l : List Place). IsWd l place id entry) (sym same_log) (subst (λ (q : Place). At v.log place q) (wd_record v.key.carried.base place p.update p.entry entry id is) here)

    pub turned_there : (t : Turn) (x : View) → HasTurned t place w x → HasTurned t place v x
    turned_there t x turned = turns_on t place v w x goes turned

    -- a declaration
    pub passed_there : (kind entry id : ℕ) → record_at v.key.carried.base place p.update p.entry ≡ records.Decl kind entry id → HasTurned turns.Declared place v w
    passed_there kind entry id is =
        let d = decl_record v.key.carried.base place p.update p.entry kind entry id is in
        let decl : IsDecl w.log place d.0 p.entry = subst (λ (l : List Place). IsDecl l place d.0 p.entry) (sym same_log) (subst (λ (q : Place). At v.log place q) d.1 here) in
        let here_low : place < length w.log = subst (λ (l : List Place). place < length l) (sym same_log) low in
        let later : at.h.place ≤ place = at.from in (
          goes,
          record {
            h = at.h;
            holding = has;
            unmoved = at.unmoved;
            uncut = at.uncut;
            unpaid = at.unpaid;
            from = omega arith;
            within = omega arith;
            between = none_more w.log at.h.place place d.0 p.entry decl (subst (λ (l : List Place). NoneWithdrawn l at.h.place place) (sym same_log) at.between);
          },
          (d.0, p.entry, decl),
        )
