-- Kind 9: a load of the count of entries taken.
use Rattle.std.proofs.Common.{◌≡◌, ℕ, suc, ◌+◌, ◌≤◌, eqb, cond, Bool, true, false, List, [], ◌∷◌, length, count_by, get_or, set, sym, ◌∙◌, refl, subst, arith}
use Rattle.std.proofs.lemmas.List.{length-map}
use Rattle.std.proofs.lemmas.List.Sums.{sum_by-append}
use mathlib.Core.Option.{none, some}
use lib.ListN.{get_elem?}
use Rattle.atomic_table.specs.Table.{step, keeps, Allows}
use Rattle.reg_model.specs.declared.update.Update.{Update}
use Rattle.reg_model.specs.Live.{is_declaration}
use Rattle.reg_words.specs.Memory.{TAKE, start, mem}
use Rattle.reg_words.proofs.Memory.{mem-read}
use Rattle.reg_rule.specs.declared.view.Key.{Key}
use Rattle.reg_rule.specs.declared.view.Place.{Place}
use Rattle.reg_rule.specs.declared.view.View.{View}
use Rattle.reg_rule.specs.inner.World.{World}
use Rattle.reg_rule.specs.Log.{updates}
use Rattle.reg_rule.specs.inner.SeatParts.{Each, total, HasSessions}
use Rattle.reg_rule.specs.inner.Rule.{Inv, Kept, sizes}
use Rattle.reg_rule.specs.Moves.{take_loaded}
use Rattle.reg_rule.specs.Steps.{TakeLoaded}
use Rattle.reg_rule.specs.inner.Plays.{Sat, seated}
use Rattle.reg_rule.proofs.Counted.{count_more}
use Rattle.reg_rule.proofs.Fits.{fits_of}
use Rattle.reg_rule.proofs.Sets.{fits_set}
use Rattle.reg_rule.proofs.Doors.{load_keeps}

-- no more hands than sessions
pub hands_below : (views : List View) → Each views HasSessions → total (λ v. length v.hands) views ≤ total (λ v. length v.accounts) views
hands_below [] all = omega arith
hands_below (v ∷ views) all = let a = (all 0 v refl).hands_most in let b = hands_below views (λ id u at. all (suc id) u at) in omega arith

at_most_one : (b : Bool) → cond {A = ℕ} b 1 0 ≤ 1
at_most_one true = omega arith
at_most_one false = omega arith

pub few : (q : Update → Bool) (l : List Update) → count_by q l ≤ length l
few q [] = omega arith
few q (x ∷ l) =
    let h : count_by q (x ∷ l) ≡ (0 + cond {A = ℕ} (q x) 1 0) + count_by q l = sum_by-append (λ (u : Update). cond {A = ℕ} (q u) 1 0) (x ∷ []) l in
    let b = few q l in let one = at_most_one (q x) in omega arith

pub taken_most : (key : Key) (m : ℕ → ℕ → ℕ) (w : World) (views : List View) → Inv key m w views → w.taken ≤ key.sizes.log + key.sizes.callers
taken_most key m w views i =
    let a = i.counts.took in let b = hands_below views i.has_sessions in let c = i.sessions in let d = few is_declaration (updates w.log) in let e : length (updates w.log) ≡ length w.log = length-map w.log (λ (p : Place). p.update) in let f = i.log.short in omega arith

pub take_inv : (key : Key) (m : ℕ → ℕ → ℕ) (w : World) (views : List View) (id : ℕ) (v : View) (found : ℕ) → found ≡ w.taken → Inv key m w views → get_elem? views id ≡ some v → Inv key m w (set views id (take_loaded v found))
take_inv key m w views id v found is i at = fits_set key m w views id v (take_loaded v found) i at refl refl (let f = fits_of key m w views i id v at in record {
  knows = f.knows;
  owns = f.owns;
  saw = f.saw;
  has_sessions = f.has_sessions;
  rows = f.rows;
  found = f.found;
  exchanges = let c = count_more (λ k. eqb k 2) v.made 9 refl in let e = f.exchanges in omega arith;
  fits_pin = f.fits_pin;
  pinned = f.pinned;
  above_floor = f.above_floor;
  helps = f.helps;
  hands = f.hands;
  cursors = f.cursors;
  covers = f.covers;
  takes = let low : found ≤ w.taken = omega arith in low;
  found_empty = f.found_empty;
  stopped = f.stopped;
  last_word = f.last_word;
  is_holder = f.is_holder;
  at_word = f.at_word;
  idles = f.idles;
  scans = f.scans;
  cuts = f.cuts;
  gives = f.gives;
  victims = f.victims;
  meets = f.meets;
  costs = f.costs;
})

pub loads_take : (key : Key) (slots id : ℕ) (me : Sat) → me.0.live ≡ true → Allows (Kept key) slots id me (start (sizes key) TAKE + 0) (λ x. x) (seated TakeLoaded (step slots (start (sizes key) TAKE + 0) 0 0 none) me)
loads_take key slots id me live s k wide at small =
    let v : View = me.0 in let i = k.inv in let m : ℕ → ℕ → ℕ = mem (sizes key) s.words in let a : ℕ = start (sizes key) TAKE + 0 in let found : ℕ = get_or s.words a 0 in let knows : v.key ≡ key = i.knows id v at live in
    let read : found ≡ k.world.taken = sym (mem-read (sizes key) s.words TAKE 0 (omega arith)) ∙ i.counts.take_word in
    let most : found ≤ key.sizes.log + key.sizes.callers = let t = taken_most key m k.world s.views i in omega arith in (
      take_loaded v found,
      keeps,
      tt,
      load_keeps key s k a id me (take_loaded v found) k.world (take_inv key m k.world s.views id v found read i at),
      (record { view = refl; most = subst (λ (z : Key). found ≤ z.sizes.log + z.sizes.callers) (sym knows) most }, record { live = refl; key = refl; sessions = refl; hand = refl; seen = omega arith; remembered = refl }, refl),
    )
