-- Kind 11: a load of the ring place of the count that was taken.
use Rattle.std.proofs.Common.{◌≡◌, ℕ, ◌+◌, ◌%◌, ◌<◌, eqb, true, List, get_or, set, sym, ap, ◌∙◌, refl, subst, arith}
use Rattle.std.proofs.lemmas.Nat.{mod_below}
use mathlib.Core.Option.{none, some}
use lib.ListN.{get_elem?}
use Rattle.atomic_table.specs.Table.{step, keeps, Allows}
use Rattle.reg_words.specs.Memory.{GIVE, start, mem}
use Rattle.reg_words.proofs.Memory.{mem-read}
use Rattle.reg_rule.specs.declared.view.Key.{Key}
use Rattle.reg_rule.specs.declared.view.Taking.TheVariants.{Room}
use Rattle.reg_rule.specs.declared.view.View.{View}
use Rattle.reg_rule.specs.inner.World.{World}
use Rattle.reg_rule.specs.inner.Takers.{TakingFits}
use Rattle.reg_rule.specs.inner.Rule.{Inv, Kept, sizes}
use Rattle.reg_rule.specs.Moves.{give_loaded}
use Rattle.reg_rule.specs.Conditions.{MayLoadGive}
use Rattle.reg_rule.specs.Steps.{GiveLoaded}
use Rattle.reg_rule.specs.inner.Plays.{Sat, seated}
use Rattle.reg_rule.proofs.Counted.{count_more}
use Rattle.reg_rule.proofs.Fits.{fits_of}
use Rattle.reg_rule.proofs.Sets.{fits_set}
use Rattle.reg_rule.proofs.Doors.{load_keeps}

give_inv : (key : Key) (m : ℕ → ℕ → ℕ) (w : World) (views : List View) (id : ℕ) (v : View) (t p place : ℕ) → Inv key m w views → get_elem? views id ≡ some v → v.taking ≡ Room t p → place ≡ t % key.entries
    → Inv key m w (set views id (give_loaded v t p (m GIVE place)))
give_inv key m w views id v t p place i at room is = fits_set key m w views id v (give_loaded v t p (m GIVE place)) i at refl refl (let f = fits_of key m w views i id v at in let fits : TakingFits w.taken w.put w.ring (Room t p) = subst (TakingFits w.taken w.put w.ring) room f.takes in record {
  knows = f.knows;
  owns = f.owns;
  saw = f.saw;
  has_sessions = f.has_sessions;
  rows = f.rows;
  found = f.found;
  exchanges = let c = count_more (λ k. eqb k 2) v.made 11 refl in let e = f.exchanges in omega arith;
  fits_pin = f.fits_pin;
  pinned = f.pinned;
  above_floor = f.above_floor;
  helps = f.helps;
  hands = f.hands;
  cursors = f.cursors;
  covers = f.covers;
  takes = (fits.0, fits.1, fits.2, λ e. ap (m GIVE) is ∙ i.ring.named t (let low = fits.0 in omega arith) (let a = fits.1 in let b = fits.2 in omega arith));
  found_empty = f.found_empty;
  stopped = f.stopped;
  last_word = f.last_word;
  is_holder = f.is_holder;
  at_word = f.at_word;
  idles = f.idles;
  scans = f.scans;
  cuts = f.cuts;
  gives = f.gives;
  victims = f.victims;
  meets = f.meets;
  costs = f.costs;
})

same_taken : (t p a b : ℕ) → Room t p ≡ Room a b → t ≡ a
same_taken t p a b e = cc

same_put : (t p a b : ℕ) → Room t p ≡ Room a b → p ≡ b
same_put t p a b e = cc

-- a ring place is one
pub give_inside : (key : Key) (t place : ℕ) → 0 < key.entries → place ≡ t % key.entries → place < key.entries
give_inside key t place one is = let a = mod_below t key.entries one in omega arith

pub loads_give : (key : Key) (slots id : ℕ) (me : Sat) (place : ℕ) → me.0.live ≡ true → me.0.key ≡ key → 0 < key.entries → MayLoadGive place me.0
    → Allows (Kept key) slots id me (start (sizes key) GIVE + place) (λ x. x) (seated GiveLoaded (step slots (start (sizes key) GIVE + place) 0 0 none) me)
loads_give key slots id me place live knows many may s k wide at small =
    let v : View = me.0 in let m : ℕ → ℕ → ℕ = mem (sizes key) s.words in let a : ℕ = start (sizes key) GIVE + place in
    let t : ℕ = may.0 in let p : ℕ = may.1 in
    let is : place ≡ t % key.entries = subst (λ (z : Key). place ≡ t % z.entries) knows may.3 in
    let read : m GIVE place ≡ get_or s.words a 0 = mem-read (sizes key) s.words GIVE place (give_inside key t place many is) in
    let inv : Inv key m k.world (set s.views id (give_loaded v t p (get_or s.words a 0))) = subst (λ (x : ℕ). Inv key m k.world (set s.views id (give_loaded v t p x))) read (give_inv key m k.world s.views id v t p place k.inv at may.2 is) in (
      give_loaded v t p (get_or s.words a 0),
      keeps,
      tt,
      load_keeps key s k a id me (give_loaded v t p (get_or s.words a 0)) k.world inv,
      (
        record { view = λ b q e. let one : Room t p ≡ Room b q = sym may.2 ∙ e in λ j. give_loaded v (same_taken t p b q one j) (same_put t p b q one j) (get_or s.words a 0) },
        record { live = refl; key = refl; sessions = refl; hand = refl; seen = omega arith; remembered = refl },
        refl,
      ),
    )

-- the same at an address that the code has computed
pub loads_give_at : (key : Key) (slots id : ℕ) (me : Sat) (place a : ℕ) → a ≡ start (sizes key) GIVE + place → me.0.live ≡ true → me.0.key ≡ key → 0 < key.entries → MayLoadGive place me.0
    → Allows (Kept key) slots id me a (λ x. x) (seated GiveLoaded (step slots a 0 0 none) me)
loads_give_at key slots id me place a is live knows many may = subst (λ (z : ℕ). Allows (Kept key) slots id me z (λ x. x) (seated GiveLoaded (step slots z 0 0 none) me)) (sym is) (loads_give key slots id me place live knows many may)
