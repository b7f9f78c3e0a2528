-- Kind 22, of the ring place: the holder stores the entry in limbo at the ring place of the count put.
use Rattle.std.proofs.Common.{◌≡◌, ℕ, ◌+◌, ◌%◌, ◌<◌, is_some, Bool, true, List, set, Option, Some, sym, ap, ◌∙◌, refl, subst, arith}
use mathlib.Core.Option.{none, some, some-injective}
use lib.ListN.{get_elem?}
use Rattle.atomic_table.specs.Table.{step, keeps, Allows}
use Rattle.atomic_table.proofs.Lists.{at_longer}
use Rattle.reg_words.specs.Memory.{GIVE, start, mem, write, set_at}
use Rattle.reg_rule.specs.declared.view.Key.{Key}
use Rattle.reg_rule.specs.declared.view.Place.{Place}
use Rattle.reg_rule.specs.declared.view.Holding.{Holding}
use Rattle.reg_rule.specs.declared.view.View.{View}
use Rattle.reg_rule.specs.Log.{IsWd}
use Rattle.reg_rule.specs.inner.World.{World}
use Rattle.reg_rule.specs.inner.Entries.{RingPart}
use Rattle.reg_rule.specs.inner.HolderParts.{GivesFit, Gives}
use Rattle.reg_rule.specs.inner.Rule.{Inv, Kept, sizes}
use Rattle.reg_rule.specs.Moves.{did, with_step, give_stored, holder_did, on_holding}
use Rattle.reg_rule.specs.Conditions.{MayGive}
use Rattle.reg_rule.specs.Steps.{GiveStored}
use Rattle.reg_rule.specs.inner.Plays.{Sat, seated}
use Rattle.reg_rule.proofs.Views.{each_moves}
use Rattle.reg_rule.proofs.Fits.{Shared, Fits, shared_of, fits_of, inv_of}
use Rattle.reg_rule.proofs.StampsKept.{set_here}
use Rattle.reg_rule.proofs.Shows.{at_inside}
use Rattle.reg_rule.proofs.Giving.{ring_stored}
use Rattle.reg_rule.proofs.LoadsGive.{give_inside}
use Rattle.reg_rule.proofs.Doors.{write_keeps}
use Rattle.reg_rule.proofs.Variants.{some_same}
use Rattle.reg_rule.proofs.Holder.{notes_of, noted_fits, none_begins, others_free}
use Rattle.reg_rule.proofs.Sets.{shared_set, count_fits}

-- a seat, with the entry stored
stored_fits : (key : Key) (m : ℕ → ℕ → ℕ) (w : World) (place new id : ℕ) (v : View) → Gives key (set_at (m GIVE) place new) w.returned w.put id v → Fits key m w id v → Fits key (write m GIVE place new) w id v
stored_fits key m w place new id v gives f = record {
  knows = f.knows;
  owns = f.owns;
  saw = f.saw;
  has_sessions = f.has_sessions;
  rows = f.rows;
  found = f.found;
  exchanges = f.exchanges;
  fits_pin = f.fits_pin;
  pinned = f.pinned;
  above_floor = f.above_floor;
  helps = f.helps;
  hands = f.hands;
  cursors = f.cursors;
  covers = f.covers;
  takes = f.takes;
  found_empty = f.found_empty;
  stopped = f.stopped;
  last_word = f.last_word;
  is_holder = f.is_holder;
  at_word = f.at_word;
  idles = f.idles;
  scans = f.scans;
  cuts = f.cuts;
  gives = gives;
  victims = f.victims;
  meets = f.meets;
  costs = f.costs;
}

give_shared : (key : Key) (m : ℕ → ℕ → ℕ) (w : World) (views : List View) (place new : ℕ) → RingPart key (set_at (m GIVE) place new) w.uses w.taken w.put w.ring → Shared key m w views → Shared key (write m GIVE place new) w views
give_shared key m w views place new ring s = record {
  key_part = s.key_part;
  log = s.log;
  notes = s.notes;
  accounts = s.accounts;
  uses = s.uses;
  stamps = s.stamps;
  codes = s.codes;
  counts = s.counts;
  ring = ring;
  chains = s.chains;
  links = s.links;
  sweep = s.sweep;
  reclaimed = s.reclaimed;
  floors = s.floors;
  sessions = s.sessions;
  in_hands = s.in_hands;
  sweeper = s.sweeper;
}

give_inv : (key : Key) (m : ℕ → ℕ → ℕ) (w : World) (views : List View) (id place new : ℕ) (v : View) → Inv key m w views → get_elem? views id ≡ some v → v.key ≡ key → MayGive place new v → Inv key (write m GIVE place new) w (set views id (holder_did give_stored v 22))
give_inv key m w views id place new v i at knows may =
    let h : Holding = may.0 in let p : ℕ = may.1 in let withdrawn : ℕ = may.2 in let holds : v.holding ≡ Some h = may.3 in let m' : ℕ → ℕ → ℕ = write m GIVE place new in
    let f = fits_of key m w views i id v at in let old = f.gives h holds in
    let put_is : w.put ≡ p = old.put_is p may.6 in let here : place ≡ p % key.entries = subst (λ (z : Key). place ≡ p % z.entries) knows may.7 in
    let wd : IsWd v.log h.place withdrawn new = may.8 in
    let there : IsWd w.log h.place withdrawn new = subst (λ (l : List Place). IsWd l h.place withdrawn new) (sym f.saw.1) (at_longer v.log f.saw.0 h.place _ wd) in
    let ring : RingPart key (set_at (m GIVE) place new) w.uses w.taken w.put w.ring =
    subst (λ (n : ℕ). RingPart key (set_at (m GIVE) n new) w.uses w.taken w.put w.ring) (sym here) (ring_stored key m w views i h.place withdrawn new p there (old.kept may.5 may.4) (sym put_is)) in
    let now : (gave : Bool) → GivesFit key (set_at (m GIVE) place new) v.log w.returned w.put h.word.limbo h.place h.put gave h.paid = λ gave. record {
      put_is = old.put_is;
      given = λ _. (p, may.6, λ y entry other. ap (set_at (m GIVE) place new) (sym here) ∙ (set_here (m GIVE) place new ∙ ap (λ (q : Place). q.entry) (some-injective _ _ (sym wd ∙ other))));
      back = old.back;
      kept = old.kept;
    } in
    let stored : Fits key m' w id v = stored_fits key m w place new id v (λ y e. subst (λ (z : Holding). GivesFit key (set_at (m GIVE) place new) v.log w.returned w.put z.word.limbo z.place z.put z.gave z.paid) (some_same h y (sym holds ∙ e)) (now h.gave)) f in
    let n = notes_of key m' w id v h holds stored in let noted : View = record v { holding = Some (give_stored h) } in let x : View = with_step noted 22 in
    let own : Fits key m' w id x = count_fits key m' w id noted 22 refl (noted_fits key m' w id v h (give_stored h) holds record {
      at_word = n.at_word;
      idles = λ low. let inside = at_inside v.log h.place _ wd in absurd (omega arith);
      scans = n.scans;
      cuts = n.cuts;
      gives = now true;
      victims = n.victims;
    } stored) in
    subst (λ (o : Option Holding). Inv key m' w (set views id (record v { holding = o; made = did v 22 }))) (sym (ap (on_holding give_stored) holds))
    (inv_of key m' w (set views id x) (shared_set key m' w views id v x at refl refl (give_shared key m w views place new ring (shared_of key m w views i)))
    (each_moves (Fits key m w) (Fits key m' w) views id x (fits_of key m w views i)
    (λ j d apart g. stored_fits key m w place new j d (none_begins key m' w j d (others_free key m w id j d (f.is_holder.0 (ap is_some holds)) apart g)).gives g) own))

pub stores_give : (key : Key) (slots id : ℕ) (me : Sat) (place new : ℕ) → MayGive place new me.0 → me.0.key ≡ key → 0 < key.entries
    → Allows (Kept key) slots id me (start (sizes key) GIVE + place) (λ _. new) (λ _. seated (λ v r w. GiveStored v w) (step slots (start (sizes key) GIVE + place) new 0 none) me new)
stores_give key slots id me place new may knows many s k wide at small =
    let v : View = me.0 in let u : View = holder_did give_stored v 22 in
    let inside : place < key.entries = give_inside key may.1 place many (subst (λ (z : Key). place ≡ may.1 % z.entries) knows may.7) in (
      u,
      keeps,
      tt,
      write_keeps key s k GIVE place new id me u k.world inside (give_inv key (mem (sizes key) s.words) k.world s.views id place new v k.inv at knows may),
      (refl, record { live = refl; key = refl; sessions = refl; hand = refl; seen = omega arith; remembered = refl }, refl),
    )

-- the same at an address that the code has computed
pub stores_give_at : (key : Key) (slots id : ℕ) (me : Sat) (place new a : ℕ) → a ≡ start (sizes key) GIVE + place → MayGive place new me.0 → me.0.key ≡ key → 0 < key.entries
    → Allows (Kept key) slots id me a (λ _. new) (λ _. seated (λ v r w. GiveStored v w) (step slots a new 0 none) me new)
stores_give_at key slots id me place new a is may knows many = subst (λ (z : ℕ). Allows (Kept key) slots id me z (λ _. new) (λ _. seated (λ v r w. GiveStored v w) (step slots z new 0 none) me new)) (sym is) (stores_give key slots id me place new may knows many)
