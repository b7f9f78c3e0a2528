-- Kind 23: a seat takes in another. Neither is pinned, and neither holds the sweep.
use Rattle.std.proofs.Common.{◌≡◌, ◌≢◌, ℕ, zero, suc, ◌+◌, ◌*◌, ◌<◌, ◌≤◌, eqb, cond, leb, is_some, Bool, true, false, ◌⊎◌, inr, ⊎_elim, List, [], ◌∷◌, ◌++◌, length, take, set, Option, sym, ap, ◌∙◌, refl, subst, arith, length-append}
use Rattle.std.proofs.lemmas.List.{take-append-le}
use Rattle.std.proofs.lemmas.Bool.Decides.{leb_tells}
use mathlib.Core.Logic.{dite}
use native.Mathlib.Decide.{ℕ_discrete}
use mathlib.Core.Option.{some, some-injective, some-ne-none}
use lib.ListN.{get_elem?}
use Rattle.atomic_table.specs.Table.{Joins}
use Rattle.atomic_table.proofs.Lists.{set_else, at_longer}
use Rattle.reg_model.specs.declared.reply.Row.{Row}
use Rattle.reg_words.specs.Memory.{TAKE, PUT, PIN, CODE, NEXT, NOTE, mem}
use Rattle.reg_rule.specs.declared.view.Key.{Key}
use Rattle.reg_rule.specs.declared.view.Place.{Place}
use Rattle.reg_rule.specs.declared.view.Hand.{Hand}
use Rattle.reg_rule.specs.declared.view.Cost.{Cost}
use Rattle.reg_rule.specs.declared.view.View.{View}
use Rattle.reg_words.specs.declared.word.StampWord.{StampWord}
use Rattle.reg_rule.specs.Log.{At, IsLiveIn, updates}
use Rattle.reg_rule.specs.Candidates.{candidates}
use Rattle.reg_rule.specs.inner.World.{Use, in_hand, World}
use Rattle.reg_rule.specs.inner.SeatParts.{total, Owned, InHands, IsSeat}
use Rattle.reg_rule.specs.inner.Entries.{CountsPart}
use Rattle.reg_rule.specs.inner.PinParts.{IsOneOf, FitsPin}
use Rattle.reg_rule.specs.inner.HelpParts.{HelpsFit}
use Rattle.reg_rule.specs.inner.HandParts.{HandFits}
use Rattle.reg_rule.specs.inner.Rule.{Kept, sizes}
use Rattle.reg_rule.specs.Seatings.{joined, no_key, nobody}
use Rattle.reg_rule.specs.Rounds.{IsAtRest}
use Rattle.reg_rule.proofs.Views.{each_join, total_moves}
use Rattle.reg_rule.proofs.Counted.{set_at_own, set_is_seat}
use Rattle.reg_rule.proofs.Fits.{Shared, Fits, shared_of, fits_of, inv_of}
use Rattle.reg_rule.proofs.Renumber.{renumbered, holds_back, free_back, hand_stays, hand_goes, hand_back, stamp_renumbered, young_renumbered, moved, moved-stays, moved-goes, at_joined}
use Rattle.reg_rule.proofs.SeatSteps.{cond_zero, unseated_fits}

abbrev pub uses_after : (ℕ → Use) → ℕ → ℕ → ℕ → ℕ → Use
uses_after uses id other n e = renumbered id other n (uses e)

-- ---- the longer of two logs

either : (P : List Place → Type 0) (b : Bool) (x y : List Place) → P x → P y → P (cond b x y)
either P true x y p q = p
either P false x y p q = q

longer_by : (b : Bool) (x y : List Place) → ((b ≡ true) × (length y ≤ length x)) ⊎ ((b ≡ false) × (length x < length y)) → (length x ≤ length (cond b x y)) × (length y ≤ length (cond b x y))
longer_by true x y h = ⊎_elim (λ t. let z = t.1 in (omega arith, t.1)) (λ t. absurd (cc)) h
longer_by false x y h = ⊎_elim (λ t. absurd (cc)) (λ t. let z = t.1 in (omega arith, omega arith)) h

take_same : (log x y mx my : List Place) (k : ℕ) → log ≡ x ++ mx → log ≡ y ++ my → k ≤ length x → k ≤ length y → take k x ≡ take k y
take_same log x y mx my k ex ey hx hy = sym (take-append-le k x mx hx) ∙ (ap (take k) (sym ex ∙ ey) ∙ take-append-le k y my hy)

at_further : {A : Type 0} (l m : List A) (k n : ℕ) (a : A) → n ≡ length l + k → At m k a → At (l ++ m) n a
at_further [] m k n a is e = let same : k ≡ n = omega arith in subst (λ (z : ℕ). At m z a) same e
at_further (x ∷ xs) m k zero a is e = absurd (omega arith)
at_further (x ∷ xs) m k (suc n) a is e = at_further xs m k n a (omega arith) e

at_append : {A : Type 0} (l m : List A) (k : ℕ) (a : A) → At m k a → At (l ++ m) (length l + k) a
at_append l m k a e = at_further l m k (length l + k) a refl e

-- ---- parts

renumbered_helps : (base : ℕ) (notes : ℕ → ℕ) (log : List Place) (uses : ℕ → Use) (stamps : ℕ → StampWord) (seen more : ℕ) (noted helped : Option ℕ) (id other n : ℕ) → seen ≤ more
    → HelpsFit base notes log uses stamps seen noted helped → HelpsFit base notes log (uses_after uses id other n) stamps more noted helped
renumbered_helps base notes log uses stamps seen more noted helped id other n le h = record {
  noted = h.noted;
  noted_seen = λ k is. let low = h.noted_seen k is in omega arith;
  helped = λ k is. let old = h.helped k is in let low = old.0 in (
    omega arith,
    record {
      noted = old.1.noted;
      born = λ unit entry decl held. old.1.born unit entry decl (holds_back id other n (uses entry) (base + k) held);
      dead = λ d entry kind wd held. old.1.dead d entry kind wd (holds_back id other n (uses entry) d held);
    },
  );
}

renumbered_hand : (key : Key) (codes nexts : ℕ → ℕ) (uses : ℕ → Use) (stamps : ℕ → StampWord) (linked : ℕ → ℕ → Bool) (id other n j i j' i' : ℕ) (h : Hand)
    → HandFits key codes nexts uses stamps linked j i h → uses_after uses id other n h.entry ≡ in_hand j' i' → HandFits key codes nexts (uses_after uses id other n) stamps linked j' i' h
renumbered_hand key codes nexts uses stamps linked id other n j i j' i' h f is = record { inside = f.inside; use_is = is; unborn = f.unborn; code = f.code; tables = f.tables; written = f.written; ready = f.ready }

renumbered_shared : (key : Key) (m : ℕ → ℕ → ℕ) (w : World) (views after : List View) (owner : ℕ → ℕ × ℕ) (id other n : ℕ) → Shared key m w views
    → total (λ u. length u.hands) after ≡ total (λ u. length u.hands) views → total (λ u. length u.accounts) after ≡ total (λ u. length u.accounts) views
    → InHands (uses_after w.uses id other n) after → IsSeat w.holder after → Shared key m (record w { owner = owner; uses = uses_after w.uses id other n }) after
renumbered_shared key m w views after owner id other n s hands accounts in_hands sweeper = record {
  key_part = s.key_part;
  log = s.log;
  notes = s.notes;
  accounts = s.accounts;
  uses = record { held = λ d entry unit decl kept. ap (renumbered id other n) (s.uses.held d entry unit decl kept); holding = λ d entry low is. s.uses.holding d entry low (holds_back id other n (w.uses entry) d is) };
  stamps = record { words = s.stamps.words; kinds = s.stamps.kinds; fits = λ entry low. stamp_renumbered id other n key.carried w.log w.returned entry (w.uses entry) (w.stamps entry) (s.stamps.fits entry low) };
  codes = record { bodies = λ d entry unit is. s.codes.bodies d entry unit (holds_back id other n (w.uses entry) d is) };
  counts = subst (CountsPart key (m TAKE) (m PUT) w.log w.returned w.taken w.put) (sym hands) s.counts;
  ring = record { named = s.ring.named; rests = λ j from below. let r = s.ring.rests j from below in (r.0, ap (renumbered id other n) r.1); none_else = λ entry j low is. s.ring.none_else entry j low (free_back id other n (w.uses entry) j is) };
  chains = s.chains;
  links = record { held = λ table d entry low inside is. s.links.held table d entry low inside (holds_back id other n (w.uses entry) d is); ring = λ table entry j small low is. s.links.ring table entry j small low (free_back id other n (w.uses entry) j is) };
  sweep = s.sweep;
  reclaimed = s.reclaimed;
  floors = s.floors;
  sessions = accounts ∙ s.sessions;
  in_hands = in_hands;
  sweeper = sweeper;
}

-- what is said of the other seats
renumbered_fits : (key : Key) (m : ℕ → ℕ → ℕ) (w : World) (id other n k j : ℕ) (v : View) → j ≢ other → Fits key m w j v → Fits key m (record w { owner = moved w.owner id other k; uses = uses_after w.uses id other n }) j v
renumbered_fits key m w id other n k j v ne f = record {
  knows = f.knows;
  owns = λ i a e. let o = f.owns i a e in record { below = o.below; owner_is = moved-stays w.owner id other k a.number j i o.owner_is ne; rows_are = o.rows_are };
  saw = f.saw;
  has_sessions = f.has_sessions;
  rows = f.rows;
  found = f.found;
  exchanges = f.exchanges;
  fits_pin = f.fits_pin;
  pinned = f.pinned;
  above_floor = f.above_floor;
  helps = renumbered_helps key.carried.base (m NOTE) w.log w.uses w.stamps (length v.log) (length v.log) v.noted v.helped id other n (omega arith) f.helps;
  hands = λ i h e. let old = f.hands i h e in renumbered_hand key (m CODE) (m NEXT) w.uses w.stamps w.linked id other n j i j i h old (hand_stays id other n (w.uses h.entry) j i old.use_is ne);
  cursors = f.cursors;
  covers = f.covers;
  takes = f.takes;
  found_empty = f.found_empty;
  stopped = f.stopped;
  last_word = f.last_word;
  is_holder = f.is_holder;
  at_word = f.at_word;
  idles = f.idles;
  scans = f.scans;
  cuts = f.cuts;
  gives = f.gives;
  victims = f.victims;
  meets = λ i k' met opened e. let old = f.meets i k' met opened e in record { table = old.table; inside = old.inside; named = old.named; unborn = λ none. let u = old.unborn none in (young_renumbered id other n key.carried.base k' (w.uses met.entry) u.0, u.1, u.2) };
  costs = f.costs;
}

no_front : (v : View) → v.pin ≡ 0 → FitsPin 0 v → (k : ℕ) → IsOneOf v.front v.snapshot k → ⊥
no_front v rest f k h = let p = (f.fronts k h).0 in omega arith

joined_fits : (key : Key) (m : ℕ → ℕ → ℕ) (w : World) (id other : ℕ) (v t : View) → id ≢ other → v.live ≡ true → IsAtRest v → IsAtRest t → Fits key m w id v → Fits key m w other t
    → Fits key m (record w { owner = moved w.owner id other (length v.accounts); uses = uses_after w.uses id other (length v.hands) }) id (joined v t)
joined_fits key m w id other v t ne live rest rest' f g =
    let n : ℕ = length v.hands in let k : ℕ = length v.accounts in let owner : ℕ → ℕ × ℕ = moved w.owner id other k in let uses : ℕ → Use = uses_after w.uses id other n in
    let log : List Place = (joined v t).log in
    let most : (length v.log ≤ length log) × (length t.log ≤ length log) = longer_by (leb (length t.log) (length v.log)) v.log t.log (leb_tells (length t.log) (length v.log)) in
    let saw : (more : List Place) × (w.log ≡ log ++ more) = either (λ l. (more : List Place) × (w.log ≡ l ++ more)) (leb (length t.log) (length v.log)) v.log t.log f.saw g.saw in
    let pin : v.pin ≡ 0 = rest.0 in let mine = most.0 in let theirs = most.1 in record {
      knows = f.knows;
      owns = at_joined (λ i a. Owned key.sizes.callers w.accounts owner id i a) v.accounts t.accounts
          (λ i a e. let o = f.owns i a e in record { below = o.below; owner_is = moved-stays w.owner id other k a.number id i o.owner_is ne; rows_are = o.rows_are })
          (λ i a e. let o = g.owns i a e in record { below = o.below; owner_is = moved-goes w.owner id other k a.number i o.owner_is; rows_are = o.rows_are });
      saw = saw;
      has_sessions = record {
        hands_most = let a = f.has_sessions.hands_most in let b = g.has_sessions.hands_most in let x = length-append v.hands t.hands in let y = length-append v.accounts t.accounts in omega arith;
        holding = λ h. let z : is_some v.holding ≡ false = ap is_some rest.1 in absurd (cc);
        spent = λ off. absurd (cc);
      };
      rows = record {
        below = λ i j a row e there. at_joined (λ i a. (j : ℕ) (row : Row) → At a.rows j row → row.point ≤ key.carried.base + length log) v.accounts t.accounts
            (λ i a e j row there. let b = f.rows.below i j a row e there in omega arith) (λ i a e j row there. let b = g.rows.below i j a row e there in omega arith) i a e j row there;
        opened = λ i j k a row opened. absurd (no_front v pin f.fits_pin k (inr opened));
      };
      found = λ x is. let old = f.found x is in let le = old.0 in
          (omega arith, (old.1.0, subst (λ (l : List Place). IsLiveIn key.carried l x.id old.1.0 x.entry) (take_same w.log v.log log f.saw.0 saw.0 x.place f.saw.1 saw.1 le (omega arith)) old.1.1));
      exchanges = let e = f.exchanges in omega arith;
      fits_pin = record { session = λ h. absurd (omega arith); covers = omega arith; fronts = λ k h. absurd (no_front v pin f.fits_pin k h); cursor_pinned = f.fits_pin.cursor_pinned };
      pinned = at_joined (λ i a. m PIN a.number ≡ cond (eqb i 0) v.pin 0) v.accounts t.accounts f.pinned
          (λ i a e. g.pinned i a e ∙ (cond_zero (eqb i 0) t.pin rest'.0 ∙ sym (cond_zero (eqb (k + i) 0) v.pin pin)));
      above_floor = λ n k of relies. absurd (no_front v pin f.fits_pin k relies);
      helps = renumbered_helps key.carried.base (m NOTE) w.log w.uses w.stamps (length v.log) (length log) v.noted v.helped id other n mine f.helps;
      hands = at_joined (λ i h. HandFits key (m CODE) (m NEXT) uses w.stamps w.linked id i h) v.hands t.hands
          (λ i h e. let old = f.hands i h e in renumbered_hand key (m CODE) (m NEXT) w.uses w.stamps w.linked id other n id i id i h old (hand_stays id other n (w.uses h.entry) id i old.use_is ne))
          (λ i h e. let old = g.hands i h e in renumbered_hand key (m CODE) (m NEXT) w.uses w.stamps w.linked id other n other i id (n + i) h old (hand_goes id other n (w.uses h.entry) i old.use_is));
      cursors = λ c e. let p = f.fits_pin.cursor_pinned c e in absurd (omega arith);
      covers = λ c k declared entry unit e. let p = f.fits_pin.cursor_pinned c e in absurd (omega arith);
      takes = f.takes;
      found_empty = f.found_empty;
      stopped = f.stopped;
      last_word = f.last_word;
      is_holder = f.is_holder;
      at_word = λ h e. let none = rest.1 in absurd (cc);
      idles = λ h e. let none = rest.1 in absurd (cc);
      scans = λ h e. let none = rest.1 in absurd (cc);
      cuts = λ h e. let none = rest.1 in absurd (cc);
      gives = λ h e. let none = rest.1 in absurd (cc);
      victims = λ h withdrawn entry unit e. let none = rest.1 in absurd (cc);
      meets = λ i k met opened. absurd (no_front v pin f.fits_pin k (inr opened));
      costs = at_joined (λ i (c : Cost). c.looked ≤ 2 * candidates key.carried (updates w.log) key.sizes.bits c.unit c.radius + 4 * key.sizes.callers) v.costs t.costs f.costs g.costs;
    }

joined_in_hands : (uses : ℕ → Use) (views : List View) (id other : ℕ) (v t both spent : View) → id ≢ other → get_elem? views id ≡ some v → get_elem? views other ≡ some t → both.hands ≡ v.hands ++ t.hands
    → InHands uses views → InHands (uses_after uses id other (length v.hands)) (set (set views id both) other spent)
joined_in_hands uses views id other v t both spent ne at there hands all entry seat i is =
    let own : get_elem? (set (set views id both) other spent) id ≡ some both = set_else (set views id both) other id spent ne ∙ set_at_own views id v both at in
    ⊎_elim
    (λ (stays : (seat ≢ other) × (uses entry ≡ in_hand seat i)). let old = all entry seat i stays.1 in dite (ℕ_discrete seat id)
    (λ same. let here : old.0 ≡ v = some-injective old.0 v (sym old.2 ∙ (ap (λ k. get_elem? views k) same ∙ at)) in (
      both,
      old.1,
      subst (λ k. get_elem? (set (set views id both) other spent) k ≡ some both) (sym same) own,
      subst (λ (l : List Hand). At l i old.1) (sym hands) (at_longer v.hands t.hands i old.1 (subst (λ (u : View). At u.hands i old.1) here old.3)),
      old.4,
    ))
    (λ apart. (old.0, old.1, set_else (set views id both) other seat spent stays.0 ∙ (set_else views id seat both apart ∙ old.2), old.3, old.4)))
    (λ (goes : (k : ℕ) × (uses entry ≡ in_hand other k) × (seat ≡ id) × (i ≡ length v.hands + k)). let old = all entry other goes.0 goes.1 in
    let here : old.0 ≡ t = some-injective old.0 t (sym old.2 ∙ there) in (
      both,
      old.1,
      subst (λ k. get_elem? (set (set views id both) other spent) k ≡ some both) (sym goes.2) own,
      subst (λ (z : List Hand × ℕ). At z.0 z.1 old.1) (λ j. (sym hands j, sym goes.3 j)) (at_append v.hands t.hands goes.0 old.1 (subst (λ (u : View). At u.hands goes.0 old.1) here old.3)),
      old.4,
    ))
    (hand_back id other (length v.hands) (uses entry) seat i is)

total_join : (f : View → ℕ) (views : List View) (id other : ℕ) (v t both spent : View) → get_elem? views id ≡ some v → get_elem? (set views id both) other ≡ some t → f both ≡ f v + f t → f spent ≡ 0
    → total f (set (set views id both) other spent) ≡ total f views
total_join f views id other v t both spent at there sum none = let a = total_moves f views id v both at in let b = total_moves f (set views id both) other t spent there in omega arith

pub joins : (key : Key) (id other : ℕ) (v t : View) → v.live ≡ true → IsAtRest v → IsAtRest t → Joins (Kept key) id v other t (joined v t) nobody
joins key id other v t live rest rest' s k at apart there =
    let old : get_elem? s.views other ≡ some t = sym (set_else s.views id other (joined v t) apart) ∙ there in
    let i = k.inv in let w : World = k.world in let m : ℕ → ℕ → ℕ = mem (sizes key) s.words in let both : View = joined v t in let n : ℕ = length v.hands in let count : ℕ = length v.accounts in
    let owner : ℕ → ℕ × ℕ = moved w.owner id other count in let w' : World = record w { owner = owner; uses = uses_after w.uses id other n } in
    let ne : id ≢ other = λ h. apart (sym h) in
    let f = fits_of key m w s.views i id v at in let g = fits_of key m w s.views i other t old in record {
      wide = k.wide;
      world = w';
      inv = inv_of key m w' (set (set s.views id both) other nobody)
          (renumbered_shared key m w s.views (set (set s.views id both) other nobody) owner id other n (shared_of key m w s.views i)
          (total_join (λ u. length u.hands) s.views id other v t both nobody at there (length-append v.hands t.hands) refl)
          (total_join (λ u. length u.accounts) s.views id other v t both nobody at there (length-append v.accounts t.accounts) refl)
          (joined_in_hands w.uses s.views id other v t both nobody ne at old refl i.in_hands)
          (set_is_seat w.holder (set s.views id both) other t nobody there (set_is_seat w.holder s.views id v both at i.sweeper)))
          (each_join (Fits key m w) (Fits key m w') s.views id other both nobody (fits_of key m w s.views i)
          (λ j d not_id not_other h. renumbered_fits key m w id other n count j d not_other h)
          (joined_fits key m w id other v t ne live rest rest' f g)
          (unseated_fits key m w' other no_key false [] [] (λ h. absurd (cc)) (λ off. refl) (λ n a e. absurd (some-ne-none a (sym e))) (λ n j a row e. absurd (some-ne-none a (sym e))) (λ n a e. absurd (some-ne-none a (sym e)))
          (λ h. let z : is_some t.holding ≡ false = ap is_some rest'.1 in let y = g.is_holder.1 h in absurd (cc)) i.sweep.unmarked));
    }
