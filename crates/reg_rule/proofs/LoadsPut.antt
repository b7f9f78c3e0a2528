-- Kind 10: a load of the count of entries put, by a seat that takes an entry and by the holder of the sweep.
use Rattle.std.proofs.Common.{not, true, ◌≡◌, ◌≢◌, ℕ, ◌+◌, ◌<◌, ◌≤◌, eqb, Bool, List, [], length, ◌++◌, count_by, cond, get_or, set, Option, Some, sym, ap, ◌∙◌, refl, subst, arith, length-append, zero, suc, ◌∷◌, take}
use Rattle.std.proofs.lemmas.List.{map-append, length-map}
use Rattle.std.proofs.lemmas.List.Sums.{sum_by-append}
use mathlib.Core.Logic.{dite}
use native.Mathlib.Decide.{ℕ_discrete}
use mathlib.Core.Option.{none, some}
use lib.ListN.{get_elem?}
use Rattle.atomic_table.specs.Table.{step, keeps, Allows}
use Rattle.reg_model.specs.declared.update.Update.{Update}
use Rattle.reg_model.specs.Live.{declarations, is_declaration, withdrawals}
use Rattle.reg_words.specs.Memory.{TAKE, PUT, start, mem}
use Rattle.reg_words.proofs.Memory.{mem-read}
use Rattle.reg_rule.specs.declared.told.Told.{Told}
use Rattle.reg_rule.specs.declared.told.Told.TheVariants.{Sweeps}
use Rattle.reg_rule.specs.declared.view.Key.{Key}
use Rattle.reg_rule.specs.declared.view.Place.{Place}
use Rattle.reg_rule.specs.declared.view.Holding.{Holding}
use Rattle.reg_rule.specs.declared.view.Taking.TheVariants.{Begun}
use Rattle.reg_rule.specs.declared.view.View.{View}
use Rattle.reg_rule.specs.Log.{updates}
use Rattle.reg_rule.specs.inner.World.{World}
use Rattle.reg_rule.specs.inner.Takers.{TakingFits, EmptyFits}
use Rattle.reg_rule.specs.inner.Rule.{Inv, Kept, sizes}
use Rattle.reg_rule.specs.Moves.{did, with_step, found_empty, put_loaded, put_known, holder_did, on_holding}
use Rattle.reg_rule.specs.Conditions.{MayLoadPut}
use Rattle.reg_rule.specs.Steps.{PutLoaded}
use Rattle.reg_rule.specs.inner.Plays.{Sat, Stays, seated}
use Rattle.reg_rule.proofs.Counted.{count_more}
use Rattle.reg_rule.proofs.Fits.{fits_of}
use Rattle.reg_rule.proofs.Sets.{fits_set, count_fits}
use Rattle.reg_rule.proofs.Refused.{found_empty_fits}
use Rattle.reg_rule.proofs.Doors.{load_keeps}
use Rattle.reg_rule.proofs.Variants.{some_same}
use Rattle.reg_rule.proofs.Holder.{notes_of, noted_fits}
use Rattle.reg_rule.proofs.LoadsTake.{few}
use Rattle.reg_rule.proofs.Shows.{length_take}

-- ---- by a seat that takes

few_seen : (p : Update → Bool) (log seen more : List Place) → log ≡ seen ++ more → count_by p (updates seen) ≤ count_by p (updates log)
few_seen p log seen more is =
    let a : count_by p (updates log) ≡ count_by p (updates (seen ++ more)) = ap (λ (l : List Place). count_by p (updates l)) is in
    let b : count_by p (updates (seen ++ more)) ≡ count_by p (updates seen ++ updates more) = ap (count_by p) (map-append (λ (x : Place). x.update) seen more) in
    let c : count_by p (updates seen ++ updates more) ≡ count_by p (updates seen) + count_by p (updates more) = sum_by-append (λ (x : Update). cond {A = ℕ} (p x) 1 0) (updates seen) (updates more) in omega arith

prefix_take : (s : ℕ) (seen more : List Place) → (rest : List Place) × (take s (seen ++ more) ≡ take s seen ++ rest)
prefix_take zero seen more = ([], refl)
prefix_take (suc s) [] more = (take (suc s) more, refl)
prefix_take (suc s) (x ∷ seen) more = let r = prefix_take s seen more in (r.0, ap (λ (l : List Place). x ∷ l) r.1)

-- of those below a place, no more were seen than there are
few_below : (p : Update → Bool) (s : ℕ) (log seen more : List Place) → log ≡ seen ++ more → count_by p (updates (take s seen)) ≤ count_by p (updates (take s log))
few_below p s log seen more is = let r = prefix_take s seen more in few_seen p (take s log) (take s seen) r.0 (ap (take s) is ∙ r.1)

-- the ring is empty: as many were put as taken
empty_inv : (key : Key) (m : ℕ → ℕ → ℕ) (w : World) (views : List View) (id : ℕ) (v : View) (t : ℕ) → Inv key m w views → get_elem? views id ≡ some v → v.hands ≡ [] → 0 < length v.accounts → v.taking ≡ Begun t → w.put ≡ t
    → Inv key m w (set views id (found_empty v t (length w.log))) × (declarations (updates v.log) ≤ t) × (key.sizes.entries + withdrawals (updates (take v.stopped v.log)) ≤ t + length key.carried.list)
empty_inv key m w views id v t i at empty one begun is =
    let f = fits_of key m w views i id v at in let within = i.sweep.order in let seen = i.sweep.seen in
    let here : m PUT 0 ≡ t = i.counts.put_word ∙ is in
    let e : EmptyFits key w.log (record { taken = t; front = length w.log; stopped = v.stopped }) =
    found_empty_fits key (m TAKE) (m PUT) w.ring w.log w.returned w.taken w.put t t views id v i.key_part i.counts (omega arith) i.sessions i.has_sessions at empty one begun f.takes here refl f.stopped in (
      fits_set key m w views id v (found_empty v t (length w.log)) i at refl refl record {
        knows = f.knows;
        owns = f.owns;
        saw = f.saw;
        has_sessions = f.has_sessions;
        rows = f.rows;
        found = f.found;
        exchanges = let c = count_more (λ k. eqb k 2) v.made 10 refl in let x = f.exchanges in omega arith;
        fits_pin = f.fits_pin;
        pinned = f.pinned;
        above_floor = f.above_floor;
        helps = f.helps;
        hands = f.hands;
        cursors = f.cursors;
        covers = f.covers;
        takes = tt;
        found_empty = λ x same. subst (EmptyFits key w.log) (some_same _ x same) e;
        stopped = f.stopped;
        last_word = f.last_word;
        is_holder = f.is_holder;
        at_word = f.at_word;
        idles = f.idles;
        scans = f.scans;
        cuts = f.cuts;
        gives = f.gives;
        victims = f.victims;
        meets = f.meets;
        costs = f.costs;
      },
      (let a = few_seen is_declaration w.log v.log f.saw.0 f.saw.1 in let fits : TakingFits w.taken w.put w.ring (Begun t) = subst (TakingFits w.taken w.put w.ring) begun f.takes in let b = i.counts.took in let c = i.counts.room in omega arith),
      (let a = few_below (λ update. not (is_declaration update)) v.stopped w.log v.log f.saw.0 f.saw.1 in let b = e.swept in omega arith),
    )

-- there is room: more were put than the seat knows to be taken
room_inv : (key : Key) (m : ℕ → ℕ → ℕ) (w : World) (views : List View) (id : ℕ) (v : View) (t found : ℕ) → Inv key m w views → get_elem? views id ≡ some v → t < found → found ≡ w.put → t ≤ w.taken → Inv key m w (set views id (put_loaded v t found))
room_inv key m w views id v t found i at more is low = let f = fits_of key m w views i id v at in fits_set key m w views id v (put_loaded v t found) i at refl refl record {
  knows = f.knows;
  owns = f.owns;
  saw = f.saw;
  has_sessions = f.has_sessions;
  rows = f.rows;
  found = f.found;
  exchanges = let c = count_more (λ k. eqb k 2) v.made 10 refl in let x = f.exchanges in omega arith;
  fits_pin = f.fits_pin;
  pinned = f.pinned;
  above_floor = f.above_floor;
  helps = f.helps;
  hands = f.hands;
  cursors = f.cursors;
  covers = f.covers;
  takes = (low, more, (let a = is in omega arith));
  found_empty = f.found_empty;
  stopped = f.stopped;
  last_word = f.last_word;
  is_holder = f.is_holder;
  at_word = f.at_word;
  idles = f.idles;
  scans = f.scans;
  cuts = f.cuts;
  gives = f.gives;
  victims = f.victims;
  meets = f.meets;
  costs = f.costs;
}

-- ---- by the holder

-- the count put is known
known_inv : (key : Key) (m : ℕ → ℕ → ℕ) (w : World) (views : List View) (id : ℕ) (v : View) (h : Holding) (found : ℕ) → Inv key m w views → get_elem? views id ≡ some v → v.holding ≡ Some h → found ≡ w.put → Inv key m w (set views id (holder_did (put_known found) v 10))
known_inv key m w views id v h found i at holds is =
    let f = fits_of key m w views i id v at in let n = notes_of key m w id v h holds f in let old = n.gives in
    let e : Some (put_known found h) ≡ on_holding (put_known found) v.holding = sym (ap (on_holding (put_known found)) holds) in
    let noted : View = record v { holding = Some (put_known found h) } in
    subst (λ (x : Option Holding). Inv key m w (set views id (record v { holding = x; made = did v 10 }))) e
    (fits_set key m w views id v (with_step noted 10) i at refl refl (count_fits key m w id noted 10 refl (noted_fits key m w id v h (put_known found h) holds record {
      at_word = n.at_word;
      idles = n.idles;
      scans = n.scans;
      cuts = n.cuts;
      gives = record {
        put_is = λ p same. sym is ∙ some_same found p same;
        given = λ gave. let g = old.given gave in (g.0, ap Some (is ∙ old.put_is g.0 g.1), g.2);
        back = old.back;
        kept = old.kept;
      };
      victims = n.victims;
    } f)))

-- ---- the step

put_most : (key : Key) (m : ℕ → ℕ → ℕ) (w : World) (views : List View) (found : ℕ) → Inv key m w views → found ≡ w.put → found ≤ key.sizes.entries + key.sizes.log
put_most key m w views found i is =
    let a = i.counts.gave in let b = i.key_part.entries in let c = i.log.short in
    let d = few (λ update. not (is_declaration update)) (updates (take w.returned w.log)) in
    let e : length (updates (take w.returned w.log)) ≡ length (take w.returned w.log) = length-map (take w.returned w.log) (λ (p : Place). p.update) in
    let f = length_take w.log w.returned (let g = i.sweep.order in let h = i.sweep.seen in omega arith) in omega arith

abbrev Loaded : Key → (ℕ → ℕ → ℕ) → World → List View → ℕ → Told → View → ℕ → Type 0
Loaded key m w views id told v found = (u : View) × Inv key m w (set views id u) × PutLoaded told v found u × Stays v u

same_taken : (t b : ℕ) → Begun t ≡ Begun b → t ≡ b
same_taken t b e = cc

by_taker : (key : Key) (m : ℕ → ℕ → ℕ) (w : World) (views : List View) (id : ℕ) (v : View) (told : Told) (t found : ℕ) → Inv key m w views → get_elem? views id ≡ some v → v.key ≡ key → (told ≡ Sweeps → ⊥) → v.hands ≡ [] → 0 < length v.accounts → v.taking ≡ Begun t → found ≡ w.put
    → Loaded key m w views id told v found
by_taker key m w views id v told t found i at knows walks empty one begun is =
    let f = fits_of key m w views i id v at in let low : t ≤ w.taken = subst (TakingFits w.taken w.put w.ring) begun f.takes in let room = i.counts.room in
    let long : length w.log ≡ length v.log + length f.saw.0 = ap length f.saw.1 ∙ length-append v.log f.saw.0 in
    dite (ℕ_discrete found t)
    (λ same. let r = empty_inv key m w views id v t i at empty one begun (sym is ∙ same) in (
      found_empty v t (length w.log),
      r.0,
      record {
        empty = λ b ne e all. let z : t ≡ b = same_taken t b (sym begun ∙ e) in record { front = length w.log; view = ap (λ (n : ℕ). found_empty v n (length w.log)) z; seen = omega arith; declared = subst (λ (n : ℕ). declarations (updates v.log) ≤ n) z r.1; given = subst (λ (n : ℕ). v.key.sizes.entries + withdrawals (updates (take v.stopped v.log)) ≤ n + length v.key.carried.list) z (subst (λ (k : Key). k.sizes.entries + withdrawals (updates (take v.stopped v.log)) ≤ t + length k.carried.list) (sym knows) r.2) };
        room = λ b ne e more. absurd (more (same ∙ same_taken t b (sym begun ∙ e)));
        swept = λ e. absurd (walks e);
      },
      record { live = refl; key = refl; sessions = refl; hand = refl; seen = omega arith; remembered = refl },
    ))
    (λ apart. let more : t < found = above t found w.taken w.put low room is (λ e. apart (sym e)) in (
      put_loaded v t found,
      room_inv key m w views id v t found i at more is low,
      record {
        empty = λ b ne e all. absurd (apart (all ∙ sym (same_taken t b (sym begun ∙ e))));
        room = λ b ne e other. let z : t ≡ b = same_taken t b (sym begun ∙ e) in (subst (λ (n : ℕ). n < found) z more, ap (λ (n : ℕ). put_loaded v n found) z);
        swept = λ e. absurd (walks e);
      },
      record { live = refl; key = refl; sessions = refl; hand = refl; seen = omega arith; remembered = refl },
    )) where
      above : (a b c d : ℕ) → a ≤ c → c ≤ d → b ≡ d → a ≢ b → a < b
      above a b c d x y z ne = grind (arith)

loads_all : (key : Key) (m : ℕ → ℕ → ℕ) (w : World) (views : List View) (id : ℕ) (v : View) (told : Told) (found : ℕ) → Inv key m w views → get_elem? views id ≡ some v → v.key ≡ key → MayLoadPut told v → 0 < length v.accounts → found ≡ w.put → Loaded key m w views id told v found
loads_all key m w views id v Sweeps found i at knows may has is = (
  holder_did (put_known found) v 10,
  known_inv key m w views id v may.0 found i at may.1 is,
  record { empty = λ t ne. absurd (ne refl); room = λ t ne. absurd (ne refl); swept = λ e. (refl, subst (λ (k : Key). found ≤ k.sizes.entries + k.sizes.log) (sym knows) (put_most key m w views found i is)) },
  record { live = refl; key = refl; sessions = refl; hand = refl; seen = omega arith; remembered = refl },
)
loads_all key m w views id v told found i at knows may has is = by_taker key m w views id v told may.1.0 found i at knows (λ e. absurd (cc)) may.0 has may.1.1 is

pub loads_put : (key : Key) (slots id : ℕ) (me : Sat) (told : Told) → MayLoadPut told me.0 → me.0.live ≡ true → 0 < length me.0.accounts → Allows (Kept key) slots id me (start (sizes key) PUT + 0) (λ x. x) (seated (PutLoaded told) (step slots (start (sizes key) PUT + 0) 0 0 none) me)
loads_put key slots id me told may live has s k wide at small =
    let m : ℕ → ℕ → ℕ = mem (sizes key) s.words in let a : ℕ = start (sizes key) PUT + 0 in let found : ℕ = get_or s.words a 0 in
    let read : found ≡ k.world.put = sym (mem-read (sizes key) s.words PUT 0 (omega arith)) ∙ k.inv.counts.put_word in
    let r = loads_all key m k.world s.views id me.0 told found k.inv at (k.inv.knows id me.0 at live) may has read in (
      r.0,
      keeps,
      tt,
      load_keeps key s k a id me r.0 k.world r.1,
      (r.2, r.3, refl),
    )
