-- What is withdrawn at one place is unlinked and given back, step by step.
use Rattle.std.proofs.Common.{◌≡◌, ◌≢◌, ℕ, ◌+◌, ◌*◌, ◌^◌, ◌<◌, ◌≤◌, inl, inr, Bool, true, false, not, ◌&&◌, cond, List, [], ◌∷◌, ◌++◌, length, replicate, All, Option, None, Some, sym, refl, ap, ◌∙◌, subst, arith}
use Rattle.std.proofs.lemmas.List.Elements.{All-append, All-cons, All-nil, All-head, All-tail}
use Rattle.reg_words.specs.declared.sweeping.Why.{Why}
use Rattle.reg_words.specs.declared.sweeping.Why.TheVariants.{Front, Limit, Pinned}
use Rattle.reg_words.specs.declared.word.SweepWord.{SweepWord}
use Rattle.reg_words.specs.Packing.{FitsSweep}
use Rattle.reg_rule.specs.declared.told.Told.TheVariants.{Nothing, Examines}
use Rattle.reg_rule.specs.declared.view.Found.{Found}
use Rattle.reg_rule.specs.declared.view.Holding.{Holding}
use Rattle.reg_rule.specs.declared.view.Key.{Key}
use Rattle.reg_rule.specs.declared.view.Met.{Met}
use Rattle.reg_rule.specs.declared.view.Place.{Place}
use Rattle.reg_rule.specs.declared.view.View.{View}
use Rattle.reg_rule.specs.Log.{IsWd, NoneWithdrawn}
use Rattle.reg_rule.specs.Helping.{HasHelped, helped_up_to}
use Rattle.reg_rule.specs.Tables.{are_all}
use Rattle.reg_rule.specs.SweepWords.{let_go}
use Rattle.reg_rule.specs.Conditions.{IsNextWord, MayLoadStamp}
use Rattle.reg_rule.specs.Moves.{is_dead, examining, on_holding, marked_at, holding_of, swept_to}
use Rattle.reg_rule.specs.Steps.{SeenFits, StampLoaded}
use Rattle.reg_commit.specs.Fronts.{FrontFound}
use Rattle.mih_chain.specs.Linking.{IsUnlinking}
use Rattle.reg_sweep.specs.Sweeping.{IsSweeping, IsInTheWay, StopsFor, pin_loads}
use Rattle.reg_sweep.specs.inner.Going.{GoesOn}
use Rattle.reg_sweep.specs.inner.Holders.{resting, in_limbo, IsAt, IsExamining, IsWaiting, MayScan, scanned_to, found_free}
use Rattle.reg_sweep.specs.inner.Turns.{IsStopped, Stops, UnlinkedAll, cut_from_all, giving_steps, gave_back}
use Rattle.reg_sweep.proofs.Goes.{loads_append, one_kind, all_alike, scan_loads, unlinks_sweep, not_pin, with_room, goes_key, then_on, held_on, front_found}
use Rattle.reg_sweep.proofs.SeenPlaces.{at_longer, at_inside, none_here}

-- ---- what the parts of a turn do to the view

-- a field that this part may change is what it is afterwards
with_notes : (v w : View) (made : List ℕ) (found : Option Found) (met : List Met) (holding : Option Holding) → w ≡ record v { found = found; met = met; holding = holding; made = made }
    → w ≡ record v { found = w.found; met = w.met; holding = w.holding; made = made }
with_notes v w made found met holding is = is ∙ (λ j. record v { found = ap (λ (z : View). z.found) (sym is) j; met = ap (λ (z : View). z.met) (sym is) j; holding = ap (λ (z : View). z.holding) (sym is) j; made = made })

-- looks at pins
pub looks_go : (v w : View) (seats loads : ℕ) → w ≡ found_free seats loads v → GoesOn loads v w
looks_go v w seats loads is = let n = scan_loads loads in
    held_on loads v w (replicate loads 18) (with_notes v w (v.made ++ replicate loads 18) v.found v.met (on_holding (scanned_to seats) v.holding) is) (all_alike IsSweeping 18 loads (inr (inr (inr (inr (inr (inr (inl refl)))))))) (omega arith)

unlinks_all : (steps : List ℕ) → All IsUnlinking steps → All IsSweeping steps × (pin_loads steps ≡ 0)
unlinks_all [] all = (All-nil IsSweeping, refl)
unlinks_all (k ∷ steps) all =
    let is = All-head IsUnlinking k steps all in let rest = unlinks_all steps (All-tail IsUnlinking k steps all) in
    let a = loads_append (k ∷ []) steps in let none : pin_loads (k ∷ []) ≡ 0 = ap (λ (b : Bool). 0 + cond {A = ℕ} b 1 0) (not_pin k is) in let b = rest.1 in
    (All-cons IsSweeping k steps (unlinks_sweep k is) rest.0, omega arith)

-- the entry is unlinked
pub unlinking_goes : (v w : View) → UnlinkedAll v w → GoesOn 0 v w
unlinking_goes v w u = let all = unlinks_all u.steps u.kinds in let a = loads_append (3 ∷ []) u.steps in let none : pin_loads (3 ∷ []) ≡ 0 = refl in let b = all.1 in
    held_on 0 v w (3 ∷ u.steps) (with_notes v w (v.made ++ 3 ∷ u.steps) v.found v.met (on_holding cut_from_all v.holding) u.view) (All-cons IsSweeping 3 u.steps (inr (inl refl)) all.0) (omega arith)

-- a word of the sweep is stored that keeps it
pub keeps : (v w : View) (word : SweepWord) → word.held ≡ true → w ≡ swept_to Nothing v word → w ≡ record v { holding = Some (holding_of word); made = v.made ++ 19 ∷ [] }
keeps v w word held is = is ∙ (λ j. record v {
  holding = cond (held j) (Some (holding_of word)) None;
  last_word = cond (held j) v.last_word word;
  stopped = cond {A = ℕ} (held j) v.stopped word.place;
  sweeps = cond (held j) v.sweeps v.sweeps;
  made = v.made ++ 19 ∷ [];
})

pub keeping_goes : (v w : View) (h : Holding) → w ≡ record v { holding = Some h; made = v.made ++ 19 ∷ [] } → GoesOn 0 v w
keeping_goes v w h is = held_on 0 v w (19 ∷ []) (with_notes v w (v.made ++ 19 ∷ []) v.found v.met (Some h) is) (one_kind 19 (inr (inr (inr (inr (inr (inr (inr (inl refl))))))))) (omega arith)

-- and the entry in limbo is given back
pub giving_goes : (place : ℕ) (v w : View) → w ≡ gave_back place v → GoesOn v.key.sizes.callers v w
giving_goes place v w is =
    let n = v.key.sizes.callers in let a = loads_append (replicate n 18) (10 ∷ 22 ∷ 22 ∷ 19 ∷ []) in let b = scan_loads n in let none : pin_loads (10 ∷ 22 ∷ 22 ∷ 19 ∷ []) ≡ 0 = refl in
    held_on n v w (giving_steps n) (with_notes v w (v.made ++ giving_steps n) v.found v.met (Some (holding_of (resting (place + 1)))) is)
    (All-append IsSweeping (replicate n 18) (10 ∷ 22 ∷ 22 ∷ 19 ∷ []) (all_alike IsSweeping 18 n (inr (inr (inr (inr (inr (inr (inl refl)))))))) last) (omega arith) where
      last : All IsSweeping (10 ∷ 22 ∷ 22 ∷ 19 ∷ [])
      last =
          let stores : IsSweeping 22 = inr (inr (inr (inr (inr (inr (inr (inr (inr (inr (inl refl)))))))))) in
          All-cons IsSweeping 10 (22 ∷ 22 ∷ 19 ∷ []) (inr (inr (inr (inl refl)))) (All-cons IsSweeping 22 (22 ∷ 19 ∷ []) stores (All-cons IsSweeping 22 (19 ∷ []) stores (one_kind 19 (inr (inr (inr (inr (inr (inr (inr (inl refl)))))))))))

-- ---- words that may be stored

pick : (a b : Bool) (P Q R : Type 0) → a ≡ false → b ≡ false → R → cond a P (cond b Q R)
pick true b P Q R e f r = absurd (cc)
pick false true P Q R e f r = absurd (cc)
pick false false P Q R e f r = r

-- over declarations, while nothing is unlinked
pub may_rest : (v : View) (h : Holding) (place : ℕ) → h.paid ≡ false → h.word.limbo ≡ false → h.cut ≡ [] → h.place ≤ place → place ≤ length v.log → NoneWithdrawn v.log h.place place → IsNextWord v h (resting place)
may_rest v h place paid unmoved uncut low inside none = pick h.paid h.word.limbo _ _ _ paid unmoved (inr (uncut, refl, refl, low, inside, none))

-- as it is in limbo
pub may_wait : (v : View) (h : Holding) (word : SweepWord) → h.paid ≡ false → h.word.limbo ≡ true → let_go word ≡ let_go h.word → IsNextWord v h word
may_wait v h word paid limbo same = second h.paid h.word.limbo _ _ _ paid limbo same where
  second : (a b : Bool) (P Q R : Type 0) → a ≡ false → b ≡ true → Q → cond a P (cond b Q R)
  second true b P Q R e f q = absurd (cc)
  second false false P Q R e f q = absurd (cc)
  second false true P Q R e f q = q

-- a word of limbo, by what its mark is
pub limbo_word : (word : SweepWord) (place m mark : ℕ) → word ≡ record (in_limbo place m) { held = true } → m ≡ mark → word ≡ record (in_limbo place mark) { held = true }
limbo_word word place m mark is same = is ∙ (λ j. record (in_limbo place (same j)) { held = true })

-- ---- a seat is in the way

pub way_stays : (v w : View) (seat pin hazard seats loads : ℕ) → w ≡ found_free seats loads v → IsInTheWay v seat pin hazard → IsInTheWay w seat pin hazard
way_stays v w seat pin hazard seats loads is way = subst (λ (z : View). IsInTheWay z seat pin hazard) (sym is) record {
  inside = way.inside;
  pinned = way.pinned;
  low = way.low;
  own = way.own;
  rising = way.rising;
}

not_limit : (why : Why) (seat pin : ℕ) → why ≡ Pinned seat pin → why ≢ Limit
not_limit why seat pin is limit = let wrong : Pinned seat pin ≡ Limit = sym is ∙ limit in cc

-- ---- one place, step by step

module _ (place entry id : ℕ) (v : View) (at : IsAt place v) (seen : SeenFits v.key v.log) (small : v.key.sizes.log ≤ 2 ^ 22) (wd : IsWd v.log place id entry) where
  inside : place < length v.log
  inside = at_inside v.log place _ wd

  fits_here : FitsSweep (resting place)
  fits_here = let a = inside in let b = seen.room in record { place = omega arith; mark = omega arith }

  pub may_look_at : MayLoadStamp (Examines place) entry v
  may_look_at = record { inside = seen.entries place _ wd; by = (at.h, id, at.holding, at.unmoved, at.uncut, at.from, at.between, wd) }

  -- the stamp was loaded
  module _ (found : ℕ) (w : View) (told : StampLoaded (Examines place) entry v found w) where
    -- what the holder notes
    abbrev ex : Holding
    ex = record (at.h) { place = place; stamped = is_dead told.stamp; clear = 0; way = None; behind = None; freed = 0; gave = false }

    looked_is : w ≡ record v { found = w.found; met = w.met; holding = Some ex; made = v.made ++ 7 ∷ [] }
    looked_is = told.view.2 ∙ (λ j. record v {
      found = ap (λ (z : View). z.found) (sym told.view.2) j;
      met = ap (λ (z : View). z.met) (sym told.view.2) j;
      holding = examined at.holding j;
      made = v.made ++ 7 ∷ [];
    }) where
      examined : v.holding ≡ Some (at.h) → examining v.holding place told.stamp ≡ Some ex
      examined has = ap (λ (o : Option Holding). examining o place told.stamp) has

    looked_goes : GoesOn 0 v w
    looked_goes = held_on 0 v w (7 ∷ []) (with_notes v w (v.made ++ 7 ∷ []) w.found w.met (Some ex) looked_is) (one_kind 7 (inr (inr (inl refl)))) (omega arith)

    same_log : w.log ≡ v.log
    same_log = ap (λ (z : View). z.log) looked_is

    same_key : w.key ≡ v.key
    same_key = ap (λ (z : View). z.key) looked_is

    has : w.holding ≡ Some ex
    has = ap (λ (z : View). z.holding) looked_is

    wd_there : IsWd w.log place id entry
    wd_there = subst (λ (l : List Place). IsWd l place id entry) (sym same_log) wd

    inside_there : place < length w.log
    inside_there = subst (λ (l : List Place). place < length l) (sym same_log) inside

    pub unstamped : is_dead told.stamp ≡ false → Stops place v (resting place) Front w
    unstamped alive =
        let late = told.swept place refl alive in let low = inside_there in
        let last : length w.log ≡ place + 1 = ap length same_log ∙ late.0 in
        let not_helped : HasHelped w (place + 1) → ⊥ = λ helped. late.1 (ap (λ (z : View). helped_up_to z.helped (place + 1)) (sym looked_is) ∙ helped) in
        record {
          going = with_room 0 (2 * v.key.sizes.callers) v w (omega arith) looked_goes;
          h = ex;
          holding = has;
          next = may_rest w ex place at.unpaid at.unmoved at.uncut (omega arith) (omega arith) (none_here w.log place);
          free = refl;
          at = refl;
          fits = fits_here;
          within = omega arith;
          why = (refl, inr (last, (id, entry, wd_there), not_helped));
          unlimited = λ e. cc;
        }

    module _ (dead : is_dead told.stamp ≡ true) where
      pub may_scan_place : MayScan place w
      may_scan_place = record { h = ex; holding = has; begins = first at.h.word.limbo at.unmoved; hazard_is = ap (λ (b : Bool). cond {A = ℕ} b at.h.word.mark place) at.unmoved } where
        first : (b : Bool) → b ≡ false → cond b ((ex.freed ≡ 0) × (ex.paid ≡ false)) ((ex.clear ≡ 0) × (is_dead told.stamp ≡ true) × (at.h.cut ≡ []) × (place < length w.log))
        first true e = absurd (cc)
        first false e = (refl, dead, at.uncut, inside_there)

      -- a seat is in the way of the place
      pub place_stopped : (why : Why) (x : View) → IsStopped place w why x → Stops place v (resting place) why x
      place_stopped why x s =
          let seat = s.0 in let pin = s.1 in let way = s.3 in
          let log : x.log ≡ w.log = ap (λ (z : View). z.log) s.4 in
          let low : place < length x.log = subst (λ (l : List Place). place < length l) (sym log) inside_there in
          let few : seat < v.key.sizes.callers = subst (λ (k : Key). seat < k.sizes.callers) same_key way.inside in
          let there : IsWd x.log place id entry = subst (λ (l : List Place). IsWd l place id entry) (sym log) wd_there in
          record {
            going = with_room (0 + (seat + 1)) (2 * v.key.sizes.callers) v x (omega arith) (then_on 0 (seat + 1) v w x looked_goes (looks_go w x seat (seat + 1) s.4));
            h = scanned_to seat ex;
            holding = ap (λ (z : View). z.holding) s.4 ∙ ap (on_holding (scanned_to seat)) has;
            next = may_rest x (scanned_to seat ex) place at.unpaid at.unmoved at.uncut (omega arith) (omega arith) (none_here x.log place);
            free = refl;
            at = refl;
            fits = fits_here;
            within = omega arith;
            why = subst (λ (c : Why). StopsFor c (resting place) x) (sym s.2) (way_stays w x seat pin place seat (seat + 1) s.4 way, (id, entry, there));
            unlimited = not_limit why seat pin s.2;
          }

      -- all pins are free of it
      module _ (x : View) (free : x ≡ found_free w.key.sizes.callers w.key.sizes.callers w) where
        abbrev n : ℕ
        n = w.key.sizes.callers

        pub may_unlink : IsExamining place id entry x.key.sizes.callers x
        may_unlink = subst (λ (z : View). IsExamining place id entry z.key.sizes.callers z) (sym free) record {
          h = scanned_to n ex;
          holding = ap (on_holding (scanned_to n)) has;
          unmoved = at.unmoved;
          uncut = at.uncut;
          unpaid = at.unpaid;
          at = refl;
          stamped = dead;
          clear_is = ap (λ (b : Bool). cond {A = ℕ} b 0 n) at.unmoved;
          withdraws = wd_there;
          inside = inside_there;
        }

        -- the entry was unlinked, and the front found again
        module _ (y : View) (cut : UnlinkedAll x y) (mark : ℕ) (z : View) (front : FrontFound Nothing y mark z) where
          abbrev cut_h : Holding
          cut_h = cut_from_all (scanned_to n ex)

          cut_there : y.holding ≡ Some cut_h
          cut_there = ap (λ (u : View). u.holding) cut.view ∙ (ap (λ (u : View). on_holding cut_from_all u.holding) free ∙ ap (λ (o : Option Holding). on_holding cut_from_all (on_holding (scanned_to n) o)) has)

          abbrev marked_h : Holding
          marked_h = record cut_h { marked = Some mark }

          marked_there : z.holding ≡ Some marked_h
          marked_there = (front_found y z mark front).2 ∙ (ap (λ (o : Option Holding). marked_at o mark) cut_there ∙ ap (λ (h : Holding). Some h) (two at.h.word.limbo at.h.cut at.unmoved at.uncut)) where
            two : (b : Bool) (l : List ℕ) → b ≡ false → l ≡ [] → cond (not b && are_all ((((l ++ 0 ∷ []) ++ 1 ∷ []) ++ 2 ∷ []) ++ 3 ∷ [])) (record cut_h { marked = Some mark }) cut_h ≡ record cut_h { marked = Some mark }
            two b l e f = λ j. cond (not (e j) && are_all ((((f j ++ 0 ∷ []) ++ 1 ∷ []) ++ 2 ∷ []) ++ 3 ∷ [])) (record cut_h { marked = Some mark }) cut_h

          to_cut : GoesOn n v y
          to_cut = with_room ((0 + n) + 0) n v y (omega arith) (then_on (0 + n) 0 v x y (then_on 0 n v w x looked_goes (looks_go w x n n free)) (unlinking_goes x y cut))

          to_mark : GoesOn n v z
          to_mark = with_room (n + 0) n v z (omega arith) (then_on n 0 v y z to_cut (front_found y z mark front).0)

          mark_is : mark ≡ length z.log
          mark_is = (front_found y z mark front).3

          -- the places are still there
          wd_marked : IsWd z.log place id entry
          wd_marked = subst (λ (l : List Place). IsWd l place id entry) (sym to_mark.log) (at_longer v.log to_mark.places place _ wd)

          abbrev waits : SweepWord
          waits = record (in_limbo place mark) { held = true }

          pub fits_limbo : FitsSweep (in_limbo place mark)
          fits_limbo = let a = inside in let b = seen.room in let c = (to_mark.seen seen).room in let e = mark_is in record { place = omega arith; mark = omega arith }

          pub may_limbo : (word : SweepWord) → word ≡ waits → (h : Holding) × (z.holding ≡ Some h) × IsNextWord z h word
          may_limbo word is = (marked_h, marked_there, subst (IsNextWord z marked_h) (sym is) (pick at.h.paid at.h.word.limbo _ _ _ at.unpaid at.unmoved (inl (refl, refl, refl))))

          -- the entry is in limbo
          module _ (word : SweepWord) (word_is : word ≡ waits) (q : View) (stored : q ≡ swept_to Nothing z word) where
            limbo_is : q ≡ record z { holding = Some (holding_of (in_limbo place mark)); made = z.made ++ 19 ∷ [] }
            limbo_is = keeps z q waits refl (stored ∙ ap (swept_to Nothing z) word_is)

            to_limbo : GoesOn n v q
            to_limbo = with_room (n + 0) n v q (omega arith) (then_on n 0 v z q to_mark (keeping_goes z q (holding_of (in_limbo place mark)) limbo_is))

            pub waits_there : IsWaiting place mark id entry q
            waits_there = subst (IsWaiting place mark id entry) (sym limbo_is) record {
              holding = refl;
              fits = fits_limbo;
              withdraws = wd_marked;
              inside = at_inside z.log place _ wd_marked;
            }

            in_limbo_wd : IsWd q.log place id entry
            in_limbo_wd = waits_there.withdraws

            -- and was given back
            pub given_back : (r : View) → r ≡ gave_back place q → GoesOn (2 * v.key.sizes.callers) v r × IsAt (place + 1) r × ((id : ℕ) × (entry : ℕ) × IsWd r.log place id entry)
            given_back r is =
                let log : r.log ≡ q.log = ap (λ (u : View). u.log) is in
                let there : IsWd r.log place id entry = subst (λ (l : List Place). IsWd l place id entry) (sym log) in_limbo_wd in
                let low = at_inside r.log place _ there in
                let m : q.key.sizes.callers ≡ v.key.sizes.callers = ap (λ (k : Key). k.sizes.callers) (goes_key n v q to_limbo) in
                let m' : n ≡ v.key.sizes.callers = ap (λ (k : Key). k.sizes.callers) same_key in (
                  with_room (n + q.key.sizes.callers) (2 * v.key.sizes.callers) v r (omega arith) (then_on n q.key.sizes.callers v q r to_limbo (giving_goes place q r is)),
                  record {
                    h = holding_of (resting (place + 1));
                    holding = ap (λ (u : View). u.holding) is;
                    unmoved = refl;
                    uncut = refl;
                    unpaid = refl;
                    from = omega arith;
                    within = omega arith;
                    between = none_here r.log (place + 1);
                  },
                  (id, entry, there),
                )

            -- a seat is in the way of the mark
            pub mark_stopped : (why : Why) (r : View) → IsStopped mark q why r → Stops place v (in_limbo place mark) why r
            mark_stopped why r s =
                let seat = s.0 in let pin = s.1 in let way = s.3 in
                let log : r.log ≡ q.log = ap (λ (u : View). u.log) s.4 in
                let there : IsWd r.log place id entry = subst (λ (l : List Place). IsWd l place id entry) (sym log) in_limbo_wd in
                let low = at_inside r.log place _ there in
                let few : seat < v.key.sizes.callers = subst (λ (k : Key). seat < k.sizes.callers) (goes_key n v q to_limbo) way.inside in
                let m' : n ≡ v.key.sizes.callers = ap (λ (k : Key). k.sizes.callers) same_key in
                record {
                  going = with_room (n + (seat + 1)) (2 * v.key.sizes.callers) v r (omega arith) (then_on n (seat + 1) v q r to_limbo (looks_go q r seat (seat + 1) s.4));
                  h = scanned_to seat (holding_of (in_limbo place mark));
                  holding = ap (λ (u : View). u.holding) s.4 ∙ ap (on_holding (scanned_to seat)) waits_there.holding;
                  next = may_wait r (scanned_to seat (holding_of (in_limbo place mark))) (in_limbo place mark) refl refl refl;
                  free = refl;
                  at = refl;
                  fits = fits_limbo;
                  within = omega arith;
                  why = subst (λ (c : Why). StopsFor c (in_limbo place mark) r) (sym s.2) (way_stays q r seat pin mark seat (seat + 1) s.4 way, (id, entry, there));
                  unlimited = not_limit why seat pin s.2;
                }
