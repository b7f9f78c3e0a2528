-- A sweep from its beginning to its end.
use Rattle.std.proofs.Common.{◌≡◌, ℕ, ◌+◌, ◌*◌, ◌≤◌, inl, inr, false, cond, List, [], ◌∷◌, ◌++◌, append_assoc, length, All, None, Some, sym, refl, ap, ◌∙◌, subst, arith}
use Rattle.std.proofs.lemmas.List.Elements.{All-append, All-cons, All-head, All-nil, All-tail}
use Rattle.reg_model.specs.Live.{withdrawals}
use Rattle.reg_words.specs.declared.word.SweepWord.{SweepWord}
use Rattle.reg_words.specs.declared.sweeping.Swept.{Swept}
use Rattle.reg_words.specs.declared.sweeping.Why.{Why}
use Rattle.reg_words.specs.declared.sweeping.Why.TheVariants.{Front, Limit, Pinned, Held}
use Rattle.reg_rule.specs.declared.told.Told.TheVariants.{Ends}
use Rattle.reg_rule.specs.declared.view.Key.{Key}
use Rattle.reg_rule.specs.declared.view.Place.{Place}
use Rattle.reg_rule.specs.declared.view.View.{View}
use Rattle.reg_rule.specs.Log.{IsWd}
use Rattle.reg_rule.specs.Moves.{holding_of, swept_to}
use Rattle.reg_rule.specs.Steps.{SeenFits}
use Rattle.reg_sweep.specs.Sweeping.{IsSweeping, IsFresh, StopsFor, HasSwept, passed_from, pin_loads}
use Rattle.reg_sweep.specs.inner.Going.{GoesOn}
use Rattle.reg_sweep.specs.inner.Turns.{HasSeized, HasLeft, Stops}
use Rattle.reg_sweep.proofs.Goes.{loads_append, one_kind, then_on, goes_key}
use Rattle.reg_sweep.proofs.Passing.{passed_wd}
use Rattle.reg_sweep.proofs.Resumes.{on_from}

-- ---- steps

-- the exchanges of the word are steps of a sweep, and no looks at pins
swaps_sweep : (steps : List ℕ) → All (λ (kind : ℕ). kind ≡ 19) steps → All IsSweeping steps
swaps_sweep [] all = All-nil IsSweeping
swaps_sweep (k ∷ steps) all = All-cons IsSweeping k steps (inr (inr (inr (inr (inr (inr (inr (inl (All-head (λ (kind : ℕ). kind ≡ 19) k steps all)))))))))
    (swaps_sweep steps (All-tail (λ (kind : ℕ). kind ≡ 19) k steps all))

swaps_look : (steps : List ℕ) → All (λ (kind : ℕ). kind ≡ 19) steps → pin_loads steps ≡ 0
swaps_look [] all = refl
swaps_look (k ∷ steps) all =
    let a = loads_append (k ∷ []) steps in let b : pin_loads (k ∷ []) ≡ 0 = ap (λ (n : ℕ). pin_loads (n ∷ [])) (All-head (λ (kind : ℕ). kind ≡ 19) k steps all) in
    let c = swaps_look steps (All-tail (λ (kind : ℕ). kind ≡ 19) k steps all) in omega arith

-- ---- the sweep is given back

-- why it stops stays so
stops_still : (cause : Why) (word rest : SweepWord) (swept : Swept) (v : View) → StopsFor cause word v → StopsFor cause word (swept_to (Ends swept) v rest)
stops_still Front word rest swept v s = s
stops_still Limit word rest swept v s = s
stops_still (Pinned seat pin) word rest swept v s = (record { inside = s.0.inside; pinned = s.0.pinned; low = s.0.low; own = s.0.own; rising = s.0.rising }, s.1)
stops_still Held word rest swept v s = s

-- the view that is left
abbrev left_by : SweepWord → Swept → View → View
left_by rest swept v = record v { holding = None; last_word = rest; stopped = rest.place; sweeps = v.sweeps ++ swept ∷ []; made = v.made ++ 19 ∷ [] }

left_is : (rest : SweepWord) (swept : Swept) (v : View) → rest.held ≡ false → swept_to (Ends swept) v rest ≡ left_by rest swept v
left_is rest swept v free = λ j. record v {
  holding = cond (free j) (Some (holding_of rest)) None;
  last_word = cond (free j) v.last_word rest;
  stopped = cond (free j) v.stopped rest.place;
  sweeps = cond (free j) v.sweeps (v.sweeps ++ swept ∷ []);
  made = v.made ++ 19 ∷ [];
}

-- ---- all of it

-- it was taken, and so many looks were made before the places were passed
module _ (limit begun loads : ℕ) (v x u z : View) (word : SweepWord) (swept : Swept) (none : v.holding ≡ None) (seized : HasSeized v word x) (before : GoesOn loads x u)
    (few : loads ≤ 2 * v.key.sizes.callers * begun) (l : HasLeft limit word.place begun u swept z) where
  abbrev w : View
  w = l.last

  g : GoesOn (loads + l.loads) x w
  g = then_on loads l.loads x u w before l.going

  end : z ≡ left_by l.rest swept w
  end = l.view ∙ left_is l.rest swept w l.free

  from_x : w ≡ record x { log = w.log; front = w.front; found = w.found; met = w.met; holding = w.holding; made = w.made }
  from_x = g.view

  -- from the first view on
  from_v : w ≡ record v { log = w.log; front = w.front; found = w.found; met = w.met; last_word = word; holding = w.holding; made = w.made }
  from_v = from_x ∙ ap (λ (q : View). record q { log = w.log; front = w.front; found = w.found; met = w.met; holding = w.holding; made = w.made }) seized.view

  whole : z ≡ record v { log = w.log; front = w.front; found = w.found; met = w.met; last_word = l.rest; holding = None; stopped = l.rest.place; sweeps = v.sweeps ++ swept ∷ []; made = w.made ++ 19 ∷ [] }
  whole = end ∙ ap (left_by l.rest swept) from_v

  key : u.key ≡ v.key
  key = ap (λ (q : View). q.key) before.view ∙ ap (λ (q : View). q.key) seized.view

  log : z.log ≡ w.log
  log = ap (λ (q : View). q.log) whole

  last : z.last_word ≡ l.rest
  last = ap (λ (q : View). q.last_word) whole

  stop : z.stopped ≡ l.rest.place
  stop = ap (λ (q : View). q.stopped) whole

  abbrev steps : List ℕ
  steps = seized.steps ++ (g.steps ++ 19 ∷ [])

  made : z.made ≡ v.made ++ steps
  made = ap (λ (q : View). q.made) whole ∙ (ap (λ (m : List ℕ). m ++ 19 ∷ []) (g.made ∙ ap (λ (q : View). q.made ++ g.steps) seized.view)
      ∙ (append_assoc (v.made ++ seized.steps) g.steps (19 ∷ []) ∙ append_assoc v.made seized.steps (g.steps ++ 19 ∷ [])))

  looks : pin_loads steps ≤ loads + l.loads
  looks =
      let a = loads_append seized.steps (g.steps ++ 19 ∷ []) in let b = loads_append g.steps (19 ∷ []) in let c = swaps_look seized.steps seized.kinds in
      let d : pin_loads (19 ∷ []) ≡ 0 = refl in let e = g.pins in omega arith

  pub has_swept : HasSwept limit v swept z
  has_swept = record {
    view = whole ∙ (λ j. record v {
      log = sym log j;
      front = sym (ap (λ (q : View). q.front) whole) j;
      found = sym (ap (λ (q : View). q.found) whole) j;
      met = sym (ap (λ (q : View). q.met) whole) j;
      last_word = sym last j;
      holding = sym none j;
      stopped = sym stop j;
      sweeps = v.sweeps ++ swept ∷ [];
      made = sym (ap (λ (q : View). q.made) whole) j;
    });
    from = word.place;
    later = seized.later;
    stopped = stop ∙ l.stopped;
    word = (ap (λ (r : SweepWord). r.held) last ∙ l.free, ap (λ (r : SweepWord). r.place) last ∙ sym stop);
    within = subst (λ (q : List Place). z.stopped ≤ length q) (sym log) (subst (λ (n : ℕ). n ≤ length w.log) (sym stop) l.within);
    given = l.given ∙ ap (λ (q : List Place). withdrawals (passed_from q word.place swept.places)) (sym log);
    most = l.most;
    full = l.full;
    why = subst (λ (r : SweepWord). StopsFor swept.why r z) (sym last) (subst (StopsFor swept.why l.rest) (sym l.view) (stops_still swept.why l.rest l.rest swept w l.why));
    places = g.places;
    log = log ∙ (g.log ∙ ap (λ (q : View). q.log ++ g.places) seized.view);
    seen = subst (λ (q : List Place). SeenFits v.key q) (sym log) (subst (λ (k : Key). SeenFits k w.log) (ap (λ (q : View). q.key) from_v) l.seen);
    alone = λ one. g.alone (ap (λ (q : View). q.key.sizes.callers) seized.view ∙ one);
    fresh = subst IsFresh (sym end) l.fresh;
    unpinned = λ free. ap (λ (q : View). q.front) whole ∙ (g.unpinned (ap (λ (q : View). q.pin) seized.view ∙ free) ∙ ap (λ (q : View). q.front) seized.view);
    steps = steps;
    made = made;
    kinds = All-append IsSweeping seized.steps (g.steps ++ 19 ∷ []) (swaps_sweep seized.steps seized.kinds) (All-append IsSweeping g.steps (19 ∷ []) g.kinds (one_kind 19 (inr (inr (inr (inr (inr (inr (inr (inl refl))))))))));
    pins = most_looks loads l.loads (pin_loads steps) (2 * v.key.sizes.callers * begun) (2 * v.key.sizes.callers * (swept.places + 1)) looks few (subst (λ (k : Key). l.loads + 2 * k.sizes.callers * begun ≤ 2 * k.sizes.callers * (swept.places + 1)) key l.few);
  } where
    most_looks : (a b n x y : ℕ) → n ≤ a + b → a ≤ x → b + x ≤ y → n ≤ y
    most_looks a b n x y p q r = omega arith

-- what is known of who has taken it
pub of_seized : (v x : View) (word : SweepWord) → HasSeized v word x → x.holding ≡ Some (holding_of word)
of_seized v x word seized = ap (λ (q : View). q.holding) seized.view

-- so many looks for what was in limbo
pub turned_on : (v x y u : View) (word : SweepWord) → HasSeized v word x → GoesOn 0 x y → GoesOn (2 * y.key.sizes.callers) y u → GoesOn (2 * v.key.sizes.callers) x u
turned_on v x y u word seized g f =
    let key = ap (λ (q : View). q.key) g.view ∙ ap (λ (q : View). q.key) seized.view in
    on_from (2 * v.key.sizes.callers) x y u g (subst (λ (k : Key). GoesOn (2 * k.sizes.callers) y u) key f)

-- ---- with something in limbo

-- a pin is in the way of it
pub stopped_first : (limit place : ℕ) (y u z : View) (rest : SweepWord) (cause : Why) (swept : Swept) → 1 ≤ limit → SeenFits y.key y.log → IsFresh y → Stops place y rest cause u
    → swept ≡ record { places = 0; given = 0; why = cause } → z ≡ swept_to (Ends swept) u rest → HasLeft limit place 0 y swept z
stopped_first limit place y u z rest cause swept some seen fresh t is told = subst (λ (k : Swept). HasLeft limit place 0 y k z) (sym is) (left (told ∙ ap (λ (k : Swept). swept_to (Ends k) u rest) is)) where
  left : z ≡ swept_to (Ends (record { places = 0; given = 0; why = cause })) u rest → HasLeft limit place 0 y (record { places = 0; given = 0; why = cause }) z
  left told = record {
    last = u;
    loads = 2 * y.key.sizes.callers;
    few = omega arith;
    going = t.going;
    rest = rest;
    free = t.free;
    stopped = (let at = t.at in omega arith);
    within = subst (λ (k : ℕ). k ≤ length u.log) (sym t.at) t.within;
    given = refl;
    most = omega arith;
    full = ((λ e. absurd (omega arith)), (λ e. absurd (t.unlimited e)));
    why = t.why;
    seen = subst (λ (k : Key). SeenFits k u.log) (sym (goes_key (2 * y.key.sizes.callers) y u t.going)) (t.going.seen seen);
    fresh = t.going.fresh fresh;
    view = told;
  }

-- it was given back, and is the first
pub first_given : (log : List Place) (m id entry : ℕ) → IsWd log m id entry → 1 ≡ withdrawals (passed_from log m 1)
first_given log m id entry wd =
    let at : m ≡ m + 0 = omega arith in let more = passed_wd log m 0 id entry (subst (λ (k : ℕ). IsWd log k id entry) at wd) in let none : withdrawals (passed_from log m 0) ≡ 0 = refl in omega arith
