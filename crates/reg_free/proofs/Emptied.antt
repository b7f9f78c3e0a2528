-- The ring found empty behind a sweep.
use Rattle.std.proofs.Common.{◌≡◌, ◌≢◌, ℕ, ◌+◌, ◌<◌, ◌≤◌, ⊎_elim, List, [], ◌∷◌, ◌++◌, length, length-append, refl, sym, ap, ◌∙◌, subst, arith, true, IfErr, Result, Ok, Err}
use Rattle.reg_model.specs.Live.{declarations}
use Rattle.reg_words.specs.declared.sweeping.Swept.{Swept}
use Rattle.reg_words.specs.declared.sweeping.Why.{Why}
use Rattle.reg_words.specs.declared.sweeping.Why.TheVariants.{Front, Limit, Pinned, Held}
use Rattle.reg_rule.specs.declared.view.Key.{Key}
use Rattle.reg_rule.specs.declared.view.Place.{Place}
use Rattle.reg_rule.specs.declared.view.View.{View}
use Rattle.reg_rule.specs.Log.{updates, IsWd}
use Rattle.reg_rule.specs.Helping.{HasHelped, helped_up_to}
use Rattle.reg_rule.specs.Moves.{found_empty}
use Rattle.reg_rule.specs.Passes.{number_of}
use Rattle.reg_rule.specs.Steps.{SeenFits}
use Rattle.reg_commit.specs.declared.taking.Empty.{Empty}
use Rattle.reg_commit.specs.Takes.{FoundEmpty}
use Rattle.reg_sweep.specs.Sweeping.{HasSwept, WasHeld, StopsFor}
use Rattle.reg_free.specs.inner.Between.{HasNoEntry}

append_nil : (l : List Place) → l ++ [] ≡ l
append_nil [] = refl
append_nil (p ∷ l) = ap (λ (z : List Place). p ∷ z) (append_nil l)

-- What a sweep leaves of the pass, whether it was made or another caller's was met.
record IsBehind (x y : View) : Type 0 where
  pub swept : Swept
  pub view : y ≡ record x { log = y.log; front = y.front; found = y.found; met = y.met; last_word = y.last_word; stopped = y.stopped; sweeps = x.sweeps ++ swept ∷ []; made = y.made }
  pub places : List Place
  pub log : y.log ≡ x.log ++ places
  pub seen : SeenFits x.key y.log
  pub alone : x.key.sizes.callers ≡ 1 → (places ≡ []) × (length y.log ≤ y.stopped)

module _ (limit : ℕ) (x : View) (swept : Swept) (y : View) (whole : limit ≡ x.key.sizes.log) (free : x.pin ≡ 0) (number : number_of x < x.key.sizes.callers) (s : HasSwept limit x swept y)
    (one : x.key.sizes.callers ≡ 1) (helped : HasHelped x (length x.log)) where
  same_log : y.log ≡ x.log
  same_log = s.log ∙ (ap (λ (l : List Place). x.log ++ l) (s.alone one) ∙ append_nil x.log)

  has_helped : HasHelped y (length y.log)
  has_helped = subst (λ (l : List Place). HasHelped y (length l)) (sym same_log) (subst (λ (z : View). helped_up_to z.helped (length x.log) ≡ true) (sym s.view) helped)

  -- one caller stops at the end of what there is
  stops_last : (why : Why) → StopsFor why y.last_word y → (why ≡ Limit → swept.places ≡ limit) → length y.log ≤ y.stopped
  stops_last Front at limited = ⊎_elim
      (λ (e : y.last_word.place ≡ length y.log). let word = s.word.1 in omega arith)
      (λ (t : (length y.log ≡ y.last_word.place + 1) × ((id : ℕ) × (entry : ℕ) × IsWd y.log y.last_word.place id entry) × (HasHelped y (y.last_word.place + 1) → ⊥)).
      absurd (t.2 (subst (HasHelped y) t.0 has_helped)))
      at.1
  stops_last Limit at limited = let places = limited refl in let stop = s.stopped in let room = s.seen.room in omega arith
  stops_last (Pinned seat pin) at limited =
      let inside : seat < x.key.sizes.callers = subst (λ (z : View). seat < z.key.sizes.callers) s.view at.0.inside in
      let here : number_of y ≡ number_of x = ap (λ (z : View). number_of z) s.view in
      let none : y.pin ≡ 0 = ap (λ (z : View). z.pin) s.view ∙ free in
      let same : seat ≡ number_of y = omega arith in
      absurd (at.0.pinned (at.0.own same ∙ none))
  stops_last Held at limited = absurd at

  pub stops : length y.log ≤ y.stopped
  stops = stops_last swept.why s.why (λ e. s.full.1 e)

behind_sweep : (limit : ℕ) (x : View) (swept : Swept) (y : View) → limit ≡ x.key.sizes.log → x.pin ≡ 0 → number_of x < x.key.sizes.callers → (x.key.sizes.callers ≡ 1 → HasHelped x (length x.log)) → HasSwept limit x swept y → IsBehind x y
behind_sweep limit x swept y whole free number helped s = record {
  swept = swept;
  view = s.view;
  places = s.places;
  log = s.log;
  seen = s.seen;
  alone = λ one. (s.alone one, stops limit x swept y whole free number s one (helped one));
}

behind_held : (x : View) (swept : Swept) (y : View) → SeenFits x.key x.log → WasHeld x swept y → IsBehind x y
behind_held x swept y seen s = let log : y.log ≡ x.log = ap (λ (z : View). z.log) s.view in record {
  swept = swept;
  view = s.view ∙ (λ j. record x {
    log = sym log j;
    front = sym (ap (λ (z : View). z.front) s.view) j;
    found = sym (ap (λ (z : View). z.found) s.view) j;
    met = sym (ap (λ (z : View). z.met) s.view) j;
    last_word = y.last_word;
    stopped = sym (ap (λ (z : View). z.stopped) s.view) j;
    sweeps = x.sweeps ++ swept ∷ [];
    made = sym (ap (λ (z : View). z.made) s.view) j;
  });
  places = [];
  log = log ∙ sym (append_nil x.log);
  seen = subst (λ (l : List Place). SeenFits x.key l) (sym log) seen;
  alone = λ one. absurd (s.others one);
}

-- the ring is empty, and again behind a sweep
pub empty_again : (limit before taken : ℕ) (v x y z : View) (swept : Swept) → SeenFits v.key v.log → v.hands ≡ [] → v.pin ≡ 0 → (v.key.sizes.callers ≡ 1 → HasHelped v (length v.log)) → limit ≡ v.key.sizes.log
    → FoundEmpty v before x → number_of x < x.key.sizes.callers → (swept.why ≡ Held → WasHeld x swept y) → (swept.why ≢ Held → HasSwept limit x swept y) → FoundEmpty y taken z → HasNoEntry v taken z
empty_again limit before taken v x y z swept seen none free helped whole first number held made last = record {
  between = record {
    key = ap (λ (u : View). u.key) whole_view;
    accounts = ap (λ (u : View). u.accounts) whole_view;
    costs = ap (λ (u : View). u.costs) whole_view;
    snapshot = ap (λ (u : View). u.snapshot) whole_view;
    holding = ap (λ (u : View). u.holding) whole_view;
    committed = ap (λ (u : View). u.committed) whole_view;
    helped = ap (λ (u : View). u.helped) whole_view;
    places = b.places;
    log = ap (λ (u : View). u.log) last.view ∙ (b.log ∙ ap (λ (l : List Place). l ++ b.places) first_log);
    alone = λ one. (b.alone (one_then one)).0;
  };
  seen = subst (λ (u : View). SeenFits u.key u.log) (sym last.view) (subst (λ (k : Key). SeenFits k y.log) (sym (ap (λ (u : View). u.key) b.view)) b.seen);
  pin = ap (λ (u : View). u.pin) whole_view;
  hands = ap (λ (u : View). u.hands) whole_view ∙ none;
  swept = (let sweeps : length z.sweeps ≡ length (v.sweeps ++ b.swept ∷ []) = ap (λ (u : View). length u.sweeps) whole_view in let more = length-append v.sweeps (b.swept ∷ []) in omega arith);
  refused = record {
    empty = (
      record { taken = taken; front = last.front; stopped = y.stopped },
      ap (λ (u : View). u.empty) last.view,
      refl,
      λ one. subst (λ (u : View). length u.log ≤ y.stopped) (sym last.view) (b.alone (one_z one)).1,
    );
    declared = subst (λ (u : View). declarations (updates u.log) ≤ taken) (sym last.view) last.declared;
    least = subst (λ (u : View). u.key.sizes.entries ≤ taken + length u.key.carried.list) (sym last.view) (let given = last.given in omega arith);
  };
} where
  first_log : x.log ≡ v.log
  first_log = ap (λ (u : View). u.log) first.view

  first_key : x.key ≡ v.key
  first_key = ap (λ (u : View). u.key) first.view

  x_helped : x.key.sizes.callers ≡ 1 → HasHelped x (length x.log)
  x_helped one = subst (λ (u : View). HasHelped u (length u.log)) (sym first.view) (helped (sym (ap (λ (k : Key). k.sizes.callers) first_key) ∙ one))

  by_cause : (why : Why) → (why ≡ Held → WasHeld x swept y) → (why ≢ Held → HasSwept limit x swept y) → IsBehind x y
  by_cause Held h s = behind_held x swept y (subst (λ (u : View). SeenFits u.key u.log) (sym first.view) seen) (h refl)
  by_cause Front h s = behind_sweep limit x swept y (whole ∙ sym (ap (λ (k : Key). k.sizes.log) first_key)) (ap (λ (u : View). u.pin) first.view ∙ free) number x_helped (s (λ e. cc))
  by_cause Limit h s = behind_sweep limit x swept y (whole ∙ sym (ap (λ (k : Key). k.sizes.log) first_key)) (ap (λ (u : View). u.pin) first.view ∙ free) number x_helped (s (λ e. cc))
  by_cause (Pinned seat pin) h s = behind_sweep limit x swept y (whole ∙ sym (ap (λ (k : Key). k.sizes.log) first_key)) (ap (λ (u : View). u.pin) first.view ∙ free) number x_helped (s (λ e. cc))

  b : IsBehind x y
  b = by_cause swept.why held made

  one_then : v.key.sizes.callers ≡ 1 → x.key.sizes.callers ≡ 1
  one_then one = ap (λ (k : Key). k.sizes.callers) first_key ∙ one

  one_z : z.key.sizes.callers ≡ 1 → x.key.sizes.callers ≡ 1
  one_z one = sym (ap (λ (u : View). u.key.sizes.callers) b.view) ∙ (sym (ap (λ (u : View). u.key.sizes.callers) last.view) ∙ one)

  whole_view : z ≡ record v { log = z.log; front = z.front; found = z.found; met = z.met; last_word = z.last_word; stopped = z.stopped; sweeps = v.sweeps ++ b.swept ∷ []; taking = z.taking; empty = z.empty; made = z.made }
  whole_view = shape (last.view ∙ (ap (then taken last.front (y.made ++ last.steps)) (b.view ∙ ap onto first.view))) where
    then : ℕ → ℕ → List ℕ → View → View
    then t front made u = record (found_empty u t front) { made = made }

    onto : View → View
    onto u = record u { log = y.log; front = y.front; found = y.found; met = y.met; last_word = y.last_word; stopped = y.stopped; sweeps = u.sweeps ++ b.swept ∷ []; made = y.made }

    shape : z ≡ then taken last.front (y.made ++ last.steps) (onto (record (found_empty v before first.front) { made = v.made ++ first.steps })) → z ≡ record v { log = z.log; front = z.front; found = z.found; met = z.met; last_word = z.last_word; stopped = z.stopped; sweeps = v.sweeps ++ b.swept ∷ []; taking = z.taking; empty = z.empty; made = z.made }
    shape e = e ∙ (λ j. record v {
      log = sym (ap (λ (u : View). u.log) e) j;
      front = sym (ap (λ (u : View). u.front) e) j;
      found = sym (ap (λ (u : View). u.found) e) j;
      met = sym (ap (λ (u : View). u.met) e) j;
      last_word = sym (ap (λ (u : View). u.last_word) e) j;
      stopped = sym (ap (λ (u : View). u.stopped) e) j;
      sweeps = v.sweeps ++ b.swept ∷ [];
      taking = sym (ap (λ (u : View). u.taking) e) j;
      empty = sym (ap (λ (u : View). u.empty) e) j;
      made = sym (ap (λ (u : View). u.made) e) j;
    })

-- the same of what a take answers
pub none_again : (r : Result ℕ Empty) (y z v : View) → IfErr r (λ e. FoundEmpty y e.taken z) → ((taken : ℕ) → FoundEmpty y taken z → HasNoEntry v taken z) → IfErr r (λ e. HasNoEntry v e.taken z)
none_again (Ok entry) y z v h f = h
none_again (Err empty) y z v h f = f empty.taken h
