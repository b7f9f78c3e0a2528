-- What the holder does to its view, step by step.
use Rattle.std.proofs.Common.{◌≡◌, ℕ, zero, suc, ◌+◌, ◌<◌, ◌≤◌, ◌⊎◌, inl, inr, Bool, true, false, not, ◌&&◌, ◌==◌, nat_lt, cond, List, [], ◌∷◌, ◌++◌, append_assoc, append-nil, length, length-append, replicate, All, Option, None, Some, sym, refl, ap, ◌∙◌, subst, arith}
use Rattle.std.proofs.lemmas.Bool.{eqb-true, lt-ltb}
use Rattle.std.proofs.lemmas.List.Sums.{sum_by-append}
use Rattle.std.proofs.lemmas.List.Elements.{All-append, All-cons, All-nil}
use Rattle.reg_rule.specs.declared.told.Told.TheVariants.{Nothing}
use Rattle.reg_rule.specs.declared.view.Holding.{Holding}
use Rattle.reg_rule.specs.declared.view.Key.{Key}
use Rattle.reg_rule.specs.declared.view.Place.{Place}
use Rattle.reg_rule.specs.declared.view.View.{View}
use Rattle.reg_rule.specs.Tables.{are_all}
use Rattle.reg_rule.specs.Moves.{with_step, either, at_front, at_seen, at_seen_accounts, again, marked_at}
use Rattle.reg_rule.specs.Steps.{SeenFits}
use Rattle.reg_commit.specs.Fronts.{FrontFound}
use Rattle.mih_chain.specs.Linking.{IsUnlinking}
use Rattle.reg_sweep.specs.Sweeping.{IsSweeping, IsFresh, pin_loads}
use Rattle.reg_sweep.specs.inner.Going.{GoesOn}

-- ---- lists of steps

pub loads_append : (xs ys : List ℕ) → pin_loads (xs ++ ys) ≡ pin_loads xs + pin_loads ys
loads_append xs ys = sum_by-append (λ (k : ℕ). cond {A = ℕ} (k == 18) 1 0) xs ys

pub one_kind : (k : ℕ) → IsSweeping k → All IsSweeping (k ∷ [])
one_kind k is = All-cons IsSweeping k [] is (All-nil IsSweeping)

pub all_alike : (P : ℕ → Type 0) (k n : ℕ) → P k → All P (replicate n k)
all_alike P k zero is = All-nil P
all_alike P k (suc n) is = All-cons P k (replicate n k) is (all_alike P k n is)

pub log_loads : (n : ℕ) → pin_loads (replicate n 1) ≡ 0
log_loads zero = refl
log_loads (suc n) = log_loads n

pub scan_loads : (n : ℕ) → pin_loads (replicate n 18) ≡ n
scan_loads zero = refl
scan_loads (suc n) = let a = loads_append (18 ∷ []) (replicate n 18) in let b = scan_loads n in let one : pin_loads (18 ∷ []) ≡ 1 = refl in omega arith

-- the steps of unlinking are steps of a sweep, and no looks at pins
pub unlinks_sweep : (k : ℕ) → IsUnlinking k → IsSweeping k
unlinks_sweep k (inl is) = inr (inr (inr (inr (inl is))))
unlinks_sweep k (inr (inl is)) = inr (inr (inr (inr (inr (inl is)))))
unlinks_sweep k (inr (inr (inl is))) = inr (inr (inr (inr (inr (inr (inr (inr (inl is))))))))
unlinks_sweep k (inr (inr (inr is))) = inr (inr (inr (inr (inr (inr (inr (inr (inr (inl is)))))))))

pub not_pin : (k : ℕ) → IsUnlinking k → (k == 18) ≡ false
not_pin k (inl is) = ap (λ (n : ℕ). n == 18) is
not_pin k (inr (inl is)) = ap (λ (n : ℕ). n == 18) is
not_pin k (inr (inr (inl is))) = ap (λ (n : ℕ). n == 18) is
not_pin k (inr (inr (inr is))) = ap (λ (n : ℕ). n == 18) is

-- ---- the view

pub stays : (v : View) → GoesOn 0 v v
stays v = record {
  view = refl;
  places = [];
  log = sym (append-nil v.log);
  alone = λ one. refl;
  seen = λ s. s;
  fresh = λ f. f;
  unpinned = λ free. refl;
  steps = [];
  made = sym (append-nil v.made);
  kinds = All-nil IsSweeping;
  pins = omega arith;
}

pub with_room : (n m : ℕ) (v w : View) → n ≤ m → GoesOn n v w → GoesOn m v w
with_room n m v w few g = let pins = g.pins in record {
  view = g.view;
  places = g.places;
  log = g.log;
  alone = g.alone;
  seen = g.seen;
  fresh = g.fresh;
  unpinned = g.unpinned;
  steps = g.steps;
  made = g.made;
  kinds = g.kinds;
  pins = omega arith;
}

pub goes_key : (n : ℕ) (v w : View) → GoesOn n v w → w.key ≡ v.key
goes_key n v w g = ap (λ (z : View). z.key) g.view

pub goes_pin : (n : ℕ) (v w : View) → GoesOn n v w → w.pin ≡ v.pin
goes_pin n v w g = ap (λ (z : View). z.pin) g.view

pub then_on : (n m : ℕ) (u v w : View) → GoesOn n u v → GoesOn m v w → GoesOn (n + m) u w
then_on n m u v w g f =
    let key = goes_key n u v g in let pin = goes_pin n u v g in
    let a = g.pins in let b = f.pins in let loads = loads_append g.steps f.steps in
    record {
      view = f.view ∙ ap (λ (z : View). record z { log = w.log; front = w.front; found = w.found; met = w.met; holding = w.holding; made = w.made }) g.view;
      places = g.places ++ f.places;
      log = f.log ∙ (ap (λ (l : List Place). l ++ f.places) g.log ∙ append_assoc u.log g.places f.places);
      alone = λ one. (let a = g.alone one in let b = f.alone (ap (λ (k : Key). k.sizes.callers) key ∙ one) in ap (λ (l : List Place). l ++ f.places) a ∙ b);
      seen = λ s. subst (λ (k : Key). SeenFits k w.log) key (f.seen (subst (λ (k : Key). SeenFits k v.log) (sym key) (g.seen s)));
      fresh = λ s. f.fresh (g.fresh s);
      unpinned = λ free. f.unpinned (pin ∙ free) ∙ g.unpinned free;
      steps = g.steps ++ f.steps;
      made = f.made ∙ (ap (λ (l : List ℕ). l ++ f.steps) g.made ∙ append_assoc u.made g.steps f.steps);
      kinds = All-append IsSweeping g.steps f.steps g.kinds f.kinds;
      pins = omega arith;
    }

-- steps that see no place and find no front
pub held_on : (n : ℕ) (v w : View) (steps : List ℕ) → w ≡ record v { found = w.found; met = w.met; holding = w.holding; made = v.made ++ steps } → All IsSweeping steps → pin_loads steps ≤ n → GoesOn n v w
held_on n v w steps is kinds pins =
    let log : w.log ≡ v.log = ap (λ (z : View). z.log) is in let front : w.front ≡ v.front = ap (λ (z : View). z.front) is in
    let made : w.made ≡ v.made ++ steps = ap (λ (z : View). z.made) is in let pin : w.pin ≡ v.pin = ap (λ (z : View). z.pin) is in
    record {
      view = is ∙ (λ j. record v { log = sym log j; front = sym front j; found = w.found; met = w.met; holding = w.holding; made = sym made j });
      places = [];
      log = log ∙ sym (append-nil v.log);
      alone = λ one. refl;
      seen = λ s. subst (λ (l : List Place). SeenFits v.key l) (sym log) s;
      fresh = λ f pinned. (front ∙ (f (subst (λ (p : ℕ). 0 < p) pin pinned) ∙ ap (λ (l : List Place). Some (length l)) (sym log)));
      unpinned = λ free. front;
      steps = steps;
      made = made;
      kinds = kinds;
      pins = pins;
    }

-- ---- the log is loaded

-- what the holder notes where it finds a front, while it has unlinked nothing
pub nothing_marked : (o : Option Holding) (h : Holding) (k : ℕ) → o ≡ Some h → (h.word.limbo ≡ true) ⊎ (h.cut ≡ []) → marked_at o k ≡ o
nothing_marked o h k has why = ap (λ (z : Option Holding). marked_at z k) has ∙ (ap (λ (x : Holding). Some x) (kept why) ∙ sym has) where
  pick : (b : Bool) → b ≡ false → cond b (record h { marked = Some k }) h ≡ h
  pick false e = refl
  pick true e = absurd (cc)

  none : (b : Bool) → (b && false) ≡ false
  none true = refl
  none false = refl

  kept : (h.word.limbo ≡ true) ⊎ (h.cut ≡ []) → cond (not h.word.limbo && are_all h.cut) (record h { marked = Some k }) h ≡ h
  kept (inl e) = pick (not h.word.limbo && are_all h.cut) (ap (λ (b : Bool). not b && are_all h.cut) e)
  kept (inr e) = pick (not h.word.limbo && are_all h.cut) (ap (λ (c : List ℕ). not h.word.limbo && are_all c) e ∙ none (not h.word.limbo))

pub seen_nothing : (v : View) (s : Option ℕ) → at_seen_accounts Nothing v s ≡ v.accounts
seen_nothing v None = refl
seen_nothing v (Some k) = refl

pub pinned_front : (pin : ℕ) (front : Option ℕ) (k : ℕ) → 0 < pin → cond (nat_lt 0 pin) (Some k) front ≡ Some k
pinned_front pin front k low = ap (λ (b : Bool). cond b (Some k) front) (lt-ltb 0 pin low)

pub unpinned_front : (pin : ℕ) (front : Option ℕ) (k : ℕ) → pin ≡ 0 → cond (nat_lt 0 pin) (Some k) front ≡ front
unpinned_front pin front k low = ap (λ (n : ℕ). cond (nat_lt 0 n) (Some k) front) low

-- a place that was seen is loaded
pub loaded_again : (v w : View) (h : Holding) → v.holding ≡ Some h → (h.word.limbo ≡ true) ⊎ (h.cut ≡ []) → w ≡ again Nothing v → GoesOn 0 v w × (w.holding ≡ v.holding)
loaded_again v w h has why told = by (length v.log == v.key.sizes.log) refl where
  L : ℕ
  L = v.key.sizes.log

  is : (b : Bool) → (length v.log == v.key.sizes.log) ≡ b → w ≡ either b (at_front Nothing (with_step v 1) L) (at_seen Nothing (with_step v 1) v.snapshot)
  is b e = told ∙ ap (λ (b : Bool). either b (at_front Nothing (with_step v 1) L) (at_seen Nothing (with_step v 1) v.snapshot)) e

  by : (b : Bool) → (length v.log == v.key.sizes.log) ≡ b → GoesOn 0 v w × (w.holding ≡ v.holding)
  by true e =
      let all : length v.log ≡ L = eqb-true _ _ e in let t = is true e in
      let holding : w.holding ≡ v.holding = ap (λ (z : View). z.holding) t ∙ nothing_marked v.holding h L has why in
      (of_front w (v.made ++ 1 ∷ []) L (t ∙ (λ j. record v { front = cond (nat_lt 0 v.pin) (Some L) v.front; holding = marked_at v.holding L; made = v.made ++ 1 ∷ [] })) all, holding) where
        of_front : (w : View) (made : List ℕ) (k : ℕ) → w ≡ record v { front = cond (nat_lt 0 v.pin) (Some k) v.front; holding = marked_at v.holding k; made = v.made ++ 1 ∷ [] } → length v.log ≡ k → GoesOn 0 v w
        of_front w made k is all =
            let log : w.log ≡ v.log = ap (λ (z : View). z.log) is in let pin : w.pin ≡ v.pin = ap (λ (z : View). z.pin) is in
            record {
              view = is ∙ (λ j. record v { log = sym log j; front = sym (ap (λ (z : View). z.front) is) j; found = sym (ap (λ (z : View). z.found) is) j; met = sym (ap (λ (z : View). z.met) is) j; holding = sym (ap (λ (z : View). z.holding) is) j; made = sym (ap (λ (z : View). z.made) is) j });
              places = [];
              log = log ∙ sym (append-nil v.log);
              alone = λ one. refl;
              seen = λ s. subst (λ (l : List Place). SeenFits v.key l) (sym log) s;
              fresh = λ f pinned. (ap (λ (z : View). z.front) is ∙ (pinned_front v.pin v.front k (subst (λ (p : ℕ). 0 < p) pin pinned) ∙ ap Some (sym all ∙ ap (λ (l : List Place). length l) (sym log))));
              unpinned = λ free. ap (λ (z : View). z.front) is ∙ unpinned_front v.pin v.front k free;
              steps = 1 ∷ [];
              made = ap (λ (z : View). z.made) is;
              kinds = one_kind 1 (inl refl);
              pins = omega arith;
            }
  by false e =
      let t = is false e in
      let accounts = seen_nothing v v.snapshot in
      let same : w ≡ record v { made = v.made ++ 1 ∷ [] } = t ∙ (λ j. record v { accounts = accounts j; made = v.made ++ 1 ∷ [] }) in
      (held_on 0 v w (1 ∷ []) (same ∙ (λ j. record v { found = sym (ap (λ (z : View). z.found) same) j; met = sym (ap (λ (z : View). z.met) same) j; holding = sym (ap (λ (z : View). z.holding) same) j; made = v.made ++ 1 ∷ [] })) (one_kind 1 (inl refl)) (omega arith), ap (λ (z : View). z.holding) same)

-- the front was found
pub front_found : (v w : View) (front : ℕ) → FrontFound Nothing v front w → GoesOn 0 v w × IsFresh w × (w.holding ≡ marked_at v.holding front) × (front ≡ length w.log)
front_found v w front f =
    let log : w.log ≡ v.log ++ f.places = ap (λ (z : View). z.log) f.view in let pin : w.pin ≡ v.pin = ap (λ (z : View). z.pin) f.view in
    let made : w.made ≡ v.made ++ replicate f.loads 1 = ap (λ (z : View). z.made) f.view in
    let end : front ≡ length w.log = f.front_is ∙ (sym (length-append v.log f.places) ∙ ap (λ (l : List Place). length l) (sym log)) in
    let fresh : IsFresh w = λ pinned. (ap (λ (z : View). z.front) f.view ∙ (pinned_front v.pin v.front front (subst (λ (p : ℕ). 0 < p) pin pinned) ∙ ap Some end)) in
    let none = log_loads f.loads in (
      record {
        view = f.view ∙ (λ j. record v { log = sym log j; front = sym (ap (λ (z : View). z.front) f.view) j; found = sym (ap (λ (z : View). z.found) f.view) j; met = sym (ap (λ (z : View). z.met) f.view) j; holding = sym (ap (λ (z : View). z.holding) f.view) j; made = sym made j });
        places = f.places;
        log = log;
        alone = f.alone;
        seen = λ s. f.seen;
        fresh = λ s. fresh;
        unpinned = λ free. ap (λ (z : View). z.front) f.view ∙ unpinned_front v.pin v.front front free;
        steps = replicate f.loads 1;
        made = made;
        kinds = all_alike IsSweeping 1 f.loads (inl refl);
        pins = omega arith;
      },
      fresh,
      ap (λ (z : View). z.holding) f.view,
      end,
    )
