-- What is in limbo is given back, or a pin is in the way of it.
use Rattle.std.proofs.Common.{◌≡◌, ℕ, ◌+◌, ◌*◌, ◌<◌, ◌≤◌, inl, inr, List, [], ◌∷◌, ◌++◌, length, replicate, All, Option, None, Some, IfNone, sym, refl, ap, ◌∙◌, subst, arith}
use Rattle.std.proofs.lemmas.List.Elements.{All-append, All-cons, All-nil}
use Rattle.reg_words.specs.declared.sweeping.Why.{Why}
use Rattle.reg_words.specs.declared.sweeping.Why.TheVariants.{Limit, Pinned}
use Rattle.reg_rule.specs.declared.told.Told.TheVariants.{Nothing}
use Rattle.reg_rule.specs.declared.view.Holding.{Holding}
use Rattle.reg_rule.specs.declared.view.Key.{Key}
use Rattle.reg_rule.specs.declared.view.Place.{Place}
use Rattle.reg_rule.specs.declared.view.View.{View}
use Rattle.reg_rule.specs.Log.{IsWd}
use Rattle.reg_rule.specs.Moves.{again, holding_of, on_holding, is_free}
use Rattle.reg_rule.specs.Passes.{number_of}
use Rattle.reg_rule.specs.Steps.{LogLoaded}
use Rattle.reg_sweep.specs.Sweeping.{IsSweeping, IsInTheWay, StopsFor, pin_loads}
use Rattle.reg_sweep.specs.inner.Holders.{IsAt, IsWaiting, resting, in_limbo, scanned_to, found_free}
use Rattle.reg_sweep.specs.inner.Going.{GoesOn}
use Rattle.reg_sweep.specs.inner.Turns.{IsStopped, Stops, gave_back, giving_steps}
use Rattle.reg_sweep.proofs.Goes.{loads_append, scan_loads, all_alike, with_room, then_on, held_on, loaded_again}
use Rattle.reg_sweep.proofs.SeenPlaces.{none_here}

-- ---- steps

giving_kinds : (callers : ℕ) → All IsSweeping (giving_steps callers)
giving_kinds callers = All-append IsSweeping (replicate callers 18) (10 ∷ 22 ∷ 22 ∷ 19 ∷ []) (all_alike IsSweeping 18 callers (inr (inr (inr (inr (inr (inr (inl refl))))))))
    (All-cons IsSweeping 10 (22 ∷ 22 ∷ 19 ∷ []) (inr (inr (inr (inl refl))))
    (All-cons IsSweeping 22 (22 ∷ 19 ∷ []) (inr (inr (inr (inr (inr (inr (inr (inr (inr (inr (inl refl)))))))))))
    (All-cons IsSweeping 22 (19 ∷ []) (inr (inr (inr (inr (inr (inr (inr (inr (inr (inr (inl refl)))))))))))
    (All-cons IsSweeping 19 [] (inr (inr (inr (inr (inr (inr (inr (inl refl)))))))) (All-nil IsSweeping)))))

-- after steps that look at no pin
pub on_from : (n : ℕ) (u v w : View) → GoesOn 0 u v → GoesOn n v w → GoesOn n u w
on_from n u v w g f = with_room (0 + n) n u w (omega arith) (then_on 0 n u v w g f)

-- what follows where nothing was answered
pub none_then : {A : Type 0} (r : Option A) {P Q : Type 0} → IfNone r P → (P → Q) → IfNone r Q
none_then None h f = f h
none_then (Some x) h f = tt

-- the entry was given back
pub gave_on : (v w : View) (place : ℕ) → w ≡ gave_back place v → GoesOn (2 * v.key.sizes.callers) v w
gave_on v w place is =
    let n : ℕ = v.key.sizes.callers in
    let loads = loads_append (replicate n 18) (10 ∷ 22 ∷ 22 ∷ 19 ∷ []) in let scans = scan_loads n in let rest : pin_loads (10 ∷ 22 ∷ 22 ∷ 19 ∷ []) ≡ 0 = refl in
    held_on (2 * n) v w (giving_steps n)
    (is ∙ (λ j. record v { found = sym (ap (λ (z : View). z.found) is) j; met = sym (ap (λ (z : View). z.met) is) j; holding = sym (ap (λ (z : View). z.holding) is) j; made = v.made ++ giving_steps n }))
    (giving_kinds n) (omega arith)

-- pins were looked at
pub looked_on : (v w : View) (seats loads : ℕ) → loads ≤ 2 * v.key.sizes.callers → w ≡ found_free seats loads v → GoesOn (2 * v.key.sizes.callers) v w
looked_on v w seats loads few is =
    let scans = scan_loads loads in
    held_on (2 * v.key.sizes.callers) v w (replicate loads 18)
    (is ∙ (λ j. record v { found = sym (ap (λ (z : View). z.found) is) j; met = sym (ap (λ (z : View). z.met) is) j; holding = sym (ap (λ (z : View). z.holding) is) j; made = v.made ++ replicate loads 18 }))
    (all_alike IsSweeping 18 loads (inr (inr (inr (inr (inr (inr (inl refl)))))))) (omega arith)

-- who is in the way stays so
pub still_in_the_way : (n : ℕ) (v w : View) (seat pin hazard : ℕ) → GoesOn n v w → IsInTheWay v seat pin hazard → IsInTheWay w seat pin hazard
still_in_the_way n v w seat pin hazard g s =
    let key : w.key ≡ v.key = ap (λ (z : View). z.key) g.view in let own : w.pin ≡ v.pin = ap (λ (z : View). z.pin) g.view in
    let number : number_of w ≡ number_of v = ap number_of g.view in
    record {
      inside = subst (λ (k : Key). seat < k.sizes.callers) (sym key) s.inside;
      pinned = s.pinned;
      low = s.low;
      own = λ mine. s.own (mine ∙ number) ∙ sym own;
      rising = λ low. ap (λ (p : ℕ). is_free p hazard) own ∙ s.rising (subst (λ (k : ℕ). k < seat) number low);
    }

-- ---- a withdrawal in limbo

module _ (place mark id entry : ℕ) (v x : View) (found : ℕ) (waits : IsWaiting place mark id entry v) (loaded : LogLoaded Nothing place v found x) where
  abbrev h : Holding
  h = holding_of (in_limbo place mark)

  loaded_is : x ≡ again Nothing v
  loaded_is = (loaded.old waits.inside).3

  goes : GoesOn 0 v x × (x.holding ≡ v.holding)
  goes = loaded_again v x h waits.holding (inl refl) loaded_is

  same_log : x.log ≡ v.log
  same_log = ap (λ (z : View). z.log) loaded_is

  same_key : x.key ≡ v.key
  same_key = ap (λ (z : View). z.key) loaded_is

  here : x.holding ≡ Some h
  here = goes.1 ∙ waits.holding

  pub still_waiting : IsWaiting place mark id entry x
  still_waiting = record {
    holding = here;
    fits = waits.fits;
    withdraws = subst (λ (l : List Place). IsWd l place id entry) (sym same_log) waits.withdraws;
    inside = subst (λ (l : List Place). place < length l) (sym same_log) waits.inside;
  }

  pub resumed : (w : View) → w ≡ gave_back place x → GoesOn (2 * v.key.sizes.callers) v w × IsAt (place + 1) w × ((id : ℕ) × (entry : ℕ) × IsWd w.log place id entry)
  resumed w is =
      let log : w.log ≡ v.log = ap (λ (z : View). z.log) is ∙ same_log in
      let inside = subst (λ (l : List Place). place < length l) (sym log) waits.inside in (
        subst (λ (k : Key). GoesOn (2 * k.sizes.callers) v w) same_key (on_from (2 * x.key.sizes.callers) v x w goes.0 (gave_on x w place is)),
        record {
          h = holding_of (resting (place + 1));
          holding = ap (λ (z : View). z.holding) is;
          unmoved = refl;
          uncut = refl;
          unpaid = refl;
          from = omega arith;
          within = omega arith;
          between = none_here w.log (place + 1);
        },
        (id, entry, subst (λ (l : List Place). IsWd l place id entry) (sym log) waits.withdraws),
      )

  pub stopped_again : (why : Why) (w : View) → IsStopped mark x why w → Stops place v (in_limbo place mark) why w
  stopped_again why w s =
      let log : w.log ≡ v.log = ap (λ (z : View). z.log) s.4 ∙ same_log in let seat = s.3.inside in
      let looks = looked_on x w s.0 (s.0 + 1) (omega arith) s.4 in
      let inside = subst (λ (l : List Place). place < length l) (sym log) waits.inside in
      record {
        going = subst (λ (k : Key). GoesOn (2 * k.sizes.callers) v w) same_key (on_from (2 * x.key.sizes.callers) v x w goes.0 looks);
        h = scanned_to s.0 h;
        holding = ap (λ (z : View). z.holding) s.4 ∙ ap (on_holding (scanned_to s.0)) here;
        next = refl;
        free = refl;
        at = refl;
        fits = waits.fits;
        within = omega arith;
        why = subst (λ (c : Why). StopsFor c (in_limbo place mark) w) (sym s.2)
            (still_in_the_way (2 * x.key.sizes.callers) x w s.0 s.1 mark looks s.3, (id, entry, subst (λ (l : List Place). IsWd l place id entry) (sym log) waits.withdraws));
        unlimited = λ e. (let f : Pinned s.0 s.1 ≡ Limit = sym s.2 ∙ e in cc);
      }
