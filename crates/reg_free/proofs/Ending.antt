-- The steps of a withdrawal, and what they leave of the pass.
use Rattle.std.proofs.Common.{◌≡◌, ℕ, ◌+◌, ◌<◌, ◌≤◌, ◌⊎◌, inl, inr, ⊎_elim, ◌==◌, Bool, true, false, cond, nat_lt, List, [], ◌∷◌, length, length-append, Option, None, Some, refl, sym, ap, ◌∙◌, subst, arith, lt-ltb}
use Rattle.std.proofs.lemmas.Bool.{eqb-true, le-leb}
use Rattle.atomic_table.specs.Seated.{TableId}
use Rattle.reg_model.specs.Opening.{IsOpening}
use Rattle.reg_model.specs.declared.reply.Row.{Row}
use Rattle.reg_model.specs.declared.call.Call.TheVariants.{Withdraw}
use Rattle.reg_rule.specs.declared.told.Told.TheVariants.{Nothing, Row as RowOf}
use Rattle.reg_rule.specs.declared.view.Account.{Account}
use Rattle.reg_rule.specs.declared.view.Found.{Found}
use Rattle.reg_rule.specs.declared.view.Holding.{Holding}
use Rattle.reg_rule.specs.declared.view.Key.{Key}
use Rattle.reg_rule.specs.declared.view.Met.{Met}
use Rattle.reg_rule.specs.declared.view.Place.{Place}
use Rattle.reg_rule.specs.declared.view.View.{View}
use Rattle.reg_rule.specs.Helping.{helped_up_to, HasHelped}
use Rattle.reg_rule.specs.Moves.{grown, with_step, again, at_front, at_seen, at_seen_accounts, either, marked_at}
use Rattle.reg_rule.specs.Rounds.{IsWordsPass}
use Rattle.reg_rule.specs.Steps.{SeenFits}
use Rattle.reg_commit.specs.Fronts.{FrontFound}
use Rattle.reg_commit.specs.Helps.{completed}
use Rattle.reg_free.specs.inner.Withdrawals.{IsEnding, IsAtFront}

pub some_grown : (l : List Account) (r : Option Row) → 0 < length l → 0 < length (grown l r)
some_grown l None one = one
some_grown [] (Some row) one = one
some_grown (a ∷ others) (Some row) one = one

none_to_help : (o : Option ℕ) → helped_up_to o 0 ≡ true
none_to_help None = refl
none_to_help (Some n) = le-leb 0 (n + 1) (omega arith)

-- what is helped further on is helped
pub helped_on : (n k : ℕ) → k ≤ n + 1 → helped_up_to (Some n) k ≡ true
helped_on n k h = le-leb k (n + 1) h

-- ---- a seen place is loaded again

pub again_is : (v : View) → v.holding ≡ None → again Nothing v ≡ record (with_step v 1) { front = (again Nothing v).front }
again_is v unheld = by (length v.log == v.key.sizes.log) where
  none_marked : (k : ℕ) → marked_at v.holding k ≡ v.holding
  none_marked k = ap (λ (h : Option Holding). marked_at h k) unheld ∙ sym unheld

  seen_nothing : (s : Option ℕ) → at_seen_accounts Nothing (with_step v 1) s ≡ v.accounts
  seen_nothing None = refl
  seen_nothing (Some k) = refl

  by : (b : Bool) → either b (at_front Nothing (with_step v 1) v.key.sizes.log) (at_seen Nothing (with_step v 1) v.snapshot)
      ≡ record (with_step v 1) { front = (either b (at_front Nothing (with_step v 1) v.key.sizes.log) (at_seen Nothing (with_step v 1) v.snapshot)).front }
  by true = λ j. record (with_step v 1) { front = cond {A = Option ℕ} (nat_lt 0 v.pin) (Some v.key.sizes.log) v.front; holding = none_marked v.key.sizes.log j }
  by false = λ j. record (with_step v 1) { accounts = seen_nothing v.snapshot j }

-- the front stays where it is
again_front : (v : View) → 0 < v.pin → v.front ≡ Some (length v.log) → (again Nothing v).front ≡ v.front
again_front v pinned front = by (length v.log == v.key.sizes.log) refl where
  by : (b : Bool) → (length v.log == v.key.sizes.log) ≡ b → (either b (at_front Nothing (with_step v 1) v.key.sizes.log) (at_seen Nothing (with_step v 1) v.snapshot)).front ≡ v.front
  by true e = ap (λ (b : Bool). cond {A = Option ℕ} b (Some v.key.sizes.log) v.front) (lt-ltb 0 v.pin pinned) ∙ (ap Some (sym (eqb-true (length v.log) v.key.sizes.log e)) ∙ sym front)
  by false e = refl

pub again_same : (v : View) → v.holding ≡ None → 0 < v.pin → v.front ≡ Some (length v.log) → again Nothing v ≡ with_step v 1
again_same v unheld pinned front = again_is v unheld ∙ ap (λ (f : Option ℕ). record (with_step v 1) { front = f }) (again_front v pinned front)

-- ---- the front

module _ (words : TableId × Key) (p q : TableId × View) (id k : ℕ) (r : IsEnding words p) (own : IsWordsPass words q) (f : FrontFound (RowOf (Withdraw id)) p.1 k q.1) where
  front_length : length q.1.log ≡ k
  front_length = ap (λ (z : View). length z.log) f.view ∙ (length-append p.1.log f.places ∙ sym f.front_is)

  front_is : q.1.front ≡ Some k
  front_is = ap (λ (z : View). z.front) f.view ∙ ap (λ (b : Bool). cond {A = Option ℕ} b (Some k) p.1.front) (lt-ltb 0 p.1.pin r.pinned)

  front_unheld : q.1.holding ≡ None
  front_unheld = ap (λ (z : View). z.holding) f.view ∙ ap (λ (h : Option Holding). marked_at h k) r.unheld

  front_seen : SeenFits q.1.key q.1.log
  front_seen = subst (λ (z : Key). SeenFits z q.1.log) (sym (ap (λ (z : View). z.key) f.view)) f.seen

  front_ready : IsEnding words q
  front_ready = record {
    own = own;
    one = subst (λ (l : List Account). 0 < length l) (sym (ap (λ (z : View). z.accounts) f.view)) (some_grown p.1.accounts _ r.one);
    unheld = front_unheld;
    unopened = ap (λ (z : View). z.snapshot) f.view ∙ r.unopened;
    pinned = subst (λ (z : View). 0 < z.pin) (sym f.view) r.pinned;
    helped = λ n e. (let h = r.helped n (sym (ap (λ (z : View). z.committed) f.view) ∙ e) in let low = h.0 in let l = front_length in let g = f.front_is in
        ((let a : n < length q.1.log = omega arith in a), subst (λ (o : Option ℕ). helped_up_to o (n + 1) ≡ true) (sym (ap (λ (z : View). z.helped) f.view)) h.1));
    hand = ⊎_elim (λ (e : p.1.hands ≡ []). inl (ap (λ (z : View). z.hands) f.view ∙ e))
        (λ (e : length p.1.log ≡ p.1.key.sizes.log). inr (let l = front_length in let g = f.front_is in let room = front_seen.room in let same = ap (λ (z : View). z.key.sizes.log) f.view in let a : length q.1.log ≡ q.1.key.sizes.log = omega arith in a))
        r.hand;
  }

  -- nothing is below the front
  pub front_first : IsOpening p.1.key.carried → k ≡ 0 → IsAtFront words k q
  front_first ok none = record {
    ready = front_ready;
    front = front_is;
    last = front_length;
    complete = subst (λ (n : ℕ). helped_up_to q.1.helped n ≡ true) (sym none) (none_to_help q.1.helped);
    seen = front_seen;
    opening = subst (λ (z : View). IsOpening z.key.carried) (sym f.view) ok;
  }

  -- the place below the front was completed
  module _ (n : ℕ) (x : TableId × View) (some : k ≡ n + 1) (place : Place) (is : x ≡ (words.0, completed q.1 n place)) where
    here : q.1.front ≡ Some (length q.1.log)
    here = front_is ∙ ap Some (sym front_length)

    abbrev helped_then : List ℕ → Option ℕ → View
    helped_then made noted = record q.1 { noted = noted; helped = Some n; made = made }

    then : x.1 ≡ helped_then x.1.made x.1.noted
    then = let same = again_same q.1 front_unheld front_ready.pinned here in let view : x.1 ≡ completed q.1 n place = ap (λ (z : TableId × View). z.1) is in
        view ∙ ((λ j. record (same j) { noted = (completed q.1 n place).noted; helped = Some n; made = (completed q.1 n place).made })
        ∙ (λ j. helped_then (ap (λ (z : View). z.made) (sym view) j) (ap (λ (z : View). z.noted) (sym view) j)))

    pub front_behind : IsOpening p.1.key.carried → IsAtFront words k x
    front_behind ok = record {
      ready = record {
        own = (ap (λ (z : TableId × View). z.0) is, ap (λ (z : View). z.key) then ∙ own.1);
        one = subst (λ (z : View). 0 < length z.accounts) (sym then) front_ready.one;
        unheld = ap (λ (z : View). z.holding) then ∙ front_unheld;
        unopened = ap (λ (z : View). z.snapshot) then ∙ front_ready.unopened;
        pinned = subst (λ (z : View). 0 < z.pin) (sym then) front_ready.pinned;
        helped = λ m e. (let h = front_ready.helped m (sym (ap (λ (z : View). z.committed) then) ∙ e) in let low = h.0 in let l = front_length in
            (subst (λ (z : View). m < length z.log) (sym then) h.0, subst (λ (o : Option ℕ). helped_up_to o (m + 1) ≡ true) (sym (ap (λ (z : View). z.helped) then)) (helped_on n (m + 1) (omega arith))));
        hand = subst (λ (z : View). (z.hands ≡ []) ⊎ (length z.log ≡ z.key.sizes.log)) (sym then) front_ready.hand;
      };
      front = ap (λ (z : View). z.front) then ∙ front_is;
      last = ap (λ (z : View). length z.log) then ∙ front_length;
      complete = subst (λ (o : Option ℕ). helped_up_to o k ≡ true) (sym (ap (λ (z : View). z.helped) then)) (helped_on n k (omega arith));
      seen = subst (λ (z : View). SeenFits z.key z.log) (sym then) front_seen;
      opening = subst (λ (z : View). IsOpening z.key.carried) (sym (then ∙ ap (λ (z : View). helped_then x.1.made x.1.noted) f.view)) (subst (λ (z : View). IsOpening z.key.carried) (sym f.view) ok);
    }

-- ---- loads that change little

pub still_at : (words : TableId × Key) (k : ℕ) (p q : TableId × View) (accounts : List Account) (found : Option Found) (met : List Met) (made : List ℕ) → IsAtFront words k p → IsWordsPass words q → 0 < length accounts
    → q.1 ≡ record p.1 { accounts = accounts; found = found; met = met; made = made } → IsAtFront words k q
still_at words k p q accounts found met made at own one is = record {
  ready = record {
    own = own;
    one = subst (λ (z : View). 0 < length z.accounts) (sym is) one;
    unheld = ap (λ (z : View). z.holding) is ∙ at.ready.unheld;
    unopened = ap (λ (z : View). z.snapshot) is ∙ at.ready.unopened;
    pinned = subst (λ (z : View). 0 < z.pin) (sym is) at.ready.pinned;
    helped = subst (λ (z : View). (n : ℕ) → z.committed ≡ Some n → (n < length z.log) × HasHelped z (n + 1)) (sym is) at.ready.helped;
    hand = subst (λ (z : View). (z.hands ≡ []) ⊎ (length z.log ≡ z.key.sizes.log)) (sym is) at.ready.hand;
  };
  front = ap (λ (z : View). z.front) is ∙ at.front;
  last = ap (λ (z : View). length z.log) is ∙ at.last;
  complete = subst (λ (z : View). HasHelped z k) (sym is) at.complete;
  seen = subst (λ (z : View). SeenFits z.key z.log) (sym is) at.seen;
  opening = subst (λ (z : View). IsOpening z.key.carried) (sym is) at.opening;
}
