-- Place after place is passed.
use Rattle.std.proofs.Common.{◌≡◌, ℕ, zero, suc, ◌+◌, ◌*◌, ◌<◌, ◌≤◌, Bool, not, true, false, cond, inr, List, [], ◌∷◌, ◌++◌, take, drop, length, Some, sym, refl, ap, ◌∙◌, subst, arith}
use mathlib.Core.Option.{some-injective, some-ne-none}
use Rattle.std.proofs.Math.Nat.{mul-suc}
use Rattle.std.proofs.lemmas.List.{map-append, take-append-le, drop-append-le, length-drop, length-take, length-map}
use Rattle.std.proofs.lemmas.List.Sums.{sum_by-append, count_by-le-length}
use Rattle.iscc_header.specs.declared.unit.Unit64.{Unit64}
use Rattle.reg_model.specs.declared.update.Update.{Update}
use Rattle.reg_model.specs.declared.update.Update.TheVariants.{Decl, Wd}
use Rattle.reg_model.specs.Live.{withdrawals, is_declaration}
use Rattle.reg_words.specs.declared.sweeping.Swept.{Swept}
use Rattle.reg_words.specs.declared.sweeping.Why.{Why}
use Rattle.reg_words.specs.declared.word.SweepWord.{SweepWord}
use Rattle.reg_rule.specs.declared.told.Told.TheVariants.{Ends}
use Rattle.reg_rule.specs.Moves.{swept_to}
use Rattle.reg_rule.specs.declared.view.Holding.{Holding}
use Rattle.reg_rule.specs.declared.view.Key.{Key}
use Rattle.reg_rule.specs.declared.view.Place.{Place}
use Rattle.reg_rule.specs.declared.view.View.{View}
use Rattle.reg_rule.specs.Conditions.{IsNextWord}
use Rattle.reg_rule.specs.Log.{At, updates, place_of, IsDecl, IsWd}
use Rattle.reg_rule.specs.Steps.{SeenFits}
use Rattle.reg_sweep.specs.Sweeping.{IsFresh, passed_from}
use Rattle.reg_sweep.specs.inner.Holders.{IsAt, resting}
use Rattle.reg_sweep.specs.inner.Going.{GoesOn}
use Rattle.reg_sweep.specs.inner.Turns.{HasPassed, HasLeft, Stops}
use Rattle.reg_sweep.proofs.Goes.{stays, then_on, goes_key}

-- ---- what is passed

taken_one : {A : Type 0} (l : List A) (n : ℕ) (x : A) → At l n x → take (suc n) l ≡ take n l ++ x ∷ []
taken_one {A = A} [] n x e = absurd (some-ne-none x (sym e))
taken_one {A = A} (y ∷ l) zero x e = let same : y ≡ x = some-injective y x e in λ j. same j ∷ []
taken_one {A = A} (y ∷ l) (suc n) x e = ap (λ (z : List A). y ∷ z) (taken_one l n x e)

dropped_at : {A : Type 0} (l : List A) (m n k : ℕ) (x : A) → k ≡ m + n → At l k x → At (drop m l) n x
dropped_at {A = A} l zero n k x is e = (let same : k ≡ n = omega arith in subst (λ (i : ℕ). At l i x) same e)
dropped_at {A = A} [] (suc m) n k x is e = absurd (some-ne-none x (sym e))
dropped_at {A = A} (y ∷ l) (suc m) n zero x is e = absurd (omega arith)
dropped_at {A = A} (y ∷ l) (suc m) n (suc k) x is e = dropped_at l m n k x (omega arith) e

-- a place more
one_more : (log : List Place) (m n : ℕ) (p : Place) → At log (m + n) p → passed_from log m (n + 1) ≡ passed_from log m n ++ p.update ∷ []
one_more log m n p at =
    let s : n + 1 ≡ suc n = omega arith in
    ap (λ (k : ℕ). updates (take k (drop m log))) s ∙ (ap updates (taken_one (drop m log) n p (dropped_at log m n (m + n) p refl at)) ∙ map-append (λ (z : Place). z.update) (take n (drop m log)) (p ∷ []))

count_one : (us : List Update) (u : Update) → withdrawals (us ++ u ∷ []) ≡ withdrawals us + withdrawals (u ∷ [])
count_one us u = sum_by-append (λ (z : Update). cond {A = ℕ} (not (is_declaration z)) 1 0) us (u ∷ [])

pub passed_decl : (log : List Place) (m n : ℕ) (unit : Unit64) (entry : ℕ) → IsDecl log (m + n) unit entry → withdrawals (passed_from log m (n + 1)) ≡ withdrawals (passed_from log m n)
passed_decl log m n unit entry at =
    let more = ap withdrawals (one_more log m n (place_of (Decl unit) entry) at) in let count = count_one (passed_from log m n) (Decl unit) in
    let none : withdrawals (Decl unit ∷ []) ≡ 0 = refl in omega arith

pub passed_wd : (log : List Place) (m n id entry : ℕ) → IsWd log (m + n) id entry → withdrawals (passed_from log m (n + 1)) ≡ withdrawals (passed_from log m n) + 1
passed_wd log m n id entry at =
    let more = ap withdrawals (one_more log m n (place_of (Wd id) entry) at) in let count = count_one (passed_from log m n) (Wd id) in
    let one : withdrawals (Wd id ∷ []) ≡ 1 = refl in omega arith

withdrawals_most : (us : List Update) → withdrawals us ≤ length us
withdrawals_most us = count_by-le-length {X = Update} (λ u. not (is_declaration u)) us

-- no more than the places
pub few_passed : (log : List Place) (m n : ℕ) → withdrawals (passed_from log m n) ≤ n
few_passed log m n =
    let a = withdrawals_most (passed_from log m n) in
    let b = length-map (take n (drop m log)) (λ (z : Place). z.update) in let c = length-take n (drop m log) in omega arith

-- what was passed stays so where more is seen
pub passed_same : (log more : List Place) (m n : ℕ) → m + n ≤ length log → passed_from (log ++ more) m n ≡ passed_from log m n
passed_same log more m n low =
    let d = drop-append-le m log more (omega arith) in let len = length-drop m log in
    ap (λ (l : List Place). updates (take n l)) d ∙ ap updates (take-append-le n (drop m log) more (omega arith))

-- ---- the loop

-- a place more takes so many looks more
one_turn : (m n : ℕ) → m * (n + 1) ≡ m * n + m
one_turn m n = let s : n + 1 ≡ suc n = omega arith in ap (λ (k : ℕ). m * k) s ∙ mul-suc m n

few_turns : (loads looks per a b c : ℕ) → loads + a ≤ b → looks ≤ per → c ≡ b + per → (loads + looks) + a ≤ c
few_turns loads looks per a b c few low turn = omega arith

pub begins : (m begun : ℕ) (v : View) → IsAt (m + begun) v → begun ≡ withdrawals (passed_from v.log m begun) → SeenFits v.key v.log → IsFresh v → HasPassed m begun begun begun v v
begins m begun v at given seen fresh = record {
  loads = 0;
  few = omega arith;
  going = stays v;
  at = at;
  given_is = given;
  seen = seen;
  fresh = fresh;
}

-- one place more, with so many looks
more_passed : (m begun n given count looks : ℕ) (v x w : View) → HasPassed m begun n given v x → looks ≤ 2 * v.key.sizes.callers → GoesOn looks x w → IsAt ((m + n) + 1) w
    → (withdrawals (passed_from w.log m (n + 1)) ≡ withdrawals (passed_from w.log m n) + count) → HasPassed m begun (n + 1) (given + count) v w
more_passed m begun n given count looks v x w s low g at counts =
    let key : x.key ≡ v.key = goes_key s.loads v x s.going in let next : w.key ≡ x.key = goes_key looks x w g in
    let within = s.at.within in let before = s.given_is in
    let same : withdrawals (passed_from w.log m n) ≡ withdrawals (passed_from x.log m n) = ap (λ (l : List Place). withdrawals (passed_from l m n)) g.log ∙ ap withdrawals (passed_same x.log g.places m n within) in
    let few = s.few in let turn = one_turn (2 * v.key.sizes.callers) n in let all : (m + n) + 1 ≡ m + (n + 1) = omega arith in
    record {
      loads = s.loads + looks;
      few = few_turns s.loads looks (2 * v.key.sizes.callers) (2 * v.key.sizes.callers * begun) (2 * v.key.sizes.callers * n) (2 * v.key.sizes.callers * (n + 1)) few low turn;
      going = then_on s.loads looks v x w s.going g;
      at = subst (λ (k : ℕ). IsAt k w) all at;
      given_is = omega arith;
      seen = subst (λ (k : Key). SeenFits k w.log) (sym next) (g.seen s.seen);
      fresh = g.fresh s.fresh;
    }

pub one_declared : (m begun n given after : ℕ) (v x w : View) → after ≡ given → HasPassed m begun n given v x → GoesOn 0 x w × IsAt ((m + n) + 1) w × ((unit : Unit64) × (entry : ℕ) × IsDecl w.log (m + n) unit entry) → HasPassed m begun (n + 1) after v w
one_declared m begun n given after v x w is s turn =
    let p = turn.2 in let counts = passed_decl w.log m n p.0 p.1 p.2 in
    subst (λ (k : ℕ). HasPassed m begun (n + 1) k v w) (omega arith) (more_passed m begun n given 0 0 v x w s (omega arith) turn.0 turn.1 (omega arith))

pub one_given : (m begun n given after : ℕ) (v x w : View) → after ≡ given + 1 → HasPassed m begun n given v x → GoesOn (2 * x.key.sizes.callers) x w × IsAt ((m + n) + 1) w × ((id : ℕ) × (entry : ℕ) × IsWd w.log (m + n) id entry) → HasPassed m begun (n + 1) after v w
one_given m begun n given after v x w is s turn =
    let key : x.key ≡ v.key = goes_key s.loads v x s.going in let p = turn.2 in
    subst (λ (k : ℕ). HasPassed m begun (n + 1) k v w) (sym is)
    (more_passed m begun n given 1 (2 * v.key.sizes.callers) v x w s (omega arith) (subst (λ (k : Key). GoesOn (2 * k.sizes.callers) x w) key turn.0) turn.1 (passed_wd w.log m n p.0 p.1 p.2))

-- ---- where it stops

-- the word of the place may be stored
pub rests_at : (place : ℕ) (v : View) (word : SweepWord) → IsAt place v → word ≡ resting place → (h : Holding) × (v.holding ≡ Some h) × IsNextWord v h word
rests_at place v word at is = (at.h, at.holding, subst (IsNextWord v at.h) (sym is) (rests at.h.paid at.h.word.limbo _ _ _ at.unpaid at.unmoved (inr (at.uncut, refl, refl, at.from, at.within, at.between)))) where
  rests : (a b : Bool) (P Q R : Type 0) → a ≡ false → b ≡ false → R → cond a P (cond b Q R)
  rests false false P Q R e f r = r
  rests true b P Q R e f r = absurd (cc)
  rests false true P Q R e f r = absurd (cc)

-- it stopped at this place
pub stopped_here : (limit m begun n given : ℕ) (v x w z : View) (rest : SweepWord) (cause : Why) (swept : Swept) → HasPassed m begun n given v x → n < limit → Stops (m + n) x rest cause w
    → swept ≡ record { places = n; given = given; why = cause } → z ≡ swept_to (Ends swept) w rest → HasLeft limit m begun v swept z
stopped_here limit m begun n given v x w z rest cause swept s low t is told = subst (λ (k : Swept). HasLeft limit m begun v k z) (sym is) (left (told ∙ ap (λ (k : Swept). swept_to (Ends k) w rest) is)) where
  per : ℕ
  per = 2 * v.key.sizes.callers

  key : x.key ≡ v.key
  key = goes_key s.loads v x s.going

  going : GoesOn per x w
  going = subst (λ (k : Key). GoesOn (2 * k.sizes.callers) x w) key t.going

  same : withdrawals (passed_from w.log m n) ≡ withdrawals (passed_from x.log m n)
  same = ap (λ (l : List Place). withdrawals (passed_from l m n)) t.going.log ∙ ap withdrawals (passed_same x.log t.going.places m n s.at.within)

  left : z ≡ swept_to (Ends (record { places = n; given = given; why = cause })) w rest → HasLeft limit m begun v (record { places = n; given = given; why = cause }) z
  left told = (let before = s.given_is in let few = s.few in let turn = one_turn per n in record {
    last = w;
    loads = s.loads + per;
    few = few_turns s.loads per per (per * begun) (per * n) (per * (n + 1)) few (omega arith) turn;
    going = then_on s.loads per v x w s.going going;
    rest = rest;
    free = t.free;
    stopped = t.at;
    within = subst (λ (k : ℕ). k ≤ length w.log) (sym t.at) t.within;
    given = before ∙ sym same;
    most = omega arith;
    full = ((λ e. absurd (omega arith)), (λ e. absurd (t.unlimited e)));
    why = t.why;
    seen = subst (λ (k : Key). SeenFits k w.log) (sym (goes_key per x w going)) (going.seen s.seen);
    fresh = going.fresh s.fresh;
    view = told;
  })
