-- A take, turn by turn.
use Rattle.std.proofs.Common.{◌≡◌, ℕ, ◌+◌, ◌<◌, ◌≤◌, ◌==◌, Bool, cond, length, List, [], ◌∷◌, ◌++◌, append_assoc, count_by, take, All, refl, ap, ◌∙◌, subst, arith}
use Rattle.std.proofs.lemmas.List.Sums.{sum_by-append}
use Rattle.std.proofs.lemmas.List.Elements.{All-append, All-cons, All-nil}
use Rattle.reg_model.specs.Live.{declarations, withdrawals}
use Rattle.reg_rule.specs.declared.view.Key.{Key}
use Rattle.reg_rule.specs.declared.view.Place.{Place}
use Rattle.reg_rule.specs.declared.view.Taking.TheVariants.{Begun}
use Rattle.reg_rule.specs.declared.view.View.{View}
use Rattle.reg_rule.specs.Log.{updates}
use Rattle.reg_rule.specs.Moves.{with_step, took, missed, found_empty}
use Rattle.reg_rule.specs.Steps.{TakeLoaded, RingEmpty}
use Rattle.reg_commit.specs.Takes.{Took, FoundEmpty}
use Rattle.reg_commit.specs.inner.Turns.{most_taken, IsTaking}

abbrev IsRing : ℕ → Type 0
IsRing kind = (9 ≤ kind) × (kind ≤ 12)

count_append : (p : ℕ → Bool) (xs ys : List ℕ) → count_by p (xs ++ ys) ≡ count_by p xs + count_by p ys
count_append p xs ys = sum_by-append (λ (k : ℕ). cond {A = ℕ} (p k) 1 0) xs ys

-- a whole turn, and one that found the ring empty
turn : All IsRing (10 ∷ 11 ∷ 12 ∷ [])
turn = All-cons IsRing 10 (11 ∷ 12 ∷ []) (omega arith, omega arith) (All-cons IsRing 11 (12 ∷ []) (omega arith, omega arith) (All-cons IsRing 12 [] (omega arith, omega arith) (All-nil IsRing)))

look : All IsRing (10 ∷ [])
look = All-cons IsRing 10 [] (omega arith, omega arith) (All-nil IsRing)

made_turn : (made steps : List ℕ) → (((made ++ steps) ++ 10 ∷ []) ++ 11 ∷ []) ++ 12 ∷ [] ≡ made ++ (steps ++ 10 ∷ 11 ∷ 12 ∷ [])
made_turn made steps = simp append_assoc

pub take_begins : (v w : View) (found : ℕ) → TakeLoaded v found w → IsTaking v found w
take_begins v w found told = record {
  steps = 9 ∷ [];
  kinds = All-cons IsRing 9 [] (omega arith, omega arith) (All-nil IsRing);
  few = omega arith;
  most = told.most;
  view = told.view;
}

pub took_one : (v x w : View) (taken entry : ℕ) → IsTaking v taken x → (w ≡ took (with_step (with_step x 10) 11) entry) × (entry < x.key.entries) × (taken < most_taken x.key) → Took v entry w
took_one v x w taken entry s told =
    let key : x.key ≡ v.key = ap (λ (z : View). z.key) s.view in
    let low : taken < most_taken v.key = subst (λ (k : Key). taken < most_taken k) key told.2 in
    let made = made_turn v.made s.steps in let few = s.few in
    let steps = count_append (λ kind. kind == 12) s.steps (10 ∷ 11 ∷ 12 ∷ []) in
    record {
      inside = subst (λ (k : Key). entry < k.entries) key told.1;
      steps = s.steps ++ 10 ∷ 11 ∷ 12 ∷ [];
      are = record { kinds = All-append IsRing s.steps (10 ∷ 11 ∷ 12 ∷ []) s.kinds turn; few = omega arith };
      view = told.0 ∙ (ap (λ (z : View). took (with_step (with_step z 10) 11) entry) s.view ∙ (λ j. record (took v entry) { made = made j }));
    }

pub none_there : (v x w : View) (taken : ℕ) → IsTaking v taken x → RingEmpty taken x w → FoundEmpty v taken w
none_there v x w taken s told =
    let made = append_assoc v.made s.steps (10 ∷ []) in let few = s.few in let most = s.most in
    let steps = count_append (λ kind. kind == 12) s.steps (10 ∷ []) in
    let log : x.log ≡ v.log = ap (λ (z : View). z.log) s.view in
    record {
      front = told.front;
      seen = subst (λ (l : List Place). length l ≤ told.front) log told.seen;
      declared = subst (λ (l : List Place). declarations (updates l) ≤ taken) log told.declared;
      given = subst (λ (z : View). z.key.sizes.entries + withdrawals (updates (take z.stopped z.log)) ≤ taken + length z.key.carried.list) s.view told.given;
      steps = s.steps ++ 10 ∷ [];
      are = record { kinds = All-append IsRing s.steps (10 ∷ []) s.kinds look; few = omega arith };
      ends = (s.steps, refl);
      view = told.view ∙ (ap (λ (z : View). found_empty z taken told.front) s.view ∙ (λ j. record (found_empty v taken told.front) { made = made j }));
    }

pub lost_one : (v x w : View) (taken found : ℕ) → IsTaking v taken x → (w ≡ missed (with_step (with_step x 10) 11) found) × (taken < found) × (found ≤ most_taken x.key) → IsTaking v found w
lost_one v x w taken found s told =
    let key : x.key ≡ v.key = ap (λ (z : View). z.key) s.view in
    let made = made_turn v.made s.steps in let few = s.few in let more = told.1 in
    let steps = count_append (λ kind. kind == 12) s.steps (10 ∷ 11 ∷ 12 ∷ []) in
    record {
      steps = s.steps ++ 10 ∷ 11 ∷ 12 ∷ [];
      kinds = All-append IsRing s.steps (10 ∷ 11 ∷ 12 ∷ []) s.kinds turn;
      few = omega arith;
      most = subst (λ (k : Key). found ≤ most_taken k) key told.2;
      view = told.0 ∙ (ap (λ (z : View). missed (with_step (with_step z 10) 11) found) s.view ∙ (λ j. record v { taking = Begun found; made = made j }));
    }
