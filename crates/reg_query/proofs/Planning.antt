-- The buckets of a plan, one after the other.
use Rattle.std.proofs.Common.{zero, suc, nat_le, not, eq-eqb, Bool, false, cond, map, filter, Option, None, Some, IfNone, ◌≡◌, ℕ, ◌+◌, ◌*◌, ◌<◌, ◌≤◌, ◌^◌, inl, inr, ⊎_elim, true, List, [], ◌∷◌, ◌++◌, take, append_assoc, append-nil, length, length-append, get_or, All, AllPairs, Contains, refl, sym, ap, ◌∙◌, subst, arith}
use Rattle.std.proofs.lemmas.List.Elements.{All-append, All-weaker, Contains-append_left, Contains-append_right, Contains-get_or, Contains-push, All-head, All-tail, All-nil}
use Rattle.std.proofs.lemmas.Bool.{leb-true}
use Rattle.iscc_header.proofs.EachBelow.{each_below}
use Rattle.std.proofs.lemmas.List.{get_or_append_left, get_or_at}
use Rattle.std.proofs.lemmas.List.Kept.{AllPairs-cons}
use Rattle.mih_plan.proofs.Ordered.{of_plan, plan_in_order}
use Rattle.std.proofs.lemmas.List.Sums.{sum_by-append, sum_by-cons}
use Rattle.mih_plan.specs.declared.probe.Probe.{Probe}
use Rattle.std.specs.List.{range_with_len, zip}
use Rattle.iscc_header.specs.Bits.{distance, hamming_distance, bits_of, differs}
use Rattle.mih_plan.specs.Buckets.{plan, probe, bucket_of, table_probes, is_probe}
use Rattle.mih_plan.proofs.Sharing.{both_meet}
use Rattle.reg_rule.specs.Conditions.{IsAmong}
use Rattle.mih_plan.specs.Laws.{IsBefore}
use Rattle.reg_model.specs.declared.reply.Hit.{Hit}
use Rattle.reg_rule.specs.declared.told.Told.{Told}
use Rattle.reg_rule.specs.declared.view.Met.{Met}
use Rattle.reg_rule.specs.declared.view.View.{View}
use Rattle.reg_rule.specs.Log.{IsLiveIn}
use Rattle.reg_rule.specs.Conditions.{MetApart, looks_of}
use Rattle.reg_query.specs.declared.query.Query.{Query}
use Rattle.reg_query.specs.inner.Listing.{HoldsOnce, IsNextProbe, ListedBy}
use Rattle.reg_query.specs.inner.Walks.{Lives, IsAskedAt, Walked, IsMetBy, MetIn, MetBy, BucketListed, IsWalkingPlan, PlanListed}
use Rattle.reg_query.specs.Queries.{IsWalking}
use Rattle.reg_rule.specs.Moves.{kept_met}
use Rattle.reg_rule.specs.declared.told.Told.TheVariants.{Nothing, Begins}
use Rattle.reg_query.proofs.Places.{declares_once}
use Rattle.reg_query.proofs.Listed.{none_listed}
use Rattle.reg_query.proofs.Walking.{walked_more, asked_moves}

-- an id is live in one entry, with one unit
pub lives_once : (q : Query) (v : View) → IsAskedAt q v → HoldsOnce (Lives v q.places)
lives_once q v asked a b e f x y same =
    let z = subst (λ (i : ℕ). IsLiveIn v.key.carried (take q.places v.log) i a.unit e) same x in
    let h = declares_once v.key.carried (take q.places v.log) b.id e f a.unit b.unit asked.opening z.declares y.declares in
    (λ j. record { id = same j; unit = h.0 j }, h.1)

not_before_itself : (p : Probe) → IsBefore p p → ⊥
not_before_itself p b = ⊎_elim (λ (h : p.table < p.table). omega arith) (λ (h : (p.table ≡ p.table) × (p.bucket < p.bucket)). let l = h.1 in omega arith) b

-- the next probe of a plan is none of those before it
pub next_probe : (q : Query) (done rest : List Probe) (p : Probe) → plan q.unit.body q.radius q.bits ≡ done ++ p ∷ rest → IsNextProbe q done p
next_probe q done rest p whole = record {
  planned = λ r m. (of_plan q.unit.body q.radius q.bits r (subst (λ (l : List Probe). Contains l r) (sym whole) (Contains-append_left done (p ∷ rest) r m))).2;
  is = (of_plan q.unit.body q.radius q.bits p here).2;
  other = λ m.
      let all : AllPairs IsBefore (done ++ p ∷ rest) = subst (AllPairs IsBefore) whole (plan_in_order q.unit.body q.radius q.bits) in
      let b = all m.0 (length done) p m.1 (let a = length-append done (p ∷ rest) in omega arith) in
      not_before_itself p (subst (λ (x : Probe). IsBefore x p) (get_or_append_left done (p ∷ rest) p m.0 m.1 ∙ m.2) (subst (λ (x : Probe). IsBefore (get_or (done ++ p ∷ rest) m.0 p) x) (get_or_at done p rest p (length done) refl) b));
} where
  here : Contains (plan q.unit.body q.radius q.bits) p
  here = subst (λ (l : List Probe). Contains l p) (sym whole) (Contains-append_right done (p ∷ rest) p (Contains-get_or (p ∷ rest) 0 p (omega arith)))

-- ---- what was met

pairs_append : (xs ys : List Met) → AllPairs MetApart xs → AllPairs MetApart ys → All (λ (x : Met). All (MetApart x) ys) xs → AllPairs MetApart (xs ++ ys)
pairs_append [] ys a b c = b
pairs_append (x ∷ xs) ys a b c = AllPairs-cons MetApart x (xs ++ ys)
    (All-append (MetApart x) xs ys (λ k d low. a 0 (suc k) d (omega arith) (omega (arith, low))) (All-head (λ (z : Met). All (MetApart z) ys) x xs c))
    (pairs_append xs ys (λ i j d less low. a (suc i) (suc j) d (omega (arith, less)) (omega (arith, low))) b (All-tail (λ (z : Met). All (MetApart z) ys) x xs c))

abbrev FromProbe : List Probe → Met → Type 0
FromProbe done m = (r : Probe) × Contains done r × (r.table ≡ m.table) × (r.bucket ≡ m.bucket)

pub mets_more : (q : Query) (done : List Probe) (p : Probe) (mets after : List Met) (looks more : ℕ) (entries : List ℕ) → IsNextProbe q done p → MetBy done mets looks → MetIn p entries mets more after → MetBy (done ++ p ∷ []) after (looks + more)
mets_more q done p mets after looks more entries next a b = subst (λ (l : List Met). MetBy (done ++ p ∷ []) l (looks + more)) (sym b.met) (record {
  paid = (let x = sum_by-append (λ (m : Met). looks_of m.id) mets b.mets in let y = a.paid in let z = b.paid in omega arith);
  apart = pairs_append mets b.mets a.apart b.apart (λ k d low j e inside same.
      let from = a.by k d low in let of = b.by j e inside in
      next.other (subst (λ (r : Probe). Contains done r) (λ i. record { table = (from.2 ∙ (same.0 ∙ of.0)) i; bucket = (from.3 ∙ (same.1 ∙ of.1)) i }) from.1));
  by = All-append (FromProbe (done ++ p ∷ [])) mets b.mets
      (All-weaker (FromProbe done) (FromProbe (done ++ p ∷ [])) (λ m f. (f.0, Contains-append_left done (p ∷ []) f.0 f.1, f.2, f.3)) mets a.by)
      (All-weaker (IsMetBy p entries) (FromProbe (done ++ p ∷ [])) (λ m f. (p, Contains-push done p, sym f.0, sym f.1)) b.mets b.by);
})

-- ---- from one bucket to the next

pub starts_plan : (q : Query) (v : View) (rest : List Probe) (hits : List Hit) (looks : ℕ) → rest ≡ plan q.unit.body q.radius q.bits → hits ≡ [] → looks ≡ 0 → IsWalkingPlan q v rest Begins hits looks v
starts_plan q v rest hits looks all none first = record {
  done = [];
  whole = sym all;
  walked = record {
    walk = record { cursor = v.cursor; visited = v.visited; met = v.met; found = v.found; steps = [] };
    kinds = All-nil IsWalking;
    looks_are = sym first;
    heads_are = refl;
    view = λ j. record v { made = sym (append-nil v.made) j };
  };
  lists = subst (λ (l : List Hit). ListedBy q (Lives v q.places) [] l) (sym none) (none_listed q (Lives v q.places));
  met = record { paid = omega arith; apart = λ i j d less low. absurd (omega (arith, low)); by = All-nil _ };
  most = omega arith;
  tells = inl (refl, refl);
}

module _ (q : Query) (v : View) (asked : IsAskedAt q v) (p : Probe) (rest : List Probe) (told : Told) (hits : List Hit) (looks : ℕ) (x : View) (i : IsWalkingPlan q v (p ∷ rest) told hits looks x) where
  pub plan_next : IsNextProbe q i.done p
  plan_next = next_probe q i.done rest p i.whole

  pub plan_asked : IsAskedAt q x
  plan_asked = subst (IsAskedAt q) (sym i.walked.view) (asked_moves q v i.walked.walk asked)

  pub plan_probe : (p.table < 4) × (p.bucket < 2 ^ q.bits)
  plan_probe = let here = of_plan q.unit.body q.radius q.bits p (subst (λ (l : List Probe). Contains l p) (sym i.whole) (Contains-append_right i.done (p ∷ rest) p (Contains-get_or (p ∷ rest) 0 p (omega arith)))) in (here.0, here.1)

  pub heads_then : (more : ℕ) (y : View) → Walked x more 1 y → Walked v (looks + more) (length (i.done ++ p ∷ [])) y
  heads_then more y w = subst (λ (n : ℕ). Walked v (looks + more) n y) (sym (length-append i.done (p ∷ []))) (walked_more v x y looks (length i.done) more 1 i.walked w)

  pub heads_fit : length (i.done ++ p ∷ []) ≤ length (plan q.unit.body q.radius q.bits)
  heads_fit = let a = ap (λ (l : List Probe). length l) i.whole in let b = length-append i.done (p ∷ rest) in let c = length-append i.done (p ∷ []) in omega arith

  pub plan_goes_on : (after : List Hit) (more : ℕ) (y : View) → Walked x more 1 y → BucketListed q p told x hits after more y → IsWalkingPlan q v rest Nothing after (looks + more) y
  plan_goes_on after more y w b = record {
    done = i.done ++ p ∷ [];
    whole = i.whole ∙ sym (append_assoc i.done (p ∷ []) rest);
    walked = heads_then more y w;
    lists = subst (λ (z : View). ListedBy q (Lives z q.places) (i.done ++ p ∷ []) after) i.walked.view
        (b.lists i.done (lives_once q x plan_asked) plan_next (subst (λ (z : View). ListedBy q (Lives z q.places) i.done hits) (sym i.walked.view) i.lists));
    met = mets_more q i.done p (kept_met told x.met) y.met looks more b.entries plan_next i.met b.met;
    most = (let a = length-append i.done (p ∷ []) in let c = b.few in let d = b.met.most in let e = i.most in let f = asked.entries in let g = ap (λ (z : View). z.key.entries) w.view in let h = ap (λ (z : View). z.key.entries) i.walked.view in omega arith);
    tells = inr (refl, b.ends);
  }

-- ---- at the end

passing_short : (test : ℕ → Bool) (table a n : ℕ) → length (map (probe table) (filter test (range_with_len a n))) ≤ n
passing_short test table a zero = omega arith
passing_short test table a (suc n) = by (test a) (passing_short test table (a + 1) n) where
  by : (b : Bool) → length (map (probe table) (filter test (range_with_len (a + 1) n))) ≤ n → length (map (probe table) (cond {A = List ℕ} b (a ∷ filter test (range_with_len (a + 1) n)) (filter test (range_with_len (a + 1) n)))) ≤ suc n
  by true h = omega arith
  by false h = omega arith

pub length_plan : (body radius bits : ℕ) → length (plan body radius bits) ≤ 4 * 2 ^ bits
unfolding plan
length_plan body radius bits =
    let a = passing_short (is_probe body radius bits 0) 0 0 (2 ^ bits) in let b = passing_short (is_probe body radius bits 1) 1 0 (2 ^ bits) in
    let c = passing_short (is_probe body radius bits 2) 2 0 (2 ^ bits) in let d = passing_short (is_probe body radius bits 3) 3 0 (2 ^ bits) in
    let x = length-append (table_probes body radius bits 0) (table_probes body radius bits 1 ++ (table_probes body radius bits 2 ++ (table_probes body radius bits 3 ++ []))) in
    let y = length-append (table_probes body radius bits 1) (table_probes body radius bits 2 ++ (table_probes body radius bits 3 ++ [])) in
    let z = length-append (table_probes body radius bits 2) (table_probes body radius bits 3 ++ []) in let t = length-append (table_probes body radius bits 3) [] in omega arith

small_power : (bits : ℕ) → bits ≤ 16 → 2 ^ bits ≤ 65536
small_power bits low = leb-true (2 ^ bits) 65536 (each_below 17 (λ (n : ℕ). nat_le (2 ^ n) 65536) refl bits (omega arith))

-- the looks are few
pub plan_room : (q : Query) (v : View) → IsAskedAt q v → (rest : List Probe) (told : Told) (hits : List Hit) (looks : ℕ) (x : View) → IsWalkingPlan q v rest told hits looks x → looks + 2 * x.key.entries < 2 ^ 64
plan_room q v asked rest told hits looks x i =
    let a = ap (λ (l : List Probe). length l) i.whole in let b = length-append i.done rest in let c = length_plan q.unit.body q.radius q.bits in let d = small_power q.bits asked.most in
    let e = i.most in let f = asked.entries in let g = ap (λ (z : View). z.key.entries) i.walked.view in omega arith

hamming_self : (l : List ℕ) → hamming_distance l l ≡ 0
hamming_self [] = refl
hamming_self (x ∷ xs) = let e = sum_by-cons (λ (b : ℕ × ℕ). cond {A = ℕ} (differs b) 1 0) (x, x) (zip xs xs) in let h = ap (λ (b : Bool). cond {A = ℕ} (not b) 1 0) (eq-eqb x x refl) in let r = hamming_self xs in omega arith

pub distance_self : (a : ℕ) → distance a a ≡ 0
unfolding distance
distance_self a = hamming_self (bits_of 64 a)

-- a plan has a probe
pub plan_some : (body radius bits : ℕ) → bits ≤ 16 → distance body body ≤ radius → plan body radius bits ≡ [] → ⊥
plan_some body radius bits low near none = let m = (both_meet body body radius bits low near).0 in let c = subst (λ (l : List Probe). Contains l (probe m.0 (bucket_of body m.0 bits))) none m.2 in omega (arith, c.1)

among : (l : List Probe) (k : ℕ) (p : Probe) → k < length l → get_or l k p ≡ p → IsAmong p l
among [] k p low is = absurd (omega (arith, low))
among (x ∷ l) zero p low is = inl (sym is)
among (x ∷ l) (suc k) p low is = inr (among l k p (omega (arith, low)) is)

pub plan_ends : (q : Query) (v : View) (asked : IsAskedAt q v) → distance q.unit.body q.unit.body ≤ q.radius → (o : Option Probe) → ((p : Probe) → o ≡ Some p → ⊥) → (rest : List Probe) → IfNone o (rest ≡ []) → (told : Told) (hits : List Hit) (looks : ℕ) (w : View)
    → IsWalkingPlan q v rest told hits looks w → PlanListed q v hits looks w
plan_ends q v asked near (Some p) not_some rest none told hits looks w i = absurd (not_some p refl)
plan_ends q v asked near None not_some rest none told hits looks w i = ⊎_elim
    (λ (h : (told ≡ Begins) × (i.done ≡ [])). absurd (plan_some q.unit.body q.radius q.bits asked.most near (all ∙ h.1)))
    (λ (h : (told ≡ Nothing) × (w.cursor ≡ None)).
    let met = subst (λ (t : Told). MetBy i.done (kept_met t w.met) looks) h.0 i.met in
    record {
      ends = h.1;
      paid = record {
        looks = met.paid;
        once = met.apart;
        probes = All-weaker (FromProbe i.done) (λ (m : Met). (p : Probe) × IsAmong p (plan q.unit.body q.radius w.key.sizes.bits) × (p.table ≡ m.table) × (p.bucket ≡ m.bucket))
            (λ m f. (f.0, subst (λ (l : List Probe). IsAmong f.0 l) (sym all ∙ ap (plan q.unit.body q.radius) bits) (let c = f.1 in among i.done c.0 f.0 c.1 c.2), f.2, f.3)) w.met met.by;
      };
      lists = subst (λ (l : List Probe). ListedBy q (Lives v q.places) l hits) (sym all) i.lists;
    }) i.tells where
      all : plan q.unit.body q.radius q.bits ≡ i.done
      all = i.whole ∙ (ap (λ (l : List Probe). i.done ++ l) none ∙ append-nil i.done)

      bits : q.bits ≡ w.key.sizes.bits
      bits = asked.bits ∙ sym (ap (λ (z : View). z.key.sizes.bits) i.walked.view)
