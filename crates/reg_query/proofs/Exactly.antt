-- What the buckets of the plan list are the hits, each once.
use Rattle.std.proofs.Common.{◌≡◌, ℕ, zero, suc, ◌<◌, ◌≤◌, ◌==◌, nat_le, Bool, true, false, cond, take, List, [], ◌∷◌, ◌++◌, Option, None, Some, map, filter, length, get_or, AllPairs, Contains, refl, sym, ap, ◌∙◌, subst, arith}
use Rattle.std.specs.Prelude.{IsPermutation, IsSorted}
use Rattle.std.proofs.Math.Nat.{mod-lt}
use Rattle.std.proofs.lemmas.Nat.{pow_pos}
use Rattle.std.proofs.lemmas.Bool.{and_parts, leb-true}
use Rattle.std.proofs.lemmas.List.Elements.{All-contains}
use Rattle.std.proofs.lemmas.List.Sorted.{IsPermutation-trans}
use Rattle.iscc_header.specs.Bits.{distance}
use Rattle.iscc_header.specs.declared.unit.Unit64.{Unit64}
use Rattle.mih_plan.specs.declared.probe.Probe.{Probe}
use Rattle.mih_plan.specs.Buckets.{bucket_of, is_probe, probe, plan}
use Rattle.mih_plan.proofs.Sharing.{both_meet, in_plan, in_table}
use Rattle.mih_plan.proofs.Ordered.{of_plan}
use Rattle.reg_model.specs.Opening.{IsRising}
use Rattle.reg_model.specs.Replies.{AreHits, is_near, hit_of, code_cmp}
use Rattle.reg_model.specs.declared.call.Call.TheVariants as calls
use Rattle.reg_model.specs.declared.reply.Reply.TheVariants as replies
use Rattle.reg_model.specs.declared.update.Declared.{Declared}
use Rattle.reg_model.specs.declared.reply.Hit.{Hit}
use Rattle.reg_model.proofs.Rising.{live_rising}
use Rattle.reg_model.proofs.SortedHits.{one_list}
use Rattle.reg_rule.specs.declared.told.Told.TheVariants.{Hits as HitsOf}
use Rattle.reg_rule.specs.declared.view.View.{View}
use Rattle.reg_rule.specs.Steps.{PinStored}
use Rattle.reg_rule.specs.Moves.{log_at, live_list_at, standing, point_or, grown, next_row, pin_kept, TellsHits}
use Rattle.reg_query.specs.declared.query.Query.{Query}
use Rattle.reg_query.specs.Snapshots.{IsOpenAt}
use Rattle.reg_query.specs.Queries.{Walk, walked_by, AreWalks, Answered, cost_of}
use Rattle.reg_query.specs.inner.Listing.{Lists, Apart, IsListedBy, ListedBy}
use Rattle.reg_query.specs.inner.Walks.{Lives, IsAskedAt, Walked, PlanListed}
use Rattle.reg_query.proofs.Looking.{some_is}
use Rattle.reg_query.proofs.Members.{IsSet, of_filtered, to_filtered, of_mapped, to_mapped, same_members, to_live, of_live}

-- ---- what is near is listed

-- the least number that passes a test
least : (test : ℕ → Bool) (n : ℕ) → test n ≡ true → (m : ℕ) × (m ≤ n) × (test m ≡ true) × ((t : ℕ) → t < m → test t ≡ false)
least test zero passes = (0, omega arith, passes, λ t low. absurd (omega (arith, low)))
least test (suc n) passes = by (test 0) refl (least (λ t. test (suc t)) n passes) where
  below : test 0 ≡ false → (m : ℕ) → ((t : ℕ) → t < m → test (suc t) ≡ false) → (t : ℕ) → t < suc m → test t ≡ false
  below is m rest zero low = is
  below is m rest (suc t) low = rest t (omega (arith, low))

  by : (b : Bool) → test 0 ≡ b → ((m : ℕ) × (m ≤ n) × (test (suc m) ≡ true) × ((t : ℕ) → t < m → test (suc t) ≡ false)) → (m : ℕ) × (m ≤ suc n) × (test m ≡ true) × ((t : ℕ) → t < m → test t ≡ false)
  by true is r = (0, omega arith, is, λ t low. absurd (omega (arith, low)))
  by false is r = (suc r.0, (let a = r.1 in omega arith), r.2, below is r.0 r.3)

-- the first probe of the plan that has the body's bucket
pub some_lists : (q : Query) (d : Declared) → q.bits ≤ 16 → is_near q.unit q.radius d ≡ true → (p : Probe) × Contains (plan q.unit.body q.radius q.bits) p × Lists q p d
some_lists q d few near =
    let away = leb-true (distance q.unit.body d.unit.body) q.radius (and_parts (d.unit.kind == q.unit.kind) (nat_le (distance q.unit.body d.unit.body) q.radius) near).1 in
    let meets = (both_meet q.unit.body d.unit.body q.radius q.bits few away).0 in
    let bucket = λ (t : ℕ). bucket_of d.unit.body t q.bits in
    let found = least (λ (t : ℕ). is_probe q.unit.body q.radius q.bits t (bucket_of d.unit.body t q.bits)) meets.0 (of_plan q.unit.body q.radius q.bits (probe meets.0 (bucket meets.0)) meets.2).2 in
    let low : found.0 < 4 = (let a = found.1 in let b = meets.1 in omega arith) in (
      probe found.0 (bucket found.0),
      in_plan q.unit.body q.radius q.bits found.0 (probe found.0 (bucket found.0)) low (in_table q.unit.body q.radius q.bits found.0 (bucket found.0) (mod-lt _ (pow_pos q.bits)) found.2),
      record { near = near; body = record { here = refl; first = found.3 } },
    )

-- ---- each stands once

set_of_hits : (hits : List Hit) → AllPairs Apart hits → IsSet hits
set_of_hits [] apart = tt
set_of_hits (hit ∷ hits) apart = (
  (λ m. apart 0 (suc m.0) hit (omega arith) (let l = m.1 in omega arith) (ap (λ (h : Hit). h.id) (sym m.2))),
  set_of_hits hits (λ i j d less low. apart (suc i) (suc j) d (omega (arith, less)) (omega (arith, low))),
)

set_of_found : (unit : Unit64) (radius : ℕ) (list : List Declared) → IsRising list → IsSet (map (hit_of unit) (filter (is_near unit radius) list))
set_of_found unit radius [] rising = tt
set_of_found unit radius (d ∷ ds) rising = by (is_near unit radius d) (set_of_found unit radius ds (λ i j e less low. rising (suc i) (suc j) e (omega (arith, less)) (omega (arith, low)))) where
  new : Contains (map (hit_of unit) (filter (is_near unit radius) ds)) (hit_of unit d) → ⊥
  new m =
      let a = of_mapped (hit_of unit) (filter (is_near unit radius) ds) (hit_of unit d) m in
      let b = of_filtered (is_near unit radius) ds a.0 a.1 in
      let above : d.id < (get_or ds b.0.0 a.0).id = rising 0 (suc b.0.0) a.0 (omega arith) (let l = b.0.1 in omega arith) in
      let is = ap (λ (e : Declared). e.id) b.0.2 in let same : d.id ≡ a.0.id = ap (λ (h : Hit). h.id) a.2 in omega arith

  by : (b : Bool) → IsSet (map (hit_of unit) (filter (is_near unit radius) ds)) → IsSet (map (hit_of unit) (cond {A = List Declared} b (d ∷ filter (is_near unit radius) ds) (filter (is_near unit radius) ds)))
  by true rest = (new, rest)
  by false rest = rest

-- ---- the hits

pub all_hits : (q : Query) (v : View) (hits : List Hit) → IsAskedAt q v → ListedBy q (Lives v q.places) (plan q.unit.body q.radius q.bits) hits
    → IsPermutation (map (hit_of q.unit) (filter (is_near q.unit q.radius) (live_list_at v q.places))) hits
all_hits q v hits asked l = same_members (map (hit_of q.unit) (filter (is_near q.unit q.radius) list)) hits
    (set_of_found q.unit q.radius list (live_rising v.key.carried (log_at v q.places) asked.opening))
    (set_of_hits hits l.once)
    (λ z m.
    let a = of_mapped (hit_of q.unit) (filter (is_near q.unit q.radius) list) z m in
    let b = of_filtered (is_near q.unit q.radius) list a.0 a.1 in
    let c = of_live v.key.carried (take q.places v.log) a.0 b.0 in
    let p = some_lists q a.0 asked.most b.1 in
    subst (Contains hits) (sym a.2) (l.whole p.0 a.0 c.0 p.1 c.1 p.2))
    (λ z m.
    let s = All-contains (IsListedBy q (Lives v q.places) (plan q.unit.body q.radius q.bits)) hits z l.sound m in
    subst (Contains (map (hit_of q.unit) (filter (is_near q.unit q.radius) list))) (sym s.hit_is)
    (to_mapped (hit_of q.unit) (filter (is_near q.unit q.radius) list) s.declared
    (to_filtered (is_near q.unit q.radius) list s.declared (to_live v.key.carried (take q.places v.log) s.declared s.entry s.holds) s.lists.near))) where
      list : List Declared
      list = live_list_at v q.places

-- ---- the last step

module _ (q : Query) (v : View) (asked : IsAskedAt q v) (unit : Unit64) (radius looked : ℕ) (same_unit : q.unit ≡ unit) (same_radius : q.radius ≡ radius) (m : Walk) (hits sorted : List Hit)
    (perm : IsPermutation hits sorted) (order : IsSorted code_cmp sorted) (l : ListedBy q (Lives v q.places) (plan q.unit.body q.radius q.bits) hits) where
  are_hits : AreHits (live_list_at v q.places) unit radius sorted
  are_hits = record {
    exactly = IsPermutation-trans (map (hit_of unit) (filter (is_near unit radius) (live_list_at v q.places))) hits sorted
        (subst (λ (x : Unit64). IsPermutation (map (hit_of x) (filter (is_near x radius) (live_list_at v q.places))) hits) same_unit
        (subst (λ (r : ℕ). IsPermutation (map (hit_of q.unit) (filter (is_near q.unit r) (live_list_at v q.places))) hits) same_radius (all_hits q v hits asked l))) perm;
    order = order;
  }

  module _ (w : View) (pin : ℕ) (same_pin : pin ≡ v.pin) (stored : PinStored (HitsOf unit radius looked) pin (walked_by v m) w) where
    told : TellsHits (HitsOf unit radius looked) (pin_kept (walked_by v m)) w
    told = let p = asked.opens.pinned in stored.keeps (λ none. omega (arith, p, none)) (λ none. omega (arith, p, none, same_pin))

    at_snapshot : standing v ≡ q.places
    at_snapshot = ap (λ (s : Option ℕ). point_or s (point_or v.front (length v.log))) asked.opens.snapshot

    told_hits : AreHits (live_list_at v q.places) unit radius told.0
    told_hits = subst (λ (n : ℕ). AreHits (live_list_at v n) unit radius told.0) at_snapshot told.1

    same_hits : told.0 ≡ sorted
    same_hits = one_list (live_list_at v q.places) unit radius told.0 sorted told_hits are_hits

    abbrev answered_view : View
    answered_view = record (walked_by v m) {
      accounts = grown v.accounts (Some (next_row v (calls.Near unit radius) q.places (replies.Hits sorted)));
      costs = v.costs ++ cost_of unit radius looked ∷ [];
      made = (v.made ++ m.steps) ++ 17 ∷ [];
    }

    answered_is : w ≡ answered_view
    answered_is = told.2 ∙ (λ j. record (walked_by v m) {
      accounts = grown v.accounts (Some (next_row v (calls.Near unit radius) (at_snapshot j) (replies.Hits (same_hits j))));
      costs = v.costs ++ cost_of unit radius looked ∷ [];
      made = (v.made ++ m.steps) ++ 17 ∷ [];
    })

    answered_at : m.cursor ≡ None → AreWalks unit radius v.key.sizes.bits looked m.steps → Answered v q.places unit radius sorted looked w
    answered_at ends steps = record {
      exactly = are_hits;
      walk = m;
      steps = steps;
      ends = ends;
      view = answered_is;
      opens = subst (λ (z : View). IsOpenAt z q.places) (sym answered_is) (record { snapshot = asked.opens.snapshot; pinned = asked.opens.pinned; helped = asked.opens.helped; inside = asked.opens.inside; within = asked.opens.within });
    }

-- the query is answered where its walks have brought the view to u
pub answered : (q : Query) (v u w : View) (k looked heads pin : ℕ) (unit : Unit64) (radius : ℕ) (hits sorted : List Hit) → IsAskedAt q v → v.snapshot ≡ Some k → q.unit ≡ unit → q.radius ≡ radius
    → Walked v looked heads u → heads ≤ length (plan q.unit.body q.radius q.bits) → PlanListed q v hits looked u → IsPermutation hits sorted → IsSorted code_cmp sorted
    → pin ≡ u.pin → PinStored (HitsOf unit radius looked) pin u w → Answered v k unit radius sorted looked w
answered q v u w k looked heads pin unit radius hits sorted asked at same_unit same_radius walked few listed perm order same_pin stored =
    subst (λ (n : ℕ). Answered v n unit radius sorted looked w) (some_is q.places k (sym asked.opens.snapshot ∙ at))
    (answered_at q v asked unit radius looked same_unit same_radius walked.walk hits sorted perm order listed.lists w pin (same_pin ∙ ap (λ (z : View). z.pin) walked.view)
    (subst (λ (z : View). PinStored (HitsOf unit radius looked) pin z w) walked.view stored)
    (ap (λ (z : View). z.cursor) (sym walked.view) ∙ listed.ends)
    (record {
      kinds = walked.kinds;
      looks = walked.looks_are;
      heads = (let a = walked.heads_are in let b = ap (λ (l : List Probe). length l) same_plan in omega arith);
    })) where
      same_plan : plan q.unit.body q.radius q.bits ≡ plan unit.body radius v.key.sizes.bits
      same_plan = λ j. plan (same_unit j).body (same_radius j) (asked.bits j)
