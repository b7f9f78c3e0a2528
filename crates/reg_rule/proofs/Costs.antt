-- The looks of a query are at most two for each candidate, and one for each entry in a hand in each table.
use Rattle.std.proofs.Common.{◌≡◌, ℕ, zero, suc, ◌+◌, ◌*◌, ◌<◌, ◌≤◌, ◌==◌, ◌&&◌, inl, inr, ⊎_elim, List, [], ◌∷◌, ◌++◌, map, length, length-append, slice_index_or, AllPairs, sum_by, count_by, cond, Bool, true, false, true≢false, Option, Some, None, sym, refl, ap, ◌∙◌, subst, eq-eqb, tests, arith}
use Rattle.std.proofs.lemmas.List.Sums.{sum_by-append}
use mathlib.Core.Option.{some, some-injective, some-ne-none}
use lib.ListN.{get_elem?}
use Rattle.iscc_header.specs.declared.unit.Unit64.{Unit64}
use Rattle.mih_plan.specs.declared.probe.Probe.{Probe}
use Rattle.mih_plan.specs.Buckets.{bucket_of}
use Rattle.reg_model.specs.Opening.{Opening, IsOpening}
use Rattle.reg_model.specs.Live.{declared, declared_from}
use Rattle.reg_model.specs.declared.update.Declared.{Declared}
use Rattle.reg_model.specs.declared.update.Update.{Update}
use Rattle.reg_model.specs.declared.update.Update.TheVariants.{Decl, Wd}
use Rattle.reg_rule.specs.declared.view.Key.{Key}
use Rattle.reg_rule.specs.declared.view.Place.{Place}
use Rattle.reg_rule.specs.declared.view.Hand.{Hand}
use Rattle.reg_rule.specs.declared.view.Met.{Met}
use Rattle.reg_rule.specs.declared.view.View.{View}
use Rattle.reg_rule.specs.Log.{At, place_of, updates, IsDecl, Declares}
use Rattle.reg_rule.specs.inner.World.{Use, free, in_hand, holds}
use Rattle.reg_rule.specs.inner.SeatParts.{total, InHands}
use Rattle.reg_rule.specs.inner.Entries.{UsesPart, CodesPart}
use Rattle.reg_rule.specs.inner.Queries.{MetFits}
use Rattle.reg_rule.specs.Conditions.{looks_of, MetApart, IsAmong}
use Rattle.atomic_table.proofs.Lists.{at_longer}
use Rattle.reg_rule.proofs.Held.{at_nth}
use Rattle.reg_rule.proofs.Once.{declares_once}
use Rattle.reg_rule.proofs.Renumber.{at_right, at_joined}
use Rattle.reg_rule.proofs.Variants.{free_hand, not_free}

-- ---- sums over lists

pub sum_cons : {A : Type 0} (f : A → ℕ) (x : A) (l : List A) → sum_by f (x ∷ l) ≡ f x + sum_by f l
sum_cons f x l = let h : sum_by f ((x ∷ []) ++ l) ≡ (0 + f x) + sum_by f l = sum_by-append f (x ∷ []) l in omega arith

pub sum_le : {A : Type 0} (f g : A → ℕ) (l : List A) → ((i : ℕ) (x : A) → At l i x → f x ≤ g x) → sum_by f l ≤ sum_by g l
sum_le f g [] h = omega arith
sum_le f g (x ∷ l) h = let a = h 0 x refl in let b = sum_le f g l (λ i y e. h (suc i) y e) in let c = sum_cons f x l in let d = sum_cons g x l in omega arith

pub sum_add : {A : Type 0} (f g : A → ℕ) (l : List A) → sum_by (λ x. f x + g x) l ≡ sum_by f l + sum_by g l
sum_add f g [] = omega arith
sum_add f g (x ∷ l) = let a = sum_add f g l in let b = sum_cons f x l in let c = sum_cons g x l in let d = sum_cons (λ y. f y + g y) x l in omega arith

sum_zero : {A : Type 0} (l : List A) → sum_by (λ x. 0) l ≡ 0
sum_zero [] = refl
sum_zero {A} (x ∷ l) = let a = sum_zero l in let b = sum_cons {A = A} (λ y. 0) x l in omega arith

pub sum_swap : {A B : Type 0} (f : A → B → ℕ) (l : List A) (m : List B) → sum_by (λ x. sum_by (f x) m) l ≡ sum_by (λ y. sum_by (λ x. f x y) l) m
sum_swap {A} {B} f [] m = sym (sum_zero {A = B} m)
sum_swap {A} {B} f (x ∷ l) m = let a = sum_cons (λ z. sum_by (f z) m) x l in let b = sum_swap f l m in
    let c = sum_add (f x) (λ y. sum_by (λ z. f z y) l) m in
    let d : sum_by (λ y. sum_by (λ z. f z y) (x ∷ l)) m ≤ sum_by (λ y. f x y + sum_by (λ z. f z y) l) m = sum_le _ _ m (λ i y e. let h = sum_cons (λ z. f z y) x l in omega arith) in
    let g : sum_by (λ y. f x y + sum_by (λ z. f z y) l) m ≤ sum_by (λ y. sum_by (λ z. f z y) (x ∷ l)) m = sum_le _ _ m (λ i y e. let h = sum_cons (λ z. f z y) x l in omega arith) in omega arith

abbrev one : Bool → ℕ
one b = cond b 1 0

pub sum_some : {A : Type 0} (f : A → ℕ) (l : List A) (i : ℕ) (x : A) → At l i x → f x ≤ sum_by f l
sum_some f [] i x e = absurd (some-ne-none x (sym e))
sum_some f (y ∷ l) zero x e = let a = sum_cons f y l in let b = ap f (some-injective y x e) in omega arith
sum_some f (y ∷ l) (suc i) x e = let a = sum_cons f y l in let b = sum_some f l i x e in omega arith

-- a test that passes at one place alone
pub sum_once : {A : Type 0} (q : A → Bool) (l : List A) → ((i j : ℕ) (x y : A) → i < j → At l i x → At l j y → q x ≡ true → q y ≡ true → ⊥) → sum_by (λ x. one (q x)) l ≤ 1
sum_once q [] h = omega arith
sum_once {A} q (x ∷ l) h = by_test (q x) refl (sum_once q l (λ i j y z less e g p r. h (suc i) (suc j) y z (omega arith) e g p r)) where
  none_else : q x ≡ true → sum_by (λ y. one (q y)) l ≤ sum_by {X = A} (λ y. 0) l
  none_else is = sum_le _ _ l (λ i y e. zero_at (q y) (λ passes. h 0 (suc i) x y (omega arith) refl e is passes)) where
    zero_at : (b : Bool) → (b ≡ true → ⊥) → one b ≤ 0
    zero_at true n = absurd (n refl)
    zero_at false n = omega arith

  by_test : (b : Bool) → q x ≡ b → sum_by (λ y. one (q y)) l ≤ 1 → sum_by (λ y. one (q y)) (x ∷ l) ≤ 1
  by_test true is c' = let a = sum_cons (λ y. one (q y)) x l in let b : one (q x) ≡ 1 = ap one is in let c = none_else is in let d = sum_zero {A = A} l in omega arith
  by_test false is c = let a = sum_cons (λ y. one (q y)) x l in let b : one (q x) ≡ 0 = ap one is in omega arith

-- ---- what is declared, as a list

pub from_log : (log : List Place) (base j : ℕ) (d : Declared) → At (declared_from base (updates log)) j d → (n : ℕ) × (entry : ℕ) × (d.id ≡ base + n) × IsDecl log n d.unit entry
from_log [] base j d e = absurd (some-ne-none d (sym e))
from_log (p ∷ log) base j d e = by_update p.update refl j (subst (λ (u : Update). At (declared_from base (u ∷ updates log)) j d) refl e) (λ i h. from_log log (base + 1) i d h) where
  by_update : (u : Update) → p.update ≡ u → (j : ℕ) → At (declared_from base (u ∷ updates log)) j d → ((i : ℕ) → At (declared_from (base + 1) (updates log)) i d → (n : ℕ) × (entry : ℕ) × (d.id ≡ base + 1 + n) × IsDecl log n d.unit entry)
      → (n : ℕ) × (entry : ℕ) × (d.id ≡ base + n) × IsDecl (p ∷ log) n d.unit entry
  by_update (Decl unit) is zero h rest = let same = some-injective _ d h in (0, p.entry, (let a : d.id ≡ base = ap (λ (x : Declared). x.id) (sym same) in omega arith), ap (λ (u : Update). some (place_of u p.entry)) (is ∙ ap (λ (x : Declared). Decl x.unit) same))
  by_update (Decl unit) is (suc j) h rest = let r = rest j h in (suc r.0, r.1, (let a = r.2 in omega arith), r.3)
  by_update (Wd id) is j h rest = let r = rest j h in (suc r.0, r.1, (let a = r.2 in omega arith), r.3)

pub in_log : (log : List Place) (base n entry : ℕ) (unit : Unit64) → IsDecl log n unit entry → (j : ℕ) × At (declared_from base (updates log)) j (record { id = base + n; unit = unit })
in_log [] base n entry unit e = absurd (some-ne-none _ (sym e))
in_log (p ∷ log) base zero entry unit e = let same : p ≡ place_of (Decl unit) entry = some-injective p _ e in
    (0, subst (λ (u : Update). At (declared_from base (u ∷ updates log)) 0 (record { id = base + 0; unit = unit })) (sym (ap (λ (q : Place). q.update) same)) (let z : base ≡ base + 0 = omega arith in ap (λ (i : ℕ). some (let x : Declared = record { id = i; unit = unit } in x)) z))
in_log (p ∷ log) base (suc n) entry unit e = let r = in_log log (base + 1) n entry unit e in by_update p.update (r.0, (let z : base + 1 + n ≡ base + suc n = omega arith in subst (λ (i : ℕ). At (declared_from (base + 1) (updates log)) r.0 (record { id = i; unit = unit })) z r.1)) where
  by_update : (u : Update) → ((j : ℕ) × At (declared_from (base + 1) (updates log)) j (record { id = base + suc n; unit = unit })) → (j : ℕ) × At (declared_from base (u ∷ updates log)) j (record { id = base + suc n; unit = unit })
  by_update (Decl other) r = (suc r.0, r.1)
  by_update (Wd id) r = r

pub listed : (o : Opening) (log : List Place) (id entry : ℕ) (unit : Unit64) → Declares o log id unit entry → (j : ℕ) × At (declared o (updates log)) j (record { id = id; unit = unit })
listed o log id entry unit dec = ⊎_elim
    (λ (c : At o.list entry (record { id = id; unit = unit })). (entry, at_longer o.list _ entry _ c))
    (λ (t : (n : ℕ) × (id ≡ o.base + n) × IsDecl log n unit entry). let r = in_log log o.base t.0 entry unit t.2 in
    (length o.list + r.0, at_right o.list _ r.0 _ (subst (λ (i : ℕ). At (declared_from o.base (updates log)) r.0 (record { id = i; unit = unit })) (sym t.1) r.1))) dec

pub of_list : (o : Opening) (log : List Place) (j : ℕ) (d : Declared) → At (declared o (updates log)) j d → (entry : ℕ) × Declares o log d.id d.unit entry
of_list o log j d e = at_joined (λ i (x : Declared). (entry : ℕ) × Declares o log x.id x.unit entry) o.list (declared_from o.base (updates log))
    (λ i x h. (i, inl h)) (λ i x h. let r = from_log log o.base i x h in (r.1, inr (r.0, r.2, r.3))) j d e

-- ---- the entries in hands, as a list

pub entries_in : List View → List ℕ
entries_in [] = []
entries_in (v ∷ views) = map (λ (h : Hand). h.entry) v.hands ++ entries_in views

pub length_entries : (views : List View) → length (entries_in views) ≡ total (λ v. length v.hands) views
unfolding entries_in
length_entries [] = refl
length_entries (v ∷ views) = let a = length-append (map (λ (h : Hand). h.entry) v.hands) (entries_in views) in let b = length_entries views in let c = length_map v.hands in omega arith where
  length_map : (l : List Hand) → length (map (λ (h : Hand). h.entry) l) ≡ length l
  length_map [] = refl
  length_map (x ∷ l) = ap suc (length_map l)

pub entry_in : (views : List View) (id i : ℕ) (v : View) (h : Hand) → get_elem? views id ≡ some v → At v.hands i h → (j : ℕ) × At (entries_in views) j h.entry
unfolding entries_in
entry_in [] id i v h e at = absurd (some-ne-none v (sym e))
entry_in (x ∷ views) zero i v h e at = (i, at_longer (map (λ (h : Hand). h.entry) x.hands) (entries_in views) i h.entry (in_map x.hands i (subst (λ (u : View). At u.hands i h) (sym (some-injective x v e)) at))) where
  in_map : (l : List Hand) (i : ℕ) → At l i h → At (map (λ (h : Hand). h.entry) l) i h.entry
  in_map [] i z = absurd (some-ne-none h (sym z))
  in_map (y ∷ l) zero z = ap (λ (g : Hand). some g.entry) (some-injective y h z)
  in_map (y ∷ l) (suc i) z = in_map l i z
entry_in (x ∷ views) (suc id) i v h e at = let r = entry_in views id i v h e at in (length (map (λ (h : Hand). h.entry) x.hands) + r.0, at_right (map (λ (h : Hand). h.entry) x.hands) (entries_in views) r.0 h.entry r.1)

-- ---- the bound

abbrev named_of : Option ℕ → Use → Option ℕ
named_of (Some id) u = Some id
named_of None (holds id) = Some id
named_of None (free j) = None
named_of None (in_hand seat i) = None

abbrev is_id : Option ℕ → ℕ → Bool
is_id None n = false
is_id (Some id) n = id == n

abbrev is_none_of : Option ℕ → Bool
is_none_of None = true
is_none_of (Some id) = false

abbrev four : List ℕ
four = 0 ∷ 1 ∷ 2 ∷ 3 ∷ []

both_true : (a b : Bool) → a ≡ true → b ≡ true → (a && b) ≡ true
both_true a b p q = ap (λ (x : Bool). x && b) p ∙ q

left_true : (a b : Bool) → (a && b) ≡ true → a ≡ true
left_true true b h = refl
left_true false b h = absurd (true≢false (sym h))

right_true : (a b : Bool) → (a && b) ≡ true → b ≡ true
right_true true b h = h
right_true false b h = absurd (true≢false (sym h))

same_of : (a b : ℕ) → (a == b) ≡ true → a ≡ b
same_of a b h = search (tests, h)

named_id : (o : Option ℕ) (n : ℕ) → is_id o n ≡ true → o ≡ Some n
named_id None n h = absurd (true≢false (sym h))
named_id (Some id) n h = ap Some (same_of id n h)

among : (p : Probe) (l : List Probe) → IsAmong p l → (j : ℕ) × At l j p
among p [] h = absurd h
among p (q ∷ l) h = ⊎_elim (λ e. (0, ap some (sym e))) (λ m. let r = among p l m in (suc r.0, r.1)) h

table_in : (t : ℕ) → t < 4 → (j : ℕ) × At four j t
table_in zero h = (0, refl)
table_in (suc zero) h = (1, refl)
table_in (suc (suc zero)) h = (2, refl)
table_in (suc (suc (suc zero))) h = (3, refl)
table_in (suc (suc (suc (suc t)))) h = absurd (omega arith)

pub sum_const : {A : Type 0} (c : ℕ) (l : List A) → sum_by (λ x. c) l ≡ length l * c
sum_const c [] = omega arith
sum_const {A} c (x ∷ l) = let a = sum_const {A = A} c l in let b = sum_cons {A = A} (λ y. c) x l in let d : length (x ∷ l) * c ≡ length l * c + c = grind arith in omega arith

module _ (key : Key) (codes : ℕ → ℕ) (log : List Place) (returned : ℕ) (uses : ℕ → Use) (linked : ℕ → ℕ → Bool) (views : List View) (met : List Met) (probes : List Probe) (k : ℕ)
    (ok : IsOpening key.carried) (use_part : UsesPart key log returned uses) (code_part : CodesPart key codes log uses) (in_hands : InHands uses views)
    (fits : (i : ℕ) (m : Met) → At met i m → MetFits key codes log uses linked k m)
    (apart : AllPairs MetApart met)
    (probed : (i : ℕ) (m : Met) → At met i m → (p : Probe) × IsAmong p probes × (p.table ≡ m.table) × (p.bucket ≡ m.bucket)) where
  abbrev all_declared : List Declared
  all_declared = declared key.carried (updates log)

  abbrev found_id : Met → Option ℕ
  found_id m = named_of m.id (uses m.entry)

  abbrev covers : Met → Probe → Declared → Bool
  covers m p d = (p.table == m.table) && ((p.bucket == m.bucket) && is_id (found_id m) d.id)

  abbrev in_table : Met → ℕ → ℕ → Bool
  in_table m t e = (t == m.table) && ((e == m.entry) && is_none_of (found_id m))

  -- what was met is declared, or in a hand
  abbrev Is : Met → ℕ → Type 0
  Is m id = (unit : Unit64) × Declares key.carried log id unit m.entry × (bucket_of unit.body m.table key.sizes.bits ≡ m.bucket)

  declared_of : (i : ℕ) (m : Met) (id : ℕ) → At met i m → found_id m ≡ Some id → Is m id
  declared_of i m id at is = by_id m.id (uses m.entry) refl refl is where
    f : MetFits key codes log uses linked k m
    f = fits i m at

    by_id : (o : Option ℕ) (u : Use) → m.id ≡ o → uses m.entry ≡ u → named_of o u ≡ Some id → Is m id
    by_id (Some x) u p q e = f.named id (p ∙ e)
    by_id None (holds x) p q e = let y = f.unborn p in let held : uses m.entry ≡ holds id = q ∙ holds_of x id e in
        let h = use_part.holding id m.entry f.inside held in
        (h.0.0, h.0.1, ap (λ (b : ℕ). bucket_of b m.table key.sizes.bits) (sym (code_part.bodies id m.entry h.0.0 held h.0.1)) ∙ y.2) where
          holds_of : (a b : ℕ) → Some a ≡ Some b → holds a ≡ holds b
          holds_of a b e = cc
    by_id None (free j) p q e = absurd cc
    by_id None (in_hand seat j) p q e = absurd cc

  hand_of : (i : ℕ) (m : Met) → At met i m → found_id m ≡ None → (m.id ≡ None) × ((j : ℕ) × At (entries_in views) j m.entry) × (bucket_of (codes m.entry) m.table key.sizes.bits ≡ m.bucket)
  hand_of i m at is = by_id m.id (uses m.entry) refl refl is where
    f : MetFits key codes log uses linked k m
    f = fits i m at

    by_id : (o : Option ℕ) (u : Use) → m.id ≡ o → uses m.entry ≡ u → named_of o u ≡ None → (m.id ≡ None) × ((j : ℕ) × At (entries_in views) j m.entry) × (bucket_of (codes m.entry) m.table key.sizes.bits ≡ m.bucket)
    by_id (Some x) u p q e = absurd cc
    by_id None (holds x) p q e = absurd cc
    by_id None (free j) p q e = absurd (⊎_elim (λ (y : (a : ℕ) × (b : ℕ) × (uses m.entry ≡ in_hand a b)). free_hand j y.0 y.1 (sym q ∙ y.2)) (λ y. not_free j y.0 (sym q ∙ y.1)) (f.unborn p).0)
    by_id None (in_hand seat j) p q e = let h = in_hands m.entry seat j q in let r = entry_in views seat j h.0 h.1 h.2 h.3 in (p, (r.0, subst (λ (z : ℕ). At (entries_in views) r.0 z) h.4 r.1), (f.unborn p).2)

  are_apart : (i j : ℕ) (x y : Met) → i < j → At met i x → At met j y → MetApart x y
  are_apart i j x y less a b = let g = at_nth met i x x a in let h = at_nth met j y x b in
      subst (λ (z : Met). MetApart x z) h.1 (subst (λ (z : Met). MetApart z (slice_index_or met j x)) g.1 (apart i j x less h.0))

  -- ---- for one look

  abbrev pairs : Met → ℕ
  pairs m = sum_by (λ p. sum_by (λ d. one (covers m p d)) all_declared) probes

  abbrev hand_pairs : Met → ℕ
  hand_pairs m = sum_by (λ t. sum_by (λ e. one (in_table m t e)) (entries_in views)) four

  one_true : (b : Bool) → b ≡ true → 1 ≤ one b
  one_true true h = omega arith
  one_true false h = absurd (true≢false (sym h))

  some_pair : (i : ℕ) (m : Met) (id : ℕ) → At met i m → found_id m ≡ Some id → 1 ≤ pairs m
  some_pair i m id at is = let d = declared_of i m id at is in let p = probed i m at in let a = among p.0 probes p.1 in
      let l = listed key.carried log id m.entry d.0 d.1 in let decl : Declared = record { id = id; unit = d.0 } in
      let passes : covers m p.0 decl ≡ true = both_true (p.0.table == m.table) ((p.0.bucket == m.bucket) && is_id (found_id m) id) (eq-eqb p.0.table m.table p.2)
      (both_true (p.0.bucket == m.bucket) (is_id (found_id m) id) (eq-eqb p.0.bucket m.bucket p.3) (ap (λ (o : Option ℕ). is_id o id) is ∙ eq-eqb id id refl)) in
      let x = one_true (covers m p.0 decl) passes in
      let y = sum_some (λ d. one (covers m p.0 d)) all_declared l.0 decl l.1 in
      let z = sum_some (λ p. sum_by (λ d. one (covers m p d)) all_declared) probes a.0 p.0 a.1 in omega arith

  some_hand : (i : ℕ) (m : Met) → At met i m → found_id m ≡ None → 1 ≤ hand_pairs m
  some_hand i m at is = let h = hand_of i m at is in let t = table_in m.table (fits i m at).table in
      let passes : in_table m m.table m.entry ≡ true = both_true (m.table == m.table) ((m.entry == m.entry) && is_none_of (found_id m)) (eq-eqb m.table m.table refl)
      (both_true (m.entry == m.entry) (is_none_of (found_id m)) (eq-eqb m.entry m.entry refl) (ap is_none_of is)) in
      let x = one_true (in_table m m.table m.entry) passes in
      let y = sum_some (λ e. one (in_table m m.table e)) (entries_in views) h.1.0 m.entry h.1.1 in
      let z = sum_some (λ t. sum_by (λ e. one (in_table m t e)) (entries_in views)) four t.0 m.table t.1 in omega arith

  paid : (i : ℕ) (m : Met) → At met i m → looks_of m.id ≤ 2 * pairs m + hand_pairs m
  paid i m at = by_found (found_id m) refl where
    most : (o : Option ℕ) → looks_of o ≤ 2
    most None = omega arith
    most (Some id) = omega arith

    by_found : (o : Option ℕ) → found_id m ≡ o → looks_of m.id ≤ 2 * pairs m + hand_pairs m
    by_found (Some id) is = let a = some_pair i m id at is in let b = most m.id in omega arith
    by_found None is = let a = some_hand i m at is in let h = hand_of i m at is in let b : looks_of m.id ≡ 1 = ap looks_of h.0 in omega arith

  -- ---- for one candidate

  in_bucket : (i j : ℕ) (m : Met) (p : Probe) (d : Declared) → At met i m → At all_declared j d → covers m p d ≡ true → (bucket_of d.unit.body p.table key.sizes.bits == p.bucket) ≡ true
  in_bucket i j m p d at there passes =
      let rest = right_true (p.table == m.table) ((p.bucket == m.bucket) && is_id (found_id m) d.id) passes in
      let t : p.table ≡ m.table = same_of p.table m.table (left_true (p.table == m.table) ((p.bucket == m.bucket) && is_id (found_id m) d.id) passes) in
      let b : p.bucket ≡ m.bucket = same_of p.bucket m.bucket (left_true (p.bucket == m.bucket) (is_id (found_id m) d.id) rest) in
      let is = named_id (found_id m) d.id (right_true (p.bucket == m.bucket) (is_id (found_id m) d.id) rest) in
      let x = declared_of i m d.id at is in let y = of_list key.carried log j d there in
      let same : x.0 ≡ d.unit = (declares_once key.carried log d.id m.entry y.0 x.0 d.unit ok x.1 y.1).0 in
      eq-eqb (bucket_of d.unit.body p.table key.sizes.bits) p.bucket (ap (λ (u : Unit64). bucket_of u.body p.table key.sizes.bits) (sym same) ∙ (ap (λ (z : ℕ). bucket_of x.0.body z key.sizes.bits) t ∙ (x.2 ∙ sym b)))

  once_covered : (j : ℕ) (p : Probe) (d : Declared) → At all_declared j d → sum_by (λ m. one (covers m p d)) met ≤ one (bucket_of d.unit.body p.table key.sizes.bits == p.bucket)
  once_covered j p d there = by_test (bucket_of d.unit.body p.table key.sizes.bits == p.bucket) refl where
    zero_at : (b : Bool) → (b ≡ true → ⊥) → one b ≤ 0
    zero_at true n = absurd (n refl)
    zero_at false n = omega arith

    found_as : (m : Met) → covers m p d ≡ true → (p.table ≡ m.table) × (p.bucket ≡ m.bucket) × (found_id m ≡ Some d.id)
    found_as m passes = let rest = right_true (p.table == m.table) ((p.bucket == m.bucket) && is_id (found_id m) d.id) passes in (
      same_of p.table m.table (left_true (p.table == m.table) ((p.bucket == m.bucket) && is_id (found_id m) d.id) passes),
      same_of p.bucket m.bucket (left_true (p.bucket == m.bucket) (is_id (found_id m) d.id) rest),
      named_id (found_id m) d.id (right_true (p.bucket == m.bucket) (is_id (found_id m) d.id) rest),
    )

    by_test : (b : Bool) → (bucket_of d.unit.body p.table key.sizes.bits == p.bucket) ≡ b → sum_by (λ m. one (covers m p d)) met ≤ one b
    by_test true is = sum_once (λ m. covers m p d) met (λ i l x y less a b f g. let u = found_as x f in let w = found_as y g in
        let s = declared_of i x d.id a u.2 in let r = declared_of l y d.id b w.2 in
        let e : x.entry ≡ y.entry = (declares_once key.carried log d.id x.entry y.entry s.0 r.0 ok s.1 r.1).1 in
        are_apart i l x y less a b (sym u.0 ∙ w.0, sym u.1 ∙ w.1, e))
    by_test false is = let a = sum_le (λ m. one (covers m p d)) (λ m. 0) met (λ i m at. zero_at (covers m p d) (λ passes. true≢false (sym (in_bucket i j m p d at there passes) ∙ is))) in let b = sum_const {A = Met} 0 met in omega arith

  once_in_table : (t e : ℕ) → sum_by (λ m. one (in_table m t e)) met ≤ 1
  once_in_table t e = sum_once (λ m. in_table m t e) met (λ i l x y less a b f g. let u = found_as x f in let w = found_as y g in
      let s = hand_of i x a u.2 in let r = hand_of l y b w.2 in
      let et : x.table ≡ y.table = sym u.0 ∙ w.0 in let ee : x.entry ≡ y.entry = sym u.1 ∙ w.1 in
      are_apart i l x y less a b (et, sym s.2 ∙ (ap (λ (z : ℕ). bucket_of (codes z) x.table key.sizes.bits) ee ∙ (ap (λ (z : ℕ). bucket_of (codes y.entry) z key.sizes.bits) et ∙ r.2)), ee)) where
        none_is : (o : Option ℕ) → is_none_of o ≡ true → o ≡ None
        none_is None h = refl
        none_is (Some id) h = absurd (true≢false (sym h))

        found_as : (m : Met) → in_table m t e ≡ true → (t ≡ m.table) × (e ≡ m.entry) × (found_id m ≡ None)
        found_as m passes = let rest = right_true (t == m.table) ((e == m.entry) && is_none_of (found_id m)) passes in (
          same_of t m.table (left_true (t == m.table) ((e == m.entry) && is_none_of (found_id m)) passes),
          same_of e m.entry (left_true (e == m.entry) (is_none_of (found_id m)) rest),
          none_is (found_id m) (right_true (e == m.entry) (is_none_of (found_id m)) rest),
        )

  -- ---- in all

  pub bound : sum_by (λ (m : Met). looks_of m.id) met
      ≤ 2 * sum_by (λ (p : Probe). count_by (λ (d : Declared). bucket_of d.unit.body p.table key.sizes.bits == p.bucket) all_declared) probes + 4 * total (λ v. length v.hands) views
  bound =
      let a : sum_by (λ (m : Met). looks_of m.id) met ≤ sum_by (λ m. 2 * pairs m + hand_pairs m) met = sum_le (λ (m : Met). looks_of m.id) (λ m. 2 * pairs m + hand_pairs m) met paid in
      let b = sum_add (λ m. 2 * pairs m) hand_pairs met in
      let c : sum_by (λ m. 2 * pairs m) met ≡ 2 * sum_by pairs met = twice met in
      let d = sum_swap (λ m p. sum_by (λ d. one (covers m p d)) all_declared) met probes in
      let e : sum_by (λ p. sum_by (λ m. sum_by (λ d. one (covers m p d)) all_declared) met) probes
      ≤ sum_by (λ (p : Probe). count_by (λ (d : Declared). bucket_of d.unit.body p.table key.sizes.bits == p.bucket) all_declared) probes
      = sum_le (λ p. sum_by (λ m. sum_by (λ d. one (covers m p d)) all_declared) met) (λ (p : Probe). count_by (λ (d : Declared). bucket_of d.unit.body p.table key.sizes.bits == p.bucket) all_declared) probes (λ i p at. let s = sum_swap (λ m d. one (covers m p d)) met all_declared in
      let l = sum_le (λ d. sum_by (λ m. one (covers m p d)) met) (λ (d : Declared). one (bucket_of d.unit.body p.table key.sizes.bits == p.bucket)) all_declared (λ j d there. once_covered j p d there) in omega arith) in
      let f = sum_swap (λ m t. sum_by (λ e. one (in_table m t e)) (entries_in views)) met four in
      let g : sum_by (λ t. sum_by (λ m. sum_by (λ e. one (in_table m t e)) (entries_in views)) met) four ≤ sum_by (λ t. length (entries_in views)) four
      = sum_le (λ t. sum_by (λ m. sum_by (λ e. one (in_table m t e)) (entries_in views)) met) (λ t. length (entries_in views)) four (λ i t at. let s = sum_swap (λ m e. one (in_table m t e)) met (entries_in views) in
      let l = sum_le (λ e. sum_by (λ m. one (in_table m t e)) met) (λ e. 1) (entries_in views) (λ j e there. once_in_table t e) in
      let n = sum_const {A = ℕ} 1 (entries_in views) in omega arith) in
      let h = sum_const {A = ℕ} (length (entries_in views)) four in let n = length_entries views in omega arith where
        twice : (l : List Met) → sum_by (λ m. 2 * pairs m) l ≡ 2 * sum_by pairs l
        twice [] = omega arith
        twice (x ∷ l) = let a = sum_cons (λ m. 2 * pairs m) x l in let b = sum_cons pairs x l in let c = twice l in omega arith
