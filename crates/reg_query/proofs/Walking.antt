-- The walks of a query, joined.
use Rattle.std.proofs.Common.{◌≡◌, ℕ, zero, suc, ◌+◌, ◌*◌, ◌<◌, ◌≤◌, ◌==◌, inl, inr, ⊎_elim, Bool, true, false, cond, List, [], ◌∷◌, ◌++◌, append_assoc, length, length-append, All, Option, None, Some, IfNone, IfSome, ◌-◌, Result, Ok, Err, true≢false, refl, sym, ap, ◌∙◌, subst, arith}
use Rattle.std.specs.Prelude.{OnOk, IsErr}
use Rattle.std.proofs.lemmas.List.Elements.{All-append, All-cons, All-nil, All-push, All-weaker}
use Rattle.std.proofs.lemmas.Bool.{eqb-true, eqb-false, cases_lt}
use Rattle.std.proofs.lemmas.List.Quantifiers.{all_pairs_push}
use Rattle.std.proofs.lemmas.List.Sums.{sum_by-append}
use Rattle.mih_plan.specs.declared.probe.Probe.{Probe}
use Rattle.mih_plan.specs.Buckets.{bucket_of}
use Rattle.reg_model.specs.declared.update.Declared.{Declared}
use Rattle.reg_model.specs.declared.reply.Hit.{Hit}
use Rattle.reg_rule.specs.declared.told.Told.{Told}
use Rattle.reg_rule.specs.declared.view.Cursor.{Cursor}
use Rattle.reg_rule.specs.declared.view.Met.{Met}
use Rattle.reg_rule.specs.declared.view.View.{View}
use Rattle.reg_rule.specs.Chains.{Member, Avoids, Once}
use Rattle.reg_rule.specs.Conditions.{MetApart, looks_of}
use Rattle.reg_rule.specs.Moves.{kept_met, first_met, none_met, next_met, walked}
use Rattle.reg_rule.specs.Steps.{HasWalked}
use Rattle.reg_query.specs.declared.query.Query.{Query}
use Rattle.reg_query.specs.Snapshots.{is_look}
use Rattle.reg_query.specs.Queries.{Walk, walked_by, IsWalking}
use Rattle.reg_query.specs.inner.Listing.{IsListing, with_hit}
use Rattle.reg_query.specs.inner.Walks.{Lives, IsAskedAt, cursor_at, met_by, Walked, Looked, IsMetBy, MetIn, ListsOn, IsWalkingAlong, BucketListed, left_of}
use Rattle.reg_query.proofs.Begins.{count_append}
use Rattle.reg_query.proofs.Listed.{member_left, member_last, member_cases, starts, visits, ends}

-- one part of a walk, and then another
pub walked_more : (v x y : View) (looks heads more others : ℕ) → Walked v looks heads x → Walked x more others y → Walked v (looks + more) (heads + others) y
walked_more v x y looks heads more others a b = record {
  walk = record {
    cursor = b.walk.cursor;
    visited = b.walk.visited;
    met = b.walk.met;
    found = b.walk.found;
    steps = a.walk.steps ++ b.walk.steps;
  };
  kinds = All-append IsWalking a.walk.steps b.walk.steps a.kinds b.kinds;
  looks_are = (let e = count_append is_look a.walk.steps b.walk.steps in let f = a.looks_are in let g = b.looks_are in omega arith);
  heads_are = (let e = count_append (λ kind. kind == 13) a.walk.steps b.walk.steps in let f = a.heads_are in let g = b.heads_are in omega arith);
  view = b.view ∙ (ap (λ (z : View). walked_by z b.walk) a.view ∙ (λ j. record v {
    cursor = b.walk.cursor;
    visited = b.walk.visited;
    met = b.walk.met;
    found = b.walk.found;
    made = append_assoc v.made a.walk.steps b.walk.steps j;
  }));
}

pub looked_walks : (q : Query) (p : Probe) (entry : ℕ) (v : View) (hit : Option Hit) (looks : ℕ) (w : View) → Looked q p entry v hit looks w → Walked v looks 0 w
looked_walks q p entry v hit looks w l = record {
  walk = record { cursor = v.cursor; visited = v.visited; met = v.met ++ met_by p entry l.id ∷ []; found = l.found; steps = l.steps };
  kinds = l.kinds;
  looks_are = l.looks_are;
  heads_are = l.heads_are;
  view = l.view;
}

one_step : (kind : ℕ) → IsWalking kind → All IsWalking (kind ∷ [])
one_step kind is = All-cons IsWalking kind [] is (All-nil IsWalking)

pub first_walks : (told : Told) (v w : View) (p : Probe) (entry : ℕ) → w ≡ first_met told v p.table p.bucket entry → Walked v 0 1 w
first_walks told v w p entry is = record {
  walk = record { cursor = Some (cursor_at p entry); visited = entry ∷ []; met = kept_met told v.met; found = v.found; steps = 13 ∷ [] };
  kinds = one_step 13 (inr (inr (inl refl)));
  looks_are = refl;
  heads_are = refl;
  view = is;
}

pub none_walks : (told : Told) (v w : View) → w ≡ none_met told v → Walked v 0 1 w
none_walks told v w is = record {
  walk = record { cursor = None; visited = []; met = kept_met told v.met; found = v.found; steps = 13 ∷ [] };
  kinds = one_step 13 (inr (inr (inl refl)));
  looks_are = refl;
  heads_are = refl;
  view = is;
}

pub next_walks : (v w : View) (c : Cursor) (entry : ℕ) → w ≡ next_met v c entry → Walked v 0 0 w
next_walks v w c entry is = record {
  walk = record { cursor = Some (record c { entry = entry }); visited = v.visited ++ entry ∷ []; met = v.met; found = v.found; steps = 16 ∷ [] };
  kinds = one_step 16 (inr (inr (inr refl)));
  looks_are = refl;
  heads_are = refl;
  view = is;
}

pub end_walks : (v w : View) → w ≡ walked v → Walked v 0 0 w
end_walks v w is = record {
  walk = record { cursor = None; visited = v.visited; met = v.met; found = v.found; steps = 16 ∷ [] };
  kinds = one_step 16 (inr (inr (inr refl)));
  looks_are = refl;
  heads_are = refl;
  view = is;
}

pub on_err : {A E : Type 0} (r : Result A E) (P : Type 0) → IsErr r → OnOk r P
on_err (Ok x) P e = absurd (true≢false (sym e))
on_err (Err x) P e = tt

-- the pass is still one of these words
pub own_first : {T K : Type 0} (t : T) (key : View → K) (of : K) (told : Told) (v : View) (table bucket : ℕ) (o : Option ℕ) (pass : T × View) (P : Type 0) → ((told : Told) → key (none_met told v) ≡ key v) → ((told : Told) (e : ℕ) → key (first_met told v table bucket e) ≡ key v)
    → key v ≡ of → IfNone o ((pass ≡ (t, none_met told v)) × P) → IfSome o (λ e. (e < v.key.entries) × (pass ≡ (t, first_met told v table bucket e))) → (pass.0 ≡ t) × (key pass.1 ≡ of)
own_first t key of told v table bucket None pass P a b own none some = (λ j. (none.0 j).0, ap key (let e : pass.1 ≡ none_met told v = λ j. (none.0 j).1 in e) ∙ (a told ∙ own))
own_first t key of told v table bucket (Some e) pass P a b own none some = (λ j. (some.1 j).0, ap key (let x : pass.1 ≡ first_met told v table bucket e = λ j. (some.1 j).1 in x) ∙ (b told e ∙ own))

pub own_next : {T K : Type 0} (t : T) (key : View → K) (of : K) (y : View) (c : Cursor) (o : Option ℕ) (pass : T × View) → y.cursor ≡ Some c → key (walked y) ≡ key y → ((e : ℕ) → key (next_met y c e) ≡ key y) → key y ≡ of
    → IfNone o ((pass ≡ (t, walked y)) × ((c : Cursor) → y.cursor ≡ Some c → HasWalked c.table c.bucket pass.1))
    → IfSome o (λ b. (b < y.key.entries) × ((c : Cursor) → y.cursor ≡ Some c → pass ≡ (t, next_met y c b)) × Once pass.1.visited) → (pass.0 ≡ t) × (key pass.1 ≡ of)
own_next t key of y c None pass at a b own none some = (λ j. (none.0 j).0, ap key (let e : pass.1 ≡ walked y = λ j. (none.0 j).1 in e) ∙ (a ∙ own))
own_next t key of y c (Some x) pass at a b own none some = let is = some.1 c at in (λ j. (is j).0, ap key (let e : pass.1 ≡ next_met y c x = λ j. (is j).1 in e) ∙ (b x ∙ own))

-- ---- what was met

pub met_none : (p : Probe) (before : List Met) (after : List Met) → after ≡ before → MetIn p [] before 0 after
met_none p before after is = record {
  mets = [];
  met = is ∙ append_nil before;
  by = All-nil (IsMetBy p []);
  apart = λ i j d less low. absurd (omega (arith, low));
  paid = omega arith;
  most = omega arith;
} where
  append_nil : (l : List Met) → l ≡ l ++ []
  append_nil [] = refl
  append_nil (m ∷ l) = ap (λ r. m ∷ r) (append_nil l)

met_later : (p : Probe) (entries : List ℕ) (entry : ℕ) (m : Met) → IsMetBy p entries m → IsMetBy p (entries ++ entry ∷ []) m
met_later p entries entry m is = (is.0, is.1, member_left m.entry entries (entry ∷ []) is.2)

pub met_more : (p : Probe) (entries : List ℕ) (before : List Met) (looks more : ℕ) (after next : List Met) (entry : ℕ) (id : Option ℕ) → (Member entry entries → ⊥) → more ≤ looks_of id
    → next ≡ after ++ met_by p entry id ∷ [] → MetIn p entries before looks after → MetIn p (entries ++ entry ∷ []) before (looks + more) next
met_more p entries before looks more after next entry id new few is m = record {
  mets = m.mets ++ met_by p entry id ∷ [];
  met = is ∙ (ap (λ (l : List Met). l ++ met_by p entry id ∷ []) m.met ∙ append_assoc before m.mets (met_by p entry id ∷ []));
  by = All-push (IsMetBy p (entries ++ entry ∷ [])) m.mets (met_by p entry id) (All-weaker (IsMetBy p entries) (IsMetBy p (entries ++ entry ∷ [])) (met_later p entries entry) m.mets m.by) (refl, refl, member_last entry entries);
  apart = all_pairs_push MetApart m.mets (met_by p entry id) m.apart (λ k d low same. new (subst (λ (e : ℕ). Member e entries) same.2 (m.by k d low).2));
  paid = (let a = sum_by-append (λ (x : Met). looks_of x.id) m.mets (met_by p entry id ∷ []) in let b = m.paid in omega (arith, few));
  most = (let a = length-append entries (entry ∷ []) in let b = m.most in let c = two id in omega (arith, few));
} where
  two : (o : Option ℕ) → looks_of o ≤ 2
  two None = omega arith
  two (Some x) = omega arith

-- ---- entries that are met once

once_last : (e : ℕ) (xs : List ℕ) → Once (xs ++ e ∷ []) → Member e xs → ⊥
once_last e [] o m = m
once_last e (x ∷ xs) o m = ⊎_elim (λ (h : e ≡ x). avoids_last x e xs o.0 (sym h)) (λ (h : Member e xs). once_last e xs o.1 h) m where
  avoids_last : (x e : ℕ) (xs : List ℕ) → Avoids x (xs ++ e ∷ []) → x ≡ e → ⊥
  avoids_last x e [] a h = a.0 (sym h)
  avoids_last x e (y ∷ xs) a h = avoids_last x e xs a.1 h

abbrev Below : ℕ → List ℕ → Type 0
Below n l = (e : ℕ) → Member e l → e < n

-- the list without the entry
abbrev without : ℕ → List ℕ → List ℕ
without e [] = []
without e (x ∷ xs) = cond (x == e) xs (x ∷ without e xs)

length_without : (e : ℕ) (l : List ℕ) → length l ≤ length (without e l) + 1
length_without e [] = omega arith
length_without e (x ∷ xs) = by (x == e) (length_without e xs) where
  by : (b : Bool) → length xs ≤ length (without e xs) + 1 → length (x ∷ xs) ≤ length (cond {A = List ℕ} b xs (x ∷ without e xs)) + 1
  by true h = omega arith
  by false h = omega arith

member_without : (y e : ℕ) (l : List ℕ) → Member y (without e l) → Member y l
member_without y e [] m = m
member_without y e (x ∷ xs) m = by (x == e) m (member_without y e xs) where
  by : (b : Bool) → Member y (cond {A = List ℕ} b xs (x ∷ without e xs)) → (Member y (without e xs) → Member y xs) → Member y (x ∷ xs)
  by true m f = inr m
  by false m f = ⊎_elim (λ (h : y ≡ x). inl h) (λ (h : Member y (without e xs)). inr (f h)) m

avoids_without : (y e : ℕ) (l : List ℕ) → Avoids y l → Avoids y (without e l)
avoids_without y e [] a = a
avoids_without y e (x ∷ xs) a = by (x == e) (avoids_without y e xs a.1) where
  by : (b : Bool) → Avoids y (without e xs) → Avoids y (cond {A = List ℕ} b xs (x ∷ without e xs))
  by true r = a.1
  by false r = (a.0, r)

once_without : (e : ℕ) (l : List ℕ) → Once l → Once (without e l)
once_without e [] o = o
once_without e (x ∷ xs) o = by (x == e) (once_without e xs o.1) where
  by : (b : Bool) → Once (without e xs) → Once (cond {A = List ℕ} b xs (x ∷ without e xs))
  by true r = o.1
  by false r = (avoids_without x e xs o.0, r)

not_member : (y : ℕ) (l : List ℕ) → Avoids y l → Member y l → ⊥
not_member y [] a m = m
not_member y (x ∷ xs) a m = ⊎_elim (λ (h : y ≡ x). a.0 (sym h)) (λ (h : Member y xs). not_member y xs a.1 h) m

gone_without : (e : ℕ) (l : List ℕ) → Once l → Member e (without e l) → ⊥
gone_without e [] o m = m
gone_without e (x ∷ xs) o m = by (x == e) refl m (gone_without e xs o.1) where
  by : (b : Bool) → (x == e) ≡ b → Member e (cond {A = List ℕ} b xs (x ∷ without e xs)) → (Member e (without e xs) → ⊥) → ⊥
  by true is m f = not_member x xs o.0 (subst (λ (n : ℕ). Member n xs) (sym (eqb-true x e is)) m)
  by false is m f = ⊎_elim (λ (h : e ≡ x). eqb-false x e is (sym h)) (λ (h : Member e (without e xs)). f h) m

pub once_short : (n : ℕ) (l : List ℕ) → Once l → Below n l → length l ≤ n
once_short zero [] o b = omega arith
once_short zero (x ∷ xs) o b = let h = b x (inl refl) in absurd (omega arith)
once_short (suc n) l o b = let a = length_without n l in
    let r = once_short n (without n l) (once_without n l o) (λ e m. let h = b e (member_without e n l m) in ⊎_elim (λ (less : e < n). less) (λ (le : n ≤ e). absurd (gone_without n l o (subst (λ (k : ℕ). Member k (without n l)) (let same : e ≡ n = omega arith in same) m))) (cases_lt e n)) in
    omega arith

-- ---- the walk of a bucket

pub asked_moves : (q : Query) (v : View) (m : Walk) → IsAskedAt q v → IsAskedAt q (walked_by v m)
asked_moves q v m a = record {
  opens = record { snapshot = a.opens.snapshot; pinned = a.opens.pinned; helped = a.opens.helped; inside = a.opens.inside; within = a.opens.within };
  ids = a.ids;
  bits = a.bits;
  radius = a.radius;
  least = a.least;
  most = a.most;
  opening = a.opening;
  entries = a.entries;
}

module _ (q : Query) (p : Probe) (told : Told) (v : View) (before : List Hit) (asked : IsAskedAt q v) where
  pub begins_some : (entry : ℕ) (w : View) → entry < v.key.entries → w ≡ first_met told v p.table p.bucket entry → IsWalkingAlong q p told v before (Some entry) before 0 w
  begins_some entry w low is = record {
    entries = [];
    walked = first_walks told v w p entry is;
    stands = (ap (λ (z : View). z.cursor) is, ap (λ (z : View). z.visited) is, subst (λ (z : View). entry < z.key.entries) (sym is) low);
    once = subst (λ (z : View). Once z.visited) (sym is) (tt, tt);
    inside = subst (λ (z : View). Below z.key.entries z.visited) (sym is) (λ e m. ⊎_elim (λ (h : e ≡ entry). let r : e < v.key.entries = omega arith in r) (λ (h : ⊥). absurd h) m);
    met = met_none p (kept_met told v.met) w.met (ap (λ (z : View). z.met) is);
    lists = λ done holds next l. starts q (Lives v q.places) done p holds next before l;
  }

  pub begins_none : (w : View) → w ≡ none_met told v → HasWalked p.table p.bucket w → IsWalkingAlong q p told v before None before 0 w
  begins_none w is all = record {
    entries = [];
    walked = none_walks told v w is;
    stands = (ap (λ (z : View). z.cursor) is, ap (λ (z : View). z.visited) is, all);
    once = subst (λ (z : View). Once z.visited) (sym is) tt;
    inside = subst (λ (z : View). Below z.key.entries z.visited) (sym is) (λ e m. absurd m);
    met = met_none p (kept_met told v.met) w.met (ap (λ (z : View). z.met) is);
    lists = λ done holds next l. starts q (Lives v q.places) done p holds next before l;
  }

  module _ (entry : ℕ) (after : List Hit) (looks : ℕ) (x : View) (i : IsWalkingAlong q p told v before (Some entry) after looks x) where
    pub still_asked : IsAskedAt q x
    still_asked = subst (IsAskedAt q) (sym i.walked.view) (asked_moves q v i.walked.walk asked)

    new : Member entry i.entries → ⊥
    new = once_last entry i.entries (subst Once i.stands.1 i.once)

    pub has_room : looks + 2 ≤ 2 * x.key.entries
    has_room = let s = once_short x.key.entries x.visited i.once i.inside in let l = ap (λ (r : List ℕ). length r) i.stands.1 in let a = length-append i.entries (entry ∷ []) in let m = i.met.most in omega arith

    module _ (hit : Option Hit) (more : ℕ) (y : View) (look : Looked q p entry x hit more y) where
      pub still_there : y.cursor ≡ Some (cursor_at p entry)
      still_there = ap (λ (z : View). z.cursor) look.view ∙ i.stands.0

      listed : ListsOn q v p (i.entries ++ entry ∷ []) before (with_hit hit after)
      listed done holds next l =
          let listing = subst (λ (u : View). IsListing q (Lives u q.places) p entry hit) i.walked.view look.listing in
          visits q (Lives v q.places) done p holds next i.entries entry after hit new listing (i.lists done holds next l)

      met_then : (z : View) → z.met ≡ y.met → MetIn p (i.entries ++ entry ∷ []) (kept_met told v.met) (looks + more) z.met
      met_then z is = met_more p i.entries (kept_met told v.met) looks more x.met z.met entry look.id new look.few (is ∙ ap (λ (u : View). u.met) look.view) i.met

      pub part : Walked v (looks + more) 1 y
      part = walked_more v x y looks 1 more 0 i.walked (looked_walks q p entry x hit more y look)

      walked_then : (z : View) → Walked y 0 0 z → Walked v (looks + more) 1 z
      walked_then z b = subst (λ (n : ℕ). Walked v n 1 z) (let e : looks + more + 0 ≡ looks + more = omega arith in e) (walked_more v y z (looks + more) 1 0 0 part b)

      seen_then : y.visited ≡ i.entries ++ entry ∷ []
      seen_then = ap (λ (z : View). z.visited) look.view ∙ i.stands.1

      pub goes_on : (behind : ℕ) (z : View) → behind < y.key.entries → z ≡ next_met y (cursor_at p entry) behind → Once z.visited → IsWalkingAlong q p told v before (Some behind) (with_hit hit after) (looks + more) z
      goes_on behind z low is once = record {
        entries = i.entries ++ entry ∷ [];
        walked = walked_then z (next_walks y z (cursor_at p entry) behind is);
        stands = (ap (λ (u : View). u.cursor) is, ap (λ (u : View). u.visited) is ∙ ap (λ (l : List ℕ). l ++ behind ∷ []) seen_then, subst (λ (u : View). behind < u.key.entries) (sym is) low);
        once = once;
        inside = subst (λ (u : View). Below u.key.entries u.visited) (sym is) (λ e m. ⊎_elim (λ (h : Member e y.visited). subst (λ (u : View). e < u.key.entries) (sym look.view) (i.inside e (subst (λ (u : View). Member e u.visited) look.view h))) (λ (h : e ≡ behind). let r : e < y.key.entries = omega arith in r) (member_cases e behind y.visited m));
        met = met_then z (ap (λ (u : View). u.met) is);
        lists = listed;
      }

      pub comes_to_end : (z : View) → z ≡ walked y → HasWalked p.table p.bucket z → IsWalkingAlong q p told v before None (with_hit hit after) (looks + more) z
      comes_to_end z is all = record {
        entries = i.entries ++ entry ∷ [];
        walked = walked_then z (end_walks y z is);
        stands = (ap (λ (u : View). u.cursor) is, ap (λ (u : View). u.visited) is ∙ seen_then, all);
        once = subst (λ (u : View). Once u.visited) (sym is) (subst (λ (u : View). Once u.visited) (sym look.view) i.once);
        inside = subst (λ (u : View). Below u.key.entries u.visited) (sym is) (λ e m. subst (λ (u : View). e < u.key.entries) (sym look.view) (i.inside e (subst (λ (u : View). Member e u.visited) look.view m)));
        met = met_then z (ap (λ (u : View). u.met) is);
        lists = listed;
      }

      -- one turn
      pub goes : {T : Type 0} (t : T) (o : Option ℕ) (pass : T × View) (hits : List Hit) → hits ≡ with_hit hit after
          → IfNone o ((pass ≡ (t, walked y)) × ((c : Cursor) → y.cursor ≡ Some c → HasWalked c.table c.bucket pass.1))
          → IfSome o (λ b. (b < y.key.entries) × ((c : Cursor) → y.cursor ≡ Some c → pass ≡ (t, next_met y c b)) × Once pass.1.visited)
          → IsWalkingAlong q p told v before o hits (looks + more) pass.1
      goes t None pass hits same none some = subst (λ (l : List Hit). IsWalkingAlong q p told v before None l (looks + more) pass.1) (sym same)
          (comes_to_end pass.1 (λ j. (none.0 j).1) (none.1 (cursor_at p entry) still_there))
      goes t (Some b) pass hits same none some = subst (λ (l : List Hit). IsWalkingAlong q p told v before (Some b) l (looks + more) pass.1) (sym same)
          (goes_on b pass.1 some.0 (let is = some.1 (cursor_at p entry) still_there in λ j. (is j).1) some.2)

      pub smaller : {T : Type 0} (t : T) (o : Option ℕ) (pass : T × View) (hits : List Hit) (n : ℕ) → pass.1.key.entries ≡ n
          → IfSome o (λ b. (b < y.key.entries) × ((c : Cursor) → y.cursor ≡ Some c → pass ≡ (t, next_met y c b)) × Once pass.1.visited)
          → IsWalkingAlong q p told v before o hits (looks + more) pass.1 → left_of o (n - length pass.1.visited) < left_of (Some entry) (n - length x.visited)
      smaller t None pass hits n same some w = omega arith
      smaller t (Some b) pass hits n same some w =
          let is = some.1 (cursor_at p entry) still_there in
          let z : pass.1 ≡ next_met y (cursor_at p entry) b = λ j. (is j).1 in
          let longer = ap (λ (u : View). length u.visited) z ∙ length-append y.visited (b ∷ []) in
          let seen = ap (λ (u : View). length u.visited) look.view in
          let short = once_short pass.1.key.entries pass.1.visited w.once w.inside in omega arith

  pub at_end : (o : Option ℕ) (after : List Hit) (looks : ℕ) (w : View) → ((e : ℕ) → o ≡ Some e → ⊥) → IsWalkingAlong q p told v before o after looks w → IsWalkingAlong q p told v before None after looks w
  at_end None after looks w none i = i
  at_end (Some e) after looks w none i = absurd (none e refl)

  pub begins : {T : Type 0} (t : T) (o : Option ℕ) (pass : T × View) → IfNone o ((pass ≡ (t, none_met told v)) × HasWalked p.table p.bucket pass.1)
      → IfSome o (λ e. (e < v.key.entries) × (pass ≡ (t, first_met told v p.table p.bucket e))) → IsWalkingAlong q p told v before o before 0 pass.1
  begins t None pass none some = begins_none pass.1 (λ j. (none.0 j).1) none.1
  begins t (Some e) pass none some = begins_some e pass.1 some.0 (λ j. (some.1 j).1)

  pub bucket_listed : (after : List Hit) (looks : ℕ) (w : View) → IsWalkingAlong q p told v before None after looks w → BucketListed q p told v before after looks w
  bucket_listed after looks w i = record {
    ends = i.stands.0;
    entries = i.entries;
    few = (let s = once_short w.key.entries w.visited i.once i.inside in let l = ap (λ (r : List ℕ). length r) i.stands.1 in omega arith);
    met = i.met;
    lists = λ done holds next l. ends q (Lives v q.places) done p holds next i.entries after member (i.lists done holds next l);
  } where
    walked_all : HasWalked p.table p.bucket (walked_by v i.walked.walk)
    walked_all = subst (λ (z : View). HasWalked p.table p.bucket z) i.walked.view i.stands.2

    member : (d : Declared) (entry : ℕ) → Lives v q.places d entry → bucket_of d.unit.body p.table q.bits ≡ p.bucket → Member entry i.entries
    member d entry live here = subst (λ (l : List ℕ). Member entry l) (sym (ap (λ (z : View). z.visited) i.walked.view) ∙ i.stands.1)
        (walked_all q.places d.id entry d.unit asked.opens.snapshot live (ap (λ (b : ℕ). bucket_of d.unit.body p.table b) (sym asked.bits) ∙ here))
