-- What a query lists, bucket by bucket.
use Rattle.std.proofs.Common.{◌≡◌, ◌≢◌, ℕ, ◌<◌, ◌≤◌, ◌⊎◌, inl, inr, ⊎_elim, true≢false, List, [], ◌∷◌, ◌++◌, get_or, Contains, Option, None, Some, refl, sym, ap, ◌∙◌, subst, arith}
use Rattle.std.proofs.lemmas.List.Elements.{All-nil, All-push, All-weaker, Contains-push, Contains-push_cases, Contains-append_left}
use Rattle.std.proofs.lemmas.List.Quantifiers.{all_pairs_push}
use Rattle.std.proofs.lemmas.Bool.{cases_lt}
use Rattle.mih_plan.specs.declared.probe.Probe.{Probe}
use Rattle.mih_plan.specs.Buckets.{bucket_of, is_probe}
use Rattle.reg_model.specs.declared.update.Declared.{Declared}
use Rattle.reg_model.specs.declared.reply.Hit.{Hit}
use Rattle.reg_model.specs.Replies.{hit_of}
use Rattle.reg_rule.specs.Chains.{Member}
use Rattle.reg_query.specs.declared.query.Query.{Query}
use Rattle.reg_query.specs.inner.Listing.{probes, ListsBody, Lists, IsListing, with_hit, HoldsOnce, Apart, IsListedBy, IsVisited, ListedBy, ListedUpTo, IsNextProbe}

-- ---- members

pub member_left : (e : ℕ) (xs ys : List ℕ) → Member e xs → Member e (xs ++ ys)
member_left e [] ys m = absurd m
member_left e (x ∷ xs) ys m = ⊎_elim (λ (h : e ≡ x). inl h) (λ (h : Member e xs). inr (member_left e xs ys h)) m

pub member_last : (e : ℕ) (xs : List ℕ) → Member e (xs ++ e ∷ [])
member_last e [] = inl refl
member_last e (x ∷ xs) = inr (member_last e xs)

pub member_cases : (e y : ℕ) (xs : List ℕ) → Member e (xs ++ y ∷ []) → Member e xs ⊎ (e ≡ y)
member_cases e y [] m = ⊎_elim (λ (h : e ≡ y). inr h) (λ (h : ⊥). absurd h) m
member_cases e y (x ∷ xs) m = ⊎_elim (λ (h : e ≡ x). inl (inl h)) (λ (h : Member e (xs ++ y ∷ [])). ⊎_elim (λ (g : Member e xs). inl (inr g)) (λ (g : e ≡ y). inr g) (member_cases e y xs h)) m

-- ---- one probe lists a body

module _ (q : Query) (p r : Probe) (body : ℕ) (is : probes q p.table p.bucket) (its : probes q r.table r.bucket) (a : ListsBody q p body) (b : ListsBody q r body) where
  not_below : r.table < p.table → ⊥
  not_below less = true≢false (sym its ∙ (ap (is_probe q.unit.body q.radius q.bits r.table) (sym b.here) ∙ a.first r.table less))

  not_above : p.table < r.table → ⊥
  not_above less = true≢false (sym is ∙ (ap (is_probe q.unit.body q.radius q.bits p.table) (sym a.here) ∙ b.first p.table less))

  same_table : p.table ≡ r.table
  same_table = ⊎_elim (λ (h : p.table < r.table). absurd (not_above h)) (λ (h : r.table ≤ p.table). ⊎_elim (λ (g : r.table < p.table). absurd (not_below g)) (λ (g : p.table ≤ r.table). omega arith) (cases_lt r.table p.table)) (cases_lt p.table r.table)

  pub one_probe : p ≡ r
  one_probe = λ j. record { table = same_table j; bucket = (sym a.here ∙ (ap (λ (t : ℕ). bucket_of body t q.bits) same_table ∙ b.here)) j }

-- ---- from one probe to the next

module _ (q : Query) (In : Declared → ℕ → Type 0) (done : List Probe) (p : Probe) (holds : HoldsOnce In) (next : IsNextProbe q done p) where
  pub starts : (hits : List Hit) → ListedBy q In done hits → ListedUpTo q In done p [] hits
  starts hits l = record {
    sound = All-weaker (IsListedBy q In done) (λ (hit : Hit). IsListedBy q In done hit ⊎ IsVisited q In p [] hit) (λ hit h. inl h) hits l.sound;
    past = l.whole;
    here = λ d entry m. absurd m;
    once = l.once;
  }

  abbrev From : List ℕ → Hit → Type 0
  From visited hit = IsListedBy q In done hit ⊎ IsVisited q In p visited hit

  visited_more : (visited : List ℕ) (entry : ℕ) (hit : Hit) → From visited hit → From (visited ++ entry ∷ []) hit
  visited_more visited entry hit f = ⊎_elim (λ (h : IsListedBy q In done hit). inl h)
      (λ (h : IsVisited q In p visited hit). inr (record { declared = h.declared; entry = h.entry; holds = h.holds; hit_is = h.hit_is; member = member_left h.entry visited (entry ∷ []) h.member; lists = h.lists })) f

  -- a hit that was listed before is of another id
  other_hit : (visited : List ℕ) (entry : ℕ) (d : Declared) (old : Hit) → (Member entry visited → ⊥) → In d entry → Lists q p d → From visited old → old.id ≢ d.id
  other_hit visited entry d old new holds_it lists f same = ⊎_elim
      (λ (h : IsListedBy q In done old).
      let one = holds h.declared d h.entry entry h.holds holds_it (sym (ap (λ (x : Hit). x.id) h.hit_is) ∙ same) in
      let its = subst (λ (x : Declared). Lists q h.probe x) one.0 h.lists in
      let probe = one_probe q p h.probe d.unit.body next.is (next.planned h.probe h.walked) lists.body its.body in
      next.other (subst (λ (x : Probe). Contains done x) (sym probe) h.walked))
      (λ (h : IsVisited q In p visited old).
      let one = holds h.declared d h.entry entry h.holds holds_it (sym (ap (λ (x : Hit). x.id) h.hit_is) ∙ same) in
      new (subst (λ (e : ℕ). Member e visited) one.1 h.member)) f

  pub visits : (visited : List ℕ) (entry : ℕ) (hits : List Hit) (hit : Option Hit) → (Member entry visited → ⊥) → IsListing q In p entry hit
      → ListedUpTo q In done p visited hits → ListedUpTo q In done p (visited ++ entry ∷ []) (with_hit hit hits)
  visits visited entry hits None new is l = record {
    sound = All-weaker (From visited) (From (visited ++ entry ∷ [])) (visited_more visited entry) hits l.sound;
    past = l.past;
    here = λ d e m in_e lists. ⊎_elim (λ (h : Member e visited). l.here d e h in_e lists) (λ (h : e ≡ entry). absurd (is d (subst (In d) h in_e) lists)) (member_cases e entry visited m);
    once = l.once;
  }
  visits visited entry hits (Some hit) new is l = record {
    sound = All-push (From (visited ++ entry ∷ [])) hits hit (All-weaker (From visited) (From (visited ++ entry ∷ [])) (visited_more visited entry) hits l.sound)
        (inr (record { declared = is.0; entry = entry; holds = is.1; hit_is = is.3; member = member_last entry visited; lists = is.2 }));
    past = λ r d e m in_e lists. Contains-append_left hits (hit ∷ []) (hit_of q.unit d) (l.past r d e m in_e lists);
    here = λ d e m in_e lists. ⊎_elim
        (λ (h : Member e visited). Contains-append_left hits (hit ∷ []) (hit_of q.unit d) (l.here d e h in_e lists))
        (λ (h : e ≡ entry). at_last d (subst (In d) h in_e) lists)
        (member_cases e entry visited m);
    once = all_pairs_push Apart hits hit l.once (λ k x low same. other_hit visited entry is.0 (get_or hits k x) new is.1 is.2 (l.sound k x low) (same ∙ ap (λ (y : Hit). y.id) is.3));
  } where
    at_last : (d : Declared) → In d entry → Lists q p d → Contains (hits ++ hit ∷ []) (hit_of q.unit d)
    at_last d in_e lists = subst (λ (x : Hit). Contains (hits ++ hit ∷ []) x) (is.3 ∙ ap (hit_of q.unit) (sym (is.4 d in_e))) (Contains-push hits hit)

  pub ends : (visited : List ℕ) (hits : List Hit) → ((d : Declared) (entry : ℕ) → In d entry → bucket_of d.unit.body p.table q.bits ≡ p.bucket → Member entry visited)
      → ListedUpTo q In done p visited hits → ListedBy q In (done ++ p ∷ []) hits
  ends visited hits all l = record {
    sound = All-weaker (From visited) (IsListedBy q In (done ++ p ∷ [])) (λ hit f. ⊎_elim
        (λ (h : IsListedBy q In done hit). record { declared = h.declared; entry = h.entry; holds = h.holds; hit_is = h.hit_is; probe = h.probe; walked = Contains-append_left done (p ∷ []) h.probe h.walked; lists = h.lists })
        (λ (h : IsVisited q In p visited hit). record { declared = h.declared; entry = h.entry; holds = h.holds; hit_is = h.hit_is; probe = p; walked = Contains-push done p; lists = h.lists }) f) hits l.sound;
    whole = λ r d entry m in_e lists. ⊎_elim
        (λ (h : Contains done r). l.past r d entry h in_e lists)
        (λ (h : p ≡ r). let its = subst (λ (x : Probe). Lists q x d) (sym h) lists in l.here d entry (all d entry in_e its.body.here) in_e its)
        (Contains-push_cases done p r m);
    once = l.once;
  }

pub none_listed : (q : Query) (In : Declared → ℕ → Type 0) → ListedBy q In [] []
none_listed q In = record {
  sound = All-nil (IsListedBy q In []);
  whole = λ p d entry m. absurd (omega (arith, m.1));
  once = λ i j d less low. absurd (omega (arith, low));
}
