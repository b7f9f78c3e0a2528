-- Cursors and walks after an entry is cut from its chain in one table (kinds 20 and 21).
use Rattle.std.proofs.Common.{◌≡◌, ℕ, ◌+◌, ◌^◌, ◌<◌, ◌≤◌, ◌⊎◌, inl, inr, ⊎_elim, List, [], ◌∷◌, ◌++◌, Bool, false, true≢false, Option, None, sym, refl, ap, ◌∙◌, subst, arith}
use mathlib.Core.Logic.{dite}
use native.Mathlib.Decide.{ℕ_discrete}
use Rattle.iscc_header.specs.declared.unit.Unit64.{Unit64}
use Rattle.mih_plan.specs.Buckets.{bucket_of}
use Rattle.reg_rule.specs.Links.{link_word}
use Rattle.reg_words.specs.Memory.{set_at}
use Rattle.reg_rule.specs.declared.view.Key.{Key}
use Rattle.reg_rule.specs.declared.view.Place.{Place}
use Rattle.reg_rule.specs.declared.view.Account.{Account}
use Rattle.reg_rule.specs.declared.view.Cursor.{Cursor}
use Rattle.reg_rule.specs.Log.{IsWd, Declares}
use Rattle.reg_rule.specs.Seats.{IsFirst}
use Rattle.reg_rule.specs.inner.Sweeping.{IsReclaimed}
use Rattle.reg_rule.specs.Chains.{Member, Once, LeadsThrough}
use Rattle.reg_rule.specs.inner.ChainParts.{after, without, Names, next_in, head_cell, ChainsPart}
use Rattle.reg_rule.specs.inner.Walks.{from, IsLoose, CursorFits}
use Rattle.reg_rule.proofs.Once.{IsLawfulLog, wd_same}
use Rattle.reg_rule.proofs.StampsKept.{set_here, set_away}
use Rattle.reg_rule.proofs.Chained.{member_without, once_append_without, next_names, from_next, from_without, not_member, not_after, first_of, member_after, without_none, avoids_of, before_once, from_link, link_same, test_same, test_apart}
use Rattle.reg_rule.proofs.Variants.{none_some}

-- a function of two numbers that is changed at one place
abbrev pub set_in : {A : Type 0} → (ℕ → ℕ → A) → ℕ → ℕ → A → ℕ → ℕ → A
set_in f t b x = set_at f t (set_at (f t) b x)

pub set_in_here : {A : Type 0} (f : ℕ → ℕ → A) (t b i j : ℕ) (x : A) → i ≡ t → j ≡ b → set_in f t b x i j ≡ x
set_in_here {A} f t b i j x p q = ap (λ (k : ℕ). set_in f t b x k j) p ∙ (ap (λ (g : ℕ → A). g j) (set_here f t (set_at (f t) b x)) ∙ (ap (set_at (f t) b x) q ∙ set_here (f t) b x))

pub set_in_away : {A : Type 0} (f : ℕ → ℕ → A) (t b i j : ℕ) (x : A) → (i ≡ t → j ≡ b → ⊥) → set_in f t b x i j ≡ f i j
set_in_away {A} f t b i j x n = dite (ℕ_discrete i t)
    (λ same. ap (λ (k : ℕ). set_in f t b x k j) same ∙ (ap (λ (g : ℕ → A). g j) (set_here f t (set_at (f t) b x)) ∙ (set_away (f t) b j x (λ q. n same q) ∙ ap (λ (k : ℕ). f k j) (sym same))))
    (λ apart. ap (λ (g : ℕ → A). g j) (set_away f t i (set_at (f t) b x) apart))

module _ (key : Key) (nexts nexts' : ℕ → ℕ) (log : List Place) (chains : ℕ → ℕ → List ℕ) (linked : ℕ → ℕ → Bool) (begun returned : ℕ) (mark : Option ℕ) (freed : ℕ → ℕ)
    (heads codes : ℕ → ℕ) (part : ChainsPart key heads nexts codes chains linked) (law : IsLawfulLog key.carried log)
    (table bucket e place withdrawn : ℕ)
    (small : table < 4) (wide : bucket < 2 ^ key.sizes.bits) (there : Member e (chains table bucket)) (wd : IsWd log place withdrawn e) (low : returned ≤ place)
    -- what is being reclaimed, if anything, is this entry
    (only : (d id x : ℕ) → IsReclaimed log begun returned d id x → begun ≡ place + 1)
    -- the next words lead as before, but over the entry
    (over : (x : ℕ) → Member x (chains table bucket) → from (next_in key.entries nexts' table x) (without e (chains table bucket)) ≡ without e (from (next_in key.entries nexts table x) (chains table bucket)))
    (behind : next_in key.entries nexts' table e ≡ next_in key.entries nexts table e)
    (else : (t x : ℕ) → t < 4 → x < key.entries → (t ≡ table → Member x (chains table bucket) → ⊥) → next_in key.entries nexts' t x ≡ next_in key.entries nexts t x)
  where
    abbrev chain : List ℕ
    chain = chains table bucket

    abbrev chains' : ℕ → ℕ → List ℕ
    chains' = set_in chains table bucket (without e chain)

    abbrev linked' : ℕ → ℕ → Bool
    linked' = set_in linked table e false

    -- an entry that is being reclaimed is this one
    this_one : (d id x : ℕ) → IsReclaimed log begun returned d id x → (d ≡ place) × (x ≡ e)
    this_one d id x r = let b = only d id x r in let l = r.last in let same : d ≡ place = omega arith in
        (same, (wd_same log place id withdrawn x e (subst (λ (k : ℕ). IsWd log k id x) same r.withdraws) wd).1)

    -- so no cursor was loose in this table
    not_loose : (c : Cursor) (next pin : ℕ) (accounts : List Account) (l : List ℕ) → c.table ≡ table → IsLoose key c log next l (linked c.table) begun returned mark freed pin accounts → ⊥
    not_loose c next pin accounts l same loose = let r = loose.reclaimed in let t = this_one r.0 r.1 c.entry r.2 in let i = part.inside table bucket e there in
        true≢false (sym i.1 ∙ (ap (λ (k : ℕ). linked table k) (sym t.1) ∙ (ap (λ (k : ℕ). linked k c.entry) (sym same) ∙ loose.cut)))

    chain_there : (c : Cursor) → c.table ≡ table → c.bucket ≡ bucket → chains' c.table c.bucket ≡ without e chain
    chain_there c p q = set_in_here chains table bucket c.table c.bucket (without e chain) p q

    was_there : (c : Cursor) → c.table ≡ table → c.bucket ≡ bucket → chains c.table c.bucket ≡ chain
    was_there c p q = ap (λ (k : ℕ). chains k c.bucket) p ∙ ap (chains table) q

    chain_else : (c : Cursor) → (c.table ≡ table → c.bucket ≡ bucket → ⊥) → chains' c.table c.bucket ≡ chains c.table c.bucket
    chain_else c n = set_in_away chains table bucket c.table c.bucket (without e chain) n

    -- where it stands in another chain, its next word is as before
    next_else : (c : Cursor) → c.table < 4 → (c.table ≡ table → c.bucket ≡ bucket → ⊥) → Member c.entry (chains c.table c.bucket) → next_in key.entries nexts' c.table c.entry ≡ next_in key.entries nexts c.table c.entry
    next_else c t n m = let i = part.inside c.table c.bucket c.entry m in else c.table c.entry t i.0
        (λ same mine. let j = part.inside table bucket c.entry mine in n same (sym i.2 ∙ (ap (λ (k : ℕ). bucket_of (codes c.entry) k key.sizes.bits) same ∙ j.2)))

    module _ (callers : ℕ)
        (unscanned : (n : ℕ) → n < callers → freed n < place + 1)
        (bucket_is : (unit : Unit64) → Declares key.carried log withdrawn unit e → bucket_of unit.body table key.sizes.bits ≡ bucket)
        (inside_e : e < key.entries) (reclaimed_small : (d id x : ℕ) → IsReclaimed log begun returned d id x → x < key.entries)
        (pin : ℕ) (accounts : List Account) (sessions : (n : ℕ) → IsFirst accounts n → n < callers) where
      loosened : (c : Cursor) → c.table ≡ table → c.bucket ≡ bucket → c.entry ≡ e
          → IsLoose key c log (next_in key.entries nexts' c.table c.entry) (chains' c.table c.bucket) (linked' c.table) (place + 1) returned None freed pin accounts
      loosened c p q r = record {
        reclaimed = (place, withdrawn, record { last = refl; kept = low; withdraws = subst (λ (k : ℕ). IsWd log place withdrawn k) (sym r) wd });
        bucket = λ d id unit w b dec. let same : d ≡ place = omega arith in
            let both = wd_same log place id withdrawn c.entry e (subst (λ (k : ℕ). IsWd log k id c.entry) same w) wd in
            ap (λ (k : ℕ). bucket_of unit.body k key.sizes.bits) p ∙ (bucket_is unit (subst (λ (k : ℕ). Declares key.carried log k unit e) both.0 (subst (λ (k : ℕ). Declares key.carried log id unit k) r dec)) ∙ sym q);
        cut = set_in_here linked table e c.table c.entry false p r;
        leads_back = let next_is : next_in key.entries nexts' c.table c.entry ≡ next_in key.entries nexts table e = ap (λ (k : ℕ). next_in key.entries nexts' k c.entry) p ∙ (ap (next_in key.entries nexts' table) r ∙ behind) in
            subst (λ (l : List ℕ). Names (next_in key.entries nexts' c.table c.entry) l) (sym (chain_there c p q))
            (subst (λ (k : ℕ). Names k (without e chain)) (sym next_is) names_rest);
        pinned = λ m none. absurd (none_some m none);
        unscanned = λ n first. unscanned n (sessions n first);
      } where
        -- behind the entry is another entry of the chain
        names_rest : Names (next_in key.entries nexts table e) (without e chain)
        names_rest = ⊎_elim (λ h. inl h)
            (λ (t : (x : ℕ) × (next_in key.entries nexts table e ≡ link_word x) × Member x chain). inr (t.0, t.1, member_without t.0 e chain (λ same. itself t same) t.2))
            (next_names (next_in key.entries nexts table) (heads (head_cell key.sizes.bits table bucket)) e chain (part.leads table bucket small wide) there) where
              itself : (t : (x : ℕ) × (next_in key.entries nexts table e ≡ link_word x) × Member x chain) → t.0 ≡ e → ⊥
              itself t same = not_after e chain (part.once table bucket)
                  (subst (λ (l : List ℕ). Member e l) (from_next (next_in key.entries nexts table) (heads (head_cell key.sizes.bits table bucket)) e chain (part.leads table bucket small wide) (part.once table bucket) there)
                  (subst (λ (k : ℕ). Member e (from k chain)) (sym t.1) (subst (λ (k : ℕ). Member e (from (link_word k) chain)) (sym same) (first_of e chain))))

      stays_loose : (c : Cursor) → c.table < 4 → (c.table ≡ table → ⊥) → IsLoose key c log (next_in key.entries nexts c.table c.entry) (chains c.table c.bucket) (linked c.table) begun returned mark freed pin accounts
          → IsLoose key c log (next_in key.entries nexts' c.table c.entry) (chains' c.table c.bucket) (linked' c.table) (place + 1) returned None freed pin accounts
      stays_loose c t n loose =
          let r = loose.reclaimed in let b : begun ≡ place + 1 = only r.0 r.1 c.entry r.2 in
          let next_is = else c.table c.entry t (reclaimed_small r.0 r.1 c.entry r.2) (λ p m. n p) in record {
            reclaimed = (r.0, r.1, record { last = sym b ∙ r.2.last; kept = r.2.kept; withdraws = r.2.withdraws });
            bucket = λ d id unit w z dec. loose.bucket d id unit w (b ∙ z) dec;
            cut = set_in_away linked table e c.table c.entry false (λ p q. n p) ∙ loose.cut;
            leads_back = subst (λ (l : List ℕ). Names (next_in key.entries nexts' c.table c.entry) l) (sym (chain_else c (λ p q. n p))) (subst (λ (k : ℕ). Names k (chains c.table c.bucket)) (sym next_is) loose.leads_back);
            pinned = λ m none. absurd (none_some m none);
            unscanned = λ k first. unscanned k (sessions k first);
          }

      -- what a walk will meet: what it would have met, without the entry
      walk_there : (c : Cursor) → c.table ≡ table → c.bucket ≡ bucket → Member c.entry (chains c.table c.bucket)
          → from (next_in key.entries nexts' c.table c.entry) (chains' c.table c.bucket) ≡ without e (from (next_in key.entries nexts c.table c.entry) (chains c.table c.bucket))
      walk_there c p q m = ap (λ (l : List ℕ). from (next_in key.entries nexts' c.table c.entry) l) (chain_there c p q)
          ∙ (ap (λ (k : ℕ). from (next_in key.entries nexts' k c.entry) (without e chain)) p
          ∙ (over c.entry (subst (λ (l : List ℕ). Member c.entry l) (was_there c p q) m)
          ∙ (ap (λ (k : ℕ). without e (from (next_in key.entries nexts k c.entry) chain)) (sym p)
          ∙ ap (λ (l : List ℕ). without e (from (next_in key.entries nexts c.table c.entry) l)) (sym (was_there c p q)))))

      -- what it would have met elsewhere
      walk_else : (c : Cursor) → (c.table ≡ table → c.bucket ≡ bucket → ⊥) → next_in key.entries nexts' c.table c.entry ≡ next_in key.entries nexts c.table c.entry
          → from (next_in key.entries nexts' c.table c.entry) (chains' c.table c.bucket) ≡ from (next_in key.entries nexts c.table c.entry) (chains c.table c.bucket)
      walk_else c n same = ap (λ (l : List ℕ). from (next_in key.entries nexts' c.table c.entry) l) (chain_else c n) ∙ ap (λ (k : ℕ). from k (chains c.table c.bucket)) same

      abbrev Before : List ℕ → Cursor → Type 0
      Before visited c = CursorFits key nexts log chains linked begun returned mark freed pin accounts visited c

      abbrev After : List ℕ → Cursor → Type 0
      After visited c = CursorFits key nexts' log chains' linked' (place + 1) returned None freed pin accounts visited c

      -- a walk meets what it would have met, or that without the entry
      walk_cut : (visited : List ℕ) (c : Cursor) → Before visited c
          → (from (next_in key.entries nexts' c.table c.entry) (chains' c.table c.bucket) ≡ without e (from (next_in key.entries nexts c.table c.entry) (chains c.table c.bucket)))
          ⊎ (from (next_in key.entries nexts' c.table c.entry) (chains' c.table c.bucket) ≡ from (next_in key.entries nexts c.table c.entry) (chains c.table c.bucket))
      walk_cut visited c f = dite (ℕ_discrete c.table table)
          (λ p. ⊎_elim
          (λ m. dite (ℕ_discrete c.bucket bucket)
          (λ q. inl (walk_there c p q m))
          (λ n. inr (walk_else c (λ x y. n y) (next_else c f.table (λ x y. n y) m))))
          (λ loose. absurd (not_loose c _ pin accounts _ p loose)) f.stands)
          (λ n. inr (walk_else c (λ x y. n x) (⊎_elim
          (λ m. next_else c f.table (λ x y. n x) m)
          (λ loose. let r = loose.reclaimed in else c.table c.entry f.table (reclaimed_small r.0 r.1 c.entry r.2) (λ x m. n x)) f.stands)))

      pub cursor_cut : (visited : List ℕ) (c : Cursor) → Before visited c → After visited c
      cursor_cut visited c f = record {
        table = f.table;
        bucket = f.bucket;
        stands = dite (ℕ_discrete c.table table)
            (λ p. ⊎_elim
            (λ m. dite (ℕ_discrete c.bucket bucket)
            (λ q. dite (ℕ_discrete c.entry e)
            (λ r. inr (loosened c p q r))
            (λ n. inl (subst (λ (l : List ℕ). Member c.entry l) (sym (chain_there c p q)) (member_without c.entry e chain n (subst (λ (l : List ℕ). Member c.entry l) (was_there c p q) m)))))
            (λ n. inl (subst (λ (l : List ℕ). Member c.entry l) (sym (chain_else c (λ x y. n y))) m)))
            (λ loose. absurd (not_loose c _ pin accounts _ p loose)) f.stands)
            (λ n. ⊎_elim
            (λ m. inl (subst (λ (l : List ℕ). Member c.entry l) (sym (chain_else c (λ x y. n x))) m))
            (λ loose. inr (stays_loose c f.table n loose)) f.stands);
        once = ⊎_elim
            (λ h. subst (λ (l : List ℕ). Once (visited ++ l)) (sym h) (once_append_without e visited _ f.once))
            (λ h. subst (λ (l : List ℕ). Once (visited ++ l)) (sym h) f.once)
            (walk_cut visited c f);
      }

      -- what a walk needs is not the entry that is cut
      pub covers_cut : (visited : List ℕ) (c : Cursor) → Before visited c → (entry : ℕ) → (entry ≡ e → ⊥)
          → Member entry visited ⊎ Member entry (from (next_in key.entries nexts c.table c.entry) (chains c.table c.bucket))
          → Member entry visited ⊎ Member entry (from (next_in key.entries nexts' c.table c.entry) (chains' c.table c.bucket))
      covers_cut visited c f entry other met = ⊎_elim (λ h. inl h)
          (λ ahead. inr (⊎_elim
          (λ h. subst (λ (l : List ℕ). Member entry l) (sym h) (member_without entry e _ other ahead))
          (λ h. subst (λ (l : List ℕ). Member entry l) (sym h) ahead)
          (walk_cut visited c f))) met

-- ---- the two ways to cut

-- kind 20: the entry is the first of its chain
pub over_first : (next : ℕ → ℕ) (w e : ℕ) (l : List ℕ) → LeadsThrough next w l → Once l → w ≡ link_word e → Member e l
    → (x : ℕ) → Member x l → from (next x) (without e l) ≡ without e (from (next x) l)
over_first next w e l k o first there x m = from_without (next x) e l o (next_names next w x l k m)
    (λ itself. not_first next w e l k o first x m (subst (λ (z : List ℕ). Member e z) (from_next next w x l k o m) (subst (λ (z : ℕ). Member e (from z l)) (sym itself) (first_of e l)))) where
      not_first : (next : ℕ → ℕ) (w e : ℕ) (l : List ℕ) → LeadsThrough next w l → Once l → w ≡ link_word e → (x : ℕ) → Member x l → Member e (after x l) → ⊥
      not_first next w e [] k o first x m n = m
      not_first next w e (y ∷ l) k o first x m n = let same : y ≡ e = link_same y e (sym k.0 ∙ first) in
          dite (ℕ_discrete y x)
          (λ p. not_member y l o.0 (subst (λ (z : ℕ). Member z l) (sym same) (subst (λ (z : List ℕ). Member e z) (test_same y x l (after x l) p) n)))
          (λ p. not_member y l o.0 (subst (λ (z : ℕ). Member z l) (sym same) (member_after e x l (subst (λ (z : List ℕ). Member e z) (test_apart y x l (after x l) p) n))))

-- kind 21: it comes behind another entry, whose next word becomes that of the entry
pub over_next : (next next' : ℕ → ℕ) (w e at : ℕ) (rest l : List ℕ) → LeadsThrough next w l → Once l → Member e l → Member at l → after at l ≡ e ∷ rest
    → next' at ≡ next e → ((x : ℕ) → (x ≡ at → ⊥) → next' x ≡ next x)
    → (x : ℕ) → Member x l → from (next' x) (without e l) ≡ without e (from (next x) l)
over_next next next' w e at rest l k o there before comes moved same x m = dite (ℕ_discrete x at)
    (λ p. let rest_is : from (next e) l ≡ after e l = from_next next w e l k o there in
    ap (λ (z : ℕ). from z (without e l)) (ap next' p ∙ moved)
    ∙ (from_without (next e) e l o (next_names next w e l k there) (λ itself. not_after e l o (subst (λ (z : List ℕ). Member e z) rest_is (subst (λ (z : ℕ). Member e (from z l)) (sym itself) (first_of e l))))
    ∙ (ap (without e) rest_is ∙ (without_none e (after e l) (avoids_of e (after e l) (λ z. not_after e l o z))
    ∙ (sym (without_first e l) ∙ ap (without e) (sym (from_next next w x l k o m ∙ (ap (λ (z : ℕ). after z l) p ∙ (comes ∙ ap (λ (z : List ℕ). e ∷ z) (sym (rest_of e at rest l o before comes))))))))))
    )
    (λ p. ap (λ (z : ℕ). from z (without e l)) (same x p) ∙ from_without (next x) e l o (next_names next w x l k m)
    (λ itself. p (before_once x at e (after e l) rest l o m before (sym (from_next next w x l k o m) ∙ (ap (λ (z : ℕ). from z l) itself ∙ from_link e l)) comes))) where
      without_first : (e : ℕ) (l : List ℕ) → without e (e ∷ after e l) ≡ after e l
      without_first e l = test_same e e (after e l) (e ∷ without e (after e l)) refl

      -- what comes behind the entry is the rest
      rest_of : (e at : ℕ) (rest l : List ℕ) → Once l → Member at l → after at l ≡ e ∷ rest → after e l ≡ rest
      rest_of e at rest [] o m c = absurd m
      rest_of e at rest (y ∷ l) o m c = dite (ℕ_discrete y at)
          (λ p. let l_is : l ≡ e ∷ rest = sym (test_same y at l (after at l) p) ∙ c in
          let apart : y ≡ e → ⊥ = λ h. not_member y l o.0 (subst (λ (z : List ℕ). Member y z) (sym l_is) (inl h)) in
          test_apart y e l (after e l) apart ∙ (ap (after e) l_is ∙ test_same e e rest (after e rest) refl))
          (λ p. let c' : after at l ≡ e ∷ rest = sym (test_apart y at l (after at l) p) ∙ c in
          let apart : y ≡ e → ⊥ = λ h. not_member y l o.0 (subst (λ (z : ℕ). Member z l) (sym h) (member_after e at l (subst (λ (z : List ℕ). Member e z) (sym c') (inl refl)))) in
          test_apart y e l (after e l) apart ∙ rest_of e at rest l o.1 (⊎_elim (λ h. absurd (p (sym h))) (λ h. h) m) c')
