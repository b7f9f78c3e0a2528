-- Lists of entries without repetition, and the next words that lead along them.
use Rattle.std.proofs.Common.{◌≡◌, ℕ, suc, ◌⊎◌, ◌==◌, inl, inr, ⊎_elim, List, [], ◌∷◌, ◌++◌, cond, Bool, sym, refl, ap, ◌∙◌, subst, eq-eqb, ne_eqb, arith}
use mathlib.Core.Logic.{dite}
use native.Mathlib.Decide.{ℕ_discrete}
use Rattle.reg_rule.specs.Links.{link_word}
use Rattle.reg_rule.specs.Chains.{Member, Avoids, Once, LeadsThrough}
use Rattle.reg_rule.specs.inner.ChainParts.{after, without, Names}
use Rattle.reg_rule.specs.inner.Walks.{from}

pub test_same : {A : Type 0} (n m : ℕ) (x y : A) → n ≡ m → cond (n == m) x y ≡ x
test_same {A} n m x y e = ap (λ (b : Bool). cond {A = A} b x y) (eq-eqb n m e)

pub test_apart : {A : Type 0} (n m : ℕ) (x y : A) → (n ≡ m → ⊥) → cond (n == m) x y ≡ y
test_apart {A} n m x y e = ap (λ (b : Bool). cond {A = A} b x y) (ne_eqb n m e)

-- ---- members

pub not_member : (e : ℕ) (l : List ℕ) → Avoids e l → Member e l → ⊥
not_member e [] a m = m
not_member e (x ∷ l) a m = ⊎_elim (λ h. a.0 (sym h)) (λ h. not_member e l a.1 h) m

pub avoids_of : (e : ℕ) (l : List ℕ) → (Member e l → ⊥) → Avoids e l
avoids_of e [] n = tt
avoids_of e (x ∷ l) n = ((λ h. n (inl (sym h))), avoids_of e l (λ m. n (inr m)))

pub member_append : (e : ℕ) (l m : List ℕ) → Member e (l ++ m) → Member e l ⊎ Member e m
member_append e [] m h = inr h
member_append e (x ∷ l) m h = ⊎_elim (λ a. inl (inl a)) (λ a. ⊎_elim (λ b. inl (inr b)) (λ b. inr b) (member_append e l m a)) h

pub member_left : (e : ℕ) (l m : List ℕ) → Member e l → Member e (l ++ m)
member_left e [] m h = absurd h
member_left e (x ∷ l) m h = ⊎_elim (λ a. inl a) (λ a. inr (member_left e l m a)) h

pub member_right : (e : ℕ) (l m : List ℕ) → Member e m → Member e (l ++ m)
member_right e [] m h = h
member_right e (x ∷ l) m h = inr (member_right e l m h)

pub member_after : (e x : ℕ) (l : List ℕ) → Member e (after x l) → Member e l
member_after e x [] m = m
member_after e x (y ∷ l) m = dite (ℕ_discrete y x)
    (λ same. inr (subst (λ (k : List ℕ). Member e k) (test_same y x l (after x l) same) m))
    (λ apart. inr (member_after e x l (subst (λ (k : List ℕ). Member e k) (test_apart y x l (after x l) apart) m)))

-- ---- without one entry

pub member_without : (y e : ℕ) (l : List ℕ) → (y ≡ e → ⊥) → Member y l → Member y (without e l)
member_without y e [] n m = m
member_without y e (x ∷ l) n m = dite (ℕ_discrete x e)
    (λ same. subst (λ (k : List ℕ). Member y k) (sym (test_same x e l (x ∷ without e l) same)) (⊎_elim (λ h. absurd (n (h ∙ same))) (λ h. h) m))
    (λ apart. subst (λ (k : List ℕ). Member y k) (sym (test_apart x e l (x ∷ without e l) apart)) (⊎_elim (λ h. inl h) (λ h. inr (member_without y e l n h)) m))

pub member_of_without : (y e : ℕ) (l : List ℕ) → Member y (without e l) → Member y l
member_of_without y e [] m = m
member_of_without y e (x ∷ l) m = dite (ℕ_discrete x e)
    (λ same. inr (subst (λ (k : List ℕ). Member y k) (test_same x e l (x ∷ without e l) same) m))
    (λ apart. ⊎_elim (λ h. inl h) (λ h. inr (member_of_without y e l h)) (subst (λ (k : List ℕ). Member y k) (test_apart x e l (x ∷ without e l) apart) m))

pub avoids_without : (x e : ℕ) (l : List ℕ) → Avoids x l → Avoids x (without e l)
avoids_without x e l a = avoids_of x (without e l) (λ m. not_member x l a (member_of_without x e l m))

pub once_without : (e : ℕ) (l : List ℕ) → Once l → Once (without e l)
once_without e [] o = o
once_without e (x ∷ l) o = dite (ℕ_discrete x e)
    (λ same. subst Once (sym (test_same x e l (x ∷ without e l) same)) o.1)
    (λ apart. subst Once (sym (test_apart x e l (x ∷ without e l) apart)) (avoids_without x e l o.0, once_without e l o.1))

pub without_none : (e : ℕ) (l : List ℕ) → Avoids e l → without e l ≡ l
without_none e [] a = refl
without_none e (x ∷ l) a = test_apart x e l (x ∷ without e l) a.0 ∙ ap (λ (k : List ℕ). x ∷ k) (without_none e l a.1)

pub gone_without : (e : ℕ) (l : List ℕ) → Once l → Member e (without e l) → ⊥
gone_without e [] o m = m
gone_without e (x ∷ l) o m = dite (ℕ_discrete x e)
    (λ same. not_member x l o.0 (subst (λ (k : ℕ). Member k l) (sym same) (subst (λ (k : List ℕ). Member e k) (test_same x e l (x ∷ without e l) same) m)))
    (λ apart. ⊎_elim (λ h. apart (sym h)) (λ h. gone_without e l o.1 h) (subst (λ (k : List ℕ). Member e k) (test_apart x e l (x ∷ without e l) apart) m))

-- the rest of a walk loses an entry
pub once_append_without : (e : ℕ) (v l : List ℕ) → Once (v ++ l) → Once (v ++ without e l)
once_append_without e [] l o = once_without e l o
once_append_without e (x ∷ v) l o = (
  avoids_of x (v ++ without e l) (λ m. not_member x (v ++ l) o.0 (⊎_elim (λ h. member_left x v l h) (λ h. member_right x v l (member_of_without x e l h)) (member_append x v (without e l) m))),
  once_append_without e v l o.1,
)

pub after_without : (x e : ℕ) (l : List ℕ) → Once l → (x ≡ e → ⊥) → after x (without e l) ≡ without e (after x l)
after_without x e [] o n = refl
after_without x e (y ∷ l) o n = dite (ℕ_discrete y e)
    (λ same. ap (after x) (test_same y e l (y ∷ without e l) same)
    ∙ (sym (without_none e (after x l) (avoids_of e (after x l) (λ m. not_member y l o.0 (subst (λ (k : ℕ). Member k l) (sym same) (member_after e x l m)))))
    ∙ ap (without e) (sym (test_apart y x l (after x l) (λ h. n (sym h ∙ same))))))
    (λ apart. ap (after x) (test_apart y e l (y ∷ without e l) apart) ∙ dite (ℕ_discrete y x)
    (λ here. test_same y x (without e l) (after x (without e l)) here ∙ ap (without e) (sym (test_same y x l (after x l) here)))
    (λ other. test_apart y x (without e l) (after x (without e l)) other ∙ (after_without x e l o.1 n ∙ ap (without e) (sym (test_apart y x l (after x l) other)))))

-- ---- next words

pub link_apart : (x : ℕ) → link_word x ≡ 0 → ⊥
link_apart x e = omega arith

pub link_same : (x y : ℕ) → link_word x ≡ link_word y → x ≡ y
link_same x y e = omega arith

pub from_link : (x : ℕ) (l : List ℕ) → from (link_word x) l ≡ x ∷ after x l
from_link x l = let h : suc x ≡ link_word x = omega arith in subst (λ (w : ℕ). from w l ≡ x ∷ after x l) h refl

-- the word behind a member leads through what comes after it
pub from_start : (next : ℕ → ℕ) (w : ℕ) (l m : List ℕ) → LeadsThrough next w l → from w l ≡ l
from_start next w [] m k = ap (λ (z : ℕ). from z []) k
from_start next w (x ∷ l) m k = ap (λ (z : ℕ). from z (x ∷ l)) k.0 ∙ (from_link x (x ∷ l) ∙ ap (λ (z : List ℕ). x ∷ z) (test_same x x l (after x l) refl))

-- where the list is a part behind an entry that the word does not name
pub names_start : (next : ℕ → ℕ) (w : ℕ) (l : List ℕ) → LeadsThrough next w l → Names w l
names_start next w [] k = inl k
names_start next w (x ∷ l) k = inr (x, k.0, inl refl)

pub names_more : (w x : ℕ) (l : List ℕ) → Names w l → Names w (x ∷ l)
names_more w x l n = ⊎_elim (λ h. inl h) (λ (t : (e : ℕ) × (w ≡ link_word e) × Member e l). inr (t.0, t.1, inr t.2)) n

pub from_more : (w x : ℕ) (l : List ℕ) → Names w l → Avoids x l → from w (x ∷ l) ≡ from w l
from_more w x l n a = ⊎_elim
    (λ h. ap (λ (z : ℕ). from z (x ∷ l)) h ∙ sym (ap (λ (z : ℕ). from z l) h))
    (λ (t : (e : ℕ) × (w ≡ link_word e) × Member e l).
    ap (λ (z : ℕ). from z (x ∷ l)) t.1 ∙ (from_link t.0 (x ∷ l) ∙ (ap (λ (z : List ℕ). t.0 ∷ z) (test_apart x t.0 l (after t.0 l) (λ h. not_member x l a (subst (λ (k : ℕ). Member k l) (sym h) t.2))) ∙ (sym (from_link t.0 l) ∙ ap (λ (z : ℕ). from z l) (sym t.1)))))
    n

pub next_names : (next : ℕ → ℕ) (w x : ℕ) (l : List ℕ) → LeadsThrough next w l → Member x l → Names (next x) l
next_names next w x [] k m = absurd m
next_names next w x (y ∷ l) k m = ⊎_elim
    (λ h. names_more (next x) y l (subst (λ (z : ℕ). Names (next z) l) (sym h) (names_start next (next y) l k.1)))
    (λ h. names_more (next x) y l (next_names next (next y) x l k.1 h)) m

pub from_next : (next : ℕ → ℕ) (w x : ℕ) (l : List ℕ) → LeadsThrough next w l → Once l → Member x l → from (next x) l ≡ after x l
from_next next w x [] k o m = absurd m
from_next next w x (y ∷ l) k o m = ⊎_elim
    (λ h. from_more (next x) y l (subst (λ (z : ℕ). Names (next z) l) (sym h) (names_start next (next y) l k.1)) o.0
    ∙ (ap (λ (z : ℕ). from (next z) l) h ∙ (from_start next (next y) l [] k.1 ∙ sym (test_same y x l (after x l) (sym h)))))
    (λ h. from_more (next x) y l (next_names next (next y) x l k.1 h) o.0
    ∙ (from_next next (next y) x l k.1 o.1 h ∙ sym (test_apart y x l (after x l) (λ e. not_member y l o.0 (subst (λ (z : ℕ). Member z l) (sym e) h))))) m

-- after an entry is cut, a word that does not name it leads through what it led through, without the entry
pub from_without : (w e : ℕ) (l : List ℕ) → Once l → Names w l → (w ≡ link_word e → ⊥) → from w (without e l) ≡ without e (from w l)
from_without w e l o n apart = ⊎_elim
    (λ h. ap (λ (z : ℕ). from z (without e l)) h ∙ ap (λ (z : ℕ). without e (from z l)) (sym h))
    (λ (t : (x : ℕ) × (w ≡ link_word x) × Member x l). let other : t.0 ≡ e → ⊥ = λ same. apart (t.1 ∙ ap link_word same) in
    ap (λ (z : ℕ). from z (without e l)) t.1 ∙ (from_link t.0 (without e l) ∙ (ap (λ (z : List ℕ). t.0 ∷ z) (after_without t.0 e l o other)
    ∙ (sym (test_apart t.0 e (after t.0 l) (t.0 ∷ without e (after t.0 l)) other) ∙ (ap (without e) (sym (from_link t.0 l)) ∙ ap (λ (z : ℕ). without e (from z l)) (sym t.1))))))
    n

pub not_after : (e : ℕ) (l : List ℕ) → Once l → Member e (after e l) → ⊥
not_after e [] o m = m
not_after e (x ∷ l) o m = dite (ℕ_discrete x e)
    (λ same. not_member x l o.0 (subst (λ (k : ℕ). Member k l) (sym same) (subst (λ (k : List ℕ). Member e k) (test_same x e l (after e l) same) m)))
    (λ apart. not_after e l o.1 (subst (λ (k : List ℕ). Member e k) (test_apart x e l (after e l) apart) m))

pub first_of : (e : ℕ) (l : List ℕ) → Member e (from (link_word e) l)
first_of e l = subst (λ (k : List ℕ). Member e k) (sym (from_link e l)) (inl refl)

-- an entry comes behind one other alone
pub before_once : (x a e : ℕ) (r s l : List ℕ) → Once l → Member x l → Member a l → after x l ≡ e ∷ r → after a l ≡ e ∷ s → x ≡ a
before_once x a e r s [] o m n p q = absurd m
before_once x a e r s (y ∷ l) o m n p q = dite (ℕ_discrete y x)
    (λ is_x. dite (ℕ_discrete y a) (λ is_a. sym is_x ∙ is_a)
    (λ not_a. let l_is : l ≡ e ∷ r = sym (test_same y x l (after x l) is_x) ∙ p in let a_is : after a l ≡ e ∷ s = sym (test_apart y a l (after a l) not_a) ∙ q in
    absurd (in_rest a e r s (subst Once l_is o.1) (sym (ap (after a) l_is) ∙ a_is))))
    (λ not_x. dite (ℕ_discrete y a)
    (λ is_a. let l_is : l ≡ e ∷ s = sym (test_same y a l (after a l) is_a) ∙ q in let x_is : after x l ≡ e ∷ r = sym (test_apart y x l (after x l) not_x) ∙ p in
    absurd (in_rest x e s r (subst Once l_is o.1) (sym (ap (after x) l_is) ∙ x_is)))
    (λ not_a. before_once x a e r s l o.1 (⊎_elim (λ h. absurd (not_x (sym h))) (λ h. h) m) (⊎_elim (λ h. absurd (not_a (sym h))) (λ h. h) n)
    (sym (test_apart y x l (after x l) not_x) ∙ p) (sym (test_apart y a l (after a l) not_a) ∙ q))) where
      in_rest : (z e : ℕ) (r s : List ℕ) → Once (e ∷ r) → after z (e ∷ r) ≡ e ∷ s → ⊥
      in_rest z e r s o h = dite (ℕ_discrete e z)
          (λ same. not_member e r o.0 (subst (λ (k : List ℕ). Member e k) (sym (sym (test_same e z r (after z r) same) ∙ h)) (inl refl)))
          (λ apart. not_member e r o.0 (member_after e z r (subst (λ (k : List ℕ). Member e k) (sym (sym (test_apart e z r (after z r) apart) ∙ h)) (inl refl))))
