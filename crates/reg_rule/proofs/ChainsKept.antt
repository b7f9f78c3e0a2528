-- The chains after an entry is cut (kinds 20 and 21), and the words that lead along a list then.
use Rattle.std.proofs.Common.{◌≡◌, ℕ, suc, ◌+◌, ◌*◌, ◌^◌, ◌<◌, ◌≤◌, inl, inr, ⊎_elim, List, [], ◌∷◌, Bool, false, true≢false, sym, refl, ap, ◌∙◌, subst, lt_of_not-le, mul-le-mul_right, suc-mul, arith}
use mathlib.Core.Logic.{dite}
use native.Mathlib.Decide.{ℕ_discrete, dec_le}
use Rattle.mih_plan.specs.Buckets.{bucket_of}
use Rattle.reg_rule.specs.Links.{link_word}
use Rattle.reg_rule.specs.declared.view.Key.{Key}
use Rattle.reg_rule.specs.Chains.{Member, Once, LeadsThrough}
use Rattle.reg_rule.specs.inner.ChainParts.{after, without, next_in, head_cell, ChainsPart}
use Rattle.reg_rule.proofs.Chained.{not_member, member_without, member_of_without, once_without, gone_without, link_same, test_same, test_apart, member_after}
use Rattle.reg_rule.proofs.CursorsCut.{set_in, set_in_here, set_in_away}

-- two cells of tables with rows of n are one only where the tables and the places are
further : (a c n : ℕ) → a < c → a * n + n ≤ c * n
further a c n h = let x : suc a * n ≤ c * n = mul-le-mul_right n h in omega (arith, suc-mul a n)

pub cell_apart : (n a b c d : ℕ) → b < n → d < n → a * n + b ≡ c * n + d → (a ≡ c) × (b ≡ d)
cell_apart n a b c d small little e = dite (dec_le a c)
    (λ le. dite (dec_le c a)
    (λ ge. let same : a ≡ c = omega arith in let z : a * n ≡ c * n = ap (λ (k : ℕ). k * n) same in let x : ℕ = a * n in let y : ℕ = c * n in let f : x + b ≡ y + d = e in let g : x ≡ y = z in (same, omega arith))
    (λ lt. let l = further a c n (lt_of_not-le lt) in let x : ℕ = a * n in let y : ℕ = c * n in let f : x + b ≡ y + d = e in let g : x + n ≤ y = l in absurd (omega arith)))
    (λ gt. let l = further c a n (lt_of_not-le gt) in let x : ℕ = a * n in let y : ℕ = c * n in let f : x + b ≡ y + d = e in let g : y + n ≤ x = l in absurd (omega arith))

-- the words lead along a list where those of its entries are the same
pub linked_same : (next next' : ℕ → ℕ) (w : ℕ) (l : List ℕ) → ((x : ℕ) → Member x l → next' x ≡ next x) → LeadsThrough next w l → LeadsThrough next' w l
linked_same next next' w [] same k = k
linked_same next next' w (x ∷ l) same k = (k.0, subst (λ (z : ℕ). LeadsThrough next' z l) (sym (same x (inl refl))) (linked_same next next' (next x) l (λ y m. same y (inr m)) k.1))

-- the first is cut
pub linked_rest : (next : ℕ → ℕ) (w e : ℕ) (l : List ℕ) → LeadsThrough next w l → Once l → w ≡ link_word e → LeadsThrough next (next e) (without e l)
linked_rest next w e [] k o is = absurd (let a : link_word e ≡ 0 = sym is ∙ k in omega arith)
linked_rest next w e (x ∷ l) k o is = let same : x ≡ e = link_same x e (sym k.0 ∙ is) in
    subst (λ (z : List ℕ). LeadsThrough next (next e) z) (sym (test_same x e l (x ∷ without e l) same)) (subst (λ (z : ℕ). LeadsThrough next (next z) l) same k.1)

-- another is cut, from the entry before it
pub linked_without : (next next' : ℕ → ℕ) (w e at : ℕ) (rest l : List ℕ) → LeadsThrough next w l → Once l → Member at l → after at l ≡ e ∷ rest
    → next' at ≡ next e → ((x : ℕ) → (x ≡ at → ⊥) → next' x ≡ next x) → LeadsThrough next' w (without e l)
linked_without next next' w e at rest [] k o m c moved same = absurd m
linked_without next next' w e at rest (y ∷ l) k o m c moved same = dite (ℕ_discrete y at)
    (λ p. let l_is : l ≡ e ∷ rest = sym (test_same y at l (after at l) p) ∙ c in
    let apart : y ≡ e → ⊥ = λ h. not_member y l o.0 (subst (λ (z : List ℕ). Member y z) (sym l_is) (inl h)) in
    let o_rest : Once (e ∷ rest) = subst Once l_is o.1 in
    let k_rest : LeadsThrough next (next y) (e ∷ rest) = subst (λ (z : List ℕ). LeadsThrough next (next y) z) l_is k.1 in
    let rest_is : without e l ≡ rest = ap (without e) l_is ∙ test_same e e rest (e ∷ without e rest) refl in
    subst (λ (z : List ℕ). LeadsThrough next' w z) (sym (test_apart y e l (y ∷ without e l) apart)) (
      k.0,
      subst (λ (z : List ℕ). LeadsThrough next' (next' y) z) (sym rest_is) (subst (λ (z : ℕ). LeadsThrough next' z rest) (sym (ap next' p ∙ moved))
          (linked_same next next' (next e) rest (λ x in_rest. same x (λ is. not_member y l o.0 (subst (λ (z : List ℕ). Member y z) (sym l_is) (inr (subst (λ (z : ℕ). Member z rest) (is ∙ sym p) in_rest))))) k_rest.1)),
    ))
    (λ p. let c' : after at l ≡ e ∷ rest = sym (test_apart y at l (after at l) p) ∙ c in
    let apart : y ≡ e → ⊥ = λ h. not_member y l o.0 (subst (λ (z : ℕ). Member z l) (sym h) (member_after e at l (subst (λ (z : List ℕ). Member e z) (sym c') (inl refl)))) in
    subst (λ (z : List ℕ). LeadsThrough next' w z) (sym (test_apart y e l (y ∷ without e l) apart))
    (k.0, subst (λ (z : ℕ). LeadsThrough next' z (without e l)) (sym (same y p)) (linked_without next next' (next y) e at rest l k.1 o.1 (⊎_elim (λ h. absurd (p (sym h))) (λ h. h) m) c' moved same)))

pub chains_cut : (key : Key) (heads heads' nexts nexts' codes : ℕ → ℕ) (chains : ℕ → ℕ → List ℕ) (linked : ℕ → ℕ → Bool) (table bucket e : ℕ) → ChainsPart key heads nexts codes chains linked
    → Member e (chains table bucket)
    → LeadsThrough (next_in key.entries nexts' table) (heads' (head_cell key.sizes.bits table bucket)) (without e (chains table bucket))
    → ((t b : ℕ) → t < 4 → b < 2 ^ key.sizes.bits → (t ≡ table → b ≡ bucket → ⊥) → heads' (head_cell key.sizes.bits t b) ≡ heads (head_cell key.sizes.bits t b))
    → ((t x : ℕ) → t < 4 → x < key.entries → (t ≡ table → Member x (chains table bucket) → ⊥) → next_in key.entries nexts' t x ≡ next_in key.entries nexts t x)
    → ChainsPart key heads' nexts' codes (set_in chains table bucket (without e (chains table bucket))) (set_in linked table e false)
chains_cut key heads heads' nexts nexts' codes chains linked table bucket e part there leads same_head same_next = record {
  leads = λ t b s z. dite (ℕ_discrete t table)
      (λ p. dite (ℕ_discrete b bucket)
      (λ q. subst (λ (l : List ℕ). LeadsThrough (next_in key.entries nexts' t) (heads' (head_cell key.sizes.bits t b)) l) (sym (set_in_here chains table bucket t b (without e (chains table bucket)) p q))
      (subst (λ (k : ℕ). LeadsThrough (next_in key.entries nexts' k) (heads' (head_cell key.sizes.bits k b)) (without e (chains table bucket))) (sym p) (subst (λ (k : ℕ). LeadsThrough (next_in key.entries nexts' table) (heads' (head_cell key.sizes.bits table k)) (without e (chains table bucket))) (sym q) leads)))
      (λ n. other t b s z (λ x y. n y)))
      (λ n. other t b s z (λ x y. n x));
  once = λ t b. dite (ℕ_discrete t table)
      (λ p. dite (ℕ_discrete b bucket)
      (λ q. subst Once (sym (set_in_here chains table bucket t b (without e (chains table bucket)) p q)) (once_without e (chains table bucket) (part.once table bucket)))
      (λ n. subst Once (sym (set_in_away chains table bucket t b (without e (chains table bucket)) (λ x y. n y))) (part.once t b)))
      (λ n. subst Once (sym (set_in_away chains table bucket t b (without e (chains table bucket)) (λ x y. n x))) (part.once t b));
  tables = λ t b x m. part.tables t b x (member_was t b x m);
  inside = λ t b x m. let old = member_was t b x m in let o = part.inside t b x old in (
    o.0,
    set_in_away linked table e t x false (λ p q. gone t b x m p q) ∙ o.1,
    o.2,
  );
  whole = λ t x s r is. let apart : t ≡ table → x ≡ e → ⊥ = (λ p q. true≢false (sym is ∙ set_in_here linked table e t x false p q)) in
      let old = part.whole t x s r (sym (set_in_away linked table e t x false apart) ∙ is) in
      dite (ℕ_discrete t table)
      (λ p. dite (ℕ_discrete (bucket_of (codes x) t key.sizes.bits) bucket)
      (λ q. subst (λ (l : List ℕ). Member x l) (sym (set_in_here chains table bucket t (bucket_of (codes x) t key.sizes.bits) (without e (chains table bucket)) p q))
      (member_without x e (chains table bucket) (λ z. apart p z) (subst (λ (k : ℕ). Member x (chains table k)) q (subst (λ (k : ℕ). Member x (chains k (bucket_of (codes x) t key.sizes.bits))) p old))))
      (λ n. subst (λ (l : List ℕ). Member x l) (sym (set_in_away chains table bucket t (bucket_of (codes x) t key.sizes.bits) (without e (chains table bucket)) (λ y z. n z))) old))
      (λ n. subst (λ (l : List ℕ). Member x l) (sym (set_in_away chains table bucket t (bucket_of (codes x) t key.sizes.bits) (without e (chains table bucket)) (λ y z. n y))) old);
} where
  other : (t b : ℕ) → t < 4 → b < 2 ^ key.sizes.bits → (t ≡ table → b ≡ bucket → ⊥) → LeadsThrough (next_in key.entries nexts' t) (heads' (head_cell key.sizes.bits t b)) (set_in chains table bucket (without e (chains table bucket)) t b)
  other t b s z n = subst (λ (l : List ℕ). LeadsThrough (next_in key.entries nexts' t) (heads' (head_cell key.sizes.bits t b)) l) (sym (set_in_away chains table bucket t b (without e (chains table bucket)) n))
      (subst (λ (k : ℕ). LeadsThrough (next_in key.entries nexts' t) k (chains t b)) (sym (same_head t b s z n))
      (linked_same (next_in key.entries nexts t) (next_in key.entries nexts' t) (heads (head_cell key.sizes.bits t b)) (chains t b)
      (λ x m. let o = part.inside t b x m in same_next t x s o.0 (λ p in_chain. n p (sym o.2 ∙ (ap (λ (k : ℕ). bucket_of (codes x) k key.sizes.bits) p ∙ (part.inside table bucket x in_chain).2)))) (part.leads t b s z)))

  member_was : (t b x : ℕ) → Member x (set_in chains table bucket (without e (chains table bucket)) t b) → Member x (chains t b)
  member_was t b x m = dite (ℕ_discrete t table)
      (λ p. dite (ℕ_discrete b bucket)
      (λ q. subst (λ (k : ℕ). Member x (chains k b)) (sym p) (subst (λ (k : ℕ). Member x (chains table k)) (sym q) (member_of_without x e (chains table bucket) (subst (λ (l : List ℕ). Member x l) (set_in_here chains table bucket t b (without e (chains table bucket)) p q) m))))
      (λ n. subst (λ (l : List ℕ). Member x l) (set_in_away chains table bucket t b (without e (chains table bucket)) (λ y z. n z)) m))
      (λ n. subst (λ (l : List ℕ). Member x l) (set_in_away chains table bucket t b (without e (chains table bucket)) (λ y z. n y)) m)

  gone : (t b x : ℕ) → Member x (set_in chains table bucket (without e (chains table bucket)) t b) → t ≡ table → x ≡ e → ⊥
  gone t b x m p q = let old = member_was t b x m in
      let in_b : b ≡ bucket = sym (part.inside t b x old).2 ∙ (ap (λ (k : ℕ). bucket_of (codes k) t key.sizes.bits) q ∙ (ap (λ (k : ℕ). bucket_of (codes e) k key.sizes.bits) p ∙ (part.inside table bucket e there).2)) in
      gone_without e (chains table bucket) (part.once table bucket) (subst (λ (k : ℕ). Member k (without e (chains table bucket))) q (subst (λ (l : List ℕ). Member x l) (set_in_here chains table bucket t b (without e (chains table bucket)) p in_b) m))
