-- The holder's way along a chain to the entry that it seeks (kinds 13, 16 and 20).
use Rattle.std.proofs.Common.{◌≡◌, ℕ, zero, suc, ◌+◌, ◌<◌, ◌≤◌, inl, ⊎_elim, List, [], ◌∷◌, ◌++◌, length, length-append, Bool, ◌^◌, sym, refl, ap, ◌∙◌, subst, arith}
use mathlib.Core.Logic.{dite}
use native.Mathlib.Decide.{ℕ_discrete}
use Rattle.reg_rule.specs.Links.{link_word}
use Rattle.reg_rule.specs.declared.view.Key.{Key}
use Rattle.reg_rule.specs.Chains.{Member, Once, LeadsThrough, Avoids}
use Rattle.reg_rule.specs.inner.ChainParts.{after, without, next_in, head_cell, ChainsPart}
use Rattle.reg_rule.proofs.Chained.{test_same, test_apart, member_of_without, once_without, gone_without, member_after, not_member}

-- a list without repetition of numbers below n has no more than n
length_without : (e : ℕ) (l : List ℕ) → length l ≤ length (without e l) + 1
length_without e [] = omega arith
length_without e (x ∷ l) = dite (ℕ_discrete x e)
    (λ same. let a : length (without e (x ∷ l)) ≡ length l = ap length (test_same x e l (x ∷ without e l) same) in omega arith)
    (λ apart. let a : length (without e (x ∷ l)) ≡ length (x ∷ without e l) = ap length (test_apart x e l (x ∷ without e l) apart) in let b = length_without e l in omega arith)

pub once_short : (n : ℕ) (l : List ℕ) → Once l → ((x : ℕ) → Member x l → x < n) → length l ≤ n
once_short zero [] o small = omega arith
once_short zero (x ∷ l) o small = let h = small x (inl refl) in absurd (omega arith)
once_short (suc n) l o small = let a = length_without n l in
    let b = once_short n (without n l) (once_without n l o) (λ x m. let h = small x (member_of_without x n l m) in below x h (λ same. gone_without n l o (subst (λ (k : ℕ). Member k (without n l)) same m))) in omega arith where
      below : (x : ℕ) → x < suc n → (x ≡ n → ⊥) → x < n
      below x h apart = dite (ℕ_discrete x n) (λ same. absurd (apart same)) (λ other. omega arith)

-- what stands before a member and behind it
pub parted : (e : ℕ) (l : List ℕ) → Member e l → (between : List ℕ) × (rest : List ℕ) × (l ≡ between ++ e ∷ rest)
parted e [] m = absurd m
parted e (x ∷ l) m = ⊎_elim (λ same. ([], l, ap (λ (k : ℕ). k ∷ l) (sym same))) (λ h. let r = parted e l h in (x ∷ r.0, r.1, ap (λ (k : List ℕ). x ∷ k) r.2)) m

-- kinds 13 and 20: the head is another entry, and the one that is sought lies ahead
avoids_past : (b e : ℕ) (between rest : List ℕ) → Avoids b (between ++ e ∷ rest) → e ≡ b → ⊥
avoids_past b e [] rest a = a.0
avoids_past b e (x ∷ between) rest a = avoids_past b e between rest a.1

-- an entry of a list without repetition isn't among those before it
avoids_before : (e : ℕ) (between rest : List ℕ) → Once (between ++ e ∷ rest) → Avoids e between
avoids_before e [] rest once = tt
avoids_before e (x ∷ between) rest once = ((λ same. avoids_past x e between rest once.0 (sym same)), avoids_before e between rest once.1)

pub way_from : (key : Key) (heads nexts codes : ℕ → ℕ) (chains : ℕ → ℕ → List ℕ) (linked : ℕ → ℕ → Bool) (table bucket e : ℕ) → ChainsPart key heads nexts codes chains linked
    → table < 4 → bucket < 2 ^ key.sizes.bits → Member e (chains table bucket) → (heads (head_cell key.sizes.bits table bucket) ≡ link_word e → ⊥)
    → (y : ℕ) × (between : List ℕ) × (heads (head_cell key.sizes.bits table bucket) ≡ link_word y) × (y < key.entries) × (length between < key.entries)
    × Member y (chains table bucket) × ((rest : List ℕ) × (after y (chains table bucket) ≡ between ++ e ∷ rest)) × Avoids e between
way_from key heads nexts codes chains linked table bucket e part small wide there apart = of_chain (chains table bucket) refl (part.leads table bucket small wide) there where
  of_chain : (l : List ℕ) → chains table bucket ≡ l → LeadsThrough (next_in key.entries nexts table) (heads (head_cell key.sizes.bits table bucket)) (chains table bucket) → Member e (chains table bucket)
      → (y : ℕ) × (between : List ℕ) × (heads (head_cell key.sizes.bits table bucket) ≡ link_word y) × (y < key.entries) × (length between < key.entries)
      × Member y (chains table bucket) × ((rest : List ℕ) × (after y (chains table bucket) ≡ between ++ e ∷ rest)) × Avoids e between
  of_chain [] is k m = absurd (subst (λ (z : List ℕ). Member e z) is m)
  of_chain (y ∷ l) is k m =
      let first : heads (head_cell key.sizes.bits table bucket) ≡ link_word y = (subst (λ (z : List ℕ). LeadsThrough (next_in key.entries nexts table) (heads (head_cell key.sizes.bits table bucket)) z) is k).0 in
      let behind : Member e l = ⊎_elim (λ same. absurd (apart (first ∙ ap link_word (sym same)))) (λ h. h) (subst (λ (z : List ℕ). Member e z) is m) in
      let p = parted e l behind in
      let in_chain : Member y (chains table bucket) = subst (λ (z : List ℕ). Member y z) (sym is) (inl refl) in
      let short = once_short key.entries (chains table bucket) (part.once table bucket) (λ x mx. (part.inside table bucket x mx).0) in
      let a : length (chains table bucket) ≡ length (y ∷ l) = ap length is in let b : length l ≡ length (p.0 ++ e ∷ p.1) = ap length p.2 in let c = length-append p.0 (e ∷ p.1) in
      (y, p.0, first, (part.inside table bucket y in_chain).0, omega arith, in_chain, (p.1, ap (after y) is ∙ (test_same y y l (after y l) refl ∙ p.2)), avoids_before e p.0 p.1 (subst Once p.2 (subst Once is (part.once table bucket)).1))

-- kind 16: one step along the way
pub way_on : (next : ℕ → ℕ) (w at e y : ℕ) (ahead rest l : List ℕ) → LeadsThrough next w l → Once l → Member at l → after at l ≡ y ∷ ahead ++ e ∷ rest
    → (next at ≡ link_word y) × Member y l × (after y l ≡ ahead ++ e ∷ rest)
way_on next w at e y ahead rest l k o m is =
    let in_l : Member y l = member_after y at l (subst (λ (z : List ℕ). Member y z) (sym is) (inl refl)) in
    (step next w at y (ahead ++ e ∷ rest) l k o m is, in_l, behind y at (ahead ++ e ∷ rest) l o m is) where
      -- the next word is that of the first behind it
      step : (next : ℕ → ℕ) (w at y : ℕ) (r l : List ℕ) → LeadsThrough next w l → Once l → Member at l → after at l ≡ y ∷ r → next at ≡ link_word y
      step next w at y r [] k o m is = absurd m
      step next w at y r (x ∷ l) k o m is = dite (ℕ_discrete x at)
          (λ same. let l_is : l ≡ y ∷ r = sym (test_same x at l (after at l) same) ∙ is in
          ap next (sym same) ∙ (subst (λ (z : List ℕ). LeadsThrough next (next x) z) l_is k.1).0)
          (λ apart. step next (next x) at y r l k.1 o.1 (⊎_elim (λ h. absurd (apart (sym h))) (λ h. h) m) (sym (test_apart x at l (after at l) apart) ∙ is))

      behind : (y at : ℕ) (r l : List ℕ) → Once l → Member at l → after at l ≡ y ∷ r → after y l ≡ r
      behind y at r [] o m is = absurd m
      behind y at r (x ∷ l) o m is = dite (ℕ_discrete x at)
          (λ same. let l_is : l ≡ y ∷ r = sym (test_same x at l (after at l) same) ∙ is in
          let apart : x ≡ y → ⊥ = λ h. not_member x l o.0 (subst (λ (z : List ℕ). Member x z) (sym l_is) (inl h)) in
          test_apart x y l (after y l) apart ∙ (ap (after y) l_is ∙ test_same y y r (after y r) refl))
          (λ apart. let c : after at l ≡ y ∷ r = sym (test_apart x at l (after at l) apart) ∙ is in
          let other : x ≡ y → ⊥ = λ h. not_member x l o.0 (subst (λ (z : ℕ). Member z l) (sym h) (member_after y at l (subst (λ (z : List ℕ). Member y z) (sym c) (inl refl)))) in
          test_apart x y l (after y l) other ∙ behind y at r l o.1 (⊎_elim (λ h. absurd (apart (sym h))) (λ h. h) m) c)
