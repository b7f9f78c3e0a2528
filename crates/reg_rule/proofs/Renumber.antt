-- Where the hands and the accounts of a seat are, once it was cut, or joined into another.
use Rattle.std.proofs.Common.{◌≡◌, ◌≢◌, ◌≤◌, ℕ, zero, suc, ◌+◌, ◌-◌, eqb, ltb, cond, Bool, ◌&&◌, ◌⊎◌, inl, inr, ⊎_elim, List, [], ◌∷◌, ◌++◌, length, sym, ap, ◌∙◌, refl, subst, arith, eq-eqb, ne_eqb, lt-ltb, zero-add}
use mathlib.Core.Logic.{dite}
use native.Mathlib.Decide.{ℕ_discrete}
use Rattle.reg_model.specs.Opening.{Opening}
use Rattle.reg_words.specs.declared.word.StampWord.{StampWord}
use Rattle.reg_words.specs.declared.word.StampWord.TheVariants.{Unborn, Live, Dead}
use Rattle.reg_rule.specs.declared.view.Place.{Place}
use Rattle.reg_rule.specs.Log.{At}
use Rattle.reg_rule.specs.inner.World.{Use, free, in_hand, holds}
use Rattle.reg_rule.specs.inner.Entries.{StampFits}
use Rattle.reg_rule.specs.inner.Queries.{IsYoung}

-- ---- hands: the seat other was joined into the seat id, which had n entries in hand

abbrev pub renumbered : ℕ → ℕ → ℕ → Use → Use
renumbered id other n (free j) = free j
renumbered id other n (in_hand s i) = in_hand (cond (eqb s other) id s) (cond (eqb s other) (n + i) i)
renumbered id other n (holds d) = holds d

pub holds_back : (id other n : ℕ) (u : Use) (d : ℕ) → renumbered id other n u ≡ holds d → u ≡ holds d
holds_back id other n (free j) d e = absurd (cc)
holds_back id other n (in_hand s i) d e = absurd (cc)
holds_back id other n (holds c) d e = e

pub free_back : (id other n : ℕ) (u : Use) (j : ℕ) → renumbered id other n u ≡ free j → u ≡ free j
free_back id other n (free k) j e = e
free_back id other n (in_hand s i) j e = absurd (cc)
free_back id other n (holds c) j e = absurd (cc)

pub hand_stays : (id other n : ℕ) (u : Use) (j i : ℕ) → u ≡ in_hand j i → j ≢ other → renumbered id other n u ≡ in_hand j i
hand_stays id other n u j i e ne = ap (renumbered id other n) e ∙ ap (λ (b : Bool). in_hand (cond b id j) (cond b (n + i) i)) (ne_eqb j other ne)

pub hand_goes : (id other n : ℕ) (u : Use) (i : ℕ) → u ≡ in_hand other i → renumbered id other n u ≡ in_hand id (n + i)
hand_goes id other n u i e = ap (renumbered id other n) e ∙ ap (λ (b : Bool). in_hand (cond b id other) (cond b (n + i) i)) (eq-eqb other other refl)

abbrev pub WasIn : ℕ → ℕ → ℕ → Use → ℕ → ℕ → Type 0
WasIn id other n u seat i = ((seat ≢ other) × (u ≡ in_hand seat i)) ⊎ ((k : ℕ) × (u ≡ in_hand other k) × (seat ≡ id) × (i ≡ n + k))

pub hand_back : (id other n : ℕ) (u : Use) (seat i : ℕ) → renumbered id other n u ≡ in_hand seat i → WasIn id other n u seat i
hand_back id other n (free j) seat i e = absurd (cc)
hand_back id other n (holds d) seat i e = absurd (cc)
hand_back id other n (in_hand s k) seat i e = dite (ℕ_discrete s other)
    (λ same. let goes : in_hand id (n + k) ≡ in_hand seat i = sym (ap (λ (b : Bool). in_hand (cond b id s) (cond b (n + k) k)) (eq-eqb s other same)) ∙ e in inr (k, ap (λ (z : ℕ). in_hand z k) same, (cc), (cc)))
    (λ apart. let stays : in_hand s k ≡ in_hand seat i = sym (ap (λ (b : Bool). in_hand (cond b id s) (cond b (n + k) k)) (ne_eqb s other apart)) ∙ e in let is : s ≡ seat = cc in inl ((λ z. apart (is ∙ z)), stays))

pub stamp_renumbered : (id other n : ℕ) (o : Opening) (log : List Place) (returned entry : ℕ) (u : Use) (s : StampWord) → StampFits o log returned entry u s → StampFits o log returned entry (renumbered id other n u) s
stamp_renumbered id other n o log returned entry (free j) s fits = fits
stamp_renumbered id other n o log returned entry (holds d) s fits = fits
stamp_renumbered id other n o log returned entry (in_hand seat i) Unborn fits = tt
stamp_renumbered id other n o log returned entry (in_hand seat i) (Live kind d) fits = fits
stamp_renumbered id other n o log returned entry (in_hand seat i) (Dead kind d at) fits = fits

pub young_renumbered : (id other n base k : ℕ) (u : Use) → IsYoung base k u → IsYoung base k (renumbered id other n u)
young_renumbered id other n base k u h = ⊎_elim (λ (t : (seat : ℕ) × (i : ℕ) × (u ≡ in_hand seat i)). inl (cond (eqb t.0 other) id t.0, cond (eqb t.0 other) (n + t.1) t.1, ap (renumbered id other n) t.2))
    (λ (t : (d : ℕ) × (u ≡ holds d) × (base + k ≤ d + 1)). inr (t.0, ap (renumbered id other n) t.1, t.2)) h

-- ---- accounts

-- once a seat was cut
abbrev pub cut : (ℕ → ℕ × ℕ) → ℕ → ℕ → ℕ → ℕ × ℕ
cut owner id new m = cond (eqb (owner m).0 id && ltb 0 (owner m).1) (new, (owner m).1 - 1) (owner m)

pub cut-else : (owner : ℕ → ℕ × ℕ) (id new m j i : ℕ) → owner m ≡ (j, i) → j ≢ id → cut owner id new m ≡ (j, i)
cut-else owner id new m j i e ne = ap (λ (z : ℕ × ℕ). cond (eqb z.0 id && ltb 0 z.1) (let x : ℕ × ℕ = (new, z.1 - 1) in x) z) e ∙ ap (λ (b : Bool). cond (b && ltb 0 i) (let x : ℕ × ℕ = (new, i - 1) in x) (let x : ℕ × ℕ = (j, i) in x)) (ne_eqb j id ne)

pub cut-first : (owner : ℕ → ℕ × ℕ) (id new m : ℕ) → owner m ≡ (id, 0) → cut owner id new m ≡ (id, 0)
cut-first owner id new m e = ap (λ (z : ℕ × ℕ). cond (eqb z.0 id && ltb 0 z.1) (let x : ℕ × ℕ = (new, z.1 - 1) in x) z) e ∙ ap (λ (b : Bool). cond (b && ltb 0 0) (let x : ℕ × ℕ = (new, 0 - 1) in x) (let x : ℕ × ℕ = (id, 0) in x)) (eq-eqb id id refl)

back_one : (i : ℕ) → suc i - 1 ≡ i
back_one i = omega arith

pub cut-later : (owner : ℕ → ℕ × ℕ) (id new m i : ℕ) → owner m ≡ (id, suc i) → cut owner id new m ≡ (new, i)
cut-later owner id new m i e = ap (λ (z : ℕ × ℕ). cond (eqb z.0 id && ltb 0 z.1) (let x : ℕ × ℕ = (new, z.1 - 1) in x) z) e
    ∙ (ap (λ (b : Bool). cond (b && ltb 0 (suc i)) (let x : ℕ × ℕ = (new, suc i - 1) in x) (let x : ℕ × ℕ = (id, suc i) in x)) (eq-eqb id id refl)
    ∙ (ap (λ (b : Bool). cond b (let x : ℕ × ℕ = (new, suc i - 1) in x) (let x : ℕ × ℕ = (id, suc i) in x)) (lt-ltb 0 (suc i) (omega arith)) ∙ (λ k. (new, back_one i k))))

-- once the seat other was joined into the seat id, which had n accounts
abbrev pub moved : (ℕ → ℕ × ℕ) → ℕ → ℕ → ℕ → ℕ → ℕ × ℕ
moved owner id other n m = cond (eqb (owner m).0 other) (id, n + (owner m).1) (owner m)

pub moved-stays : (owner : ℕ → ℕ × ℕ) (id other n m j i : ℕ) → owner m ≡ (j, i) → j ≢ other → moved owner id other n m ≡ (j, i)
moved-stays owner id other n m j i e ne = ap (λ (b : Bool). cond b (id, n + (owner m).1) (owner m)) (ne_eqb (owner m).0 other (λ h. ne (sym (ap (λ (z : ℕ × ℕ). z.0) e) ∙ h))) ∙ e

pub moved-goes : (owner : ℕ → ℕ × ℕ) (id other n m i : ℕ) → owner m ≡ (other, i) → moved owner id other n m ≡ (id, n + i)
moved-goes owner id other n m i e = ap (λ (b : Bool). cond b (id, n + (owner m).1) (owner m)) (eq-eqb (owner m).0 other (ap (λ (z : ℕ × ℕ). z.0) e)) ∙ ap (λ (z : ℕ × ℕ). let x : ℕ × ℕ = (id, n + z.1) in x) e

-- ---- lists put together

pub at_right : {A : Type 0} (l m : List A) (i : ℕ) (a : A) → At m i a → At (l ++ m) (length l + i) a
at_right [] m i a e = let same : i ≡ 0 + i = omega arith in subst (λ (z : ℕ). At m z a) same e
at_right (x ∷ xs) m i a e = let same : suc (length xs + i) ≡ length (x ∷ xs) + i = omega arith in subst (λ (z : ℕ). At (x ∷ (xs ++ m)) z a) same (at_right xs m i a e)

pub at_joined : {A : Type 0} (F : ℕ → A → Type 0) (l m : List A) → ((i : ℕ) (a : A) → At l i a → F i a) → ((i : ℕ) (a : A) → At m i a → F (length l + i) a)
    → (i : ℕ) (a : A) → At (l ++ m) i a → F i a
at_joined F [] m left right i a e = subst (λ (z : ℕ). F z a) (zero-add i) (right i a e)
at_joined F (x ∷ xs) m left right zero a e = left zero a e
at_joined F (x ∷ xs) m left right (suc i) a e = at_joined (λ j b. F (suc j) b) xs m (λ j b h. left (suc j) b h) (λ j b h. let same : length (x ∷ xs) + j ≡ suc (length xs + j) = omega arith in subst (λ (z : ℕ). F z b) same (right j b h)) i a e
