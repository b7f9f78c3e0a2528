-- Dealing one seat out, one account after another.
use Rattle.std.proofs.Common.{◌≡◌, ℕ, zero, suc, ◌+◌, ◌-◌, ◌<◌, ◌⊎◌, inl, inr, ⊎_elim, List, [], ◌∷◌, ◌++◌, length, All, map, Some, slice_get, slice_index_or, sym, ap, ◌∙◌, refl, subst, arith, length-append}
use Rattle.atomic_table.specs.Seated.{TableId}
use Rattle.reg_rule.specs.declared.view.Key.{Key}
use Rattle.reg_rule.specs.declared.view.View.{View}
use Rattle.reg_rule.specs.Fresh.{fresh, newcomers}
use Rattle.atomic_table.specs.Table.{Splits}
use Rattle.reg_rule.specs.inner.Rule.{Kept}
use Rattle.reg_rule.specs.Seatings.{head_part, tail_part}
use Rattle.reg_rule.proofs.SeatSteps.{splits}
use Rattle.reg_rule.specs.Rounds.{AllFresh, IsWordsPass, key_of}
use Rattle.reg_rule.specs.Passes.{pass_view}
use Rattle.reg_model.specs.Limits.{Limits}
use Rattle.reg_model.specs.Opening.{Opening}
use Rattle.reg_model.specs.Desks.{new_pass, new_passes}
use Rattle.std.specs.List.{range_with_len}

get_snoc : {A : Type 0} (l : List A) (a b : A) (j : ℕ) → slice_get (l ++ a ∷ []) j ≡ Some b → (slice_get l j ≡ Some b) ⊎ ((j ≡ length l) × (a ≡ b))
get_snoc [] a b zero e = inr (refl, (cc))
get_snoc [] a b (suc j) e = absurd (cc)
get_snoc (x ∷ xs) a b zero e = inl e
get_snoc (x ∷ xs) a b (suc j) e = ⊎_elim (λ h. inl h) (λ t. inr (ap suc t.0, t.1)) (get_snoc xs a b j e)

pub all_more : (words : TableId × Key) (ps : List (TableId × View)) (p : TableId × View) → AllFresh words ps → p ≡ (words.0, fresh words.1 (length ps) 1) → AllFresh words (ps ++ p ∷ [])
all_more words ps p all is k q e = ⊎_elim (λ old. all k q old) (λ new. sym new.1 ∙ (is ∙ ap (λ (z : ℕ). let x : TableId × View = (words.0, fresh words.1 z 1) in x) (sym new.0))) (get_snoc ps p q k e)

pub head_fresh : (key : Key) (n m : ℕ) → 0 < m → head_part (fresh key n m) ≡ fresh key n 1
head_fresh key n zero h = absurd (omega arith)
head_fresh key n (suc m) h = refl

pub tail_fresh : (key : Key) (n m k : ℕ) → 0 < m → k ≡ n + 1 → tail_part (fresh key n m) ≡ fresh key k (m - 1)
tail_fresh key n zero k h e = absurd (omega arith)
tail_fresh key n (suc m) k h e = let a : suc n ≡ k = omega arith in let b : m ≡ suc m - 1 = omega arith in λ i. fresh key (a i) (b i)

pub dealt : (words : TableId × Key) (ps new : List (TableId × View)) (t : TableId) (v : View) → AllFresh words ps → new ≡ ps ++ (t, v) ∷ [] → t ≡ words.0 → v ≡ fresh words.1 (length ps) 1 → AllFresh words new × (length new ≡ length ps + 1)
dealt words ps new t v all is table view = (
  subst (AllFresh words) (sym is) (all_more words ps (t, v) all (λ i. (table i, view i))),
  ap length is ∙ length-append ps ((t, v) ∷ []),
)

pub splits_fresh : (key : Key) (id n m : ℕ) (v : View) → v ≡ fresh key n m → Splits (Kept key) id v (head_part v) (tail_part v)
splits_fresh key id n m v is = subst (λ (u : View). Splits (Kept key) id u (head_part u) (tail_part u)) (sym is) (splits key id (newcomers n m))

-- ---- what is dealt out

read : {A : Type 0} (l : List A) (i : ℕ) (d : A) → i < length l → slice_get l i ≡ Some (slice_index_or l i d)
read [] i d low = absurd (omega arith)
read (x ∷ xs) zero d low = refl
read (x ∷ xs) (suc i) d low = read xs i d (omega arith)

pub fresh_own : (words : TableId × Key) (passes : List (TableId × View)) → AllFresh words passes → All (IsWordsPass words) passes
fresh_own words passes new i d low = subst (IsWordsPass words) (sym (new i (slice_index_or passes i d) (read passes i d low))) (refl, refl)

views_from : (words : TableId × Key) (k : ℕ) (passes : List (TableId × View)) → ((i : ℕ) (p : TableId × View) → slice_get passes i ≡ Some p → p ≡ (words.0, fresh words.1 (k + i) 1))
    → map (λ p. pass_view p.1) passes ≡ map (new_pass words.1.carried.base) (range_with_len k (length passes))
views_from words k [] new = refl
views_from words k (p ∷ passes) new =
    let here : p ≡ (words.0, fresh words.1 k 1) = new 0 p refl ∙ ap (λ (n : ℕ). let x : TableId × View = (words.0, fresh words.1 n 1) in x) (let e : k + 0 ≡ k = omega arith in e) in
    let base : words.1.carried.base + 0 ≡ words.1.carried.base = omega arith in
    let first : pass_view p.1 ≡ new_pass words.1.carried.base k = ap (λ (z : TableId × View). pass_view z.1) here ∙ ap (λ (n : ℕ). new_pass n k) base in
    let rest = views_from words (k + 1) passes (λ i q e. new (suc i) q e ∙ ap (λ (n : ℕ). let x : TableId × View = (words.0, fresh words.1 n 1) in x) (let e' : k + suc i ≡ k + 1 + i = omega arith in e')) in
    λ j. first j ∷ rest j

-- the passes of all sessions, as a desk shows them
pub views_new : (words : TableId × Key) (sizes : Limits) (carried : Opening) (passes : List (TableId × View)) → words.1 ≡ key_of sizes carried → length passes ≡ sizes.callers → AllFresh words passes
    → map (λ p. pass_view p.1) passes ≡ new_passes carried.base sizes.callers
views_new words sizes carried passes is count new = views_from words 0 passes (λ i p e. new i p e ∙ ap (λ (n : ℕ). let x : TableId × View = (words.0, fresh words.1 n 1) in x) (let e' : i ≡ 0 + i = omega arith in e'))
    ∙ (λ j. map (new_pass ((ap (λ (z : Key). z.carried.base) is) j)) (range_with_len 0 (count j)))
