-- The accounts after an exchange of the log that was won (kind 2): its row takes the new place.
use Rattle.std.proofs.Common.{◌≡◌, ℕ, zero, suc, ◌+◌, ◌<◌, ◌≤◌, ◌==◌, ◌&&◌, ⊎_elim, List, [], ◌∷◌, ◌++◌, length, length-append, take, slice_index_or, AllPairs, count_by, cond, Bool, true, false, true≢false, is_some, Some, sym, refl, ap, ◌∙◌, subst, eq-eqb, ne_eqb, tests, arith}
use Rattle.std.proofs.lemmas.List.{take-append-le, map-append}
use Rattle.std.proofs.lemmas.List.Sums.{sum_by-append}
use mathlib.Core.Logic.{dite}
use native.Mathlib.Decide.{ℕ_discrete}
use Rattle.reg_model.specs.declared.reply.Row.{Row}
use Rattle.reg_model.specs.declared.update.Update.{Update}
use Rattle.reg_rule.specs.inner.AccountParts.{IsAnswered}
use Rattle.reg_model.specs.Rows.{is_accepted, update_of, IsSeenBy}
use Rattle.reg_model.specs.Replies.{Replies}
use Rattle.reg_words.specs.Memory.{set_at}
use Rattle.reg_rule.specs.declared.view.Key.{Key}
use Rattle.reg_rule.specs.declared.view.Place.{Place}
use Rattle.reg_rule.specs.Log.{At, updates}
use Rattle.reg_model.specs.Accounts.{claims}
use Rattle.reg_rule.specs.inner.AccountParts.{AccountsPart, RowFits, total_below}
use Rattle.atomic_table.proofs.Lists.{at_longer, at_last}
use Rattle.reg_rule.proofs.Once.{at_one_more, length_one_more}
use Rattle.reg_rule.proofs.Held.{at_nth}
use Rattle.reg_rule.proofs.Shows.{at_inside}
use Rattle.reg_rule.proofs.StampsKept.{at_set, set_here, set_away}
use Rattle.reg_rule.proofs.Costs.{sum_le, sum_const}
use Rattle.reg_rule.proofs.Variants.{some_same, some_of}

pub total_same : (s : ℕ) (f g : ℕ → ℕ) → ((n : ℕ) → n < s → f n ≡ g n) → total_below s f ≡ total_below s g
total_same zero f g h = refl
total_same (suc s) f g h = let a = h s (omega arith) in let b = total_same s f g (λ n l. h n (omega arith)) in omega arith

total_one_more : (s : ℕ) (f g : ℕ → ℕ) (n c : ℕ) → n < s → g n ≡ f n + c → ((k : ℕ) → k < s → (k ≡ n → ⊥) → g k ≡ f k) → total_below s g ≡ total_below s f + c
total_one_more zero f g n c small mine others = absurd (omega arith)
total_one_more (suc s) f g n c small mine others = dite (ℕ_discrete s n)
    (λ same. let a = total_same s g f (λ k l. others k (omega arith) (λ z. omega arith)) in let b : g s ≡ f s + c = ap g same ∙ (mine ∙ ap (λ (k : ℕ). f k + c) (sym same)) in omega arith)
    (λ apart. let a = total_one_more s f g n c (omega arith) mine (λ k l z. others k (omega arith) z) in let b = others s (omega arith) apart in omega arith)

total_zero : (s : ℕ) (f : ℕ → ℕ) → ((n : ℕ) → n < s → f n ≡ 0) → total_below s f ≡ 0
total_zero zero f h = refl
total_zero (suc s) f h = let a = h s (omega arith) in let b = total_zero s f (λ n l. h n (omega arith)) in omega arith

count_one_more : (p : Row → Bool) (l : List Row) (r : Row) → count_by p (l ++ r ∷ []) ≡ count_by p l + cond {A = ℕ} (p r) 1 0
count_one_more p l r = let h : count_by p (l ++ r ∷ []) ≡ count_by p l + (0 + cond {A = ℕ} (p r) 1 0) = sum_by-append (λ (x : Row). cond {A = ℕ} (p x) 1 0) l (r ∷ []) in omega arith

at_some : {A : Type 0} (l : List A) (i : ℕ) → i < length l → (x : A) × At l i x
at_some [] i h = absurd (omega arith)
at_some (x ∷ l) zero h = (x, refl)
at_some (x ∷ l) (suc i) h = at_some l i (omega arith)

pairs_one_more : {A : Type 0} (R : A → A → Type 0) (l : List A) (y : A) → AllPairs R l → ((i : ℕ) (x : A) → At l i x → R x y) → AllPairs R (l ++ y ∷ [])
pairs_one_more {A} R l y old new i j d less inside =
    let len = length_one_more l y in let a = at_some (l ++ y ∷ []) i (omega arith) in let b = at_some (l ++ y ∷ []) j inside in
    let p = at_nth (l ++ y ∷ []) i a.0 d a.1 in let q = at_nth (l ++ y ∷ []) j b.0 d b.1 in
    subst (λ (z : A). R (slice_index_or (l ++ y ∷ []) i d) z) (sym q.1) (subst (λ (z : A). R z b.0) (sym p.1)
    (⊎_elim
    (λ b_old. ⊎_elim
    (λ a_old. let g = at_nth l i a.0 d a_old in let h = at_nth l j b.0 d b_old in subst (λ (z : A). R z b.0) g.1 (subst (λ (z : A). R (slice_index_or l i d) z) h.1 (old i j d less h.0)))
    (λ t. let h = at_inside l j b.0 b_old in let g = t.0 in absurd (omega arith))
    (at_one_more l y a.0 i a.1))
    (λ t. ⊎_elim
    (λ a_old. subst (λ (z : A). R a.0 z) t.1 (new i a.0 a_old))
    (λ u. let g = t.0 in let h = u.0 in absurd (omega arith))
    (at_one_more l y a.0 i a.1))
    (at_one_more l y b.0 j b.1)))

-- what was answered is still so, since the places below its point are the same
answered_longer : (key : Key) (log : List Place) (p : Place) (row : Row) → IsAnswered key.sizes key.carried (updates log) row → IsAnswered key.sizes key.carried (updates (log ++ p ∷ [])) row
answered_longer key log p row a = let e : updates (log ++ p ∷ []) ≡ updates log ++ updates (p ∷ []) = map-append (λ (x : Place). x.update) log (p ∷ []) in
    let same : take a.place (updates log) ≡ take a.place (updates (log ++ p ∷ [])) = sym (take-append-le a.place (updates log) (updates (p ∷ [])) a.within) ∙ ap (take a.place) (sym e) in record {
      place = a.place;
      within = let b : length (updates (log ++ p ∷ [])) ≡ length (updates log ++ updates (p ∷ [])) = ap length e in let c = length-append (updates log) (updates (p ∷ [])) in let d = a.within in omega arith;
      point = a.point;
      reply = subst (λ (l : List Update). Replies key.sizes key.carried l row.call row.reply) same a.reply;
    }

module _ (key : Key) (log : List Place) (accounts : ℕ → List Row) (part : AccountsPart key log accounts) (p : Place) (n : ℕ) (row : Row) (small : n < key.sizes.callers)
    (session : row.session ≡ n) (number : row.number ≡ length (accounts n)) (point : row.point ≡ key.carried.base + length log + 1) (update : update_of row.call row.reply ≡ Some p.update)
    (answered : IsAnswered key.sizes key.carried (updates (log ++ p ∷ [])) row)
    -- no row of the session stands above what it has seen
    (below : (i : ℕ) (old : Row) → At (accounts n) i old → old.point ≤ key.carried.base + length log) where
  abbrev accounts' : ℕ → List Row
  accounts' = set_at accounts n (accounts n ++ row ∷ [])

  accepted : is_accepted row ≡ true
  accepted = ap is_some update

  fits_longer : (k i : ℕ) (old : Row) → RowFits key log k i old → RowFits key (log ++ p ∷ []) k i old
  fits_longer k i old f = record {
    session_is = f.session_is;
    number_is = f.number_is;
    answered = answered_longer key log p old f.answered;
    made = λ q u is at. subst (λ (l : List Update). At l q u) (sym (map-append (λ (x : Place). x.update) log (p ∷ []))) (at_longer (updates log) (updates (p ∷ [])) q u (f.made q u is at));
  }

  length_updates : (l : List Place) → length (updates l) ≡ length l
  length_updates [] = refl
  length_updates (x ∷ l) = ap suc (length_updates l)

  fits_new : RowFits key (log ++ p ∷ []) n (length (accounts n)) row
  fits_new = record {
    session_is = session;
    number_is = number;
    answered = answered;
    made = λ q u is at. let here : q ≡ length log = omega arith in let same : p.update ≡ u = some_same p.update u (sym update ∙ is) in
        subst (λ (l : List Update). At l q u) (sym (map-append (λ (x : Place). x.update) log (p ∷ []))) (subst (λ (k : ℕ). At (updates log ++ updates (p ∷ [])) k u) (sym here)
        (subst (λ (z : Update). At (updates log ++ updates (p ∷ [])) (length log) z) same (at_last (updates log) p.update (length log) (length_updates log))));
  }

  -- an older row takes no new place
  no_old : (k i : ℕ) (old : Row) → k < key.sizes.callers → At (accounts k) i old → claims key.carried.base (length log) old ≡ true → ⊥
  no_old k i old l at takes = let f = part.fits k i old l at in
      let acc : is_accepted old ≡ true = left_true (is_accepted old) (old.point == key.carried.base + length log + 1) takes in
      let e : old.point ≡ key.carried.base + length log + 1 = same_of old.point (key.carried.base + length log + 1) (right_true (is_accepted old) (old.point == key.carried.base + length log + 1) takes) in
      let u = some_of (update_of old.call old.reply) acc in let h = at_inside (updates log) (length log) u.0 (f.made (length log) u.0 u.1 e) in let g = length_updates log in omega arith where
        left_true : (a b : Bool) → (a && b) ≡ true → a ≡ true
        left_true true b h = refl
        left_true false b h = absurd (true≢false (sym h))

        right_true : (a b : Bool) → (a && b) ≡ true → b ≡ true
        right_true true b h = h
        right_true false b h = absurd (true≢false (sym h))

        same_of : (a b : ℕ) → (a == b) ≡ true → a ≡ b
        same_of a b h = search (tests, h)

  zero_at : (b : Bool) → (b ≡ true → ⊥) → cond {A = ℕ} b 1 0 ≤ 0
  zero_at true never = absurd (never refl)
  zero_at false never = omega arith

  pub accounts_committed : AccountsPart key (log ++ p ∷ []) accounts'
  accounts_committed = record {
    fits = λ k i r l at. at_set accounts n (accounts n ++ row ∷ []) (λ j rows. j < key.sizes.callers → (m : ℕ) (old : Row) → At rows m old → RowFits key (log ++ p ∷ []) j m old)
        (λ s m old there. ⊎_elim (λ x. fits_longer n m old (part.fits n m old small x))
        (λ t. subst (λ (z : ℕ). RowFits key (log ++ p ∷ []) n z old) (sym t.0) (subst (λ (z : Row). RowFits key (log ++ p ∷ []) n (length (accounts n)) z) t.1 fits_new)) (at_one_more (accounts n) row old m there))
        (λ j apart s m old there. fits_longer j m old (part.fits j m old s there)) k l i r at;
    rising = at_set accounts n (accounts n ++ row ∷ []) (λ j rows. j < key.sizes.callers → AllPairs IsSeenBy rows)
        (λ s. pairs_one_more IsSeenBy (accounts n) row (part.rising n small) (λ i old at. let a = below i old at in record { point = omega arith; accepted = λ acc. omega arith }))
        (λ j apart s. part.rising j s);
    claimed = λ q l. dite (ℕ_discrete q (length log))
        (λ same. let t = claims key.carried.base (length log) in
        let none = total_zero key.sizes.callers (λ k. count_by t (accounts k)) (λ k s. zero_count (accounts k) t (λ i old at z. no_old k i old s at z)) in
        let mine : count_by t (accounts' n) ≡ count_by t (accounts n) + 1 = ap (count_by t) (set_here accounts n (accounts n ++ row ∷ [])) ∙ (count_one_more t (accounts n) row ∙ ap (λ (b : Bool). count_by t (accounts n) + cond {A = ℕ} b 1 0) takes) in
        let all = total_one_more key.sizes.callers (λ k. count_by t (accounts k)) (λ k. count_by t (accounts' k)) n 1 small mine (λ k s apart. ap (count_by t) (set_away accounts n k (accounts n ++ row ∷ []) apart)) in
        subst (λ (z : ℕ). total_below key.sizes.callers (λ k. count_by (claims key.carried.base z) (accounts' k)) ≡ 1) (sym same) (omega arith))
        (λ other. let t = claims key.carried.base q in
        let old = part.claimed q (let x = length_one_more log p in omega arith) in
        let not_taken : t row ≡ false = both_false (is_accepted row) (row.point == key.carried.base + q + 1) (ne_eqb row.point (key.carried.base + q + 1) (λ e. other (omega arith))) in
        let mine : count_by t (accounts' n) ≡ count_by t (accounts n) + 0 = ap (count_by t) (set_here accounts n (accounts n ++ row ∷ [])) ∙ (count_one_more t (accounts n) row ∙ ap (λ (b : Bool). count_by t (accounts n) + cond {A = ℕ} b 1 0) not_taken) in
        let all = total_one_more key.sizes.callers (λ k. count_by t (accounts k)) (λ k. count_by t (accounts' k)) n 0 small mine (λ k s apart. ap (count_by t) (set_away accounts n k (accounts n ++ row ∷ []) apart)) in omega arith);
  } where
    both_false : (a b : Bool) → b ≡ false → (a && b) ≡ false
    both_false true b h = h
    both_false false b h = refl

    takes : claims key.carried.base (length log) row ≡ true
    takes = ap (λ (b : Bool). b && (row.point == key.carried.base + length log + 1)) accepted ∙ eq-eqb row.point (key.carried.base + length log + 1) point

    zero_count : (l : List Row) (t : Row → Bool) → ((i : ℕ) (old : Row) → At l i old → t old ≡ true → ⊥) → count_by t l ≡ 0
    zero_count l t none = let a = sum_le (λ (r : Row). cond {A = ℕ} (t r) 1 0) (λ r. 0) l (λ i r at. zero_at (t r) (λ z. none i r at z)) in let b = sum_const {A = Row} 0 l in omega arith
