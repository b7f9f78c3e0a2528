-- How many declarations are live, by the counts of declarations and withdrawals; so an accepted declaration finds fewer than there are entries.
use Rattle.std.proofs.Common.{◌≡◌, ℕ, zero, suc, ◌+◌, ◌<◌, ◌≤◌, ◌==◌, ◌||◌, not, List, [], ◌∷◌, length, length-append, take, filter, sum_by, count_by, cond, Bool, true, false, true≢false, sym, refl, ap, ◌∙◌, eq-eqb, tests, arith}
use Rattle.std.proofs.lemmas.List.Filters.{length-filter_both}
use Rattle.std.proofs.lemmas.List.Sums.{length-filter}
use mathlib.Core.Option.{some, some-injective, some-ne-none}
use Rattle.reg_model.specs.Opening.{Opening}
use Rattle.reg_model.specs.Live.{live, declared, declared_from, declarations, withdrawals, is_declaration, withdraws, is_withdrawn}
use Rattle.reg_model.specs.declared.update.Declared.{Declared}
use Rattle.reg_model.specs.declared.update.Update.{Update}
use Rattle.reg_model.specs.declared.update.Update.TheVariants.{Decl, Wd}
use Rattle.reg_rule.specs.declared.view.Key.{Key}
use Rattle.reg_rule.specs.declared.view.Place.{Place}
use Rattle.reg_rule.specs.Log.{At, place_of, updates, IsWd}
use Rattle.reg_rule.specs.inner.Entries.{CountsPart}
use Rattle.reg_rule.specs.inner.Rule.{KeyPart}
use Rattle.reg_rule.proofs.Once.{IsLawfulLog, wd_declares, wd_once}
use Rattle.reg_rule.proofs.Refused.{count_whole}
use Rattle.reg_rule.proofs.Costs.{sum_cons, sum_le, sum_swap, sum_some, sum_once, sum_const, listed}

abbrev one : Bool → ℕ
one b = cond b 1 0

length_declared : (log : List Place) (base : ℕ) → length (declared_from base (updates log)) ≡ declarations (updates log)
length_declared [] base = refl
length_declared (p ∷ log) base = let a = sum_cons (λ (u : Update). one (is_declaration u)) p.update (updates log) in let b = length_declared log (base + 1) in by_update p.update (a) b where
  by_update : (u : Update) → sum_by (λ (u : Update). one (is_declaration u)) (p.update ∷ updates log) ≡ one (is_declaration p.update) + sum_by (λ (u : Update). one (is_declaration u)) (updates log)
      → length (declared_from (base + 1) (updates log)) ≡ declarations (updates log) → length (declared_from base (u ∷ updates log)) ≡ declarations (u ∷ updates log)
  by_update (Decl unit) a b = let c = sum_cons (λ (u : Update). one (is_declaration u)) (Decl unit) (updates log) in omega arith
  by_update (Wd id) a b = let c = sum_cons (λ (u : Update). one (is_declaration u)) (Wd id) (updates log) in omega arith

same_of : (a b : ℕ) → (a == b) ≡ true → a ≡ b
same_of a b h = search (tests, h)

any_of : (id : ℕ) (log : List Place) (n : ℕ) (p : Place) → At log n p → withdraws id p.update ≡ true → is_withdrawn (updates log) id ≡ true
any_of id [] n p at is = absurd (some-ne-none p (sym at))
any_of id (q ∷ log) zero p at is = let same = some-injective q p at in ap (λ (b : Bool). b || is_withdrawn (updates log) id) (ap (λ (x : Place). withdraws id x.update) same ∙ is)
any_of id (q ∷ log) (suc n) p at is = either (withdraws id q.update) (is_withdrawn (updates log) id) (any_of id log n p at is) where
  either : (a b : Bool) → b ≡ true → (a || b) ≡ true
  either true b h = refl
  either false b h = h

wd_of : (id : ℕ) (log : List Place) (n : ℕ) (p : Place) → At log n p → withdraws id p.update ≡ true → IsWd log n id p.entry
wd_of id log n p at is = by_update p.update refl is where
  by_update : (u : Update) → p.update ≡ u → withdraws id u ≡ true → IsWd log n id p.entry
  by_update (Decl unit) e h = absurd (true≢false (sym h))
  by_update (Wd other) e h = at ∙ ap (λ (u : Update). some (place_of u p.entry)) (e ∙ ap Wd (same_of other id h))

-- the declarations that were withdrawn are no fewer than the withdrawals
withdrawn_most : (o : Opening) (log : List Place) → IsLawfulLog o log → withdrawals (updates log) ≤ count_by (λ (d : Declared). is_withdrawn (updates log) d.id) (declared o (updates log))
withdrawn_most o log law =
    let all : List Declared = declared o (updates log) in
    let a : sum_by (λ (p : Place). one (not (is_declaration p.update))) log ≤ sum_by (λ p. sum_by (λ (d : Declared). one (withdraws d.id p.update)) all) log
    = sum_le (λ (p : Place). one (not (is_declaration p.update))) (λ p. sum_by (λ (d : Declared). one (withdraws d.id p.update)) all) log (λ n p at. each n p at) in
    let b = sum_swap (λ (p : Place) (d : Declared). one (withdraws d.id p.update)) log all in
    let c : sum_by (λ (d : Declared). sum_by (λ (p : Place). one (withdraws d.id p.update)) log) all ≤ sum_by (λ (d : Declared). one (is_withdrawn (updates log) d.id)) all
    = sum_le (λ (d : Declared). sum_by (λ (p : Place). one (withdraws d.id p.update)) log) (λ (d : Declared). one (is_withdrawn (updates log) d.id)) all (λ j d there. at_most d) in
    let e = mapped log in omega arith where
      mapped : (l : List Place) → sum_by (λ (p : Place). one (not (is_declaration p.update))) l ≡ withdrawals (updates l)
      mapped [] = refl
      mapped (p ∷ l) = let a = sum_cons (λ (q : Place). one (not (is_declaration q.update))) p l in let b = sum_cons (λ (u : Update). one (not (is_declaration u))) p.update (updates l) in let c = mapped l in omega arith

      each : (n : ℕ) (p : Place) → At log n p → one (not (is_declaration p.update)) ≤ sum_by (λ (d : Declared). one (withdraws d.id p.update)) (declared o (updates log))
      each n p at = by_update p.update refl where
        by_update : (u : Update) → p.update ≡ u → one (not (is_declaration u)) ≤ sum_by (λ (d : Declared). one (withdraws d.id u)) (declared o (updates log))
        by_update (Decl unit) is = let z : one (not (is_declaration (Decl unit))) ≡ 0 = refl in omega arith
        by_update (Wd id) is = let wd : IsWd log n id p.entry = at ∙ ap (λ (u : Update). some (place_of u p.entry)) is in let dec = wd_declares o log n id p.entry law wd in
            let l = listed o log id p.entry dec.0 dec.1 in
            let s = sum_some (λ (d : Declared). one (withdraws d.id (Wd id))) (declared o (updates log)) l.0 (record { id = id; unit = dec.0 }) l.1 in
            let y : one (id == id) ≡ 1 = ap one (eq-eqb id id refl) in omega arith

      at_most : (d : Declared) → sum_by (λ (p : Place). one (withdraws d.id p.update)) log ≤ one (is_withdrawn (updates log) d.id)
      at_most d = by_test (is_withdrawn (updates log) d.id) refl where
        zero_at : (b : Bool) → (b ≡ true → ⊥) → one b ≤ 0
        zero_at true n = absurd (n refl)
        zero_at false n = omega arith

        by_test : (b : Bool) → is_withdrawn (updates log) d.id ≡ b → sum_by (λ (p : Place). one (withdraws d.id p.update)) log ≤ one b
        by_test true is = sum_once (λ (p : Place). withdraws d.id p.update) log (λ i j x y less a b f g. let same = wd_once o log i j d.id x.entry y.entry law (wd_of d.id log i x a f) (wd_of d.id log j y b g) in omega arith)
        by_test false is = let a = sum_le (λ (p : Place). one (withdraws d.id p.update)) (λ p. 0) log (λ n p at. zero_at (withdraws d.id p.update) (λ w. true≢false (sym (any_of d.id log n p at w) ∙ is))) in let b = sum_const {A = Place} 0 log in omega arith

pub live_most : (o : Opening) (log : List Place) → IsLawfulLog o log → length (live o (updates log)) + withdrawals (updates log) ≤ length o.list + declarations (updates log)
live_most o log law =
    let w : Declared → Bool = λ d. is_withdrawn (updates log) d.id in
    let a : length (filter (λ (d : Declared). not (is_withdrawn (updates log) d.id)) (declared o (updates log))) + length (filter (λ (d : Declared). is_withdrawn (updates log) d.id) (declared o (updates log))) ≡ length (declared o (updates log))
    = length-filter_both (λ (d : Declared). not (is_withdrawn (updates log) d.id)) (λ (d : Declared). is_withdrawn (updates log) d.id) (λ d. twice (is_withdrawn (updates log) d.id)) (declared o (updates log)) in
    let b = length-filter (λ (d : Declared). is_withdrawn (updates log) d.id) (declared o (updates log)) in
    let c = withdrawn_most o log law in
    let d : length (declared o (updates log)) ≡ length o.list + length (declared_from o.base (updates log)) = length-append o.list (declared_from o.base (updates log)) in
    let e = length_declared log o.base in omega arith where
      twice : (b : Bool) → b ≡ not (not b)
      twice true = refl
      twice false = refl

-- an entry that is taken from the ring holds a live declaration, or is in a hand
live_and_hands : (key : Key) (takes puts : ℕ → ℕ) (log : List Place) (returned taken put hands : ℕ) → KeyPart key → IsLawfulLog key.carried log → CountsPart key takes puts log returned taken put hands
    → length (live key.carried (updates log)) + hands ≤ key.sizes.entries
live_and_hands key takes puts log returned taken put hands ok law counts =
    let a = live_most key.carried log law in let b = counts.took in let c = counts.gave in let d = counts.room in let e = ok.entries in
    let f : withdrawals (updates (take returned log)) ≤ withdrawals (updates log) = count_whole (λ (u : Update). not (is_declaration u)) log returned in omega arith

-- kind 2: the entry in hand is one that no live declaration has
pub few_live : (key : Key) (takes puts : ℕ → ℕ) (log : List Place) (returned taken put hands : ℕ) → KeyPart key → IsLawfulLog key.carried log → CountsPart key takes puts log returned taken put hands → 0 < hands
    → length (live key.carried (updates log)) < key.sizes.entries
few_live key takes puts log returned taken put hands ok law counts some_hand = let a = live_and_hands key takes puts log returned taken put hands ok law counts in omega arith

-- at the end: all live declarations have entries
pub live_fits : (key : Key) (takes puts : ℕ → ℕ) (log : List Place) (returned taken put hands : ℕ) → KeyPart key → IsLawfulLog key.carried log → CountsPart key takes puts log returned taken put hands
    → length (live key.carried (updates log)) ≤ key.sizes.entries
live_fits key takes puts log returned taken put hands ok law counts = let a = live_and_hands key takes puts log returned taken put hands ok law counts in omega arith
