-- One caller has seen all that there is (kind 1).
use Rattle.std.proofs.Common.{◌≡◌, ℕ, ◌+◌, ◌<◌, ◌≤◌, ◌==◌, ◌&&◌, List, length, sum_by, count_by, cond, Bool, true, false, true≢false, sym, refl, ap, ◌∙◌, subst, lt_of_not-le, tests, arith}
use mathlib.Core.Logic.{dite}
use native.Mathlib.Decide.{dec_le}
use lib.ListN.{get_elem?}
use mathlib.Core.Option.{some}
use Rattle.reg_model.specs.declared.reply.Row.{Row}
use Rattle.reg_model.specs.Rows.{is_accepted}
use Rattle.reg_rule.specs.declared.view.Key.{Key}
use Rattle.reg_rule.specs.declared.view.View.{View}
use Rattle.reg_rule.specs.inner.World.{World}
use Rattle.reg_model.specs.Accounts.{claims}
use Rattle.reg_rule.specs.inner.AccountParts.{total_below}
use Rattle.reg_rule.specs.inner.Rule.{Inv}
use Rattle.reg_rule.proofs.Floors.{first_account}
use Rattle.reg_rule.proofs.Costs.{sum_le, sum_const}

right_true : (a b : Bool) → (a && b) ≡ true → b ≡ true
right_true true b h = h
right_true false b h = absurd (true≢false (sym h))

pub alone : (key : Key) (m : ℕ → ℕ → ℕ) (w : World) (views : List View) (id : ℕ) (v : View) → Inv key m w views → get_elem? views id ≡ some v → 0 < length v.accounts → key.sizes.callers ≡ 1 → length w.log ≤ length v.log
alone key m w views id v i at made one = dite (dec_le (length w.log) (length v.log)) (λ le. le) (λ more.
    let p : ℕ = length v.log in let less : p < length w.log = lt_of_not-le more in
    let a = first_account v.accounts made in let o = i.owns id v at 0 a.0 a.1 in
    let number : a.0.number ≡ 0 = (let b = o.below in omega arith) in
    let rows : w.accounts 0 ≡ a.0.rows = ap w.accounts (sym number) ∙ o.rows_are in
    let claimed : count_by (claims key.carried.base p) (w.accounts 0) + 0 ≡ 1 = subst (λ (n : ℕ). total_below n (λ s. count_by (claims key.carried.base p) (w.accounts s)) ≡ 1) one (i.accounts.claimed p less) in
    let none : count_by (claims key.carried.base p) a.0.rows ≤ sum_by {X = Row} (λ r. 0) a.0.rows
    = sum_le (λ (r : Row). cond {A = ℕ} (claims key.carried.base p r) 1 0) (λ r. 0) a.0.rows (λ j r there. zero_at (claims key.carried.base p r) (λ takes.
    let h = (i.rows id v at).below 0 j a.0 r a.1 there in let e : r.point ≡ key.carried.base + p + 1 = same_of r.point (key.carried.base + p + 1) (right_true (is_accepted r) (r.point == key.carried.base + p + 1) takes) in absurd (omega arith))) in
    let zero_sum = sum_const {A = Row} 0 a.0.rows in
    let same : count_by (claims key.carried.base p) (w.accounts 0) ≡ count_by (claims key.carried.base p) a.0.rows = ap (count_by (claims key.carried.base p)) rows in absurd (omega arith)) where
      zero_at : (b : Bool) → (b ≡ true → ⊥) → cond {A = ℕ} b 1 0 ≤ 0
      zero_at true n = absurd (n refl)
      zero_at false n = omega arith

      same_of : (a b : ℕ) → (a == b) ≡ true → a ≡ b
      same_of a b h = search (tests, h)
