-- A query is asked at the open snapshot.
use Rattle.std.proofs.Common.{◌≡◌, ℕ, ◌+◌, ◌-◌, ◌≤◌, Option, sym, ap, ◌∙◌, subst, arith}
use Rattle.std.specs.Option.{unwrap_or, option_map}
use Rattle.reg_model.specs.Limits.{Limits, IsInRange}
use Rattle.reg_model.specs.Opening.{Opening, IsOpening}
use Rattle.reg_rule.specs.declared.view.Key.{Key}
use Rattle.reg_rule.specs.declared.view.View.{View}
use Rattle.reg_rule.specs.Passes.{point_of}
use Rattle.reg_query.specs.declared.query.Query.{Query}
use Rattle.reg_query.specs.Snapshots.{IsOpenAt}
use Rattle.reg_query.specs.inner.Walks.{IsAskedAt}

pub point_is : (v : View) (k base : ℕ) (found : Option ℕ) → IsOpenAt v k → found ≡ option_map (point_of v) v.snapshot → unwrap_or found base ≡ v.key.carried.base + k
point_is v k base found o is = ap (λ (s : Option ℕ). unwrap_or s base) (is ∙ ap (option_map (point_of v)) o.snapshot)

pub asked_at : (q : Query) (v : View) (key : Key) (carried : Opening) (limits : Limits) (k base : ℕ) → v.key ≡ key → carried ≡ key.carried → limits ≡ key.sizes → key.entries ≡ key.sizes.entries
    → IsOpening carried → IsInRange limits → base ≡ carried.base → IsOpenAt v k → q.ids ≡ v.key.carried.base + k → q.places ≡ q.ids - base → q.bits ≡ limits.bits → q.radius ≤ 15 → IsAskedAt q v
asked_at q v key carried limits k base own carried_is limits_is entries_is opening range base_is o ids places bits radius =
    let cs : v.key.carried ≡ carried = ap (λ (z : Key). z.carried) own ∙ sym carried_is in
    let ls : v.key.sizes ≡ limits = ap (λ (z : Key). z.sizes) own ∙ sym limits_is in
    let same_base = ap (λ (z : Opening). z.base) cs in let same_bits = ap (λ (z : Limits). z.bits) ls in
    let at : q.places ≡ k = omega arith in
    let e = ap (λ (z : Key). z.entries) own in let f = ap (λ (z : Limits). z.entries) limits_is in
    let r = range.entries in let b = range.bits in
    record {
      opens = subst (IsOpenAt v) (sym at) o;
      ids = omega arith;
      bits = omega arith;
      radius = radius;
      least = omega arith;
      most = omega arith;
      opening = subst IsOpening (sym cs) opening;
      entries = omega arith;
    }
