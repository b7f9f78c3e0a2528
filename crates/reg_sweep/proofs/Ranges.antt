-- What the sizes of the round say.
use Rattle.std.proofs.Common.{◌≡◌, ◌^◌, ◌≤◌, sym, ap, ◌∙◌, arith}
use Rattle.reg_model.specs.Limits.{Limits, IsInRange}
use Rattle.reg_rule.specs.declared.view.Key.{Key}

-- a place is a number of 22 bits
pub few_places : (sizes : Limits) (words key : Key) → sizes ≡ words.sizes → key ≡ words → IsInRange sizes → key.sizes.log ≤ 2 ^ 22
few_places sizes words key is own range = let most = range.log.1 in let same : key.sizes.log ≡ sizes.log = ap (λ (k : Key). k.sizes.log) own ∙ ap (λ (l : Limits). l.log) (sym is) in omega arith
