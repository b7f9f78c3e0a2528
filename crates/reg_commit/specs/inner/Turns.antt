-- One turn of a take.
use Rattle.std.specs.Prelude.{◌≡◌, ℕ, ◌+◌, ◌<◌, ◌≤◌, ◌==◌, List, ◌++◌, count_by, All}
use Rattle.reg_rule.specs.declared.view.Key.{Key}
use Rattle.reg_rule.specs.declared.view.Taking.TheVariants.{Begun}
use Rattle.reg_rule.specs.declared.view.View.{View}
use Rattle.reg_rule.specs.Moves.{with_step, took, missed}
use Rattle.reg_rule.specs.Steps.{RingEmpty}
use Rattle.reg_commit.specs.declared.taking.Try.{Try}
use Rattle.reg_commit.specs.declared.taking.Try.TheVariants as tries

-- the most entries that are taken in a round
abbrev pub most_taken : Key → ℕ
most_taken key = key.sizes.log + key.sizes.callers

-- what a turn under this count leaves
abbrev pub HasTried : Try → ℕ → View → View → Type 0
HasTried (tries.Took entry) taken v w = (w ≡ took (with_step (with_step v 10) 11) entry) × (entry < v.key.entries) × (taken < most_taken v.key)
HasTried (tries.Empty empty) taken v w = (empty.taken ≡ taken) × RingEmpty taken v w
HasTried (tries.Lost found) taken v w = (w ≡ missed (with_step (with_step v 10) 11) found) × (taken < found) × (found ≤ most_taken v.key)

-- The count was loaded, and raised by others at each exchange since.
pub record IsTaking (v : View) (taken : ℕ) (w : View) : Type 0 where
  pub steps : List ℕ
  pub kinds : All (λ kind. (9 ≤ kind) × (kind ≤ 12)) steps
  pub few : count_by (λ kind. kind == 12) steps ≤ taken
  pub most : taken ≤ most_taken v.key
  pub view : w ≡ record v { taking = Begun taken; made = v.made ++ steps }
