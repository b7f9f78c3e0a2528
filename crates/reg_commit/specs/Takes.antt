-- What taking an entry from the ring does.
use Rattle.std.specs.Prelude.{◌≡◌, ℕ, ◌+◌, ◌<◌, ◌≤◌, ◌==◌, List, [], ◌∷◌, ◌++◌, length, take, count_by, All}
use Rattle.reg_model.specs.Live.{declarations, withdrawals}
use Rattle.reg_rule.specs.declared.view.Key.{Key}
use Rattle.reg_rule.specs.declared.view.View.{View}
use Rattle.reg_rule.specs.Log.{updates}
use Rattle.reg_rule.specs.Moves.{took, found_empty}

-- The steps of a take: loads of the ring, and exchanges of TAKE, no more than places and callers.
pub record AreTaking (key : Key) (steps : List ℕ) : Type 0 where
  pub kinds : All (λ kind. (9 ≤ kind) × (kind ≤ 12)) steps
  pub few : count_by (λ kind. kind == 12) steps ≤ key.sizes.log + key.sizes.callers

-- The entry is in hand.
pub record Took (v : View) (entry : ℕ) (w : View) : Type 0 where
  pub inside : entry < v.key.entries
  pub steps : List ℕ
  pub are : AreTaking v.key steps
  pub view : w ≡ record (took v entry) { made = v.made ++ steps }

-- Nothing is in hand: at one of the steps just so many entries had been taken, and so many put.
pub record FoundEmpty (v : View) (taken : ℕ) (w : View) : Type 0 where
  -- where the log had this front
  pub front : ℕ
  pub seen : length v.log ≤ front
  pub declared : declarations (updates v.log) ≤ taken
  -- and of those seen below the stop of the seat's last sweep each withdrawal had given its entry back
  pub given : v.key.sizes.entries + withdrawals (updates (take v.stopped v.log)) ≤ taken + length v.key.carried.list
  pub steps : List ℕ
  pub are : AreTaking v.key steps
  -- of this call: the last of them, which loaded PUT
  pub ends : (before : List ℕ) × (steps ≡ before ++ 10 ∷ [])
  pub view : w ≡ record (found_empty v taken front) { made = v.made ++ steps }
