-- What a pass is like between its calls.
use Rattle.std.specs.Prelude.{◌≡◌, ℕ, ◌+◌, ◌<◌, ◌⊎◌, [], length, None, Some}
use Rattle.atomic_table.specs.Seated.{TableId}
use Rattle.reg_rule.specs.declared.view.Key.{Key}
use Rattle.reg_rule.specs.declared.view.View.{View}
use Rattle.reg_rule.specs.Helping.{HasHelped}
use Rattle.reg_rule.specs.Rounds.{IsWordsPass}
use Rattle.reg_query.specs.Snapshots.{IsOpenAt}

-- The pass is of these words, and as the calls need it.
pub record IsFit (words : TableId × Key) (pass : TableId × View) : Type 0 where
  pub own : IsWordsPass words pass
  pub one : 0 < length pass.1.accounts
  -- it doesn't hold the sweep
  pub unheld : pass.1.holding ≡ None
  -- it is pinned only by an open snapshot
  pub unpinned : pass.1.snapshot ≡ None → pass.1.pin ≡ 0
  pub opens : (k : ℕ) → pass.1.snapshot ≡ Some k → IsOpenAt pass.1 k
  -- of the places that it has committed it has helped the last, or a later one
  pub helped : (n : ℕ) → pass.1.committed ≡ Some n → (n < length pass.1.log) × HasHelped pass.1 (n + 1)
  -- one caller has helped all places that it has seen, or has seen all there are
  pub alone : pass.1.key.sizes.callers ≡ 1 → HasHelped pass.1 (length pass.1.log) ⊎ (length pass.1.log ≡ pass.1.key.sizes.log)
  -- with an entry in hand it has seen all places
  pub hand : (pass.1.hands ≡ []) ⊎ (length pass.1.log ≡ pass.1.key.sizes.log)
