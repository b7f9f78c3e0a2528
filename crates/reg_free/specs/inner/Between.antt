-- What the parts of a call leave.
use Rattle.std.specs.Prelude.{◌≡◌, ℕ, ◌+◌, ◌<◌, ◌≤◌, ◌⊎◌, true, List, [], ◌∷◌, ◌++◌, length, None, Some}
use Rattle.atomic_table.specs.Seated.{TableId}
use Rattle.iscc_header.specs.declared.unit.Unit64.{Unit64}
use Rattle.reg_model.specs.Live.{declarations}
use Rattle.reg_rule.specs.declared.view.Empty.{Empty}
use Rattle.reg_rule.specs.declared.view.Hand.{Hand}
use Rattle.reg_rule.specs.declared.view.Key.{Key}
use Rattle.reg_rule.specs.declared.view.Place.{Place}
use Rattle.reg_rule.specs.declared.view.View.{View}
use Rattle.reg_rule.specs.Log.{updates}
use Rattle.reg_rule.specs.Helping.{HasHelped}
use Rattle.reg_rule.specs.Rounds.{IsWordsPass}
use Rattle.reg_rule.specs.Tables.{are_all}
use Rattle.reg_rule.specs.Moves.{new_hand}
use Rattle.reg_rule.specs.Steps.{SeenFits}

-- Between two steps of a call, where no row was made yet: the pass may have seen more of the log.
pub record IsBetween (v w : View) : Type 0 where
  pub key : w.key ≡ v.key
  pub accounts : w.accounts ≡ v.accounts
  pub costs : w.costs ≡ v.costs
  pub snapshot : w.snapshot ≡ v.snapshot
  pub holding : w.holding ≡ v.holding
  pub committed : w.committed ≡ v.committed
  pub helped : w.helped ≡ v.helped
  pub places : List Place
  pub log : w.log ≡ v.log ++ places
  -- one caller has seen all that there is
  pub alone : v.key.sizes.callers ≡ 1 → places ≡ []

-- An entry is in hand, and nothing was done with it.
pub record HasEntry (v : View) (entry : ℕ) (w : View) : Type 0 where
  pub between : IsBetween v w
  pub seen : SeenFits w.key w.log
  pub pin : w.pin ≡ v.pin
  pub inside : entry < w.key.entries
  pub hands : w.hands ≡ new_hand entry ∷ []

-- The ring was found empty behind a sweep, when so many entries had been taken.
pub record IsRefused (taken : ℕ) (v : View) : Type 0 where
  pub empty : (e : Empty) × (v.empty ≡ Some e) × (e.taken ≡ taken) × (v.key.sizes.callers ≡ 1 → length v.log ≤ e.stopped)
  pub declared : declarations (updates v.log) ≤ taken
  -- all entries but those carried, and those given back
  pub least : v.key.sizes.entries ≤ taken + length v.key.carried.list

-- After a sweep of the whole log the ring was found empty again, when so many entries had been taken.
pub record HasNoEntry (v : View) (taken : ℕ) (w : View) : Type 0 where
  pub between : IsBetween v w
  pub seen : SeenFits w.key w.log
  pub pin : w.pin ≡ v.pin
  pub hands : w.hands ≡ []
  -- a sweep of this call
  pub swept : length v.sweeps < length w.sweeps
  pub refused : IsRefused taken w

-- In a call, before it is answered: the pass is fit but for what it has in hand.
pub record Rests (words : TableId × Key) (pass : TableId × View) : Type 0 where
  pub own : IsWordsPass words pass
  pub one : 0 < length pass.1.accounts
  pub unheld : pass.1.holding ≡ None
  pub unopened : pass.1.snapshot ≡ None
  pub free : pass.1.pin ≡ 0
  pub helped : (n : ℕ) → pass.1.committed ≡ Some n → (n < length pass.1.log) × HasHelped pass.1 (n + 1)
  pub alone : pass.1.key.sizes.callers ≡ 1 → HasHelped pass.1 (length pass.1.log) ⊎ (length pass.1.log ≡ pass.1.key.sizes.log)
  pub seen : SeenFits pass.1.key pass.1.log

-- The pass is pinned, and the entry in hand, which holds the unit, is linked in each table.
pub record IsLinked (words : TableId × Key) (unit : Unit64) (entry : ℕ) (pass : TableId × View) : Type 0 where
  pub own : IsWordsPass words pass
  pub one : 0 < length pass.1.accounts
  pub unheld : pass.1.holding ≡ None
  pub unopened : pass.1.snapshot ≡ None
  pub pinned : 0 < pass.1.pin
  pub helped : (n : ℕ) → pass.1.committed ≡ Some n → (n < length pass.1.log) × HasHelped pass.1 (n + 1)
  pub inside : entry < pass.1.key.entries
  pub hand : (h : Hand) × (pass.1.hands ≡ h ∷ []) × (h.entry ≡ entry) × (h.unborn ≡ true) × (h.code ≡ Some unit.body) × (are_all h.linked ≡ true)
  pub seen : SeenFits pass.1.key pass.1.log
