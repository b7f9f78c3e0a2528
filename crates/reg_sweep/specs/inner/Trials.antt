-- What the tests know of the rounds that they play.
use Rattle.std.specs.Prelude.{◌≡◌, ℕ, true, false, [], None, Some}
use Rattle.reg_rule.specs.declared.view.Holding.{Holding}
use Rattle.reg_rule.specs.declared.view.Key.{Key}
use Rattle.reg_rule.specs.declared.view.View.{View}
use Rattle.reg_rule.specs.Fresh.{fresh, unswept}
use Rattle.reg_rule.specs.Log.{IsWd}
use Rattle.reg_rule.specs.Steps.{SeenFits}
use Rattle.reg_rule.specs.inner.Trials.{tables_below}
use Rattle.reg_commit.specs.inner.Trials.{seven}

-- a pass that has nothing in hand, no open snapshot, and doesn't hold the sweep
pub record IsFree (v : View) : Type 0 where
  pub hands : v.hands ≡ []
  pub snapshot : v.snapshot ≡ None
  pub holding : v.holding ≡ None

-- A sweep leaves what a pass has in hand, its pin, its snapshot, and what it holds.
pub record IsKept (v w : View) : Type 0 where
  pub hands : w.hands ≡ v.hands
  pub pin : w.pin ≡ v.pin
  pub snapshot : w.snapshot ≡ v.snapshot
  pub holding : w.holding ≡ v.holding

-- ---- a round of two callers, into which the id 7 is carried in the only entry

abbrev pub one_entry : Key
one_entry = record { sizes = record { entries = 1; log = 4; bits = 4; callers = 2 }; carried = seven; entries = 1 }

-- the first seat is pinned, and has found the id live at the front 0
abbrev pub found_live : View
found_live = record (fresh one_entry 0 1) { pin = 1; front = Some 0; found = Some (record { id = 7; entry = 0; place = 0 }) }

-- The pass has withdrawn the id at the place 0, and nothing was swept yet.
pub record HasWithdrawn (v : View) : Type 0 where
  pub key : v.key ≡ one_entry
  pub last : v.last_word ≡ unswept
  pub holding : v.holding ≡ None
  pub seen : SeenFits v.key v.log
  pub withdraws : IsWd v.log 0 7 0

-- The holder of the sweep may unlink the entry, and has unlinked it in the first tables.
pub record IsCutting (tables : ℕ) (v : View) : Type 0 where
  pub key : v.key ≡ one_entry
  pub withdraws : IsWd v.log 0 7 0
  pub h : Holding
  pub holding : v.holding ≡ Some h
  pub unmoved : h.word.limbo ≡ false
  pub unpaid : h.paid ≡ false
  pub at : h.place ≡ 0
  pub stamped : h.stamped ≡ true
  pub clear : h.clear ≡ 2
  pub cut : h.cut ≡ tables_below tables

-- It has unlinked it in all tables, and has found the mark 1.
pub record IsMarked (v : View) : Type 0 where
  pub h : Holding
  pub holding : v.holding ≡ Some h
  pub unmoved : h.word.limbo ≡ false
  pub unpaid : h.paid ≡ false
  pub at : h.place ≡ 0
  pub marked : h.marked ≡ Some 1
