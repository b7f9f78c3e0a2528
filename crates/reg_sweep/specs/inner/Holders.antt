-- Where the holder of the sweep is.
use Rattle.std.specs.Prelude.{◌≡◌, ℕ, ◌<◌, ◌≤◌, cond, true, false, [], ◌++◌, length, replicate, Some}
use Rattle.reg_words.specs.declared.word.SweepWord.{SweepWord}
use Rattle.reg_words.specs.Packing.{FitsSweep}
use Rattle.reg_rule.specs.declared.view.Holding.{Holding}
use Rattle.reg_rule.specs.declared.view.View.{View}
use Rattle.reg_rule.specs.Log.{IsWd, NoneWithdrawn}
use Rattle.reg_rule.specs.Moves.{on_holding, holding_of}

-- at this place, with nothing in limbo
abbrev pub resting : ℕ → SweepWord
resting place = record { held = false; limbo = false; place = place; mark = 0 }

-- the entry that was withdrawn there is in limbo
abbrev pub in_limbo : ℕ → ℕ → SweepWord
in_limbo place mark = record { held = false; limbo = true; place = place; mark = mark }

-- It has passed declarations alone since the place that it knows, and has done nothing at this one.
pub record IsAt (place : ℕ) (v : View) : Type 0 where
  pub h : Holding
  pub holding : v.holding ≡ Some h
  pub unmoved : h.word.limbo ≡ false
  pub uncut : h.cut ≡ []
  pub unpaid : h.paid ≡ false
  pub from : h.place ≤ place
  pub within : place ≤ length v.log
  pub between : NoneWithdrawn v.log h.place place

-- It has found the withdrawal at this place stamped, and so many sessions free of it.
pub record IsExamining (place id entry clear : ℕ) (v : View) : Type 0 where
  pub h : Holding
  pub holding : v.holding ≡ Some h
  pub unmoved : h.word.limbo ≡ false
  pub uncut : h.cut ≡ []
  pub unpaid : h.paid ≡ false
  pub at : h.place ≡ place
  pub stamped : h.stamped ≡ true
  pub clear_is : h.clear ≡ clear
  pub withdraws : IsWd v.log place id entry
  pub inside : place < length v.log

-- The entry that is withdrawn at this place is in limbo, and nothing is known yet.
pub record IsWaiting (place mark id entry : ℕ) (v : View) : Type 0 where
  pub holding : v.holding ≡ Some (holding_of (in_limbo place mark))
  pub fits : FitsSweep (in_limbo place mark)
  pub withdraws : IsWd v.log place id entry
  pub inside : place < length v.log

-- The pins may be looked at: in limbo for the mark, else for the place.
pub record MayScan (hazard : ℕ) (v : View) : Type 0 where
  pub h : Holding
  pub holding : v.holding ≡ Some h
  pub begins : cond h.word.limbo ((h.freed ≡ 0) × (h.paid ≡ false)) ((h.clear ≡ 0) × (h.stamped ≡ true) × (h.cut ≡ []) × (h.place < length v.log))
  pub hazard_is : cond {A = ℕ} h.word.limbo h.word.mark h.place ≡ hazard

-- so many sessions were found free
abbrev pub scanned_to : ℕ → Holding → Holding
scanned_to seats h = record h { freed = cond {A = ℕ} h.word.limbo seats h.freed; clear = cond {A = ℕ} h.word.limbo h.clear seats }

abbrev pub found_free : ℕ → ℕ → View → View
found_free seats loads v = record v { holding = on_holding (scanned_to seats) v.holding; made = v.made ++ replicate loads 18 }
