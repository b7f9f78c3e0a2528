-- Histories that are saved in files, with or without the replies that a run writes before them.
use Rattle.std.specs.Prelude.{◌≡◌, ℕ, List, ◌∷◌, ◌++◌, Contains, codes}
use Rattle.std.specs.List.{flat_map}
use Rattle.reg_requests.specs.Lines.{line}
use Rattle.reg_requests.specs.Words.{lines_of}
use Rattle.reg_history.specs.declared.check.fault.CheckFault.{CheckFault}
use Rattle.reg_history.specs.check.Checking.{IsHistoryOf, HasLineFault}

-- the line with which a history begins
abbrev pub head : List ℕ
head = codes "iscc-history 1"

-- The text begins at the first line of the file that is `iscc-history 1`: it is all that stands behind the lines before that one.
pub record IsSavedHistory (file text : List ℕ) : Type 0 where
  pub before : List (List ℕ)
  pub more : List (List ℕ)
  pub lines : lines_of file ≡ before ++ head ∷ more
  pub first : Contains before head → ⊥
  pub whole : file ≡ flat_map line before ++ text

-- no line of the file is that line
abbrev pub HasNoHistory : List ℕ → Type 0
HasNoHistory file = Contains (lines_of file) head → ⊥

-- the file has a lawful history, with so many rows, which leaves so many declarations live
pub record HasLawfulHistory (file : List ℕ) (rows live : ℕ) : Type 0 where
  pub text : List ℕ
  pub saved : IsSavedHistory file text
  pub lawful : IsHistoryOf text rows live

-- the file has a history that can't stand: its first line that can't, counted from 1 at the first line of the history, and why
pub record HasFaultyHistory (file : List ℕ) (fault : CheckFault) : Type 0 where
  pub text : List ℕ
  pub saved : IsSavedHistory file text
  pub faulty : HasLineFault text fault.line fault.why
