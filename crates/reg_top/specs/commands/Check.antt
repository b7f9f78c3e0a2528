-- `check FILE`: what it writes, and why it refuses the history in the file.
use Rattle.std.specs.Prelude.{◌≡◌, ◌⊎◌, ℕ, List, [], ◌∷◌, Some, codes}
use Rattle.std.specs.Fmt.{decimal}
use Rattle.reg_session.specs.Files.{Files}
use Rattle.reg_requests.specs.Lines.{line, spaced}
use Rattle.reg_history.specs.declared.check.fault.CheckFault.{CheckFault}
use Rattle.reg_top.specs.declared.refusal.Refusal.{Refusal}
use Rattle.reg_top.specs.declared.refusal.Refusal.TheVariants as refusals
use Rattle.reg_top.specs.SavedHistories.{HasNoHistory, HasLawfulHistory, HasFaultyHistory}

-- the text that tells a lawful history
abbrev pub lawful_text : ℕ → ℕ → List ℕ
lawful_text rows live = spaced (codes "lawful" ∷ codes "rows" ∷ decimal rows ∷ codes "live" ∷ decimal live ∷ [])

-- the output is the line that tells the lawful history of the file with this name
pub record IsLawfulLine (name : List ℕ) (files : Files) (output : List ℕ) : Type 0 where
  pub bytes : List ℕ
  pub held : files name ≡ Some bytes
  pub rows : ℕ
  pub live : ℕ
  pub lawful : HasLawfulHistory bytes rows live
  pub printed : output ≡ line (lawful_text rows live)

-- the file has no history
pub record LacksHistory (name : List ℕ) (files : Files) (refusal : Refusal) : Type 0 where
  pub bytes : List ℕ
  pub held : files name ≡ Some bytes
  pub none : HasNoHistory bytes
  pub is : refusal ≡ refusals.NoHistory

-- it has one with a line that can't stand
pub record RefusesLine (name : List ℕ) (files : Files) (refusal : Refusal) : Type 0 where
  pub bytes : List ℕ
  pub held : files name ≡ Some bytes
  pub fault : CheckFault
  pub has : HasFaultyHistory bytes fault
  pub is : refusal ≡ refusals.Line fault

abbrev pub RefusesHistory : List ℕ → Files → Refusal → Type 0
RefusesHistory name files refusal = LacksHistory name files refusal ⊎ RefusesLine name files refusal
