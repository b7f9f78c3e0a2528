-- `instance FILE`: what it writes.
use Rattle.std.specs.Prelude.{◌≡◌, ℕ, List, Some}
use Rattle.iscc_text.specs.UnitText.{unit_text}
use Rattle.iscc_instance.specs.Instances.{instance_of}
use Rattle.reg_session.specs.Files.{Files}
use Rattle.reg_requests.specs.Lines.{line}

-- the output is the line with the printed text of the Instance-Code of the file with this name
pub record IsInstanceLine (name : List ℕ) (files : Files) (output : List ℕ) : Type 0 where
  pub bytes : List ℕ
  pub held : files name ≡ Some bytes
  pub printed : output ≡ line (unit_text (instance_of bytes))
