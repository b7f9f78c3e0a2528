-- What contracts see of a desk behind one turn, and of its passes.
use Rattle.std.specs.Prelude.{◌≡◌}
use Rattle.atomic_table.specs.Seated.{TableId}
use Rattle.reg_model.specs.Limits.{Limits}
use Rattle.reg_model.specs.Opening.{Opening}
use Rattle.reg_model.specs.Desks.{PassView}

-- which table it is, the sizes of its round, and what the round began with
pub record TurnView : Type 0 where
  pub table : TableId
  pub limits : Limits
  pub opening : Opening

-- the desk that a pass is of, and the pass
pub record TurnPassView : Type 0 where
  pub desk : TurnView
  pub pass : PassView

-- the pass is of this desk
abbrev pub IsPassOf : TurnView → TurnPassView → Type 0
IsPassOf desk pass = pass.desk ≡ desk
