-- A declaration goes into the log, exchange by exchange.
use Rattle.std.specs.Prelude.{◌≡◌, ◌≢◌, ℕ, ◌<◌, List, length, Option, None, Some}
use Rattle.atomic_table.specs.Seated.{TableId}
use Rattle.iscc_header.specs.declared.unit.Unit64.{Unit64}
use Rattle.reg_model.specs.Desks.{Answered}
use Rattle.reg_model.specs.declared.call.Call.TheVariants.{Declare}
use Rattle.reg_model.specs.declared.reply.Answer.{Answer}
use Rattle.reg_model.specs.declared.reply.Reply.TheVariants.{Full}
use Rattle.reg_model.specs.declared.reply.FullCause.TheVariants.{Entries}
use Rattle.reg_rule.specs.declared.view.Key.{Key}
use Rattle.reg_rule.specs.declared.view.View.{View}
use Rattle.reg_rule.specs.Helping.{HasHelped}
use Rattle.reg_rule.specs.Passes.{pass_view}
use Rattle.reg_free.specs.Fit.{IsFit}
use Rattle.reg_free.specs.inner.Between.{IsLinked}

-- A pinned pass has found the front, and has seen all places below it.
pub record IsAtFront (v : View) (place : ℕ) : Type 0 where
  pub pinned : 0 < v.pin
  pub unopened : v.snapshot ≡ None
  pub unheld : v.holding ≡ None
  pub front : v.front ≡ Some place
  pub seen : length v.log ≡ place
  pub inside : place < v.key.sizes.log

-- The places below the front are complete.
pub record HasHelpedBelow (v : View) (place : ℕ) (w : View) : Type 0 where
  -- what helping leaves behind
  pub noted : Option ℕ
  pub helped : Option ℕ
  pub made : List ℕ
  pub view : w ≡ record v { noted = noted; helped = helped; made = made }
  pub has : HasHelped w place

-- The declaration is answered.
pub record IsPublished (words : TableId × Key) (unit : Unit64) (old new : TableId × View) (answer : Answer) : Type 0 where
  pub answered : Answered words.1.sizes words.1.carried (pass_view old.1) (pass_view new.1) (Declare unit) answer
  pub fit : IsFit words new
  pub other : (given : ℕ) → answer.reply ≢ Full (Entries given)

-- Another record took the place, which is seen now.
pub record HasLost (words : TableId × Key) (unit : Unit64) (entry : ℕ) (old new : TableId × View) : Type 0 where
  pub linked : IsLinked words unit entry new
  pub key : new.1.key ≡ old.1.key
  pub accounts : new.1.accounts ≡ old.1.accounts
  pub seen : length old.1.log < length new.1.log
