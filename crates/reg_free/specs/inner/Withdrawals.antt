-- A withdrawal, turn by turn.
use Rattle.std.specs.Prelude.{◌≡◌, ℕ, ◌+◌, ◌<◌, ◌≤◌, ◌⊎◌, ◌==◌, ◌&&◌, nat_le, Bool, true, false, List, [], length, take, Option, None, Some, option_map}
use Rattle.atomic_table.specs.Seated.{TableId}
use Rattle.iscc_header.specs.declared.unit.Unit64.{Unit64}
use Rattle.reg_model.specs.Opening.{IsOpening}
use Rattle.reg_model.specs.Live.{live_at}
use Rattle.reg_model.specs.Desks.{Answered}
use Rattle.reg_model.specs.declared.call.Call.TheVariants.{Withdraw}
use Rattle.reg_model.specs.declared.reply.Reply.{Reply}
use Rattle.reg_model.specs.declared.update.Declared.{Declared}
use Rattle.reg_words.specs.declared.word.StampWord.{StampWord}
use Rattle.reg_words.specs.declared.word.StampWord.TheVariants.{Unborn, Live, Dead}
use Rattle.reg_rule.specs.declared.view.Account.{Account}
use Rattle.reg_rule.specs.declared.view.Key.{Key}
use Rattle.reg_rule.specs.declared.view.View.{View}
use Rattle.reg_rule.specs.Log.{Declares}
use Rattle.reg_rule.specs.Helping.{HasHelped}
use Rattle.reg_rule.specs.Moves.{grown, next_row, log_at, unless_declared, full_at}
use Rattle.reg_rule.specs.Passes.{pass_view}
use Rattle.reg_rule.specs.Rounds.{IsWordsPass}
use Rattle.reg_rule.specs.Steps.{SeenFits}
use Rattle.reg_free.specs.declared.withdrawing.Turn.{Turn}
use Rattle.reg_free.specs.declared.withdrawing.Turn.TheVariants as turns

-- In the call: the pass is pinned, and else as between its calls.
pub record IsEnding (words : TableId × Key) (pass : TableId × View) : Type 0 where
  pub own : IsWordsPass words pass
  pub one : 0 < length pass.1.accounts
  pub unheld : pass.1.holding ≡ None
  pub unopened : pass.1.snapshot ≡ None
  pub pinned : 0 < pass.1.pin
  pub helped : (n : ℕ) → pass.1.committed ≡ Some n → (n < length pass.1.log) × HasHelped pass.1 (n + 1)
  pub hand : (pass.1.hands ≡ []) ⊎ (length pass.1.log ≡ pass.1.key.sizes.log)

-- At the front that was found last, below which all is complete.
pub record IsAtFront (words : TableId × Key) (place : ℕ) (pass : TableId × View) : Type 0 where
  pub ready : IsEnding words pass
  pub front : pass.1.front ≡ Some place
  pub last : length pass.1.log ≡ place
  pub complete : HasHelped pass.1 place
  pub seen : SeenFits pass.1.key pass.1.log
  pub opening : IsOpening pass.1.key.carried

-- the row of the withdrawal, if its reply is decided
abbrev pub row_more : View → ℕ → ℕ → Option Reply → List Account
row_more v id place reply = grown v.accounts (option_map (next_row v (Withdraw id) place) reply)

-- The front was found, and decided what isn't declared below it.
pub record FoundFront (id : ℕ) (v : View) (place : ℕ) (w : View) : Type 0 where
  pub key : w.key ≡ v.key
  pub later : length v.log ≤ place
  pub accounts : w.accounts ≡ row_more v id place (unless_declared w place id)

-- the id is declared below the front, in this entry; or it is not
abbrev pub IsDeclaredIn : View → ℕ → ℕ → Option ℕ → Type 0
IsDeclaredIn v k id None = (unit : Unit64) (entry : ℕ) → Declares v.key.carried (take k v.log) id unit entry → ⊥
IsDeclaredIn v k id (Some entry) = (entry < v.key.entries) × ((unit : Unit64) × Declares v.key.carried (take k v.log) id unit entry)

-- the stamp shows the id live at the front: it names it, and no death below
abbrev pub shows_live : ℕ → ℕ → StampWord → Bool
shows_live place id Unborn = false
shows_live place id (Live kind found) = found == id
shows_live place id (Dead kind found death) = (found == id) && nat_le place death

-- the id is live at the front, and was found so in this entry; or it is not
abbrev pub IsLiveThere : View → ℕ → ℕ → ℕ → View → Bool → Type 0
IsLiveThere v place id entry w true = ((d : Declared) × (live_at v.key.carried (log_at v place) id ≡ Some d)) × (w.found ≡ Some (record { id = id; entry = entry; place = place }))
IsLiveThere v place id entry w false = live_at v.key.carried (log_at v place) id ≡ None

-- The stamp was loaded, and decided what isn't live at the front, or has no room in the log.
pub record HasLooked (id place : ℕ) (v w : View) : Type 0 where
  pub key : w.key ≡ v.key
  pub log : w.log ≡ v.log
  pub accounts : w.accounts ≡ row_more v id place (full_at v place (live_at v.key.carried (log_at v place) id) id)

-- Another record took the place: no row was made, and more of the log was seen.
pub record HasLost (v w : View) : Type 0 where
  pub key : w.key ≡ v.key
  pub accounts : w.accounts ≡ v.accounts
  pub later : length v.log < length w.log
  pub room : length w.log ≤ v.key.sizes.log

-- what a turn came to: where it is answered, all that was seen is complete
abbrev pub HasTurned : Key → ℕ → View → View → Turn → Type 0
HasTurned key id v w (turns.Answered answer) = HasHelped w (length w.log) × Answered key.sizes key.carried (pass_view v) (pass_view w) (Withdraw id) answer
HasTurned key id v w turns.Lost = HasLost v w
