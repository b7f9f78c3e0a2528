-- For readers: what the words of the table and the views of its seats stand for between any two steps, in ten sentences.
use Rattle.std.specs.Prelude.{◌≡◌, ℕ, ◌<◌, ◌≤◌, false, List, [], ◌∷◌, ◌++◌, length}
use Rattle.atomic_table.specs.Table.{State}
use Rattle.reg_model.specs.declared.reply.Row.{Row}
use Rattle.reg_model.specs.declared.update.Update.{Update}
use Rattle.reg_model.specs.Accounts.{ShareLog}
use Rattle.reg_words.specs.declared.word.SweepWord.{SweepWord}
use Rattle.reg_words.specs.Memory.{SWEEP, LOG}
use Rattle.reg_words.specs.Packing.{FitsSweep, sweep_word}
use Rattle.reg_rule.specs.declared.view.Key.{Key}
use Rattle.reg_rule.specs.declared.view.Place.{Place}
use Rattle.reg_rule.specs.declared.view.View.{View}
use Rattle.reg_rule.specs.Log.{updates}
use Rattle.reg_rule.specs.Steps.{LogSwapped}
use Rattle.reg_rule.specs.Seats.{IsSpent}
use Rattle.reg_rule.specs.Seatings.{joined}
use Rattle.reg_rule.specs.ReadersLog.{IsLogOf, IsSeatOf, LogStands, cells_of, log_front, given_back}
use Rattle.reg_rule.specs.ReadersEntries.{EntriesStand}
use Rattle.reg_rule.specs.ReadersChains.{IsChain, ChainsStand}
use Rattle.reg_rule.specs.ReadersPins.{PinsStand, CursorsStand, NeededStand}
use Rattle.reg_rule.specs.ReadersHistory.{AccountsStand}
use Rattle.reg_rule.specs.ReadersCosts.{CostsStand}
use Rattle.reg_rule.specs.ReadersSteps.{Lengthens}
use Rattle.reg_rule.specs.ReadersReach.{ReclamationStands, StoresStand}

pub record WordsStand (key : Key) (m : ℕ → ℕ → ℕ) (views : List View) : Type 0 where
  -- the log of the words, and how far reclamation has come
  pub log : List Place
  pub word : SweepWord
  pub word_is : m SWEEP 0 ≡ sweep_word word
  -- its numbers fit their bits, so that the word is of this state alone; its place is in the log, and its mark a front
  pub word_fits : FitsSweep word
  pub within : word.place ≤ length log
  pub marked : word.mark ≤ length log
  pub log_stands : LogStands key m views log (given_back word views)
  pub entries_stand : EntriesStand key m views log (given_back word views)
  pub chains_stand : ChainsStand key m views log word (given_back word views)
  pub pins_stand : PinsStand m views
  pub cursors_stand : CursorsStand key m views log word (given_back word views)
  pub needed_stand : NeededStand key m views log word (given_back word views)
  pub accounts_stand : AccountsStand key views log
  pub reclamation_stands : ReclamationStands key m views log
  pub stores_stand : StoresStand key m views log (given_back word views)
  pub costs_stand : CostsStand key views log
  -- and a seat that is no caller's has nothing
  pub spent : (seat : ℕ) (v : View) → IsSeatOf views seat v → v.live ≡ false → IsSpent v

-- ---- what the definitions determine

-- the front is the length of the log
abbrev pub FrontIsLength : Type 0
FrontIsLength = (key : Key) (m : ℕ → ℕ → ℕ) (log : List Place) → IsLogOf key m log → log_front key m ≡ length log

-- the words have one log at most
abbrev pub WordsHaveOneLog : Type 0
WordsHaveOneLog = (key : Key) (m : ℕ → ℕ → ℕ) (a b : List Place) → IsLogOf key m a → IsLogOf key m b → a ≡ b

-- and one state of the sweep
abbrev pub WordsHaveOneSweep : Type 0
WordsHaveOneSweep = (key : Key) (m : ℕ → ℕ → ℕ) (views others : List View) (a : WordsStand key m views) (b : WordsStand key m others) → a.word ≡ b.word

-- a bucket has one chain at most
abbrev pub BucketHasOneChain : Type 0
BucketHasOneChain = (key : Key) (m : ℕ → ℕ → ℕ) (table bucket : ℕ) (a b : List ℕ) → IsChain key m table bucket a → IsChain key m table bucket b → a ≡ b

-- ---- steps

-- an exchange of the log has seen one place more, won or lost
abbrev pub ExchangeSeesPlace : Type 0
ExchangeSeesPlace = (place found : ℕ) (p : Place) (v w : View) → LogSwapped place p v found w → (q : Place) × (w.log ≡ v.log ++ q ∷ [])

-- of two seats that are joined, the one has seen what both had
abbrev pub JoinLengthens : Type 0
JoinLengthens = (key : Key) (m : ℕ → ℕ → ℕ) (views : List View) (seat other : ℕ) (v w : View) → WordsStand key m views → IsSeatOf views seat v → IsSeatOf views other w → Lengthens v (joined v w) × Lengthens w (joined v w)

-- ---- the rule

-- whatever the table is, its words and views are so where the rule holds
abbrev pub Always : (Key → State (Unit {0}) View → Type 0) → (Key → (ℕ → ℕ → ℕ) → List View → Type 0) → Type 0
Always rule Says = (key : Key) (s : State (Unit {0}) View) → rule key s → Says key (cells_of key s.words) s.views

-- at any two moments the words of the places that a seat has seen by the first are the same, if by the second it has seen these and perhaps more
abbrev pub SeenWordsStay : Type 0
SeenWordsStay = (key : Key) (m later : ℕ → ℕ → ℕ) (views views_later : List View) (seat seat_later n : ℕ) (v w : View) → WordsStand key m views → WordsStand key later views_later
    → IsSeatOf views seat v → IsSeatOf views_later seat_later w → Lengthens v w → n < length v.log → m LOG n ≡ later LOG n

-- *Close.* There are words, with views, that stand for this log, which the accounts, by session, share.
pub record EndsStanding (key : Key) (log : List Update) (accounts : List (List Row)) : Type 0 where
  pub words : List ℕ
  pub views : List View
  pub stands : WordsStand key (cells_of key words) views
  pub log_is : updates stands.log ≡ log
  pub shared : ShareLog key.sizes key.carried log accounts
