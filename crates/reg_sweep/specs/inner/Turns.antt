-- How the holder of the sweep comes to it, and what it does at one place.
use Rattle.std.specs.Prelude.{◌≡◌, ◌≢◌, ℕ, ◌+◌, ◌*◌, ◌<◌, ◌≤◌, ◌↔◌, true, false, List, ◌∷◌, [], ◌++◌, length, replicate, All, Some}
use Rattle.iscc_header.specs.declared.unit.Unit64.{Unit64}
use Rattle.reg_model.specs.Live.{withdrawals}
use Rattle.reg_words.specs.declared.sweeping.Why.{Why}
use Rattle.reg_words.specs.declared.sweeping.Swept.{Swept}
use Rattle.reg_words.specs.declared.sweeping.Why.TheVariants.{Limit, Pinned, Held}
use Rattle.reg_words.specs.declared.word.SweepWord.{SweepWord}
use Rattle.reg_words.specs.Packing.{FitsSweep}
use Rattle.reg_rule.specs.declared.view.Holding.{Holding}
use Rattle.reg_rule.specs.declared.view.View.{View}
use Rattle.reg_rule.specs.Log.{IsDecl, IsWd}
use Rattle.reg_rule.specs.SweepWords.{rank}
use Rattle.reg_rule.specs.Conditions.{IsNextWord}
use Rattle.reg_rule.specs.declared.told.Told.TheVariants.{Ends}
use Rattle.reg_rule.specs.Moves.{on_holding, cut_from, holding_of, swept_to}
use Rattle.reg_rule.specs.Steps.{SeenFits}
use Rattle.mih_chain.specs.Linking.{IsUnlinking}
use Rattle.reg_sweep.specs.declared.reclaiming.Turn.{Turn}
use Rattle.reg_sweep.specs.declared.reclaiming.Turn.TheVariants as turns
use Rattle.reg_sweep.specs.declared.seizing.Try.{Try}
use Rattle.reg_sweep.specs.declared.seizing.Try.TheVariants as tries
use Rattle.reg_sweep.specs.Sweeping.{StopsFor, IsInTheWay, IsFresh, passed_from}
use Rattle.reg_sweep.specs.inner.Holders.{IsAt, found_free, resting}
use Rattle.reg_sweep.specs.inner.Going.{GoesOn}

-- ---- the sweep is taken

-- The exchanges so far found the word further and further on.
pub record IsSeeking (v w : View) : Type 0 where
  pub steps : List ℕ
  pub kinds : All (λ kind. kind ≡ 19) steps
  pub later : v.last_word.place ≤ w.last_word.place
  pub view : w ≡ record v { last_word = w.last_word; made = v.made ++ steps }

-- This word was found free, and is held.
pub record HasSeized (v : View) (word : SweepWord) (w : View) : Type 0 where
  pub steps : List ℕ
  pub kinds : All (λ kind. kind ≡ 19) steps
  pub later : v.last_word.place ≤ word.place
  pub free : word.held ≡ false
  pub fits : FitsSweep word
  pub view : w ≡ record v { last_word = word; holding = Some (holding_of word); made = v.made ++ steps }

-- a sweep that another seat holds
abbrev pub refused : Swept
refused = record { places = 0; given = 0; why = Held }

-- how one exchange went
abbrev pub HasTried : Try → View → View → Type 0
HasTried (tries.Taken word) v w = (word ≡ v.last_word) × (word.held ≡ false) × FitsSweep word × (w ≡ record v { holding = Some (holding_of word); made = v.made ++ 19 ∷ [] })
HasTried tries.Held v w = (v.key.sizes.callers ≢ 1) × (w ≡ record v { sweeps = v.sweeps ++ refused ∷ []; made = v.made ++ 19 ∷ [] })
HasTried tries.Moved v w = (rank v.last_word < rank w.last_word) × (w.last_word.place ≤ v.key.sizes.log) × (w ≡ record v { last_word = w.last_word; made = v.made ++ 19 ∷ [] })

-- The holder has walked to the front, which is no further back than its place; what is in limbo there was withdrawn.
pub record HasArrived (word : SweepWord) (v w : View) : Type 0 where
  pub going : GoesOn 0 v w
  pub holding : w.holding ≡ Some (holding_of word)
  pub within : word.place ≤ length w.log
  pub limbo : word.limbo ≡ true → (word.place < length w.log) × ((id : ℕ) × (entry : ℕ) × IsWd w.log word.place id entry)
  pub seen : SeenFits w.key w.log
  pub fresh : IsFresh w

-- ---- one place

-- the entry was cut from each table
abbrev pub cut_from_all : Holding → Holding
cut_from_all h = cut_from 3 (cut_from 2 (cut_from 1 (cut_from 0 h)))

-- The entry was unlinked in all tables.
pub record UnlinkedAll (v w : View) : Type 0 where
  pub steps : List ℕ
  pub kinds : All IsUnlinking steps
  pub view : w ≡ record v { holding = on_holding cut_from_all v.holding; made = v.made ++ 3 ∷ steps }

-- the pins are looked at, the count of entries put is loaded, the entry and the count are stored, and the next place
abbrev pub giving_steps : ℕ → List ℕ
giving_steps callers = replicate callers 18 ++ 10 ∷ 22 ∷ 22 ∷ 19 ∷ []

-- the entry in limbo at this place was given back
abbrev pub gave_back : ℕ → View → View
gave_back place v = record v { holding = Some (holding_of (resting (place + 1))); made = v.made ++ giving_steps v.key.sizes.callers }

-- a seat is in the way of this place, and was found at the last of the looks
abbrev pub IsStopped : ℕ → View → Why → View → Type 0
IsStopped hazard v why w = (seat : ℕ) × (pin : ℕ) × (why ≡ Pinned seat pin) × IsInTheWay v seat pin hazard × (w ≡ found_free seat (seat + 1) v)

-- The sweep goes no further than the place of this word, which may be stored.
pub record Stops (place : ℕ) (v : View) (rest : SweepWord) (cause : Why) (w : View) : Type 0 where
  pub going : GoesOn (2 * v.key.sizes.callers) v w
  pub h : Holding
  pub holding : w.holding ≡ Some h
  pub next : IsNextWord w h rest
  pub free : rest.held ≡ false
  pub at : rest.place ≡ place
  pub fits : FitsSweep rest
  pub within : place ≤ length w.log
  pub why : StopsFor cause rest w
  -- a limit stops it behind a place alone
  pub unlimited : cause ≢ Limit

-- what became of a place
abbrev pub HasTurned : Turn → ℕ → View → View → Type 0
HasTurned turns.Declared place v w = GoesOn 0 v w × IsAt (place + 1) w × ((unit : Unit64) × (entry : ℕ) × IsDecl w.log place unit entry)
HasTurned turns.GaveBack place v w = GoesOn (2 * v.key.sizes.callers) v w × IsAt (place + 1) w × ((id : ℕ) × (entry : ℕ) × IsWd w.log place id entry)
HasTurned (turns.Stopped rest why) place v w = Stops place v rest why w

-- ---- all places

-- So many places were passed from one on; the first of these were passed and given back before the first view.
pub record HasPassed (from begun places given : ℕ) (v w : View) : Type 0 where
  pub loads : ℕ
  pub few : loads + 2 * v.key.sizes.callers * begun ≤ 2 * v.key.sizes.callers * places
  pub going : GoesOn loads v w
  pub at : IsAt (from + places) w
  pub given_is : given ≡ withdrawals (passed_from w.log from places)
  pub seen : SeenFits w.key w.log
  pub fresh : IsFresh w

-- It went on to where it stopped, and gave the sweep back.
pub record HasLeft (limit from begun : ℕ) (v : View) (swept : Swept) (w : View) : Type 0 where
  pub last : View
  pub loads : ℕ
  pub few : loads + 2 * v.key.sizes.callers * begun ≤ 2 * v.key.sizes.callers * (swept.places + 1)
  pub going : GoesOn loads v last
  pub rest : SweepWord
  pub free : rest.held ≡ false
  pub stopped : rest.place ≡ from + swept.places
  pub within : rest.place ≤ length last.log
  pub given : swept.given ≡ withdrawals (passed_from last.log from swept.places)
  pub most : swept.places ≤ limit
  pub full : (swept.places ≡ limit) ↔ (swept.why ≡ Limit)
  pub why : StopsFor swept.why rest last
  pub seen : SeenFits last.key last.log
  pub fresh : IsFresh last
  pub view : w ≡ swept_to (Ends swept) last rest
