-- What a sweep does, and why it stops.
use Rattle.std.specs.Prelude.{◌≡◌, ◌≢◌, ℕ, ◌+◌, ◌*◌, ◌<◌, ◌≤◌, ◌⊎◌, ◌↔◌, ◌==◌, cond, true, false, List, [], ◌∷◌, ◌++◌, length, take, drop, count_by, All, Some}
use Rattle.reg_model.specs.declared.update.Update.{Update}
use Rattle.reg_model.specs.Live.{withdrawals}
use Rattle.reg_words.specs.declared.sweeping.Swept.{Swept}
use Rattle.reg_words.specs.declared.sweeping.Why.{Why}
use Rattle.reg_words.specs.declared.sweeping.Why.TheVariants.{Front, Limit, Pinned, Held}
use Rattle.reg_words.specs.declared.word.SweepWord.{SweepWord}
use Rattle.reg_rule.specs.declared.view.Place.{Place}
use Rattle.reg_rule.specs.declared.view.View.{View}
use Rattle.reg_rule.specs.Log.{updates, IsWd}
use Rattle.reg_rule.specs.Chains.{Member}
use Rattle.reg_rule.specs.Helping.{HasHelped}
use Rattle.reg_rule.specs.Passes.{number_of}
use Rattle.reg_rule.specs.Moves.{is_free}
use Rattle.reg_rule.specs.Steps.{SeenFits}

-- the kinds of its steps: loads of the log, of a code, a stamp, PUT, heads, next words and pins, the word of the sweep, cuts, and stores into the ring
abbrev pub sweep_kinds : List ℕ
sweep_kinds = 1 ∷ 3 ∷ 7 ∷ 10 ∷ 13 ∷ 16 ∷ 18 ∷ 19 ∷ 20 ∷ 21 ∷ 22 ∷ []

abbrev pub IsSweeping : ℕ → Type 0
IsSweeping kind = Member kind sweep_kinds

-- how many pins were loaded
abbrev pub pin_loads : List ℕ → ℕ
pin_loads steps = count_by (λ kind. kind == 18) steps

-- the updates of so many places, from one on
abbrev pub passed_from : List Place → ℕ → ℕ → List Update
passed_from log from places = updates (take places (drop from log))

-- the place that a pin must be above: in limbo the mark, else the place of the withdrawal
abbrev pub hazard_of : SweepWord → ℕ
hazard_of word = cond word.limbo word.mark word.place

-- A seat is in the way of this place.
pub record IsInTheWay (v : View) (seat pin hazard : ℕ) : Type 0 where
  pub inside : seat < v.key.sizes.callers
  -- it is pinned, and had seen no more places when it was
  pub pinned : pin ≢ 0
  pub low : pin ≤ hazard + 1
  -- the own pin is known
  pub own : seat ≡ number_of v → pin ≡ v.pin
  -- seats are looked at in rising order
  pub rising : number_of v < seat → is_free v.pin hazard ≡ true

-- nothing is behind the place, or it is the last one and a withdrawal that isn't stamped yet, and wasn't helped by the seat
abbrev pub IsAtFront : ℕ → View → Type 0
IsAtFront place v = (place ≡ length v.log) ⊎ ((length v.log ≡ place + 1) × ((id : ℕ) × (entry : ℕ) × IsWd v.log place id entry) × (HasHelped v (place + 1) → ⊥))

-- why a sweep goes no further than the place of this word
abbrev pub StopsFor : Why → SweepWord → View → Type 0
StopsFor Front word v = (word.limbo ≡ false) × IsAtFront word.place v
StopsFor Limit word v = word.limbo ≡ false
StopsFor (Pinned seat pin) word v = IsInTheWay v seat pin (hazard_of word) × ((id : ℕ) × (entry : ℕ) × IsWd v.log word.place id entry)
StopsFor Held word v = ⊥

-- a front that was found under a pin is the end of what was seen
abbrev pub IsFresh : View → Type 0
IsFresh v = 0 < v.pin → v.front ≡ Some (length v.log)

-- Another seat holds the sweep.
pub record WasHeld (v : View) (swept : Swept) (w : View) : Type 0 where
  pub swept_is : swept ≡ record { places = 0; given = 0; why = Held }
  pub others : v.key.sizes.callers ≢ 1
  -- exchanges of the word of the sweep, which was found further and further on
  pub steps : List ℕ
  pub kinds : All (λ kind. kind ≡ 19) steps
  pub later : v.last_word.place ≤ w.last_word.place
  pub view : w ≡ record v { last_word = w.last_word; sweeps = v.sweeps ++ swept ∷ []; made = v.made ++ steps }

-- The sweep was taken, and given back where it stopped.
pub record HasSwept (limit : ℕ) (v : View) (swept : Swept) (w : View) : Type 0 where
  -- nothing else is another
  pub view : w ≡ record v { log = w.log; front = w.front; found = w.found; met = w.met; last_word = w.last_word; stopped = w.stopped; sweeps = v.sweeps ++ swept ∷ []; made = w.made }
  -- it began where the last sweep had stopped, and stopped so many places later
  pub from : ℕ
  pub later : v.last_word.place ≤ from
  pub stopped : w.stopped ≡ from + swept.places
  pub word : (w.last_word.held ≡ false) × (w.last_word.place ≡ w.stopped)
  pub within : w.stopped ≤ length w.log
  -- what is withdrawn at these places was given back
  pub given : swept.given ≡ withdrawals (passed_from w.log from swept.places)
  pub most : swept.places ≤ limit
  pub full : (swept.places ≡ limit) ↔ (swept.why ≡ Limit)
  pub why : StopsFor swept.why w.last_word w
  -- the log as it was seen before, and what was newly seen
  pub places : List Place
  pub log : w.log ≡ v.log ++ places
  pub seen : SeenFits v.key w.log
  -- one caller has seen all that there is
  pub alone : v.key.sizes.callers ≡ 1 → places ≡ []
  pub fresh : IsFresh w
  pub unpinned : v.pin ≡ 0 → w.front ≡ v.front
  pub steps : List ℕ
  pub made : w.made ≡ v.made ++ steps
  pub kinds : All IsSweeping steps
  -- each pin is loaded at most twice for each place, and for the one where it stopped
  pub pins : pin_loads steps ≤ 2 * v.key.sizes.callers * (swept.places + 1)
