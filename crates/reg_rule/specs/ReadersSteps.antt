-- For readers: no step loses a place that its seat has seen.
use Rattle.std.specs.Prelude.{◌≡◌, ℕ, List, ◌++◌, Option}
use Rattle.reg_words.specs.declared.word.SweepWord.{SweepWord}
use Rattle.reg_rule.specs.declared.told.Told.{Told}
use Rattle.reg_rule.specs.declared.view.Place.{Place}
use Rattle.reg_rule.specs.declared.view.View.{View}
use Rattle.reg_rule.specs.Conditions.{MayLoadLog, MaySwapLog, MayLoadCode, MayStoreNote, MaySwapBirth, MaySwapDeath, MayLoadStamp, MayStoreHeld, MayLoadTake, MayLoadPut, MayLoadGive, MaySwapTake, MayLoadHead, MayStoreNext, MaySwapHead, MayLoadNext, MayStorePin, MayLoadPin, MaySwapSweep, MayStoreSweep, MayCutHead, MayCutNext, MayGive, MayStorePut}
use Rattle.reg_rule.specs.Steps.{LogLoaded, LogSwapped, CodeLoaded, NoteStored, BirthSwapped, DeathSwapped, StampLoaded, HeldStored, TakeLoaded, PutLoaded, GiveLoaded, TakeSwapped, HeadTells, NextStored, HeadSwapped, NextTells, PinStored, PinLoaded, SweepSwapped, SweepStored, HeadCut, NextCut, GiveStored, PutStored}
use Rattle.reg_rule.specs.Seatings.{head_part}

-- the second view has seen the places that the first has, in front of what else it has seen
abbrev pub Lengthens : View → View → Type 0
Lengthens v w = (more : List Place) × (w.log ≡ v.log ++ more)

-- where the step may be made, what it tells leaves all places seen
abbrev pub OnlyLengthens : (View → Type 0) → (View → View → Type 0) → Type 0
OnlyLengthens May Tells = (v w : View) → May v → Tells v w → Lengthens v w

-- Each step, by its function.
pub record StepsLengthen : Type 0 where
  pub load_log : (told : Told) (place found : ℕ) → OnlyLengthens (MayLoadLog told place) (λ v w. LogLoaded told place v found w)
  pub swap_log : (place old new found : ℕ) (p : Place) → OnlyLengthens (MaySwapLog place old new p) (λ v w. LogSwapped place p v found w)
  pub load_code : (told : Told) (entry found : ℕ) → OnlyLengthens (MayLoadCode told entry) (λ v w. CodeLoaded told entry v found w)
  pub store_note : (place new : ℕ) → OnlyLengthens (MayStoreNote place new) (NoteStored place)
  pub swap_birth : (entry old new : ℕ) → OnlyLengthens (MaySwapBirth entry old new) BirthSwapped
  pub swap_death : (entry old new : ℕ) → OnlyLengthens (MaySwapDeath entry old new) DeathSwapped
  pub load_stamp : (told : Told) (entry found : ℕ) → OnlyLengthens (MayLoadStamp told entry) (λ v w. StampLoaded told entry v found w)
  pub store_held : (new : Option ℕ) → OnlyLengthens MayStoreHeld (HeldStored new)
  pub load_take : (found : ℕ) → OnlyLengthens MayLoadTake (λ v w. TakeLoaded v found w)
  pub load_put : (told : Told) (found : ℕ) → OnlyLengthens (MayLoadPut told) (λ v w. PutLoaded told v found w)
  pub load_give : (place found : ℕ) → OnlyLengthens (MayLoadGive place) (λ v w. GiveLoaded v found w)
  pub swap_take : (old new found : ℕ) → OnlyLengthens (MaySwapTake old new) (λ v w. TakeSwapped old v found w)
  pub load_head : (told : Told) (table bucket found : ℕ) → OnlyLengthens (MayLoadHead told table bucket) (λ v w. HeadTells told table bucket v found w)
  pub store_next : (table new : ℕ) → OnlyLengthens (MayStoreNext table) (NextStored table new)
  pub swap_head : (table bucket old new found : ℕ) → OnlyLengthens (MaySwapHead table bucket old new) (λ v w. HeadSwapped table old v found w)
  pub load_next : (told : Told) (table entry found : ℕ) → OnlyLengthens (MayLoadNext told table entry) (λ v w. NextTells told table entry v found w)
  pub store_pin : (told : Told) (new : ℕ) → OnlyLengthens (MayStorePin told new) (PinStored told new)
  pub load_pin : (seat found : ℕ) → OnlyLengthens (MayLoadPin seat) (λ v w. PinLoaded seat v found w)
  pub swap_sweep : (told : Told) (old new found : ℕ) → OnlyLengthens (MaySwapSweep old new) (λ v w. SweepSwapped told old v found w)
  pub store_sweep : (told : Told) (new : ℕ) (word : SweepWord) → OnlyLengthens (MayStoreSweep new word) (SweepStored told word)
  pub cut_head : (table bucket old new found : ℕ) → OnlyLengthens (MayCutHead table bucket old new) (λ v w. HeadCut table old v found w)
  pub cut_next : (table entry old new found : ℕ) → OnlyLengthens (MayCutNext table entry old new) (λ v w. NextCut table old v found w)
  pub store_give : (place new : ℕ) → OnlyLengthens (MayGive place new) GiveStored
  pub store_put : (new : ℕ) → OnlyLengthens (MayStorePut new) PutStored

-- a seat that is split keeps what it has seen
abbrev pub SplitLengthens : Type 0
SplitLengthens = (v : View) → Lengthens v (head_part v)
