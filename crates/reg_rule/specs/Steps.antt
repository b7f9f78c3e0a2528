-- What a step tells: the view after it, and what the word found says. Callers cite these.
use Rattle.std.specs.Prelude.{◌≡◌, ◌≢◌, ℕ, ◌+◌, ◌^◌, ◌<◌, ◌≤◌, true, false, if◌then◌else◌, List, [], ◌∷◌, length, take, Option, Some}
use Rattle.iscc_header.specs.declared.unit.Unit64.{Unit64}
use Rattle.mih_plan.specs.Buckets.{bucket_of}
use Rattle.reg_model.specs.Opening.{Opening}
use Rattle.reg_model.specs.Live.{declarations, withdrawals}
use Rattle.reg_model.specs.Replies.{Replies}
use Rattle.reg_model.specs.Rows.{is_accepted}
use Rattle.reg_model.specs.declared.reply.Row.{Row}
use Rattle.reg_model.specs.declared.update.Update.{Update}
use Rattle.reg_words.specs.declared.word.StampWord.{StampWord}
use Rattle.reg_words.specs.declared.word.StampWord.TheVariants.{Unborn, Live, Dead}
use Rattle.reg_words.specs.declared.word.SweepWord.{SweepWord}
use Rattle.reg_words.specs.Packing.{FitsLog, FitsSweep, stamp_word, sweep_word}
use Rattle.reg_rule.specs.Links.{link_word}
use Rattle.reg_rule.specs.declared.told.Told.{Told}
use Rattle.reg_rule.specs.declared.told.Told.TheVariants.{Examines, Links, Sweeps}
use Rattle.reg_rule.specs.declared.view.Key.{Key}
use Rattle.reg_rule.specs.declared.view.Place.{Place}
use Rattle.reg_rule.specs.declared.view.Cursor.{Cursor}
use Rattle.reg_rule.specs.declared.view.Holding.{Holding}
use Rattle.reg_rule.specs.declared.view.Taking.TheVariants as takings
use Rattle.reg_rule.specs.declared.view.View.{View}
use Rattle.reg_rule.specs.Log.{At, updates, place_word, IsDecl, IsWd, IsKeptUpTo, Declares, IsLiveIn, record_at}
use Rattle.reg_rule.specs.Seats.{ReliesOn}
use Rattle.reg_rule.specs.Helping.{HasHelped}
use Rattle.reg_rule.specs.Chains.{Member, Avoids, Once}
use Rattle.reg_rule.specs.SweepWords.{rank}
use Rattle.reg_rule.specs.Moves.{with_step, head_number, head_rows, TellsHits, at_front, filled, again, passed, committed, coded, is_dead, looked, noted, helped, stored_held, take_loaded, put_loaded, found_empty, give_loaded, took, missed, made_ready, pushed, first_met, none_met, next_met, walked, pinned, unpinned, pin_kept, pin_loaded, seized, found_held, found_moved, swept_to, holder_did, behind_at, on_way, at_head, cut_from, put_known, give_stored, put_stored}

-- ---- the log

-- What a seat may take for granted of the places that it has seen.
pub record SeenFits (key : Key) (log : List Place) : Type 0 where
  pub entries : (n : ℕ) (p : Place) → At log n p → p.entry < key.entries
  pub kinds : (n : ℕ) (unit : Unit64) (entry : ℕ) → IsDecl log n unit entry → unit.kind < 13
  pub lawful : (d id entry : ℕ) → IsWd log d id entry → (unit : Unit64) × IsLiveIn key.carried (take d log) id unit entry
  -- each record fits its word, so that the word is that of no other
  pub records : (n : ℕ) (p : Place) → At log n p → FitsLog (record_at key.carried.base n p.update p.entry)
  pub ids : key.carried.base + key.sizes.log ≤ 2 ^ 34
  pub room : length log ≤ key.sizes.log

-- The row's reply is the registry's after these updates, which are below its point.
pub record IsServed (key : Key) (row : Row) : Type 0 where
  pub log : List Update
  pub within : length log + (if is_accepted row then 1 else 0) ≤ key.sizes.log
  pub point : row.point ≡ key.carried.base + length log + (if is_accepted row then 1 else 0)
  pub reply : Replies key.sizes key.carried log row.call row.reply

-- each row of the seat's own account is
abbrev pub RowsServed : View → Type 0
RowsServed v = (i : ℕ) (row : Row) → At (head_rows v.accounts) i row → IsServed v.key row

-- kind 1
pub record LogLoaded (told : Told) (place : ℕ) (v : View) (found : ℕ) (w : View) : Type 0 where
  pub empty : place ≡ length v.log → found ≡ 0 → w ≡ at_front told (with_step v 1) place
  pub next : place ≡ length v.log → found ≢ 0 → (p : Place) × (found ≡ place_word v.key.carried.base place p) × (w ≡ filled told v p)
  pub old : place < length v.log → (p : Place) × At v.log place p × (found ≡ place_word v.key.carried.base place p) × (w ≡ again told v)
  -- one caller has seen all that there is
  pub alone : v.key.sizes.callers ≡ 1 → place ≡ length v.log → found ≡ 0
  pub seen : SeenFits v.key w.log
  pub rows : RowsServed w
  -- the holder of the sweep is no further than the log, and what is in limbo is a withdrawal
  pub reached : (h : Holding) → v.holding ≡ Some h → place ≡ length v.log → found ≡ 0 → (h.place ≤ place) × (h.word.limbo ≡ true → h.paid ≡ false → h.place < place)
  pub most : (h : Holding) → v.holding ≡ Some h → (h.place ≤ v.key.sizes.log) × (h.word.limbo ≡ true → h.paid ≡ false → h.place < v.key.sizes.log)
  pub limbo : (h : Holding) → v.holding ≡ Some h → h.word.limbo ≡ true → h.paid ≡ false → h.place < length w.log → (id : ℕ) × (entry : ℕ) × IsWd w.log h.place id entry

-- kind 2
pub record LogSwapped (place : ℕ) (p : Place) (v : View) (found : ℕ) (w : View) : Type 0 where
  pub won : found ≡ 0 → w ≡ committed v p
  pub lost : found ≢ 0 → (q : Place) × (found ≡ place_word v.key.carried.base place q) × (w ≡ passed v 2 q)
  pub seen : SeenFits v.key w.log
  pub rows : RowsServed w

-- ---- looks

-- kind 3
pub record CodeLoaded (told : Told) (entry : ℕ) (v : View) (found : ℕ) (w : View) : Type 0 where
  pub view : TellsHits told (coded told v) w
  -- the body of what is not withdrawn before a front on which the seat relies
  pub body : (id k : ℕ) (unit : Unit64) → ReliesOn v k → Declares v.key.carried v.log id unit entry → IsKeptUpTo v.log k id → found ≡ unit.body
  -- for the holder, of what is withdrawn at its place
  pub swept : (h : Holding) (id : ℕ) (unit : Unit64) → v.holding ≡ Some h → h.paid ≡ false → IsWd v.log h.place id entry → Declares v.key.carried v.log id unit entry → found ≡ unit.body

-- the stamp shows the id live at a front
abbrev pub LooksLive : ℕ → StampWord → ℕ → ℕ → Type 0
LooksLive k Unborn id kind = ⊥
LooksLive k (Live found_kind found_id) id kind = (found_id ≡ id) × (found_kind ≡ kind)
LooksLive k (Dead found_kind found_id death) id kind = (found_id ≡ id) × (found_kind ≡ kind) × (k ≤ death)

-- The stamp shows just what is live at the front in this entry.
pub record Shows (opening : Opening) (log : List Place) (k entry : ℕ) (s : StampWord) : Type 0 where
  pub live : (id : ℕ) (unit : Unit64) → IsLiveIn opening log id unit entry → LooksLive k s id unit.kind
  pub nothing_else : (id kind : ℕ) → LooksLive k s id kind → id < opening.base + k → (unit : Unit64) × IsLiveIn opening log id unit entry × (kind ≡ unit.kind)

abbrev pub FitsBits : StampWord → Type 0
FitsBits Unborn = Unit {0}
FitsBits (Live kind id) = (kind < 13) × (id < 2 ^ 34)
FitsBits (Dead kind id death) = (kind < 13) × (id < 2 ^ 34) × (death < 2 ^ 22)

-- kind 7
pub record StampLoaded (told : Told) (entry : ℕ) (v : View) (found : ℕ) (w : View) : Type 0 where
  pub stamp : StampWord
  pub word : found ≡ stamp_word stamp
  -- its numbers fit their bits, so that the word is that of no other stamp
  pub bits : FitsBits stamp
  pub view : TellsHits told (looked told entry stamp v) w
  -- at a front on which the seat relies, once it has helped up to it
  pub shows : (k : ℕ) → ReliesOn v k → HasHelped v k → Shows v.key.carried (take k v.log) k entry stamp
  -- for the holder: what is not yet dead is at the last place, which was not helped
  pub swept : (place : ℕ) → told ≡ Examines place → is_dead stamp ≡ false → (length v.log ≡ place + 1) × (HasHelped v (place + 1) → ⊥)

-- ---- helping: kinds 4, 5 and 6

abbrev pub NoteStored : ℕ → View → View → Type 0
NoteStored place v w = w ≡ noted v place

abbrev pub BirthSwapped : View → View → Type 0
BirthSwapped v w = w ≡ helped v 5

abbrev pub DeathSwapped : View → View → Type 0
DeathSwapped v w = w ≡ helped v 6

-- ---- hands and the ring

-- kind 8
abbrev pub HeldStored : Option ℕ → View → View → Type 0
HeldStored new v w = w ≡ stored_held v new

-- kind 9
pub record TakeLoaded (v : View) (found : ℕ) (w : View) : Type 0 where
  pub view : w ≡ take_loaded v found
  pub most : found ≤ v.key.sizes.log + v.key.sizes.callers

-- the ring is empty at this step: just so many were taken, and so many put
pub record RingEmpty (t : ℕ) (v : View) (w : View) : Type 0 where
  pub front : ℕ
  pub view : w ≡ found_empty v t front
  pub seen : length v.log ≤ front
  pub declared : declarations (updates v.log) ≤ t
  -- all entries but those carried were put at first, and one for each withdrawal below the stop of the seat's last sweep
  pub given : v.key.sizes.entries + withdrawals (updates (take v.stopped v.log)) ≤ t + length v.key.carried.list

-- kind 10
pub record PutLoaded (told : Told) (v : View) (found : ℕ) (w : View) : Type 0 where
  pub empty : (t : ℕ) → (told ≢ Sweeps) → v.taking ≡ takings.Begun t → found ≡ t → RingEmpty t v w
  pub room : (t : ℕ) → (told ≢ Sweeps) → v.taking ≡ takings.Begun t → found ≢ t → (t < found) × (w ≡ put_loaded v t found)
  pub swept : told ≡ Sweeps → (w ≡ holder_did (put_known found) v 10) × (found ≤ v.key.sizes.entries + v.key.sizes.log)

-- kind 11
pub record GiveLoaded (v : View) (found : ℕ) (w : View) : Type 0 where
  pub view : (t p : ℕ) → v.taking ≡ takings.Room t p → w ≡ give_loaded v t p found

-- kind 12
pub record TakeSwapped (old : ℕ) (v : View) (found : ℕ) (w : View) : Type 0 where
  pub won : (p entry : ℕ) → v.taking ≡ takings.Named old p entry → found ≡ old → (w ≡ took v entry) × (entry < v.key.entries) × (old < v.key.sizes.log + v.key.sizes.callers)
  pub lost : found ≢ old → (w ≡ missed v found) × (old < found) × (found ≤ v.key.sizes.log + v.key.sizes.callers)

-- kind 14
abbrev pub NextStored : ℕ → ℕ → View → View → Type 0
NextStored table new v w = w ≡ made_ready v table new

-- kind 15
pub record HeadSwapped (table old : ℕ) (v : View) (found : ℕ) (w : View) : Type 0 where
  pub won : found ≡ old → w ≡ pushed v table
  pub lost : found ≢ old → w ≡ with_step v 15

-- ---- walks

-- at the end of a walk each declaration of the bucket that is live at the snapshot was visited
abbrev pub HasWalked : ℕ → ℕ → View → Type 0
HasWalked table bucket w = (k id entry : ℕ) (unit : Unit64) → w.snapshot ≡ Some k → IsLiveIn w.key.carried (take k w.log) id unit entry → bucket_of unit.body table w.key.sizes.bits ≡ bucket → Member entry w.visited

-- what a walk loads: an entry that it has not met before, or the end
pub record ChainLoaded (told : Told) (table bucket : ℕ) (found : ℕ) (entries : ℕ) (visits : ℕ → View) (ends : View) (w : View) : Type 0 where
  pub ends_at : found ≡ 0 → TellsHits told ends w × HasWalked table bucket ends
  pub comes_to : found ≢ 0 → (e : ℕ) × (found ≡ link_word e) × (e < entries) × TellsHits told (visits e) w × Once (w.visited)

-- kind 13, of a walk
abbrev pub HeadLoaded : Told → ℕ → ℕ → View → ℕ → View → Type 0
HeadLoaded told table bucket v found w = ChainLoaded told table bucket found v.key.entries (first_met told v table bucket) (none_met told v) w

-- kind 13, of the holder: the entry that it seeks is the first, or lies ahead
pub record HeadSought (table entry : ℕ) (v : View) (found : ℕ) (w : View) : Type 0 where
  pub first : found ≡ link_word entry → w ≡ holder_did at_head v 13
  pub ahead : found ≢ link_word entry → (e : ℕ) × (between : List ℕ) × (found ≡ link_word e) × (e < v.key.entries) × (length between < v.key.entries) × (w ≡ holder_did (on_way table e between) v 13) × Avoids entry between

-- kind 16, of a walk
abbrev pub NextLoaded : Told → Cursor → View → ℕ → View → Type 0
NextLoaded told c v found w = ChainLoaded told c.table c.bucket found v.key.entries (next_met v c) (walked v) w

-- where the holder's way leads: to the entry itself, or to the next one before it
abbrev pub WayMoves : ℕ → ℕ → ℕ → List ℕ → View → ℕ → View → Type 0
WayMoves table at entry [] v found w = (found ≡ link_word entry) × (w ≡ holder_did (on_way table at []) v 16)
WayMoves table at entry (e ∷ ahead) v found w = (found ≡ link_word e) × (e < v.key.entries) × (w ≡ holder_did (on_way table e ahead) v 16)

-- kind 16, of the holder
pub record NextSought (table at entry : ℕ) (v : View) (found : ℕ) (w : View) : Type 0 where
  pub behind : at ≡ entry → w ≡ holder_did (behind_at table found) v 16
  pub way : at ≢ entry → (h : Holding) (ahead : List ℕ) → v.holding ≡ Some h → h.way ≡ Some (record { table = table; entry = at; ahead = ahead }) → WayMoves table at entry ahead v found w

-- kind 13: by a walk, in order to push, and by the holder
abbrev pub HeadTells : Told → ℕ → ℕ → View → ℕ → View → Type 0
HeadTells Links table bucket v found w = w ≡ with_step v 13
HeadTells Sweeps table bucket v found w = (h : Holding) (id entry : ℕ) → v.holding ≡ Some h → IsWd v.log h.place id entry → HeadSought table entry v found w
HeadTells told table bucket v found w = HeadLoaded told table bucket v found w

-- kind 16: by a walk, and by the holder
abbrev pub NextTells : Told → ℕ → ℕ → View → ℕ → View → Type 0
NextTells Sweeps table at v found w = (h : Holding) (id entry : ℕ) → v.holding ≡ Some h → IsWd v.log h.place id entry → NextSought table at entry v found w
NextTells told table at v found w = (c : Cursor) → v.cursor ≡ Some c → NextLoaded told c v found w

-- ---- pins

-- kind 17
pub record PinStored (told : Told) (new : ℕ) (v : View) (w : View) : Type 0 where
  pub pins : v.pin ≡ 0 → w ≡ pinned v
  pub unpins : v.pin ≢ 0 → new ≡ 0 → w ≡ unpinned told v
  pub keeps : v.pin ≢ 0 → new ≢ 0 → TellsHits told (pin_kept v) w

-- kind 18
pub record PinLoaded (seat : ℕ) (v : View) (found : ℕ) (w : View) : Type 0 where
  pub view : w ≡ pin_loaded v seat found
  -- the seat's own
  pub own : seat ≡ head_number v.accounts → found ≡ v.pin

-- ---- the sweep

-- kind 19, to take it
pub record SweepSwapped (told : Told) (old : ℕ) (v : View) (found : ℕ) (w : View) : Type 0 where
  pub word : SweepWord
  pub word_is : found ≡ sweep_word word
  -- its numbers fit their bits, so that the word found is of no other state
  pub bits : FitsSweep word
  pub won : found ≡ old → (w ≡ seized v) × (word ≡ v.last_word)
  pub held : word.held ≡ true → (w ≡ found_held told v) × (v.key.sizes.callers ≢ 1)
  -- another word is a later one
  pub moved : found ≢ old → word.held ≡ false → (w ≡ found_moved v word) × (rank v.last_word < rank word) × (word.place ≤ v.key.sizes.log)

-- kind 19, to keep it or to give it back
abbrev pub SweepStored : Told → SweepWord → View → View → Type 0
SweepStored told word v w = w ≡ swept_to told v word

-- kind 20
pub record HeadCut (table old : ℕ) (v : View) (found : ℕ) (w : View) : Type 0 where
  pub won : found ≡ old → w ≡ holder_did (cut_from table) v 20
  -- another entry was pushed: the one that is sought lies ahead of it
  pub lost : found ≢ old → (e : ℕ) × (between : List ℕ) × (found ≡ link_word e) × (e < v.key.entries) × (length between < v.key.entries) × (w ≡ holder_did (on_way table e between) v 20)
      × ((entry : ℕ) → old ≡ link_word entry → Avoids entry between)

-- kind 21, which always succeeds
pub record NextCut (table old : ℕ) (v : View) (found : ℕ) (w : View) : Type 0 where
  pub wins : found ≡ old
  pub view : w ≡ holder_did (cut_from table) v 21

-- kind 22
abbrev pub GiveStored : View → View → Type 0
GiveStored v w = w ≡ holder_did give_stored v 22

abbrev pub PutStored : View → View → Type 0
PutStored v w = w ≡ holder_did put_stored v 22
