-- When a step may be made. A step function asks it of its caller.
use Rattle.std.specs.Prelude.{◌≡◌, ℕ, ◌+◌, ◌%◌, ◌^◌, ◌<◌, ◌≤◌, ◌⊎◌, true, false, cond, List, [], ◌∷◌, length, sum_by, All, AllPairs, IsSome, Option, None, Some}
use Rattle.iscc_header.specs.declared.unit.Unit64.{Unit64}
use Rattle.mih_plan.specs.Buckets.{bucket_of, plan}
use Rattle.mih_plan.specs.declared.probe.Probe.{Probe}
use Rattle.reg_model.specs.declared.TheConstants.{RADIUS_MOST}
use Rattle.reg_model.specs.declared.call.Call.{Call}
use Rattle.reg_model.specs.declared.call.Call.TheVariants as calls
use Rattle.reg_model.specs.declared.update.Update.{Update}
use Rattle.reg_model.specs.declared.update.Update.TheVariants.{Decl, Wd}
use Rattle.reg_model.specs.Live.{declarations}
use Rattle.reg_words.specs.declared.word.StampWord.TheVariants as stamps
use Rattle.reg_words.specs.declared.word.SweepWord.{SweepWord}
use Rattle.reg_words.specs.Packing.{stamp_word, sweep_word}
use Rattle.reg_rule.specs.Links.{link_word, pin_word}
use Rattle.reg_rule.specs.declared.told.Told.{Told}
use Rattle.reg_rule.specs.declared.told.Told.TheVariants.{Row as RowOf, Opens, Closes, Links, Refuses, Hits, Examines, Sweeps}
use Rattle.reg_rule.specs.declared.view.Place.{Place}
use Rattle.reg_rule.specs.declared.view.Hand.{Hand}
use Rattle.reg_rule.specs.declared.view.Cursor.{Cursor}
use Rattle.reg_rule.specs.declared.view.Met.{Met}
use Rattle.reg_rule.specs.declared.view.Empty.{Empty}
use Rattle.reg_rule.specs.declared.view.Taking.TheVariants as takings
use Rattle.reg_rule.specs.declared.view.Holding.{Holding}
use Rattle.reg_rule.specs.declared.view.View.{View}
use Rattle.reg_rule.specs.Log.{updates, place_word, IsDecl, IsWd, Declares, NoneWithdrawn}
use Rattle.reg_rule.specs.Helping.{HasHelped, MayHelp}
use Rattle.reg_rule.specs.Tables.{is_in, are_all}
use Rattle.reg_rule.specs.SweepWords.{let_go}
use Rattle.reg_rule.specs.Moves.{taken_at_empty}

-- ---- what may be told

-- no row but one of the snapshot is made while a snapshot is open
abbrev pub MayAnswer : View → Call → Type 0
MayAnswer v (calls.Show id) = IsSome v.snapshot
MayAnswer v (calls.Withdraw id) = (v.snapshot ≡ None) × (v.front ≡ Some (length v.log))
MayAnswer v call = Unit {0}

-- at a load of the log
abbrev pub MayTellFront : Told → View → Type 0
MayTellFront (RowOf (calls.Show id)) v = IsSome v.snapshot
MayTellFront (RowOf call) v = v.snapshot ≡ None
MayTellFront Opens v = (v.snapshot ≡ None) × (0 < v.pin)
MayTellFront (Refuses unit) v = (v.snapshot ≡ None) × IsSome v.empty × (declarations (updates v.log) ≤ taken_at_empty v.empty)
    × (v.key.sizes.callers ≡ 1 → (e : Empty) → v.empty ≡ Some e → length v.log ≤ e.stopped)
MayTellFront told v = Unit {0}

-- the looks of a query, by what it met: two where a declaration was named
abbrev pub looks_of : Option ℕ → ℕ
looks_of None = 1
looks_of (Some id) = 2

abbrev pub MetApart : Met → Met → Type 0
MetApart a b = (a.table ≡ b.table) × (a.bucket ≡ b.bucket) × (a.entry ≡ b.entry) → ⊥

abbrev pub IsAmong : Probe → List Probe → Type 0
IsAmong p [] = ⊥
IsAmong p (q ∷ qs) = (p ≡ q) ⊎ IsAmong p qs

-- the query met each entry once in each probe, in probes of its plan alone
pub record IsPaidFor (v : View) (unit : Unit64) (radius looked : ℕ) : Type 0 where
  pub looks : looked ≤ sum_by (λ (m : Met). looks_of m.id) v.met
  pub once : AllPairs MetApart v.met
  pub probes : All (λ (m : Met). (p : Probe) × IsAmong p (plan unit.body radius v.key.sizes.bits) × (p.table ≡ m.table) × (p.bucket ≡ m.bucket)) v.met

-- at the last step of a query
abbrev pub MayTellHits : Told → View → Type 0
MayTellHits (Hits unit radius looked) v = IsSome v.snapshot × (radius ≤ RADIUS_MOST) × IsPaidFor v unit radius looked
MayTellHits told v = Unit {0}

-- at a look
abbrev pub MayTellLook : Told → View → Type 0
MayTellLook (RowOf call) v = MayAnswer v call
MayTellLook told v = MayTellHits told v

-- ---- the log

-- kind 1: a place that was seen, or the next one
pub record MayLoadLog (told : Told) (place : ℕ) (v : View) : Type 0 where
  pub seen : place ≤ length v.log
  pub inside : place < v.key.sizes.log
  pub telling : MayTellFront told v

-- a declaration of the entry in hand, or the withdrawal of what was found live here
abbrev pub MayCommit : View → Update → ℕ → Type 0
MayCommit v (Decl unit) entry = (h : Hand) × (v.hands ≡ h ∷ []) × (h.entry ≡ entry) × (h.unborn ≡ true) × (h.code ≡ Some unit.body) × (are_all h.linked ≡ true) × (unit.kind < 13)
MayCommit v (Wd id) entry = v.found ≡ Some (record { id = id; entry = entry; place = length v.log })

-- kind 2: an exchange of the next place, from empty
pub record MaySwapLog (place old new : ℕ) (p : Place) (v : View) : Type 0 where
  pub pinned : 0 < v.pin
  pub unopened : v.snapshot ≡ None
  pub next : place ≡ length v.log
  pub inside : place < v.key.sizes.log
  pub helped : HasHelped v place
  pub record_is : MayCommit v p.update p.entry
  pub empty : old ≡ 0
  pub word : new ≡ place_word v.key.carried.base place p

-- ---- looks and helping

-- the holder looks at the entry that is withdrawn at its place
abbrev pub MayLookAt : View → ℕ → Type 0
MayLookAt v entry = (0 < v.pin) ⊎ ((h : Holding) × (id : ℕ) × (v.holding ≡ Some h) × IsWd v.log h.place id entry)

-- kind 3
pub record MayLoadCode (told : Told) (entry : ℕ) (v : View) : Type 0 where
  pub inside : entry < v.key.entries
  pub by : MayLookAt v entry
  pub telling : MayTellLook told v

-- kind 4
pub record MayStoreNote (place new : ℕ) (v : View) : Type 0 where
  pub inside : place < v.key.sizes.log
  pub helps : MayHelp v place
  pub body : (unit : Unit64) × (entry : ℕ) × IsDecl v.log place unit entry × (new ≡ unit.body)

-- kind 5
pub record MaySwapBirth (entry old new : ℕ) (v : View) : Type 0 where
  pub inside : entry < v.key.entries
  pub unborn : old ≡ 0
  pub birth : (place : ℕ) × (unit : Unit64) × MayHelp v place × (v.noted ≡ Some place) × IsDecl v.log place unit entry × (new ≡ stamp_word (stamps.Live unit.kind (v.key.carried.base + place)))

-- kind 6
pub record MaySwapDeath (entry old new : ℕ) (v : View) : Type 0 where
  pub inside : entry < v.key.entries
  pub death : (place : ℕ) × (id : ℕ) × (unit : Unit64) × MayHelp v place × IsWd v.log place id entry × Declares v.key.carried v.log id unit entry
      × (old ≡ stamp_word (stamps.Live unit.kind id)) × (new ≡ stamp_word (stamps.Dead unit.kind id place))

-- the next withdrawal to examine
abbrev pub MayExamine : Told → ℕ → View → Type 0
MayExamine (Examines place) entry v = (h : Holding) × (id : ℕ) × (v.holding ≡ Some h) × (h.word.limbo ≡ false) × (h.cut ≡ []) × (h.place ≤ place) × NoneWithdrawn v.log h.place place × IsWd v.log place id entry
MayExamine told entry v = (0 < v.pin) × MayTellLook told v

-- kind 7
pub record MayLoadStamp (told : Told) (entry : ℕ) (v : View) : Type 0 where
  pub inside : entry < v.key.entries
  pub by : MayExamine told entry v

-- ---- hands and the ring

-- kind 8: the one entry in hand is linked nowhere
abbrev pub MayStoreHeld : View → Type 0
MayStoreHeld v = (h : Hand) × (v.hands ≡ h ∷ []) × (h.entry < v.key.entries) × (h.linked ≡ [])

-- kind 9
abbrev pub MayLoadTake : View → Type 0
MayLoadTake v = v.hands ≡ []

-- kind 10: by a seat that takes, or by the holder
abbrev pub MayLoadPut : Told → View → Type 0
MayLoadPut Sweeps v = (h : Holding) × (v.holding ≡ Some h) × (h.paid ≡ false)
MayLoadPut told v = (v.hands ≡ []) × ((t : ℕ) × (v.taking ≡ takings.Begun t))

-- kind 11
abbrev pub MayLoadGive : ℕ → View → Type 0
MayLoadGive place v = (t : ℕ) × (p : ℕ) × (v.taking ≡ takings.Room t p) × (place ≡ t % v.key.entries)

-- kind 12
abbrev pub MaySwapTake : ℕ → ℕ → View → Type 0
MaySwapTake old new v = (v.hands ≡ []) × (new ≡ old + 1) × ((p : ℕ) × (entry : ℕ) × (v.taking ≡ takings.Named old p entry))

-- kind 14: the entry in hand is written, and not yet linked in the table
pub record MayStoreNext (table : ℕ) (v : View) : Type 0 where
  pub table_is : table < 4
  pub hand : (h : Hand) × (v.hands ≡ h ∷ []) × (h.entry < v.key.entries) × (h.unborn ≡ true) × IsSome h.code × (is_in table h.linked ≡ false)

-- kind 15
pub record MaySwapHead (table bucket old new : ℕ) (v : View) : Type 0 where
  pub table_is : table < 4
  pub hand : (h : Hand) × (code : ℕ) × (v.hands ≡ h ∷ []) × (h.unborn ≡ true) × (h.code ≡ Some code) × (is_in table h.linked ≡ false)
      × (h.ready ≡ Some (record { table = table; word = old })) × (bucket ≡ bucket_of code table v.key.sizes.bits) × (new ≡ link_word h.entry)

-- ---- walks and pins

-- the holder seeks the entry that is withdrawn at its place
pub record IsSeeking (table : ℕ) (v : View) (h : Holding) (id entry : ℕ) (unit : Unit64) : Type 0 where
  pub holding : v.holding ≡ Some h
  pub unmoved : h.word.limbo ≡ false
  pub stamped : h.stamped ≡ true
  pub uncut : is_in table h.cut ≡ false
  pub withdraws : IsWd v.log h.place id entry
  pub declares : Declares v.key.carried v.log id unit entry

-- kind 13: by a walk, in order to push, or by the holder
abbrev pub MayLoadHead : Told → ℕ → ℕ → View → Type 0
MayLoadHead Links table bucket v = (table < 4) × (bucket < 2 ^ v.key.sizes.bits)
MayLoadHead Sweeps table bucket v = (table < 4) × ((h : Holding) × (id : ℕ) × (entry : ℕ) × (unit : Unit64) × IsSeeking table v h id entry unit × (bucket ≡ bucket_of unit.body table v.key.sizes.bits))
MayLoadHead told table bucket v = (table < 4) × (bucket < 2 ^ v.key.sizes.bits) × (0 < v.pin) × MayTellHits told v

-- the holder follows its way, or loads behind the entry that it seeks
abbrev pub FollowsWay : View → Holding → ℕ → ℕ → ℕ → Type 0
FollowsWay v h table at entry = (at ≡ entry) ⊎ ((ahead : List ℕ) × (h.way ≡ Some (record { table = table; entry = at; ahead = ahead })))

-- kind 16
abbrev pub MayLoadNext : Told → ℕ → ℕ → View → Type 0
MayLoadNext Sweeps table at v = (table < 4) × (at < v.key.entries) × ((h : Holding) × (id : ℕ) × (entry : ℕ) × (unit : Unit64) × IsSeeking table v h id entry unit × FollowsWay v h table at entry)
MayLoadNext told table at v = (table < 4) × (at < v.key.entries) × ((c : Cursor) × (v.cursor ≡ Some c) × (c.table ≡ table) × (c.entry ≡ at)) × MayTellHits told v

-- kind 17: a pin, an unpin, or a store of the same pin
abbrev pub MayPin : ℕ → View → Type 0
MayPin new v = (v.pin ≡ 0) × (new ≡ pin_word (length v.log))

abbrev pub MayUnpin : Told → ℕ → View → Type 0
MayUnpin Closes new v = (new ≡ 0) × (0 < v.pin) × IsSome v.snapshot
MayUnpin told new v = (new ≡ 0) × (0 < v.pin) × (v.snapshot ≡ None)

abbrev pub MayKeepPin : Told → ℕ → View → Type 0
MayKeepPin told new v = (new ≡ v.pin) × (0 < v.pin) × MayTellHits told v

abbrev pub MayStorePin : Told → ℕ → View → Type 0
MayStorePin told new v = MayPin new v ⊎ MayUnpin told new v ⊎ MayKeepPin told new v

-- kind 18: the next session, in the first scan or in the second
abbrev pub MayLoadPin : ℕ → View → Type 0
MayLoadPin seat v = (seat < v.key.sizes.callers) × ((h : Holding) × (v.holding ≡ Some h)
    × cond h.word.limbo (seat ≡ h.freed × (h.paid ≡ false)) ((seat ≡ h.clear) × (h.stamped ≡ true) × (h.cut ≡ []) × (h.place < length v.log)))

-- ---- the sweep

-- kind 19, to take it
pub record MaySwapSweep (old new : ℕ) (v : View) : Type 0 where
  pub free : v.holding ≡ None
  pub expects : old ≡ sweep_word v.last_word
  pub takes : new ≡ sweep_word (record (v.last_word) { held = true })

-- the place, limbo and mark that the holder may store: on to the next place after the entry was put into the ring, as it
-- is in limbo, into limbo after the mark was found, and over declarations while nothing is unlinked
abbrev pub IsNextWord : View → Holding → SweepWord → Type 0
IsNextWord v h word =
    cond h.paid ((word.limbo ≡ false) × (word.place ≡ h.place + 1) × (word.mark ≡ 0))
    (cond h.word.limbo (let_go word ≡ let_go h.word)
    (((word.limbo ≡ true) × (word.place ≡ h.place) × (h.marked ≡ Some word.mark))
    ⊎ ((h.cut ≡ []) × (word.limbo ≡ false) × (word.mark ≡ 0) × (h.place ≤ word.place) × (word.place ≤ length v.log) × NoneWithdrawn v.log h.place word.place)))

-- kind 19, to keep it or to give it back
pub record MayStoreSweep (new : ℕ) (word : SweepWord) (v : View) : Type 0 where
  pub holding : (h : Holding) × (v.holding ≡ Some h) × IsNextWord v h word
  pub word_is : new ≡ sweep_word word

-- the entry was stamped, and each session found free of its place
pub record MayCut (table : ℕ) (v : View) (h : Holding) (id entry : ℕ) (unit : Unit64) : Type 0 where
  pub seeking : IsSeeking table v h id entry unit
  pub table_is : table < 4
  pub scanned : h.clear ≡ v.key.sizes.callers

-- kind 20: from the head, where the entry is the first of its chain
abbrev pub MayCutHead : ℕ → ℕ → ℕ → ℕ → View → Type 0
MayCutHead table bucket old new v = (h : Holding) × (id : ℕ) × (entry : ℕ) × (unit : Unit64) × MayCut table v h id entry unit
    × (bucket ≡ bucket_of unit.body table v.key.sizes.bits) × (old ≡ link_word entry) × (h.behind ≡ Some (record { table = table; word = new }))

-- kind 21: from the entry before it
abbrev pub MayCutNext : ℕ → ℕ → ℕ → ℕ → View → Type 0
MayCutNext table at old new v = (at < v.key.entries) × ((h : Holding) × (id : ℕ) × (entry : ℕ) × (unit : Unit64) × MayCut table v h id entry unit
    × (h.way ≡ Some (record { table = table; entry = at; ahead = [] })) × (old ≡ link_word entry) × (h.behind ≡ Some (record { table = table; word = new })))

-- kind 22: the entry in limbo, in the next place of the ring, from which nobody takes before the count is raised
abbrev pub MayGive : ℕ → ℕ → View → Type 0
MayGive place new v = (h : Holding) × (p : ℕ) × (id : ℕ) × (v.holding ≡ Some h) × (h.word.limbo ≡ true) × (h.paid ≡ false) × (h.put ≡ Some p) × (place ≡ p % v.key.entries) × IsWd v.log h.place id new

-- and the count, once each session was found free of the entry
abbrev pub MayStorePut : ℕ → View → Type 0
MayStorePut new v = (h : Holding) × (p : ℕ) × (v.holding ≡ Some h) × (h.word.limbo ≡ true) × (h.paid ≡ false) × (h.gave ≡ true) × (h.put ≡ Some p) × (new ≡ p + 1)
    × (h.freed ≡ v.key.sizes.callers) × (h.place < length v.log)
