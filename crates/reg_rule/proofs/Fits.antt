-- The rule in two halves: what it says of the words and the world, and what it says of one seat. A step that is proved
-- seat by seat gives the second half as one record.
use Rattle.std.proofs.Common.{◌≡◌, ℕ, List, length}
use Rattle.reg_words.specs.Memory.{TAKE, PUT, SWEEP, PIN, HEAD, CODE, STAMP, NEXT, GIVE, LOG, NOTE}
use Rattle.reg_rule.specs.declared.view.Key.{Key}
use Rattle.reg_rule.specs.declared.view.View.{View}
use Rattle.reg_rule.specs.inner.World.{World}
use Rattle.reg_rule.specs.inner.LogParts.{LogPart, NotesPart}
use Rattle.reg_rule.specs.inner.SeatParts.{Each, total, Knows, Owns, Saw, InHands, IsSeat, HasSessions}
use Rattle.reg_rule.specs.inner.Entries.{UsesPart, StampsPart, CodesPart, CountsPart, RingPart}
use Rattle.reg_rule.specs.inner.ChainParts.{ChainsPart, LinksPart}
use Rattle.reg_rule.specs.inner.Sweeping.{SweepPart, ReclaimedPart, FloorsPart}
use Rattle.reg_rule.specs.inner.PinParts.{FitsRows, FoundLive, FewExchanges, FitsPin, Pinned, AboveFloor}
use Rattle.reg_rule.specs.inner.HelpParts.{Helps}
use Rattle.reg_rule.specs.inner.HandParts.{Holds}
use Rattle.reg_rule.specs.inner.Walks.{Cursors, Covers}
use Rattle.reg_rule.specs.inner.Takers.{Takes, FoundEmpty, Stopped}
use Rattle.reg_rule.specs.inner.HolderParts.{LastWord, IsHolder, AtWord, Idles, Scans, Cuts, Gives, Victims}
use Rattle.reg_rule.specs.inner.AccountParts.{AccountsPart}
use Rattle.reg_rule.specs.inner.Queries.{Meets, Costs}
use Rattle.reg_rule.specs.inner.Rule.{KeyPart, Inv}

-- what is said of the words and the world
pub record Shared (key : Key) (m : ℕ → ℕ → ℕ) (w : World) (views : List View) : Type 0 where
  pub key_part : KeyPart key
  pub log : LogPart key (m LOG) w.log
  pub notes : NotesPart (m NOTE) w.log
  pub accounts : AccountsPart key w.log w.accounts
  pub uses : UsesPart key w.log w.returned w.uses
  pub stamps : StampsPart key (m STAMP) w.log w.returned w.uses w.stamps
  pub codes : CodesPart key (m CODE) w.log w.uses
  pub counts : CountsPart key (m TAKE) (m PUT) w.log w.returned w.taken w.put (total (λ v. length v.hands) views)
  pub ring : RingPart key (m GIVE) w.uses w.taken w.put w.ring
  pub chains : ChainsPart key (m HEAD) (m NEXT) (m CODE) w.chains w.linked
  pub links : LinksPart key w.log w.begun w.uses w.linked
  pub sweep : SweepPart (m SWEEP) w.log w.word w.holder w.begun w.returned
  pub reclaimed : ReclaimedPart w.log w.stamps w.linked w.word w.begun w.returned w.mark
  pub floors : FloorsPart key.sizes.callers w.log w.word w.begun w.returned w.floor w.freed
  pub sessions : total (λ v. length v.accounts) views ≡ key.sizes.callers
  pub in_hands : InHands w.uses views
  pub sweeper : IsSeat w.holder views

-- what is said of one seat
pub record Fits (key : Key) (m : ℕ → ℕ → ℕ) (w : World) (id : ℕ) (v : View) : Type 0 where
  pub knows : Knows key id v
  pub owns : Owns key.sizes.callers w.accounts w.owner id v
  pub saw : Saw w.log id v
  pub has_sessions : HasSessions id v
  pub rows : FitsRows key id v
  pub found : FoundLive key id v
  pub exchanges : FewExchanges id v
  pub fits_pin : FitsPin id v
  pub pinned : Pinned (m PIN) id v
  pub above_floor : AboveFloor w.floor id v
  pub helps : Helps key (m NOTE) w.log w.uses w.stamps id v
  pub hands : Holds key (m CODE) (m NEXT) w.uses w.stamps w.linked id v
  pub cursors : Cursors key (m NEXT) w.log w.chains w.linked w.begun w.returned w.mark w.freed id v
  pub covers : Covers key (m NEXT) w.chains id v
  pub takes : Takes w.taken w.put w.ring id v
  pub found_empty : FoundEmpty key w.log id v
  pub stopped : Stopped w.log w.returned id v
  pub last_word : LastWord w.word id v
  pub is_holder : IsHolder w.holder id v
  pub at_word : AtWord w.log w.word id v
  pub idles : Idles id v
  pub scans : Scans w.floor w.freed id v
  pub cuts : Cuts w.begun w.returned w.mark id v
  pub gives : Gives key (m GIVE) w.returned w.put id v
  pub victims : Victims key (m NEXT) w.stamps w.chains w.linked w.returned id v
  pub meets : Meets key (m CODE) w.log w.uses w.linked id v
  pub costs : Costs key w.log id v

pub shared_of : (key : Key) (m : ℕ → ℕ → ℕ) (w : World) (views : List View) → Inv key m w views → Shared key m w views
shared_of key m w views i = record {
  key_part = i.key_part;
  log = i.log;
  notes = i.notes;
  accounts = i.accounts;
  uses = i.uses;
  stamps = i.stamps;
  codes = i.codes;
  counts = i.counts;
  ring = i.ring;
  chains = i.chains;
  links = i.links;
  sweep = i.sweep;
  reclaimed = i.reclaimed;
  floors = i.floors;
  sessions = i.sessions;
  in_hands = i.in_hands;
  sweeper = i.sweeper;
}

pub fits_of : (key : Key) (m : ℕ → ℕ → ℕ) (w : World) (views : List View) → Inv key m w views → Each views (Fits key m w)
fits_of key m w views i id v at = record {
  knows = i.knows id v at;
  owns = i.owns id v at;
  saw = i.saw id v at;
  has_sessions = i.has_sessions id v at;
  rows = i.rows id v at;
  found = i.found id v at;
  exchanges = i.exchanges id v at;
  fits_pin = i.fits_pin id v at;
  pinned = i.pinned id v at;
  above_floor = i.above_floor id v at;
  helps = i.helps id v at;
  hands = i.hands id v at;
  cursors = i.cursors id v at;
  covers = i.covers id v at;
  takes = i.takes id v at;
  found_empty = i.found_empty id v at;
  stopped = i.stopped id v at;
  last_word = i.last_word id v at;
  is_holder = i.is_holder id v at;
  at_word = i.at_word id v at;
  idles = i.idles id v at;
  scans = i.scans id v at;
  cuts = i.cuts id v at;
  gives = i.gives id v at;
  victims = i.victims id v at;
  meets = i.meets id v at;
  costs = i.costs id v at;
}

pub inv_of : (key : Key) (m : ℕ → ℕ → ℕ) (w : World) (views : List View) → Shared key m w views → Each views (Fits key m w) → Inv key m w views
inv_of key m w views s f = record {
  key_part = s.key_part;
  log = s.log;
  notes = s.notes;
  accounts = s.accounts;
  uses = s.uses;
  stamps = s.stamps;
  codes = s.codes;
  counts = s.counts;
  ring = s.ring;
  chains = s.chains;
  links = s.links;
  sweep = s.sweep;
  reclaimed = s.reclaimed;
  floors = s.floors;
  sessions = s.sessions;
  in_hands = s.in_hands;
  sweeper = s.sweeper;
  knows = λ id v at. (f id v at).knows;
  owns = λ id v at. (f id v at).owns;
  saw = λ id v at. (f id v at).saw;
  has_sessions = λ id v at. (f id v at).has_sessions;
  rows = λ id v at. (f id v at).rows;
  found = λ id v at. (f id v at).found;
  exchanges = λ id v at. (f id v at).exchanges;
  fits_pin = λ id v at. (f id v at).fits_pin;
  pinned = λ id v at. (f id v at).pinned;
  above_floor = λ id v at. (f id v at).above_floor;
  helps = λ id v at. (f id v at).helps;
  hands = λ id v at. (f id v at).hands;
  cursors = λ id v at. (f id v at).cursors;
  covers = λ id v at. (f id v at).covers;
  takes = λ id v at. (f id v at).takes;
  found_empty = λ id v at. (f id v at).found_empty;
  stopped = λ id v at. (f id v at).stopped;
  last_word = λ id v at. (f id v at).last_word;
  is_holder = λ id v at. (f id v at).is_holder;
  at_word = λ id v at. (f id v at).at_word;
  idles = λ id v at. (f id v at).idles;
  scans = λ id v at. (f id v at).scans;
  cuts = λ id v at. (f id v at).cuts;
  gives = λ id v at. (f id v at).gives;
  victims = λ id v at. (f id v at).victims;
  meets = λ id v at. (f id v at).meets;
  costs = λ id v at. (f id v at).costs;
}
