-- The rule of the table: between any two steps there is a world that the words and the views fit, part by part.
use Rattle.std.specs.Prelude.{◌≡◌, ℕ, ◌+◌, ◌^◌, ◌<◌, ◌≤◌, All, List, length}
use Rattle.atomic_table.specs.Table.{State}
use Rattle.reg_model.specs.declared.update.Declared.{Declared}
use Rattle.reg_model.specs.Limits.{IsInRange}
use Rattle.reg_model.specs.Opening.{IsOpening}
use Rattle.reg_words.specs.Memory.{TAKE, PUT, SWEEP, PIN, HEAD, CODE, STAMP, NEXT, GIVE, LOG, NOTE, area_sizes, whole, mem}
use Rattle.reg_rule.specs.declared.view.Key.{Key}
use Rattle.reg_rule.specs.declared.view.View.{View}
use Rattle.reg_rule.specs.inner.World.{World}
use Rattle.reg_rule.specs.inner.LogParts.{LogPart, NotesPart}
use Rattle.reg_rule.specs.inner.SeatParts.{Each, total, Knows, Owns, Saw, InHands, IsSeat, HasSessions}
use Rattle.reg_rule.specs.inner.Entries.{UsesPart, StampsPart, CodesPart, CountsPart, RingPart}
use Rattle.reg_rule.specs.inner.ChainParts.{ChainsPart, LinksPart}
use Rattle.reg_rule.specs.inner.Sweeping.{SweepPart, ReclaimedPart, FloorsPart}
use Rattle.reg_rule.specs.inner.PinParts.{FitsRows, FoundLive, FewExchanges, FitsPin, Pinned, AboveFloor}
use Rattle.reg_rule.specs.inner.HelpParts.{Helps}
use Rattle.reg_rule.specs.inner.HandParts.{Holds}
use Rattle.reg_rule.specs.inner.Walks.{Cursors, Covers}
use Rattle.reg_rule.specs.inner.Takers.{Takes, FoundEmpty, Stopped}
use Rattle.reg_rule.specs.inner.HolderParts.{LastWord, IsHolder, AtWord, Idles, Scans, Cuts, Gives, Victims}
use Rattle.reg_rule.specs.inner.AccountParts.{AccountsPart}
use Rattle.reg_rule.specs.inner.Queries.{Meets, Costs}
use Rattle.reg_rule.specs.Fresh.{fresh}

-- What a round can be begun with.
pub record KeyPart (key : Key) : Type 0 where
  pub sizes : IsInRange key.sizes
  pub opening : IsOpening key.carried
  pub ids : key.carried.base + key.sizes.log ≤ 2 ^ 34
  pub kinds : All (λ (d : Declared). d.unit.kind < 13) key.carried.list
  pub room : length key.carried.list ≤ key.sizes.entries
  pub entries : key.entries ≡ key.sizes.entries

pub record Inv (key : Key) (m : ℕ → ℕ → ℕ) (w : World) (views : List View) : Type 0 where
  pub key_part : KeyPart key
  -- ---- the log
  pub log : LogPart key (m LOG) w.log
  pub notes : NotesPart (m NOTE) w.log
  pub accounts : AccountsPart key w.log w.accounts
  -- ---- entries
  pub uses : UsesPart key w.log w.returned w.uses
  pub stamps : StampsPart key (m STAMP) w.log w.returned w.uses w.stamps
  pub codes : CodesPart key (m CODE) w.log w.uses
  pub counts : CountsPart key (m TAKE) (m PUT) w.log w.returned w.taken w.put (total (λ v. length v.hands) views)
  pub ring : RingPart key (m GIVE) w.uses w.taken w.put w.ring
  -- ---- chains
  pub chains : ChainsPart key (m HEAD) (m NEXT) (m CODE) w.chains w.linked
  pub links : LinksPart key w.log w.begun w.uses w.linked
  -- ---- reclamation
  pub sweep : SweepPart (m SWEEP) w.log w.word w.holder w.begun w.returned
  pub reclaimed : ReclaimedPart w.log w.stamps w.linked w.word w.begun w.returned w.mark
  pub floors : FloorsPart key.sizes.callers w.log w.word w.begun w.returned w.floor w.freed
  -- ---- all seats
  pub sessions : total (λ v. length v.accounts) views ≡ key.sizes.callers
  pub in_hands : InHands w.uses views
  pub sweeper : IsSeat w.holder views
  -- ---- each seat
  pub knows : Each views (Knows key)
  pub owns : Each views (Owns key.sizes.callers w.accounts w.owner)
  pub saw : Each views (Saw w.log)
  pub has_sessions : Each views HasSessions
  pub rows : Each views (FitsRows key)
  pub found : Each views (FoundLive key)
  pub exchanges : Each views FewExchanges
  pub fits_pin : Each views FitsPin
  pub pinned : Each views (Pinned (m PIN))
  pub above_floor : Each views (AboveFloor w.floor)
  pub helps : Each views (Helps key (m NOTE) w.log w.uses w.stamps)
  pub hands : Each views (Holds key (m CODE) (m NEXT) w.uses w.stamps w.linked)
  pub cursors : Each views (Cursors key (m NEXT) w.log w.chains w.linked w.begun w.returned w.mark w.freed)
  pub covers : Each views (Covers key (m NEXT) w.chains)
  pub takes : Each views (Takes w.taken w.put w.ring)
  pub found_empty : Each views (FoundEmpty key w.log)
  pub stopped : Each views (Stopped w.log w.returned)
  pub last_word : Each views (LastWord w.word)
  pub is_holder : Each views (IsHolder w.holder)
  pub at_word : Each views (AtWord w.log w.word)
  pub idles : Each views Idles
  pub scans : Each views (Scans w.floor w.freed)
  pub cuts : Each views (Cuts w.begun w.returned w.mark)
  pub gives : Each views (Gives key (m GIVE) w.returned w.put)
  pub victims : Each views (Victims key (m NEXT) w.stamps w.chains w.linked w.returned)
  pub meets : Each views (Meets key (m CODE) w.log w.uses w.linked)
  pub costs : Each views (Costs key w.log)

abbrev pub sizes : Key → List ℕ
sizes key = area_sizes key.entries key.sizes.log key.sizes.bits key.sizes.callers

-- The table has no slots.
pub record Kept (key : Key) (s : State (Unit {0}) View) : Type 0 where
  pub wide : length s.words ≡ 1 + whole (sizes key)
  pub world : World
  pub inv : Inv key (mem (sizes key) s.words) world s.views

abbrev pub first : Key → View
first key = fresh key 0 key.sizes.callers
