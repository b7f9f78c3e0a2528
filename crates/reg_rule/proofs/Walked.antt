-- What a walk along a chain leaves (kinds 13 and 16).
use Rattle.std.proofs.Common.{◌≡◌, ℕ, ◌++◌, ◌<◌, ◌==◌, true, false, inr, List, [], length, take, set, length-append, Option, Some, sym, refl, ap, ◌∙◌, subst, arith}
use Rattle.std.proofs.lemmas.List.{take-append-le}
use mathlib.Core.Option.{some, some-ne-none}
use lib.ListN.{get_elem?}
use Rattle.atomic_table.proofs.Lists.{set_again}
use Rattle.iscc_header.specs.declared.unit.Unit64.{Unit64}
use Rattle.mih_plan.specs.Buckets.{bucket_of}
use Rattle.reg_model.specs.declared.call.Call.TheVariants as calls
use Rattle.reg_model.specs.declared.reply.Hit.{Hit}
use Rattle.reg_model.specs.declared.reply.Reply.TheVariants as replies
use Rattle.reg_words.specs.Memory.{HEAD, CODE, NEXT, LOG}
use Rattle.reg_rule.specs.declared.told.Told.{Told}
use Rattle.reg_rule.specs.declared.told.Told.TheVariants.{Begins, Hits}
use Rattle.reg_rule.specs.declared.view.Key.{Key}
use Rattle.reg_rule.specs.declared.view.Place.{Place}
use Rattle.reg_rule.specs.declared.view.Cursor.{Cursor}
use Rattle.reg_rule.specs.declared.view.Met.{Met}
use Rattle.reg_rule.specs.declared.view.View.{View}
use Rattle.reg_rule.specs.Log.{At, IsLiveIn}
use Rattle.reg_rule.specs.Chains.{Member}
use Rattle.reg_rule.specs.Conditions.{MayTellHits}
use Rattle.reg_rule.specs.Moves.{did, next_row, standing, with_hits, kept_met, code_reply}
use Rattle.reg_rule.specs.inner.World.{World}
use Rattle.reg_rule.specs.inner.Walks.{Cursors, Covers}
use Rattle.reg_rule.specs.inner.Plays.{Stays}
use Rattle.reg_rule.specs.inner.Rule.{Inv}
use Rattle.reg_rule.proofs.Counted.{count_more}
use Rattle.reg_rule.proofs.Floors.{front_above}
use Rattle.reg_rule.proofs.RowsEnter.{length_grown}
use Rattle.reg_rule.proofs.Remembering.{grown_rest}
use Rattle.reg_rule.proofs.LooksTell.{Looked, look_told, code_decides}
use Rattle.reg_rule.proofs.CursorsMoved.{needed_linked}
use Rattle.reg_rule.proofs.Fits.{fits_of}
use Rattle.reg_rule.proofs.Sets.{fits_set}

-- ---- hits that are told

pub walk_told : (key : Key) (m : ℕ → ℕ → ℕ) (w : World) (views : List View) (id : ℕ) (u : View) (told : Told) → Inv key m w views → get_elem? views id ≡ some u → u.live ≡ true → 0 < length u.accounts → MayTellHits told u → Looked key m w views id told u
walk_told key m w views id u (Hits unit radius looked) i at live one may = look_told code_reply code_decides key m w views id u (Hits unit radius looked) i at live one may
walk_told key m w views id u told i at live one may = ([], tt, (w.accounts, subst (Inv key m w) (sym (set_again views id u at)) i))

pub walk_stays : (told : Told) (u : View) (hits : List Hit) → Stays u (with_hits told hits u)
walk_stays (Hits unit radius looked) u hits = record { live = refl; key = refl; sessions = length_grown u.accounts (Some (next_row u (calls.Near unit radius) (standing u) (replies.Hits hits))); seen = omega arith; hand = refl; remembered = grown_rest u (Some (next_row u (calls.Near unit radius) (standing u) (replies.Hits hits))) }
walk_stays told u hits = record { live = refl; key = refl; sessions = refl; seen = omega arith; hand = refl; remembered = refl }

-- a walk changes nothing of what may be told
pub tell_begun : (told : Told) (v : View) (cursor : Option Cursor) (visited : List ℕ) (kind : ℕ) → MayTellHits told v → MayTellHits told (record v { cursor = cursor; visited = visited; met = kept_met told v.met; made = did v kind })
tell_begun (Hits unit radius looked) v cursor visited kind may = (may.0, may.1, record { looks = may.2.looks; once = may.2.once; probes = may.2.probes })
tell_begun told v cursor visited kind may = tt

pub tell_walked : (told : Told) (v : View) (cursor : Option Cursor) (visited : List ℕ) (kind : ℕ) → MayTellHits told v → MayTellHits told (record v { cursor = cursor; visited = visited; made = did v kind })
tell_walked (Hits unit radius looked) v cursor visited kind may = (may.0, may.1, record { looks = may.2.looks; once = may.2.once; probes = may.2.probes })
tell_walked told v cursor visited kind may = tt

pub met_kept : (told : Told) (met : List Met) (j : ℕ) (x : Met) → At (kept_met told met) j x → At met j x
met_kept Begins met j x there = absurd (some-ne-none x (sym there))
met_kept told met j x there = there

-- ---- the rule

module _ (key : Key) (m : ℕ → ℕ → ℕ) (w : World) (views : List View) (id : ℕ) (v : View) (i : Inv key m w views) (at : get_elem? views id ≡ some v) where
  abbrev pub walking : Option Cursor → List ℕ → List Met → ℕ → View
  walking cursor visited met kind = record v { cursor = cursor; visited = visited; met = met; made = did v kind }

  pub walk_inv : (cursor : Option Cursor) (visited : List ℕ) (met : List Met) (kind : ℕ) → (kind == 2) ≡ false → 0 < v.pin
      → Cursors key (m NEXT) w.log w.chains w.linked w.begun w.returned w.mark w.freed id (walking cursor visited met kind) → Covers key (m NEXT) w.chains id (walking cursor visited met kind)
      → ((j : ℕ) (x : Met) → At met j x → At v.met j x) → Inv key m w (set views id (walking cursor visited met kind))
  walk_inv cursor visited met kind plain pinned cursors covers met_of = let f = fits_of key m w views i id v at in fits_set key m w views id v (walking cursor visited met kind) i at refl refl record {
    knows = f.knows;
    owns = f.owns;
    saw = f.saw;
    has_sessions = f.has_sessions;
    rows = f.rows;
    found = f.found;
    exchanges = let c = count_more (λ k. k == 2) v.made kind plain in let e = f.exchanges in omega arith;
    fits_pin = record { session = f.fits_pin.session; covers = f.fits_pin.covers; fronts = f.fits_pin.fronts; cursor_pinned = λ c e. pinned };
    pinned = f.pinned;
    above_floor = f.above_floor;
    helps = f.helps;
    hands = f.hands;
    cursors = cursors;
    covers = covers;
    takes = f.takes;
    found_empty = f.found_empty;
    stopped = f.stopped;
    last_word = f.last_word;
    is_holder = f.is_holder;
    at_word = f.at_word;
    idles = f.idles;
    scans = f.scans;
    cuts = f.cuts;
    gives = f.gives;
    victims = f.victims;
    meets = λ j k x shown there. f.meets j k x shown (met_of j x there);
    costs = f.costs;
  }

  -- what is live at the open snapshot is in the chain of its bucket
  pub live_there : (k declared entry : ℕ) (unit : Unit64) (table : ℕ) → table < 4 → v.snapshot ≡ Some k → IsLiveIn key.carried (take k v.log) declared unit entry → Member entry (w.chains table (bucket_of unit.body table key.sizes.bits))
  live_there k declared entry unit table small shown live =
      let saw = i.saw id v at in let low = ((i.fits_pin id v at).fronts k (inr shown)).2 in
      let long : length w.log ≡ length (v.log ++ saw.0) = ap length saw.1 in let parts = length-append v.log saw.0 in
      let same : take k w.log ≡ take k v.log = ap (take k) saw.1 ∙ take-append-le k v.log saw.0 low in
      let above = front_above key.sizes.callers w.accounts w.owner w.log w.word w.begun w.returned w.floor w.freed id k v (i.owns id v at) (i.fits_pin id v at) (i.above_floor id v at) i.floors (inr shown) in
      let few = i.key_part.room in let count = i.key_part.entries in
      needed_linked key (m NEXT) w.log w.chains w.linked w.begun w.returned w.mark w.freed (m HEAD) (m CODE) i.chains v.pin v.accounts (m LOG) w.uses table k declared entry unit i.uses i.codes i.links i.sweep.order above (omega arith) (omega arith) i.log.entries small
      (subst (λ (l : List Place). IsLiveIn key.carried l declared unit entry) (sym same) live)
