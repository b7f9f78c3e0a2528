-- What the tests show of the holder of the sweep.
use Rattle.std.proofs.Common.{◌≡◌, ◌≢◌, ℕ, zero, suc, ◌+◌, ◌%◌, ◌<◌, true, false, inl, inr, List, [], length, Option, Some, refl, sym, ap, ◌∙◌, subst, arith}
use mathlib.Core.Option.{some-injective}
use Rattle.mih_plan.specs.Buckets.{bucket_of}
use Rattle.reg_model.specs.declared.update.Update.TheVariants.{Wd}
use Rattle.reg_words.specs.declared.word.LogWord.TheVariants as records
use Rattle.reg_words.specs.declared.word.StampWord.{StampWord}
use Rattle.reg_words.specs.declared.word.StampWord.TheVariants.{Live, Dead}
use Rattle.reg_words.specs.Packing.{FitsStamp, log_word, stamp_word, sweep_word}
use Rattle.reg_words.proofs.StampWords.{one_stamp}
use Rattle.reg_rule.specs.declared.told.Told.TheVariants.{Nothing, Closes, Sweeps, Examines}
use Rattle.reg_rule.specs.declared.view.Key.{Key}
use Rattle.reg_rule.specs.declared.view.Place.{Place}
use Rattle.reg_rule.specs.declared.view.Holding.{Holding}
use Rattle.reg_rule.specs.declared.view.View.{View}
use Rattle.reg_rule.specs.Fresh.{unswept}
use Rattle.reg_rule.specs.Log.{At, place_of, IsWd, Declares}
use Rattle.reg_rule.specs.Seats.{IsOf}
use Rattle.reg_rule.specs.Tables.{is_in}
use Rattle.reg_rule.specs.Moves.{with_step, filled, unpinned, looked, holding_of, on_holding, scanned, holder_did, at_head, behind_at, cut_from, put_known, give_stored, put_stored}
use Rattle.reg_rule.specs.Conditions.{MaySwapLog, MaySwapDeath, MayStorePin, MayLoadStamp, IsSeeking, MayLoadHead, MayLoadNext, MayLoadPin, MayLoadPut, MayStoreSweep, MayCutHead, MayGive, MayStorePut}
use Rattle.reg_rule.specs.Steps.{LogLoaded, StampLoaded, PinStored, PinLoaded, PutLoaded, HeadTells, NextTells, HeadCut}
use Rattle.reg_rule.specs.inner.Trials.{meta_place, sweeping, swept_log, holds, seeking, limbo_word, in_limbo, next_word, seen_live, withdrawn, opened_at}
use Rattle.reg_rule.proofs.Trials.{not_below}
use Rattle.reg_rule.proofs.TrialsHelped.{fits_of, decl_not_wd}

-- a step of the holder changes what it knows
did_hold : (f : Holding → Holding) (v w : View) (h : Holding) (kind : ℕ) → v.holding ≡ Some h → w ≡ holder_did f v kind → w ≡ holds v (f h) kind
did_hold f v w h kind holding did = did ∙ ap (λ (o : Option Holding). record (with_step v kind) { holding = on_holding f o }) holding

module _ (v : View) (key : v.key ≡ sweeping) (log : v.log ≡ swept_log) where
  withdraws : IsWd v.log 1 0 0
  withdraws = subst (λ (l : List Place). IsWd l 1 0 0) (sym log) refl

  declares : Declares v.key.carried v.log 0 (record { kind = 0; body = 0 }) 0
  declares = subst (λ (k : Key). Declares k.carried v.log 0 (record { kind = 0; body = 0 }) 0) (sym key) (inr (0, refl, subst (λ (l : List Place). At l 0 (meta_place 0 0)) (sym log) refl))

  two : length v.log ≡ 2
  two = ap (λ (l : List Place). length l) log

  seeks : (table : ℕ) (h : Holding) → v.holding ≡ Some h → h.word.limbo ≡ false → h.stamped ≡ true → is_in table h.cut ≡ false → h.place ≡ 1 → IsSeeking table v h 0 0 (record { kind = 0; body = 0 })
  seeks table h holding unmoved stamped uncut place = record {
    holding = holding;
    unmoved = unmoved;
    stamped = stamped;
    uncut = uncut;
    withdraws = subst (λ (n : ℕ). IsWd v.log n 0 0) (sym place) withdraws;
    declares = declares;
  }

  none_before : (d id entry : ℕ) (l : List Place) → l ≡ swept_log → d < 1 → IsWd l d id entry → ⊥
  none_before zero id entry l is low wd = decl_not_wd _ id (ap (λ (z : Place). z.update) (some-injective (meta_place 0 0) (place_of (Wd id) entry) (subst (λ (k : List Place). IsWd k 0 id entry) is wd)))
  none_before (suc d) id entry l is low wd = absurd (omega arith)

  -- ---- the withdrawal is examined, and the pins are scanned

  pub may_examine : v.holding ≡ Some (holding_of unswept) → MayLoadStamp (Examines 1) 0 v
  may_examine holding = record {
    inside = subst (λ (k : Key). 0 < k.entries) (sym key) (omega arith);
    by = (holding_of unswept, 0, holding, refl, refl, omega arith, (λ d id entry from low wd. none_before d id entry v.log log low wd), withdraws);
  }

  pub may_scan : (seat : ℕ) → seat < 2 → v.holding ≡ Some (seeking seat 0) → MayLoadPin seat v
  may_scan seat low holding = (subst (λ (k : Key). seat < k.sizes.callers) (sym key) low, (seeking seat 0, holding, (refl, refl, refl, omega (arith, two))))

  pub may_scan_limbo : (seat : ℕ) → seat < 2 → v.holding ≡ Some (in_limbo seat) → MayLoadPin seat v
  may_scan_limbo seat low holding = (subst (λ (k : Key). seat < k.sizes.callers) (sym key) low, (in_limbo seat, holding, (refl, refl)))

  -- ---- the entry is unlinked

  bucket_is : (table bucket : ℕ) → bucket ≡ bucket_of 0 table 4 → bucket ≡ bucket_of 0 table v.key.sizes.bits
  bucket_is table bucket is = is ∙ ap (λ (k : Key). bucket_of 0 table k.sizes.bits) (sym key)

  pub may_load_head : (table bucket : ℕ) → table < 4 → bucket ≡ bucket_of 0 table 4 → v.holding ≡ Some (seeking 2 table) → MayLoadHead Sweeps table bucket v
  may_load_head table bucket low is holding = (low, (seeking 2 table, 0, 0, record { kind = 0; body = 0 }, seeks table (seeking 2 table) holding refl refl (not_below table low) refl, bucket_is table bucket is))

  pub head_loaded : (table bucket found : ℕ) (w : View) → v.holding ≡ Some (seeking 2 table) → HeadTells Sweeps table bucket v found w → found ≡ 1 → w ≡ holds v (seeking 2 table) 13
  head_loaded table bucket found w holding told one = did_hold at_head v w (seeking 2 table) 13 holding ((told (seeking 2 table) 0 0 holding withdraws).first one)

  pub may_load_next : (table : ℕ) → table < 4 → v.holding ≡ Some (seeking 2 table) → MayLoadNext Sweeps table 0 v
  may_load_next table low holding = (low, subst (λ (k : Key). 0 < k.entries) (sym key) (omega arith), (seeking 2 table, 0, 0, record { kind = 0; body = 0 }, seeks table (seeking 2 table) holding refl refl (not_below table low) refl, inl refl))

  pub next_loaded : (table found : ℕ) (w : View) → v.holding ≡ Some (seeking 2 table) → NextTells Sweeps table 0 v found w → w ≡ holds v (behind_at table found (seeking 2 table)) 16
  next_loaded table found w holding told = did_hold (behind_at table found) v w (seeking 2 table) 16 holding ((told (seeking 2 table) 0 0 holding withdraws).behind refl)

  pub may_cut : (table bucket behind : ℕ) → table < 4 → bucket ≡ bucket_of 0 table 4 → v.holding ≡ Some (behind_at table behind (seeking 2 table)) → MayCutHead table bucket 1 behind v
  may_cut table bucket behind low is holding = let h : Holding = behind_at table behind (seeking 2 table) in (
    h,
    0,
    0,
    record { kind = 0; body = 0 },
    record {
      seeking = seeks table h holding refl refl (not_below table low) refl;
      table_is = low;
      scanned = subst (λ (k : Key). 2 ≡ k.sizes.callers) (sym key) refl;
    },
    bucket_is table bucket is,
    refl,
    refl,
  )

  -- ---- it is given back

  pub may_find_put : v.holding ≡ Some (in_limbo 2) → MayLoadPut Sweeps v
  may_find_put holding = (in_limbo 2, holding, refl)

  pub may_give : v.holding ≡ Some (put_known 4 (in_limbo 2)) → MayGive 0 0 v
  may_give holding = (put_known 4 (in_limbo 2), 4, 0, holding, refl, refl, refl, subst (λ (k : Key). 0 ≡ 4 % k.entries) (sym key) refl, withdraws)

  pub may_raise_put : v.holding ≡ Some (give_stored (put_known 4 (in_limbo 2))) → MayStorePut 5 v
  may_raise_put holding = (give_stored (put_known 4 (in_limbo 2)), 4, holding, refl, refl, refl, refl, refl, subst (λ (k : Key). 2 ≡ k.sizes.callers) (sym key) refl, omega (arith, two))

-- ---- what the holder's other steps tell

pub examined : (v w : View) (found : ℕ) → StampLoaded (Examines 1) 0 v found w → found ≡ stamp_word (Dead 0 0 1) → w ≡ looked (Examines 1) 0 (Dead 0 0 1) v
examined v w found told is =
    let fits : FitsStamp (Dead 0 0 1) = (omega arith, omega arith, omega arith) in
    let same = one_stamp told.stamp (Dead 0 0 1) (fits_of told.stamp told.bits) fits (sym told.word ∙ is) in
    told.view.2 ∙ ap (λ (s : StampWord). looked (Examines 1) 0 s v) same

pub scanned_free : (v w : View) (seat found : ℕ) → v.holding ≡ Some (seeking seat 0) → PinLoaded seat v found w → found ≡ 0 → w ≡ holds v (seeking (seat + 1) 0) 18
scanned_free v w seat found holding told is = did_hold (scanned seat 0) v w (seeking seat 0) 18 holding (told.view ∙ ap (λ (n : ℕ). holder_did (scanned seat n) v 18) is)

pub scanned_limbo : (v w : View) (seat found : ℕ) → v.holding ≡ Some (in_limbo seat) → PinLoaded seat v found w → found ≡ 0 → w ≡ holds v (in_limbo (seat + 1)) 18
scanned_limbo v w seat found holding told is = did_hold (scanned seat 0) v w (in_limbo seat) 18 holding (told.view ∙ ap (λ (n : ℕ). holder_did (scanned seat n) v 18) is)

pub scanned_pinned : (v w : View) (found : ℕ) → v.holding ≡ Some (in_limbo 1) → PinLoaded 1 v found w → found ≡ 1 → w ≡ holds v (in_limbo 1) 18
scanned_pinned v w found holding told is = did_hold (scanned 1 1) v w (in_limbo 1) 18 holding (told.view ∙ ap (λ (n : ℕ). holder_did (scanned 1 n) v 18) is)

next_table : (table : ℕ) → suc table ≡ table + 1
next_table table = omega arith

pub cut_once : (v w : View) (table behind found : ℕ) → v.holding ≡ Some (behind_at table behind (seeking 2 table)) → HeadCut table 1 v found w → found ≡ 1 → w ≡ holds v (seeking 2 (table + 1)) 20
cut_once v w table behind found holding told won = did_hold (cut_from table) v w (behind_at table behind (seeking 2 table)) 20 holding (told.won won) ∙ ap (λ (n : ℕ). holds v (seeking 2 n) 20) (next_table table)

pub put_found : (v w : View) (found : ℕ) → v.holding ≡ Some (in_limbo 2) → PutLoaded Sweeps v found w → found ≡ 4 → w ≡ holds v (put_known 4 (in_limbo 2)) 10
put_found v w found holding told is = did_hold (put_known 4) v w (in_limbo 2) 10 holding ((told.swept refl).0 ∙ ap (λ (n : ℕ). holder_did (put_known n) v 10) is)

pub give_done : (v w : View) → v.holding ≡ Some (put_known 4 (in_limbo 2)) → w ≡ holder_did give_stored v 22 → w ≡ holds v (give_stored (put_known 4 (in_limbo 2))) 22
give_done v w holding did = did_hold give_stored v w _ 22 holding did

pub put_done : (v w : View) → v.holding ≡ Some (give_stored (put_known 4 (in_limbo 2))) → w ≡ holder_did put_stored v 22 → w ≡ holds v (put_stored (in_limbo 2)) 22
put_done v w holding did = did_hold put_stored v w _ 22 holding did

-- ---- what the holder may store

pub may_leave : (word : ℕ) (v : View) → v.holding ≡ Some (record (seeking 2 4) { marked = Some 2 }) → word ≡ sweep_word limbo_word → MayStoreSweep word limbo_word v
may_leave word v holding is = record { holding = (record (seeking 2 4) { marked = Some 2 }, holding, inl (refl, refl, refl)); word_is = is }

pub may_stay : (word : ℕ) (v : View) → v.holding ≡ Some (in_limbo 1) → word ≡ sweep_word limbo_word → MayStoreSweep word limbo_word v
may_stay word v holding is = record { holding = (in_limbo 1, holding, refl); word_is = is }

pub may_go_on : (word : ℕ) (v : View) → v.holding ≡ Some (put_stored (in_limbo 2)) → word ≡ sweep_word next_word → MayStoreSweep word next_word v
may_go_on word v holding is = record { holding = (put_stored (in_limbo 2), holding, (refl, refl, refl)); word_is = is }

-- ---- the withdrawal

pub may_withdraw : (v : View) (word : ℕ) → v ≡ seen_live → word ≡ log_word (records.Wd 0 0) → MaySwapLog 1 0 word (place_of (Wd 0) 0) v
may_withdraw v word there is =
    let may : MaySwapLog 1 0 word (place_of (Wd 0) 0) seen_live = record {
      pinned = omega arith;
      unopened = refl;
      next = refl;
      inside = omega arith;
      helped = refl;
      record_is = refl;
      empty = refl;
      word = is;
    } in subst (MaySwapLog 1 0 word (place_of (Wd 0) 0)) (sym there) may

pub may_bury : (v : View) (birth death : ℕ) → v ≡ withdrawn → birth ≡ stamp_word (Live 0 0) → death ≡ stamp_word (Dead 0 0 1) → MaySwapDeath 0 birth death v
may_bury v birth death there birth_is death_is =
    let may : MaySwapDeath 0 birth death withdrawn = record {
      inside = omega arith;
      death = (1, 0, record { kind = 0; body = 0 }, (refl, inr (refl, refl)), refl, inr (0, refl, refl), birth_is, death_is);
    } in subst (MaySwapDeath 0 birth death) (sym there) may

-- ---- the pass that begins

pub found_filled : (v w : View) (place found : ℕ) → LogLoaded Nothing place v found w → place ≡ length v.log → found ≢ 0 → (p : Place) × (w ≡ filled Nothing v p)
found_filled v w place found told next some = let there = told.next next some in (there.0, there.2)

pub may_close : (p q : Place) (v : View) → v ≡ opened_at p q → MayStorePin Closes 0 v
may_close p q v there = subst (MayStorePin Closes 0) (sym there) (inr (inl (refl, omega arith, refl)))

pub of_second : (p q : Place) (v : View) → v ≡ opened_at p q → IsOf v 1
of_second p q v there = subst (λ (z : View). IsOf z 1) (sym there) (record { number = 1; rows = [] }, refl, refl)

pub closed_is : (p q : Place) (v w : View) → v ≡ opened_at p q → PinStored Closes 0 v w → w ≡ unpinned Closes (opened_at p q)
closed_is p q v w there told = (subst (λ (z : View). PinStored Closes 0 z w) there told).unpins (λ e. absurd (omega arith)) refl
