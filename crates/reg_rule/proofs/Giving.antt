-- The parts of the rule after an entry is stored in the ring, and after the count put is raised for it (kind 22).
use Rattle.std.proofs.Common.{◌≡◌, ℕ, ◌+◌, ◌%◌, ◌<◌, ◌≤◌, inl, ⊎_elim, List, length, take, not, is_some, true, false, true≢false, Some, None, sym, ap, ◌∙◌, subst, arith}
use mathlib.Core.Logic.{dite}
use native.Mathlib.Decide.{ℕ_discrete}
use mathlib.Core.Option.{some}
use lib.ListN.{get_elem?}
use Rattle.iscc_header.specs.declared.unit.Unit64.{Unit64}
use Rattle.reg_model.specs.Live.{withdrawals, is_declaration}
use Rattle.reg_words.specs.declared.word.SweepWord.{SweepWord}
use Rattle.reg_words.specs.declared.word.StampWord.{StampWord}
use Rattle.reg_words.specs.declared.word.StampWord.TheVariants.{Unborn, Live, Dead}
use Rattle.reg_words.specs.Memory.{TAKE, PUT, GIVE, SWEEP, NEXT, set_at}
use Rattle.reg_rule.specs.declared.view.Key.{Key}
use Rattle.reg_rule.specs.declared.view.Holding.{Holding}
use Rattle.reg_rule.specs.declared.view.View.{View}
use Rattle.reg_rule.specs.inner.World.{Use, holds, free, in_hand, World}
use Rattle.reg_rule.specs.Log.{updates, IsWd, Declares, NoneWithdrawn}
use Rattle.reg_rule.specs.inner.SeatParts.{total}
use Rattle.reg_rule.specs.inner.ChainParts.{LinksPart}
use Rattle.reg_rule.specs.inner.Entries.{CountsPart, RingPart, StampFits}
use Rattle.reg_rule.specs.inner.Sweeping.{IsReclaimed, SweepPart, ReclaimedPart}
use Rattle.reg_rule.specs.inner.Walks.{Cursors}
use Rattle.reg_rule.specs.inner.HolderParts.{WordFits}
use Rattle.reg_rule.specs.inner.Rule.{Inv}
use Rattle.atomic_table.proofs.Lists.{one_turn}
use Rattle.reg_rule.proofs.Once.{wd_declares, wd_once}
use Rattle.reg_rule.proofs.StampsKept.{at_set, set_here, set_away}
use Rattle.reg_rule.proofs.Floors.{session_of}
use Rattle.reg_rule.proofs.Refused.{count_take, count_whole, count_through, none_between as same_count}
use Rattle.reg_rule.proofs.Balance.{live_most}
use Rattle.reg_rule.proofs.Variants.{free_same, not_free}

module _ (key : Key) (m : ℕ → ℕ → ℕ) (w : World) (views : List View) (id : ℕ) (v : View) (i : Inv key m w views) (at : get_elem? views id ≡ some v) (knows : v.key ≡ key)
    (h : Holding) (holding : v.holding ≡ Some h) (limbo : h.word.limbo ≡ true) (unpaid : h.paid ≡ false) where
  word_fits : WordFits w.log w.word h.word h.place
  word_fits = i.at_word id v at h holding

  pub in_limbo : w.word.limbo ≡ true
  in_limbo = ap (λ (s : SweepWord). s.limbo) word_fits.word_is ∙ limbo

  place_is : h.place ≡ w.word.place
  place_is = word_fits.limbo limbo ∙ ap (λ (s : SweepWord). s.place) (sym word_fits.word_is)

  begun_is : w.begun ≡ h.place + 1
  begun_is = let a = (i.sweep.limbo in_limbo).0 in let b = place_is in omega arith

  pub low : w.returned ≤ h.place
  low = (i.gives id v at h holding).kept unpaid limbo

  -- the place in limbo is that of a withdrawal
  pub work : (withdrawn : ℕ) × (e : ℕ) × IsWd w.log h.place withdrawn e
  work = let a = low in let b = begun_is in let t = i.sweep.at_work (omega arith) in
      (t.1, t.2, subst (λ (d : ℕ). IsWd w.log d t.1 t.2) (let c = t.3.last in omega arith) t.3.withdraws)

  module _ (withdrawn e : ℕ) (wd : IsWd w.log h.place withdrawn e) where
    dec : (unit : Unit64) × Declares key.carried w.log withdrawn unit e
    dec = wd_declares key.carried w.log h.place withdrawn e i.log.lawful wd

    pub held : w.uses e ≡ holds withdrawn
    held = i.uses.held withdrawn e dec.0 dec.1 (λ d x other. let one = wd_once key.carried w.log h.place d withdrawn e x i.log.lawful wd other in let a = low in omega arith)

    mine : IsReclaimed w.log w.begun w.returned h.place withdrawn e
    mine = record { last = begun_is; kept = low; withdraws = wd }

    pub none_between : NoneWithdrawn w.log w.returned h.place
    none_between d j x a b other = i.sweep.passed d j x a (let c = place_is in omega arith) other

    inside : e < key.entries
    inside = i.log.entries h.place _ wd

    -- ---- the store of PUT: the entry is free under the count put, and the withdrawal at the place was given back

    pub sweep_given : SweepPart (m SWEEP) w.log w.word w.holder w.begun (h.place + 1)
    sweep_given = record {
      word_is = i.sweep.word_is;
      held = i.sweep.held;
      order = let a = begun_is in omega arith;
      seen = i.sweep.seen;
      at_work = λ z. let a = begun_is in absurd (omega arith);
      within = i.sweep.within;
      passed = λ d j x a b other. let c = place_is in absurd (omega arith);
      ahead = λ d j x a b other. let c = place_is in (in_limbo, omega arith);
      limbo = i.sweep.limbo;
      unmarked = i.sweep.unmarked;
      rests = λ none z. absurd (true≢false (sym in_limbo ∙ z));
      waits = λ none z. absurd (no_seat none);
    } where
      some_none : None ≡ Some id → ⊥
      some_none z = cc

      no_seat : w.holder ≡ None → ⊥
      no_seat none = some_none (sym none ∙ (i.is_holder id v at).0 (ap is_some holding))

    -- none is left that is being reclaimed
    none_left : (d j x : ℕ) → IsReclaimed w.log w.begun (h.place + 1) d j x → ⊥
    none_left d j x r = let a = r.last in let b = r.kept in let c = begun_is in omega arith

    pub reclaimed_given : ReclaimedPart w.log w.stamps w.linked w.word w.begun (h.place + 1) w.mark
    reclaimed_given = record {
      dead = λ d j x r. absurd (none_left d j x r);
      apart = λ d j x n r is. absurd (none_left d j x r);
      marked = i.reclaimed.marked;
    }

    -- in limbo the entry is linked nowhere
    pub unlinked_given : (table : ℕ) → table < 4 → w.linked table e ≡ false
    unlinked_given = (i.reclaimed.apart h.place withdrawn e w.word.mark mine (i.reclaimed.marked in_limbo)).0

    pub links_given : LinksPart key w.log w.begun (set_at w.uses e (free w.put)) w.linked
    links_given = record {
      held = λ t j x small room is kept. dite (ℕ_discrete x e)
          (λ same. absurd (not_free w.put j (sym (set_here w.uses e (free w.put)) ∙ (ap (set_at w.uses e (free w.put)) (sym same) ∙ is))))
          (λ apart. i.links.held t j x small room (sym (set_away w.uses e x (free w.put) apart) ∙ is) kept);
      ring = λ t x j small room is. dite (ℕ_discrete x e)
          (λ same. ap (w.linked t) same ∙ unlinked_given t small)
          (λ apart. i.links.ring t x j small room (sym (set_away w.uses e x (free w.put) apart) ∙ is));
    }

    pub ring_given : (gives : ℕ → ℕ) → ((j : ℕ) → w.taken ≤ j → j < w.put → gives (j % key.entries) ≡ w.ring j) → gives (w.put % key.entries) ≡ e
        → RingPart key gives (set_at w.uses e (free w.put)) w.taken (w.put + 1) (set_at w.ring w.put e)
    ring_given gives named stored = record {
      named = λ j a b. dite (ℕ_discrete j w.put)
          (λ same. ap (λ (k : ℕ). gives (k % key.entries)) same ∙ (stored ∙ sym (ap (set_at w.ring w.put e) same ∙ set_here w.ring w.put e)))
          (λ apart. named j a (omega arith) ∙ sym (set_away w.ring w.put j e apart));
      rests = λ j a b. dite (ℕ_discrete j w.put)
          (λ same. let there : set_at w.ring w.put e j ≡ e = ap (set_at w.ring w.put e) same ∙ set_here w.ring w.put e in
          (subst (λ (x : ℕ). x < key.entries) (sym there) inside, ap (set_at w.uses e (free w.put)) there ∙ (set_here w.uses e (free w.put) ∙ ap free (sym same))))
          (λ apart. let there : set_at w.ring w.put e j ≡ w.ring j = set_away w.ring w.put j e apart in let old = i.ring.rests j a (omega arith) in (
            subst (λ (x : ℕ). x < key.entries) (sym there) old.0,
            ap (set_at w.uses e (free w.put)) there ∙ (set_away w.uses e (w.ring j) (free w.put) (λ z. not_free j withdrawn (sym old.1 ∙ (ap w.uses z ∙ held))) ∙ old.1),
          ));
      none_else = λ x j room is. dite (ℕ_discrete x e)
          (λ same. let put_is : w.put ≡ j = free_same w.put j (sym (set_here w.uses e (free w.put)) ∙ (ap (set_at w.uses e (free w.put)) (sym same) ∙ is)) in let a = i.counts.room in
          (omega arith, omega arith, ap (set_at w.ring w.put e) (sym put_is) ∙ (set_here w.ring w.put e ∙ sym same)))
          (λ apart. let old = i.ring.none_else x j room (sym (set_away w.uses e x (free w.put) apart) ∙ is) in
          let a = old.1 in (old.0, omega arith, set_away w.ring w.put j e (λ z. omega arith) ∙ old.2));
    }

    pub counts_given : CountsPart key (m TAKE) (set_at (m PUT) 0 (w.put + 1)) w.log (h.place + 1) w.taken (w.put + 1) (total (λ u. length u.hands) views)
    counts_given = record {
      take_word = i.counts.take_word;
      put_word = set_here (m PUT) 0 (w.put + 1);
      took = i.counts.took;
      gave = let a = i.counts.gave in let b = count_through w.log h.place withdrawn e wd in let c = same_count w.log w.returned h.place none_between in
          let d : withdrawals (updates (take w.returned w.log)) ≤ withdrawals (updates (take h.place w.log)) = count_take (λ u. not (is_declaration u)) w.log w.returned h.place low in omega arith;
      room = let a = i.counts.room in omega arith;
    }

    pub fits_given : (entry : ℕ) → entry < key.entries → StampFits key.carried w.log (h.place + 1) entry (set_at w.uses e (free w.put) entry) (w.stamps entry)
    fits_given = at_set w.uses e (free w.put) (λ j u. j < key.entries → StampFits key.carried w.log (h.place + 1) j u (w.stamps j))
        (λ room. let d = i.reclaimed.dead h.place withdrawn e mine in subst (λ (s : StampWord). StampFits key.carried w.log (h.place + 1) e (free w.put) s) (sym d.1) (wd, omega arith))
        (λ j apart room. more j (w.uses j) (w.stamps j) (i.stamps.fits j room)) where
          more : (j : ℕ) (u : Use) (s : StampWord) → StampFits key.carried w.log w.returned j u s → StampFits key.carried w.log (h.place + 1) j u s
          more j (holds x) Unborn f = f
          more j (holds x) (Live kind other) f = f
          more j (holds x) (Dead kind other d) f = f
          more j (free y) Unborn f = f
          more j (free y) (Live kind other) f = f
          more j (free y) (Dead kind other d) f = let a = f.1 in let b = low in (f.0, omega arith)
          more j (in_hand seat y) Unborn f = f
          more j (in_hand seat y) (Live kind other) f = f
          more j (in_hand seat y) (Dead kind other d) f = let a = f.1 in let b = low in (f.0, omega arith)

    -- ---- no cursor is left at the entry

    pub cursors_given : (other : ℕ) (u : View) → get_elem? views other ≡ some u → h.freed ≡ v.key.sizes.callers
        → Cursors key (m NEXT) w.log w.chains w.linked w.begun (h.place + 1) w.mark w.freed other u
    cursors_given other u there all c is = let f = i.cursors other u there c is in record {
      table = f.table;
      bucket = f.bucket;
      stands = ⊎_elim (λ x. inl x) (λ loose.
          let pin = (i.fits_pin other u there) in let s = session_of key.sizes.callers w.accounts w.owner other u (i.owns other u there) (pin.session (pin.cursor_pinned c is)) in
          let a : w.freed s.0 < w.begun = loose.unscanned s.0 s.1 in
          let b : h.place < w.freed s.0 = (i.scans id v at h holding).free_of s.0 (let z = s.2 in let y : h.freed ≡ key.sizes.callers = all ∙ ap (λ (k : Key). k.sizes.callers) knows in omega arith) in
          let x = begun_is in absurd (omega arith)) f.stands;
      once = f.once;
    }

-- ---- the store of the entry: the place of the count put is that of none that rests in the ring

pub in_one_turn : (key : Key) (m : ℕ → ℕ → ℕ) (w : World) (views : List View) (i : Inv key m w views) (d j x : ℕ) → IsWd w.log d j x → w.returned ≤ d → w.put < w.taken + key.entries
in_one_turn key m w views i d j x wd low =
    let a = live_most key.carried w.log i.log.lawful in let b = count_through w.log d j x wd in
    let f : withdrawals (updates (take w.returned w.log)) ≤ withdrawals (updates (take d w.log)) = count_take (λ u. not (is_declaration u)) w.log w.returned d low in
    let g : withdrawals (updates (take (d + 1) w.log)) ≤ withdrawals (updates w.log) = count_whole (λ u. not (is_declaration u)) w.log (d + 1) in let c = i.counts.took in let e = i.counts.gave in omega arith

pub ring_stored : (key : Key) (m : ℕ → ℕ → ℕ) (w : World) (views : List View) (i : Inv key m w views) (d j x p : ℕ) → IsWd w.log d j x → w.returned ≤ d → p ≡ w.put
    → RingPart key (set_at (m GIVE) (p % key.entries) x) w.uses w.taken w.put w.ring
ring_stored key m w views i d j x p wd low is = record {
  named = λ k a b. set_away (m GIVE) (p % key.entries) (k % key.entries) x
      (λ same. let turn = in_one_turn key m w views i d j x wd low in let z : k ≡ p = one_turn k p key.entries (omega arith) (omega arith) same in omega arith) ∙ i.ring.named k a b;
  rests = i.ring.rests;
  none_else = i.ring.none_else;
}
