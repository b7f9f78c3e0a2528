-- What the rule says where the holder may cut, and the parts of the rule after it (kinds 20 and 21).
use Rattle.std.proofs.Common.{◌≡◌, ℕ, ◌+◌, ◌<◌, ◌≤◌, List, [], ◌∷◌, length, take, Bool, true, false, true≢false, Some, None, sym, refl, ap, ◌∙◌, subst, lt_of_not-le, is_some, arith}
use mathlib.Core.Logic.{dite}
use native.Mathlib.Decide.{dec_le}
use mathlib.Core.Option.{some}
use lib.ListN.{get_elem?}
use Rattle.iscc_header.specs.declared.unit.Unit64.{Unit64}
use Rattle.mih_plan.specs.Buckets.{bucket_of}
use Rattle.reg_words.specs.declared.word.SweepWord.{SweepWord}
use Rattle.reg_words.specs.declared.word.StampWord.TheVariants.{Dead}
use Rattle.reg_words.specs.Memory.{NEXT, SWEEP}
use Rattle.reg_rule.specs.declared.view.Key.{Key}
use Rattle.reg_rule.specs.declared.view.Place.{Place}
use Rattle.reg_rule.specs.declared.view.Holding.{Holding}
use Rattle.reg_rule.specs.declared.view.View.{View}
use Rattle.reg_rule.specs.inner.World.{holds, World}
use Rattle.reg_rule.specs.Log.{IsWd, Declares, IsLiveIn}
use Rattle.reg_rule.specs.Chains.{Member}
use Rattle.reg_rule.specs.inner.ChainParts.{LinksPart}
use Rattle.reg_rule.specs.inner.Sweeping.{IsReclaimed, SweepPart, ReclaimedPart, FloorsPart}
use Rattle.reg_rule.specs.inner.HolderParts.{CutsFit, VictimFits}
use Rattle.reg_rule.specs.Conditions.{MayCut}
use Rattle.reg_rule.specs.inner.Rule.{Inv}
use Rattle.atomic_table.proofs.Lists.{at_longer}
use Rattle.reg_rule.proofs.Shows.{at_inside, declares_more, live_kept}
use Rattle.reg_rule.proofs.Once.{declares_longer, wd_once, wd_same}
use Rattle.reg_rule.proofs.FloorsKept.{floors_cut}
use Rattle.reg_rule.proofs.CursorsCut.{set_in, set_in_away}
use Rattle.reg_rule.proofs.Variants.{none_some, holds_same, not_free}

module _ (key : Key) (m : ℕ → ℕ → ℕ) (w : World) (views : List View) (id : ℕ) (v : View) (i : Inv key m w views) (at : get_elem? views id ≡ some v) (knows : v.key ≡ key)
    (h : Holding) (table withdrawn e : ℕ) (unit : Unit64) (may : MayCut table v h withdrawn e unit) where
  abbrev place : ℕ
  place = h.place

  pub wd : IsWd w.log h.place withdrawn e
  wd = let saw = i.saw id v at in subst (λ (l : List Place). IsWd l h.place withdrawn e) (sym saw.1) (at_longer v.log saw.0 h.place _ may.seeking.withdraws)

  pub dec : Declares key.carried w.log withdrawn unit e
  dec = let saw = i.saw id v at in subst (λ (l : List Place). Declares key.carried l withdrawn unit e) (sym saw.1)
      (declares_longer key.carried v.log saw.0 withdrawn e unit (subst (λ (k : Key). Declares k.carried v.log withdrawn unit e) knows may.seeking.declares))

  still : w.word.limbo ≡ false
  still = let a = i.at_word id v at h may.seeking.holding in ap (λ (s : SweepWord). s.limbo) a.word_is ∙ may.seeking.unmoved

  pub low : w.returned ≤ h.place
  low = let a = i.at_word id v at h may.seeking.holding in let from : w.word.place ≤ h.place = subst (λ (s : SweepWord). s.place ≤ h.place) (sym a.word_is) a.from in
      dite (dec_le w.returned h.place) (λ le. le) (λ big. let less : h.place < w.returned = lt_of_not-le big in
      absurd (true≢false (sym (i.sweep.ahead h.place withdrawn e from less wd).0 ∙ still)))

  inside : e < key.entries
  inside = i.log.entries h.place _ wd

  pub held : w.uses e ≡ holds withdrawn
  held = i.uses.held withdrawn e unit dec (λ d x other. let one = wd_once key.carried w.log h.place d withdrawn e x i.log.lawful wd other in let a = low in omega arith)

  pub victim : VictimFits key (m NEXT) w.stamps w.chains w.linked w.returned h.word.limbo h.stamped h.place h.cut h.behind h.way withdrawn e unit
  victim = i.victims id v at h withdrawn e unit may.seeking.holding may.seeking.withdraws (subst (λ (k : Key). Declares k.carried v.log withdrawn unit e) knows may.seeking.declares)

  pub linked_here : w.linked table e ≡ true
  linked_here = by_test (w.linked table e) refl where
    by_test : (b : Bool) → w.linked table e ≡ b → w.linked table e ≡ true
    by_test true is = is
    by_test false is = absurd (true≢false (sym ((victim.tables table may.table_is may.seeking.unmoved).0 is) ∙ may.seeking.uncut))

  cuts : CutsFit w.begun w.returned (length v.log) w.mark h.word.limbo h.stamped h.place h.cut h.marked
  cuts = i.cuts id v at h may.seeking.holding

  nothing : (t : ℕ) (l : List ℕ) → [] ≡ t ∷ l → ⊥
  nothing t l z = cc

  -- what is being reclaimed, if anything, is this entry
  pub only : (d j x : ℕ) → IsReclaimed w.log w.begun w.returned d j x → w.begun ≡ h.place + 1
  only d j x r = by_tables h.cut refl where
    by_tables : (l : List ℕ) → h.cut ≡ l → w.begun ≡ h.place + 1
    by_tables [] is = let a = cuts.uncut may.seeking.unmoved is in let b = r.last in let c = r.kept in absurd (omega arith)
    by_tables (t ∷ l) is = (cuts.cut may.seeking.unmoved (λ none. nothing t l (sym none ∙ is))).0

  pub begun_low : w.begun ≤ h.place + 1
  begun_low = by_tables h.cut refl where
    by_tables : (l : List ℕ) → h.cut ≡ l → w.begun ≤ h.place + 1
    by_tables [] is = let a = cuts.uncut may.seeking.unmoved is in let b = low in omega arith
    by_tables (t ∷ l) is = let a = (cuts.cut may.seeking.unmoved (λ none. nothing t l (sym none ∙ is))).0 in omega arith

  pub there : Member e (w.chains table (bucket_of unit.body table key.sizes.bits))
  there = subst (λ (b : ℕ). Member e (w.chains table (bucket_of b table key.sizes.bits))) (i.codes.bodies withdrawn e unit held dec) (i.chains.whole table e may.table_is inside linked_here)

  all_scanned : h.clear ≡ key.sizes.callers
  all_scanned = may.scanned ∙ ap (λ (k : Key). k.sizes.callers) knows

  -- ---- the parts after it

  pub floors_after : FloorsPart key.sizes.callers w.log w.word (h.place + 1) w.returned w.floor w.freed
  floors_after = floors_cut key w.log w.word w.begun w.returned w.floor w.freed w.mark h.marked h.stamped h.place h.clear h.freed (length v.log) h.cut still low all_scanned
      (i.scans id v at h may.seeking.holding) (subst (λ (b : Bool). CutsFit w.begun w.returned (length v.log) w.mark b h.stamped h.place h.cut h.marked) (may.seeking.unmoved ∙ sym still) cuts) i.floors

  -- no cursor was found free of the entry
  pub unscanned : (n : ℕ) → n < key.sizes.callers → w.freed n < h.place + 1
  unscanned n small = floors_after.unscanned n small still (let a = low in omega arith)

  pub sweep_after : (cells : ℕ → ℕ) → cells 0 ≡ m SWEEP 0 → SweepPart cells w.log w.word w.holder (h.place + 1) w.returned
  sweep_after cells same = record {
    word_is = same ∙ i.sweep.word_is;
    held = i.sweep.held;
    order = let a = low in omega arith;
    seen = let a = at_inside w.log h.place _ wd in omega arith;
    at_work = λ open_work. (h.place, withdrawn, e, record { last = refl; kept = low; withdraws = wd }, λ d j x from_d to_d other. none_before d j x from_d to_d other);
    within = i.sweep.within;
    passed = i.sweep.passed;
    ahead = i.sweep.ahead;
    limbo = λ z. absurd (true≢false (sym z ∙ still));
    unmarked = i.sweep.unmarked;
    rests = λ none z. absurd (no_seat none);
    waits = λ none z. absurd (true≢false (sym z ∙ still));
  } where
    no_seat : w.holder ≡ None → ⊥
    no_seat none = some_none (sym none ∙ (i.is_holder id v at).0 (ap is_some may.seeking.holding)) where
      some_none : None ≡ Some id → ⊥
      some_none z = cc

    none_before : (d j x : ℕ) → w.returned ≤ d → d < h.place → IsWd w.log d j x → ⊥
    none_before d j x a b other = let k = i.at_word id v at h may.seeking.holding in
        dite (dec_le w.word.place d)
        (λ le. k.between may.seeking.unmoved d j x (subst (λ (s : SweepWord). s.place ≤ d) k.word_is le) b other)
        (λ big. i.sweep.passed d j x a (lt_of_not-le big) other)

  pub reclaimed_after : ReclaimedPart w.log w.stamps (set_in w.linked table e false) w.word (h.place + 1) w.returned None
  reclaimed_after = record {
    dead = λ d j x r. let same : d ≡ h.place = (let a = r.last in omega arith) in
        let both = wd_same w.log h.place j withdrawn x e (subst (λ (k : ℕ). IsWd w.log k j x) same r.withdraws) wd in
        (unit.kind, ap w.stamps both.1 ∙ (victim.dead may.seeking.stamped low ∙ (ap (λ (k : ℕ). Dead unit.kind k h.place) (sym both.0) ∙ ap (Dead unit.kind j) (sym same))));
    apart = λ d j x n r none. absurd (none_some n none);
    marked = λ z. absurd (true≢false (sym z ∙ still));
  }

  pub links_after : LinksPart key w.log (h.place + 1) w.uses (set_in w.linked table e false)
  links_after = record {
    held = λ t j x small room is kept. set_in_away w.linked table e t x false (λ p q. let same : withdrawn ≡ j = holds_same withdrawn j (sym held ∙ (ap w.uses (sym q) ∙ is)) in
        let a = kept h.place e (subst (λ (k : ℕ). IsWd w.log h.place k e) same wd) in not_less h.place a)
        ∙ i.links.held t j x small room is (λ d y other. let a = kept d y other in let b = begun_low in omega arith);
    ring = λ t x j small room is. set_in_away w.linked table e t x false (λ p q. not_free j withdrawn (sym is ∙ (ap w.uses q ∙ held))) ∙ i.links.ring t x j small room is;
  } where
    not_less : (n : ℕ) → n + 1 ≤ n → ⊥
    not_less n a = omega arith

  -- ---- what a walk needs

  -- nothing that is live at a front on which a seat relies is in this entry
  pub not_needed : (k j : ℕ) (u : Unit64) → h.place + 1 ≤ k → k ≤ length w.log → IsLiveIn key.carried (take k w.log) j u e → ⊥
  not_needed k j u above most live =
      let d = declares_more key.carried w.log k j e u live.declares in let kept = live_kept key.carried w.log k j e u most live in let a = low in
      let is : w.uses e ≡ holds j = i.uses.held j e u d (λ c x other. let b = kept c x other in omega arith) in
      let same : withdrawn ≡ j = holds_same withdrawn j (sym held ∙ is) in
      let b = kept h.place e (subst (λ (z : ℕ). IsWd w.log h.place z e) same wd) in absurd (omega arith)
