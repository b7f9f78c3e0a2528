-- The word of the sweep, and what the seats know of it, after the holder stores it (kind 19).
use Rattle.std.proofs.Common.{◌≡◌, ℕ, zero, suc, ◌+◌, ◌<◌, ◌≤◌, ◌⊎◌, cond, inl, inr, ⊎_elim, List, [], ◌∷◌, ◌++◌, length, length-append, is_some, Bool, true, false, true≢false, Option, Some, sym, refl, ap, ◌∙◌, subst, lt_of_not-le, arith}
use mathlib.Core.Logic.{dite}
use native.Mathlib.Decide.{ℕ_discrete, dec_le}
use mathlib.Core.Option.{some}
use lib.ListN.{get_elem?}
use Rattle.reg_words.specs.declared.word.SweepWord.{SweepWord}
use Rattle.reg_words.specs.Packing.{bit, sweep_word}
use Rattle.reg_rule.specs.declared.view.Key.{Key}
use Rattle.reg_rule.specs.declared.view.Place.{Place}
use Rattle.reg_rule.specs.declared.view.Holding.{Holding}
use Rattle.reg_rule.specs.declared.view.View.{View}
use Rattle.reg_rule.specs.Log.{At, IsWd, NoneWithdrawn}
use Rattle.reg_rule.specs.inner.World.{World}
use Rattle.reg_rule.specs.inner.SeatParts.{Saw}
use Rattle.reg_rule.specs.inner.Sweeping.{SweepPart}
use Rattle.reg_rule.specs.SweepWords.{rank, let_go}
use Rattle.reg_rule.specs.Tables.{are_all}
use Rattle.reg_rule.specs.inner.HolderParts.{LastWordFits, WordFits, CutsFit}
use Rattle.reg_rule.specs.Conditions.{IsNextWord}
use Rattle.reg_rule.specs.inner.Rule.{Inv}

-- what the holder may store, as cases
pub data Stores (v : View) (h : Holding) (word : SweepWord) : Type 0 where
  on : h.paid ≡ true → word.limbo ≡ false → word.place ≡ h.place + 1 → word.mark ≡ 0 → Stores v h word
  stays : h.paid ≡ false → h.word.limbo ≡ true → let_go word ≡ let_go h.word → Stores v h word
  enters : h.paid ≡ false → h.word.limbo ≡ false → word.limbo ≡ true → word.place ≡ h.place → h.marked ≡ Some word.mark → Stores v h word
  passes : h.paid ≡ false → h.word.limbo ≡ false → h.cut ≡ [] → word.limbo ≡ false → word.mark ≡ 0 → h.place ≤ word.place → word.place ≤ length v.log → NoneWithdrawn v.log h.place word.place → Stores v h word

pub stores : (v : View) (h : Holding) (word : SweepWord) → IsNextWord v h word → Stores v h word
stores v h word next = by_paid h.paid refl next where
  by_paid : (b : Bool) → h.paid ≡ b → cond b ((word.limbo ≡ false) × (word.place ≡ h.place + 1) × (word.mark ≡ 0))
      (cond h.word.limbo (let_go word ≡ let_go h.word)
      (((word.limbo ≡ true) × (word.place ≡ h.place) × (h.marked ≡ Some word.mark))
      ⊎ ((h.cut ≡ []) × (word.limbo ≡ false) × (word.mark ≡ 0) × (h.place ≤ word.place) × (word.place ≤ length v.log) × NoneWithdrawn v.log h.place word.place))) → Stores v h word
  by_paid true is n = on is n.0 n.1 n.2
  by_paid false is n = by_limbo h.word.limbo refl n where
    by_limbo : (b : Bool) → h.word.limbo ≡ b → cond b (let_go word ≡ let_go h.word)
        (((word.limbo ≡ true) × (word.place ≡ h.place) × (h.marked ≡ Some word.mark))
        ⊎ ((h.cut ≡ []) × (word.limbo ≡ false) × (word.mark ≡ 0) × (h.place ≤ word.place) × (word.place ≤ length v.log) × NoneWithdrawn v.log h.place word.place)) → Stores v h word
    by_limbo true q n = stays is q n
    by_limbo false q n = ⊎_elim (λ x. enters is q x.0 x.1 x.2) (λ x. passes is q x.0 x.1 x.2 x.3 x.4 x.5) n

bit_true : (b : Bool) → b ≡ true → bit b ≡ 1
bit_true b e = ap bit e

bit_false : (b : Bool) → b ≡ false → bit b ≡ 0
bit_false b e = ap bit e

pub at_shorter : {A : Type 0} (l m : List A) (n : ℕ) (x : A) → n < length l → At (l ++ m) n x → At l n x
at_shorter [] m n x h e = absurd (omega arith)
at_shorter (y ∷ l) m zero x h e = e
at_shorter (y ∷ l) m (suc n) x h e = at_shorter l m n x (omega arith) e

module _ (key : Key) (m : ℕ → ℕ → ℕ) (w : World) (views : List View) (id : ℕ) (v : View) (i : Inv key m w views) (at : get_elem? views id ≡ some v)
    (h : Holding) (holding : v.holding ≡ Some h) (word : SweepWord) where
  fits : WordFits w.log w.word h.word h.place
  fits = i.at_word id v at h holding

  cuts : CutsFit w.begun w.returned (length v.log) w.mark h.word.limbo h.stamped h.place h.cut h.marked
  cuts = i.cuts id v at h holding

  given : h.paid ≡ true → (h.word.limbo ≡ true) × (w.returned ≡ h.place + 1)
  given = (i.gives id v at h holding).back

  -- the word only rises
  pub rises : Stores v h word → (rank w.word < rank word) ⊎ ((rank w.word ≡ rank word) × (let_go word ≡ let_go w.word))
  rises (on paid limbo place mark) = let a = given paid in let b = fits.limbo a.0 in let c = bit_true h.word.limbo a.0 in let d = bit_false word.limbo limbo in
      let e : rank w.word ≡ rank h.word = ap rank fits.word_is in inl (omega arith)
  rises (stays paid limbo same) = inr (ap rank fits.word_is ∙ sym (ap rank same), same ∙ ap let_go (sym fits.word_is))
  rises (enters paid limbo enter place mark) = let b = fits.from in let c = bit_false h.word.limbo limbo in let d = bit_true word.limbo enter in
      let e : rank w.word ≡ rank h.word = ap rank fits.word_is in inl (omega arith)
  rises (passes paid limbo none out mark more within clear) = let b = fits.from in let c = bit_false h.word.limbo limbo in let d = bit_false word.limbo out in
      let e : rank w.word ≡ rank h.word = ap rank fits.word_is in
      dite (ℕ_discrete word.place h.word.place)
      (λ same. let g : rank w.word ≡ rank word = omega arith in inr (g, same_word same))
      (λ apart. inl (omega arith)) where
        same_word : word.place ≡ h.word.place → let_go word ≡ let_go w.word
        same_word same = let old : w.word.limbo ≡ false = ap (λ (s : SweepWord). s.limbo) fits.word_is ∙ limbo in
            let p : word.place ≡ w.word.place = same ∙ ap (λ (s : SweepWord). s.place) (sym fits.word_is) in
            let l : word.limbo ≡ w.word.limbo = out ∙ sym old in
            let k : word.mark ≡ w.word.mark = mark ∙ sym (i.sweep.unmarked old) in
            λ x. record { held = false; limbo = l x; place = p x; mark = k x }

  -- what all seats know of it
  pub last_kept : Stores v h word → (last : SweepWord) → LastWordFits w.word last → LastWordFits word last
  last_kept s last f = let a = f.rises in ⊎_elim
      (λ less. record { free = f.free; rises = omega arith; same = λ z. absurd (omega arith) })
      (λ (t : (rank w.word ≡ rank word) × (let_go word ≡ let_go w.word)). let b = t.0 in record { free = f.free; rises = omega arith; same = λ z. f.same (z ∙ sym b) ∙ sym t.1 })
      (rises s)

  low : h.word.limbo ≡ false → (d j x : ℕ) → h.place ≤ d → IsWd w.log d j x → w.returned ≤ d
  low limbo d j x from wd = let a : w.word.place ≤ h.place = subst (λ (s : SweepWord). s.place ≤ h.place) (sym fits.word_is) fits.from in
      dite (dec_le w.returned d) (λ le. le) (λ big. let less : d < w.returned = lt_of_not-le big in let b : w.word.place ≤ d = omega arith in
      absurd (true≢false (sym (i.sweep.ahead d j x b less wd).0 ∙ (ap (λ (s : SweepWord). s.limbo) fits.word_is ∙ limbo))))

  -- the word keeps what it says of the log
  pub sweep_stored : (cells : ℕ → ℕ) (holder : Option ℕ) → cells 0 ≡ sweep_word word → word.held ≡ is_some holder → Saw w.log id v → Stores v h word → SweepPart cells w.log word holder w.begun w.returned
  sweep_stored cells holder stored held saw s = by_case s where
    longer : length v.log ≤ length w.log
    longer = let a : length w.log ≡ length (v.log ++ saw.0) = ap length saw.1 in let b = length-append v.log saw.0 in omega arith

    seen : (d j x : ℕ) → d < length v.log → IsWd w.log d j x → IsWd v.log d j x
    seen d j x less wd = at_shorter v.log saw.0 d _ less (subst (λ (l : List Place). IsWd l d j x) saw.1 wd)

    by_case : Stores v h word → SweepPart cells w.log word holder w.begun w.returned
    by_case (on paid limbo place mark) = let a = given paid in let old : w.word.limbo ≡ true = ap (λ (x : SweepWord). x.limbo) fits.word_is ∙ a.0 in
        let b = (i.sweep.limbo old).0 in let c : h.place ≡ w.word.place = fits.limbo a.0 ∙ ap (λ (x : SweepWord). x.place) (sym fits.word_is) in let r = a.1 in record {
          word_is = stored;
          held = held;
          order = i.sweep.order;
          seen = i.sweep.seen;
          at_work = i.sweep.at_work;
          within = let z = i.sweep.seen in omega arith;
          passed = λ d j x p q wd. absurd (omega arith);
          ahead = λ d j x p q wd. absurd (omega arith);
          limbo = λ z. absurd (true≢false (sym z ∙ limbo));
          unmarked = λ z. mark;
          rests = λ none z. omega arith;
          waits = λ none z. absurd (true≢false (sym z ∙ limbo));
        }
    by_case (stays paid limbo same) = let old : w.word.limbo ≡ true = ap (λ (x : SweepWord). x.limbo) fits.word_is ∙ limbo in
        let p : word.place ≡ w.word.place = ap (λ (x : SweepWord). x.place) same ∙ ap (λ (x : SweepWord). x.place) (sym fits.word_is) in
        let l : word.limbo ≡ true = ap (λ (x : SweepWord). x.limbo) same ∙ limbo in
        let k : word.mark ≡ w.word.mark = ap (λ (x : SweepWord). x.mark) same ∙ ap (λ (x : SweepWord). x.mark) (sym fits.word_is) in
        let g = i.sweep.limbo old in record {
          word_is = stored;
          held = held;
          order = i.sweep.order;
          seen = i.sweep.seen;
          at_work = i.sweep.at_work;
          within = let z = i.sweep.within in omega arith;
          passed = λ d j x a b wd. i.sweep.passed d j x a (omega arith) wd;
          ahead = λ d j x a b wd. (l, let z = (i.sweep.ahead d j x (omega arith) b wd).1 in omega arith);
          limbo = λ z. let a = g.0 in let b = g.1 in let c = g.2 in (omega arith, omega arith, omega arith);
          unmarked = λ z. absurd (true≢false (sym l ∙ z));
          rests = λ none z. absurd (true≢false (sym l ∙ z));
          waits = λ none z. let a = (i.gives id v at h holding).kept paid limbo in let b : h.place ≡ w.word.place = fits.limbo limbo ∙ ap (λ (x : SweepWord). x.place) (sym fits.word_is) in omega arith;
        }
    by_case (enters paid limbo enter place mark) = let all = cuts.mark_is word.mark limbo mark in
        let some_cut : h.cut ≡ [] → ⊥ = λ none. true≢false (sym all.1 ∙ ap are_all none) in
        let c = cuts.cut limbo some_cut in
        let before : NoneWithdrawn w.log w.returned h.place = λ d j x a b wd. dite (dec_le w.word.place d)
        (λ le. fits.between limbo d j x (subst (λ (z : SweepWord). z.place ≤ d) fits.word_is le) b wd) (λ big. i.sweep.passed d j x a (lt_of_not-le big) wd) in record {
          word_is = stored;
          held = held;
          order = i.sweep.order;
          seen = i.sweep.seen;
          at_work = i.sweep.at_work;
          within = let z = fits.within in omega arith;
          passed = λ d j x a b wd. before d j x a (omega arith) wd;
          ahead = λ d j x a b wd. let z = c.1 in absurd (omega arith);
          limbo = λ z. let a = c.0 in let work = i.sweep.at_work (let y = c.1 in omega arith) in
              let ap_art = i.reclaimed.apart work.0 work.1 work.2 word.mark work.3 all.0 in let last = work.3.last in let b = ap_art.1 in let d = ap_art.2 in (omega arith, omega arith, d);
          unmarked = λ z. absurd (true≢false (sym enter ∙ z));
          rests = λ none z. absurd (true≢false (sym enter ∙ z));
          waits = λ none z. let a = c.1 in omega arith;
        }
    by_case (passes paid limbo none out mark more within clear) = let rest = cuts.uncut limbo none in
        let clear_log : NoneWithdrawn w.log h.place word.place = λ d j x a b wd. clear d j x a b (seen d j x (omega arith) wd) in
        let before : NoneWithdrawn w.log w.returned word.place = λ d j x a b wd. dite (dec_le h.place d) (λ le. clear_log d j x le b wd)
        (λ big. let less : d < h.place = lt_of_not-le big in dite (dec_le w.word.place d)
        (λ le. fits.between limbo d j x (subst (λ (z : SweepWord). z.place ≤ d) fits.word_is le) less wd) (λ far. i.sweep.passed d j x a (lt_of_not-le far) wd)) in record {
          word_is = stored;
          held = held;
          order = i.sweep.order;
          seen = i.sweep.seen;
          at_work = i.sweep.at_work;
          within = let z = within in let y = longer in omega arith;
          passed = before;
          ahead = λ d j x a b wd. let z = low limbo d j x (omega arith) wd in absurd (omega arith);
          limbo = λ z. absurd (true≢false (sym z ∙ out));
          unmarked = λ z. mark;
          rests = λ none z. rest;
          waits = λ none z. absurd (true≢false (sym z ∙ out));
        }
