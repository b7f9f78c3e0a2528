-- Where the holder of the sweep is in the log, and what is in limbo there.
use Rattle.std.proofs.Common.{◌≡◌, ℕ, ◌<◌, ◌≤◌, true, false, List, ◌++◌, length, Some, ap, ◌∙◌, subst, arith}
use mathlib.Core.Option.{some}
use lib.ListN.{get_elem?}
use Rattle.reg_words.specs.declared.word.SweepWord.{SweepWord}
use Rattle.reg_rule.specs.declared.view.Key.{Key}
use Rattle.reg_rule.specs.declared.view.Place.{Place}
use Rattle.reg_rule.specs.declared.view.Holding.{Holding}
use Rattle.reg_rule.specs.declared.view.View.{View}
use Rattle.reg_rule.specs.Log.{IsWd}
use Rattle.reg_rule.specs.inner.World.{World}
use Rattle.reg_rule.specs.inner.Rule.{Inv}
use Rattle.reg_rule.proofs.Shows.{at_inside}
use Rattle.reg_rule.proofs.WordKept.{at_shorter}

module _ (key : Key) (m : ℕ → ℕ → ℕ) (w : World) (views : List View) (id : ℕ) (v : View) (i : Inv key m w views) (at : get_elem? views id ≡ some v) (h : Holding) (has : v.holding ≡ Some h) where
  pub reached : h.place ≤ length w.log
  reached = (i.at_word id v at h has).within

  module _ (on : h.word.limbo ≡ true) (unpaid : h.paid ≡ false) where
    pub limbo_is : (x : ℕ) × (e : ℕ) × IsWd w.log h.place x e
    limbo_is =
        let o = i.at_word id v at h has in let here = o.limbo on in let same : w.word.place ≡ h.word.place = ap (λ (s : SweepWord). s.place) o.word_is in
        let l = (i.sweep.limbo (ap (λ (s : SweepWord). s.limbo) o.word_is ∙ on)).0 in let low = (i.gives id v at h has).kept unpaid on in
        let work = i.sweep.at_work (omega arith) in let last = work.3.last in
        (work.1, work.2, subst (λ (n : ℕ). IsWd w.log n work.1 work.2) (let e : work.0 ≡ h.place = omega arith in e) work.3.withdraws)

    pub limbo_inside : h.place < length w.log
    limbo_inside = at_inside w.log h.place _ limbo_is.2

    pub limbo_seen : (seen more : List Place) → w.log ≡ seen ++ more → h.place < length seen → (x : ℕ) × (e : ℕ) × IsWd seen h.place x e
    limbo_seen seen more is low = (limbo_is.0, limbo_is.1, at_shorter seen more h.place _ low (subst (λ (l : List Place). IsWd l h.place limbo_is.0 limbo_is.1) is limbo_is.2))

  -- so it is no further than there are places
  pub place_most : (h.place ≤ key.sizes.log) × (h.word.limbo ≡ true → h.paid ≡ false → h.place < key.sizes.log)
  place_most = let short = i.log.short in ((let r = reached in omega arith), (λ on unpaid. let r = limbo_inside on unpaid in omega arith))
