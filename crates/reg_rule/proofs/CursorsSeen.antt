-- Cursors after the front is found by the holder (kind 1), and after the second scan of a seat (kind 18).
use Rattle.std.proofs.Common.{◌≡◌, ℕ, ◌+◌, ◌<◌, ◌⊎◌, inl, inr, ⊎_elim, List, length, length-append, ◌++◌, true, Some, sym, refl, ap, ◌∙◌, subst, tests, arith}
use mathlib.Core.Option.{some}
use lib.ListN.{get_elem?}
use Rattle.reg_words.specs.Memory.{PIN, NEXT, set_at}
use Rattle.reg_rule.specs.declared.view.Key.{Key}
use Rattle.reg_rule.specs.declared.view.View.{View}
use Rattle.reg_rule.specs.inner.World.{World}
use Rattle.reg_rule.specs.inner.Walks.{Cursors}
use Rattle.reg_rule.specs.Moves.{is_free}
use Rattle.reg_rule.specs.inner.Rule.{Inv}
use Rattle.reg_rule.proofs.StampsKept.{at_set}
use Rattle.reg_rule.proofs.Variants.{some_same}

module _ (key : Key) (m : ℕ → ℕ → ℕ) (w : World) (views : List View) (id : ℕ) (v : View) (i : Inv key m w views) (at : get_elem? views id ≡ some v) where
  -- the front is above each pin less one
  pub cursors_marked : Cursors key (m NEXT) w.log w.chains w.linked w.begun w.returned (Some (length w.log)) w.freed id v
  cursors_marked c is = let f = i.cursors id v at c is in record {
    table = f.table;
    bucket = f.bucket;
    stands = ⊎_elim (λ x. inl x) (λ loose. inr (record {
      reclaimed = loose.reclaimed;
      bucket = loose.bucket;
      cut = loose.cut;
      leads_back = loose.leads_back;
      pinned = λ n e. let a = (i.fits_pin id v at).covers in let s = i.saw id v at in let b : length w.log ≡ length (v.log ++ s.0) = ap length s.1 in let d = length-append v.log s.0 in
          let g : length w.log ≡ n = some_same (length w.log) n e in omega arith;
      unscanned = loose.unscanned;
    })) f.stands;
    once = f.once;
  }

  -- a seat whose pin is above the mark has no cursor at the entry
  pub cursors_searched : (seat : ℕ) → w.word.limbo ≡ true → is_free (m PIN seat) w.word.mark ≡ true
      → Cursors key (m NEXT) w.log w.chains w.linked w.begun w.returned w.mark (set_at w.freed seat w.begun) id v
  cursors_searched seat limbo free c is = let f = i.cursors id v at c is in record {
    table = f.table;
    bucket = f.bucket;
    stands = ⊎_elim (λ x. inl x) (λ loose. inr (record {
      reclaimed = loose.reclaimed;
      bucket = loose.bucket;
      cut = loose.cut;
      leads_back = loose.leads_back;
      pinned = loose.pinned;
      unscanned = λ n first. at_set w.freed seat w.begun (λ j x. j ≡ n → x < w.begun)
          (λ same. let own = ap (m PIN) first.2 ∙ i.pinned id v at 0 first.0 first.1 in let p = loose.pinned w.word.mark (i.reclaimed.marked limbo) in let q = (i.fits_pin id v at).cursor_pinned c is in
          let word : m PIN seat ≡ v.pin = ap (m PIN) same ∙ own in absurd (⊎_elim (λ z. let a : v.pin ≡ 0 = sym word ∙ z in let y : ⊥ = omega arith in y) (λ z. let y : ⊥ = omega arith in y) (free_of (m PIN seat) w.word.mark free)))
          (λ j apart same. let z = loose.unscanned n first in subst (λ (k : ℕ). w.freed k < w.begun) (sym same) z) n refl;
    })) f.stands;
    once = f.once;
  } where
    free_of : (pin place : ℕ) → is_free pin place ≡ true → (pin ≡ 0) ⊎ (place + 1 < pin)
    free_of pin place h = grind (arith, tests, h)
