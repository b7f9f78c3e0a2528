-- What a query meets at a look (kind 7) is of the bucket of its walk.
use Rattle.std.proofs.Common.{◌≡◌, ℕ, ◌<◌, ◌≤◌, inl, inr, ⊎_elim, List, ◌++◌, length, length-append, true, true≢false, Some, None, sym, refl, ap, ◌∙◌, subst, arith}
use mathlib.Core.Option.{some}
use lib.ListN.{get_elem?}
use Rattle.iscc_header.specs.declared.unit.Unit64.{Unit64}
use Rattle.mih_plan.specs.Buckets.{bucket_of}
use Rattle.reg_words.specs.declared.word.StampWord.{StampWord}
use Rattle.reg_words.specs.declared.word.StampWord.TheVariants.{Unborn, Live, Dead}
use Rattle.reg_words.specs.Memory.{CODE}
use Rattle.reg_rule.specs.declared.view.Key.{Key}
use Rattle.reg_rule.specs.declared.view.Cursor.{Cursor}
use Rattle.reg_rule.specs.declared.view.View.{View}
use Rattle.reg_rule.specs.inner.World.{Use, holds, free, in_hand, World}
use Rattle.reg_rule.specs.Log.{Declares}
use Rattle.reg_rule.specs.Tables.{is_in}
use Rattle.reg_rule.specs.inner.Entries.{StampFits}
use Rattle.reg_rule.specs.inner.Queries.{MetFits, IsYoung}
use Rattle.reg_rule.specs.Moves.{id_of}
use Rattle.reg_rule.specs.inner.Rule.{Inv}
use Rattle.reg_rule.proofs.Once.{wd_declares}
use Rattle.reg_rule.proofs.Variants.{some_same, none_some}

module _ (key : Key) (m : ℕ → ℕ → ℕ) (w : World) (views : List View) (id : ℕ) (v : View) (i : Inv key m w views) (at : get_elem? views id ≡ some v)
    (c : Cursor) (cursor : v.cursor ≡ Some c) (k : ℕ) (snapshot : v.snapshot ≡ Some k) where
  seen : k ≤ length w.log
  seen = let a = ((i.fits_pin id v at).fronts k (inr snapshot)).2 in let s = i.saw id v at in let b : length w.log ≡ length (v.log ++ s.0) = ap length s.1 in let d = length-append v.log s.0 in omega arith

  some_none : (n : ℕ) → Some n ≡ None → ⊥
  some_none n e = cc

  -- an entry of a chain that is in a hand was written
  in_hand_unborn : (t seat j : ℕ) → t < 4 → w.linked t c.entry ≡ true → w.uses c.entry ≡ in_hand seat j → w.stamps c.entry ≡ Unborn
  in_hand_unborn t seat j small linked hand = let o = i.in_hands c.entry seat j hand in let f = i.hands seat o.0 o.2 j o.1 o.3 in
      let is : is_in t o.1.linked ≡ true = sym (f.tables t small) ∙ (ap (w.linked t) o.4 ∙ linked) in
      ap w.stamps (sym o.4) ∙ f.unborn (f.written t is).0

  pub met_fits : MetFits key (m CODE) w.log w.uses w.linked k (record { table = c.table; bucket = c.bucket; entry = c.entry; id = id_of (w.stamps c.entry) })
  met_fits = let f = i.cursors id v at c cursor in record {
    table = f.table;
    inside = ⊎_elim (λ x. (i.chains.inside c.table c.bucket c.entry x).0) (λ loose. i.log.entries loose.reclaimed.0 _ loose.reclaimed.2.withdraws) f.stands;
    named = λ n is. ⊎_elim
        (λ x. let o = i.chains.inside c.table c.bucket c.entry x in chain_named n f.table o.0 o.1 o.2 (w.uses c.entry) (w.stamps c.entry) refl refl (i.stamps.fits c.entry o.0) is)
        (λ loose. let r = loose.reclaimed in let d = i.reclaimed.dead r.0 r.1 c.entry r.2 in let same : r.1 ≡ n = some_same r.1 n (sym (ap id_of d.1) ∙ is) in
        let dec = wd_declares key.carried w.log r.0 r.1 c.entry i.log.lawful r.2.withdraws in
        (dec.0, subst (λ (z : ℕ). Declares key.carried w.log z dec.0 c.entry) same dec.1, loose.bucket r.0 r.1 dec.0 r.2.withdraws r.2.last dec.1)) f.stands;
    unborn = λ is. ⊎_elim
        (λ x. let o = i.chains.inside c.table c.bucket c.entry x in (chain_young f.table o.0 o.1 (w.uses c.entry) (w.stamps c.entry) refl refl (i.stamps.fits c.entry o.0) is, o.1, o.2))
        (λ loose. let r = loose.reclaimed in let d = i.reclaimed.dead r.0 r.1 c.entry r.2 in absurd (some_none r.1 (sym (ap id_of d.1) ∙ is))) f.stands;
  } where
    holds_named : (x n : ℕ) (s : StampWord) → StampFits key.carried w.log w.returned c.entry (holds x) s → id_of s ≡ Some n → x ≡ n
    holds_named x n Unborn h e = absurd (none_some n e)
    holds_named x n (Live kind other) h e = sym h.0 ∙ some_same other n e
    holds_named x n (Dead kind other d) h e = sym h.0 ∙ some_same other n e

    chain_named : (n : ℕ) → c.table < 4 → c.entry < key.entries → w.linked c.table c.entry ≡ true → bucket_of (m CODE c.entry) c.table key.sizes.bits ≡ c.bucket → (u : Use) (s : StampWord) → w.uses c.entry ≡ u → w.stamps c.entry ≡ s
        → StampFits key.carried w.log w.returned c.entry (w.uses c.entry) (w.stamps c.entry) → id_of (w.stamps c.entry) ≡ Some n → (unit : Unit64) × Declares key.carried w.log n unit c.entry × (bucket_of unit.body c.table key.sizes.bits ≡ c.bucket)
    chain_named n small room linked bucket (holds x) s p q h e =
        let same : x ≡ n = holds_named x n (w.stamps c.entry) (subst (λ (z : Use). StampFits key.carried w.log w.returned c.entry z (w.stamps c.entry)) p h) e in
        let mine : w.uses c.entry ≡ holds n = p ∙ ap holds same in let d = (i.uses.holding n c.entry room mine).0 in
        (d.0, d.1, ap (λ (b : ℕ). bucket_of b c.table key.sizes.bits) (sym (i.codes.bodies n c.entry d.0 mine d.1)) ∙ bucket)
    chain_named n small room linked bucket (free j) s p q h e = absurd (true≢false (sym linked ∙ i.links.ring c.table c.entry j small room p))
    chain_named n small room linked bucket (in_hand seat j) s p q h e = absurd (none_some n (sym (ap id_of (in_hand_unborn c.table seat j small linked p)) ∙ e))

    chain_young : c.table < 4 → c.entry < key.entries → w.linked c.table c.entry ≡ true → (u : Use) (s : StampWord) → w.uses c.entry ≡ u → w.stamps c.entry ≡ s
        → StampFits key.carried w.log w.returned c.entry (w.uses c.entry) (w.stamps c.entry) → id_of (w.stamps c.entry) ≡ None → IsYoung key.carried.base k (w.uses c.entry)
    chain_young small room linked (holds x) Unborn p q h e = let g : StampFits key.carried w.log w.returned c.entry (holds x) Unborn = subst (λ (z : StampWord). StampFits key.carried w.log w.returned c.entry (holds x) z) q (subst (λ (z : Use). StampFits key.carried w.log w.returned c.entry z (w.stamps c.entry)) p h) in
        let a = g.1 in let b = g.2 in let s = seen in inr (x, p, omega arith)
    chain_young small room linked (holds x) (Live kind other) p q h e = absurd (some_none other (sym (ap id_of q) ∙ e))
    chain_young small room linked (holds x) (Dead kind other d) p q h e = absurd (some_none other (sym (ap id_of q) ∙ e))
    chain_young small room linked (free j) s p q h e = absurd (true≢false (sym linked ∙ i.links.ring c.table c.entry j small room p))
    chain_young small room linked (in_hand seat j) s p q h e = inl (seat, j, p)
