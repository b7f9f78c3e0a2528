-- For readers: an entry that is being reclaimed is linked in just the tables in which it was not taken out of its chain.
use Rattle.std.proofs.Common.{◌≡◌, ℕ, ◌+◌, ◌<◌, ◌≤◌, inl, inr, ⊎_elim, Bool, true, false, true≢false, List, [], length, take, Option, Some, None, sym, refl, ap, ◌∙◌, subst, lt_of_not-le, arith}
use Rattle.std.proofs.lemmas.List.{take-append-le}
use mathlib.Core.Logic.{dite}
use native.Mathlib.Decide.{dec_le, ℕ_discrete}
use Rattle.iscc_header.specs.declared.unit.Unit64.{Unit64}
use Rattle.reg_words.specs.declared.word.SweepWord.{SweepWord}
use Rattle.reg_rule.specs.declared.view.Key.{Key}
use Rattle.reg_rule.specs.declared.view.Place.{Place}
use Rattle.reg_rule.specs.declared.view.Holding.{Holding}
use Rattle.reg_rule.specs.declared.view.View.{View}
use Rattle.reg_rule.specs.Log.{IsWd, Declares, IsKeptUpTo}
use Rattle.reg_rule.specs.Tables.{is_in}
use Rattle.reg_rule.specs.ReadersLog.{IsSeatOf}
use Rattle.reg_rule.specs.ReadersChains.{IsCutAt}
use Rattle.reg_rule.specs.inner.World.{World, holds}
use Rattle.reg_rule.specs.inner.Sweeping.{IsReclaimed}
use Rattle.reg_rule.specs.inner.Rule.{Inv}
use Rattle.reg_rule.proofs.Shows.{declares_more}
use Rattle.reg_rule.proofs.Once.{wd_entry, wd_same}
use Rattle.reg_rule.proofs.WordKept.{at_shorter}
use Rattle.reg_rule.proofs.ReadersGiven.{holder_seat}

not_empty : (table : ℕ) (l : List ℕ) → is_in table l ≡ true → l ≡ [] → ⊥
not_empty table l e none = true≢false (sym e ∙ ap (is_in table) none)

module _ (key : Key) (m : ℕ → ℕ → ℕ) (w : World) (views : List View) (i : Inv key m w views) where
  -- what the place of a holder withdraws, as it has seen it
  seen_wd : (seat : ℕ) (v : View) (d id entry : ℕ) → IsSeatOf views seat v → d < length v.log → IsWd w.log d id entry → IsWd v.log d id entry
  seen_wd seat v d id entry at low wd = let s = i.saw seat v at in at_shorter v.log s.0 d _ low (subst (λ (l : List Place). IsWd l d id entry) s.1 wd)

  seen_decl : (seat : ℕ) (v : View) (d id entry : ℕ) → IsSeatOf views seat v → d < length v.log → IsWd w.log d id entry → (unit : Unit64) × Declares key.carried v.log id unit entry
  seen_decl seat v d id entry at low wd = let live = i.log.lawful d id entry wd in let s = i.saw seat v at in
      let same : take d w.log ≡ take d v.log = ap (take d) s.1 ∙ take-append-le d v.log s.0 (omega arith) in
      (live.0, declares_more key.carried v.log d id entry live.0 (subst (λ (l : List Place). Declares key.carried l id live.0 entry) same live.1.declares))

  -- the holder at work outside limbo
  at_work : (seat : ℕ) (v : View) (h : Holding) → IsSeatOf views seat v → v.holding ≡ Some h → w.word.limbo ≡ false → h.word.limbo ≡ false
  at_work seat v h at is off = ap (λ (s : SweepWord). s.limbo) (sym (i.at_word seat v at h is).word_is) ∙ off

  -- the unlinking has begun for just the withdrawals up to this place
  pub cut_begun : (table d : ℕ) → IsCutAt views w.word table d → w.begun ≡ d + 1
  cut_begun table d cut = ⊎_elim
      (λ (t : (w.word.limbo ≡ true) × (d ≡ w.word.place)). let b = (i.sweep.limbo t.0).0 in let a = t.1 in let last : w.begun ≡ d + 1 = omega arith in last)
      (λ (t : (w.word.limbo ≡ false) × ((seat : ℕ) × (v : View) × (h : Holding) × IsSeatOf views seat v × (v.holding ≡ Some h) × (h.place ≡ d) × (is_in table h.cut ≡ true))).
      let seat = t.1.0 in let v = t.1.1 in let h = t.1.2 in let at = t.1.3 in let is = t.1.4 in
      ((i.cuts seat v at h is).cut (at_work seat v h at is t.0) (not_empty table h.cut t.1.6)).0 ∙ ap (λ (n : ℕ). n + 1) t.1.5)
      cut

  pub cut_unlinks : (d id entry table : ℕ) → table < 4 → IsWd w.log d id entry → w.returned ≤ d → IsCutAt views w.word table d → (w.begun ≡ d + 1) × (w.linked table entry ≡ false)
  cut_unlinks d id entry table low wd kept cut = ⊎_elim
      (λ (t : (w.word.limbo ≡ true) × (d ≡ w.word.place)). let s = i.sweep.limbo t.0 in let a = t.1 in let last : w.begun ≡ d + 1 = (let b = s.0 in omega arith) in
      (last, (i.reclaimed.apart d id entry w.word.mark (record { last = last; kept = kept; withdraws = wd }) (i.reclaimed.marked t.0)).0 table low))
      (λ (t : (w.word.limbo ≡ false) × ((seat : ℕ) × (v : View) × (h : Holding) × IsSeatOf views seat v × (v.holding ≡ Some h) × (h.place ≡ d) × (is_in table h.cut ≡ true))).
      let seat = t.1.0 in let v = t.1.1 in let h = t.1.2 in let at = t.1.3 in let is = t.1.4 in let place = t.1.5 in
      let c = (i.cuts seat v at h is).cut (at_work seat v h at is t.0) (not_empty table h.cut t.1.6) in
      let less : d < length v.log = subst (λ (n : ℕ). n < length v.log) place c.3 in
      let own : IsWd v.log h.place id entry = subst (λ (n : ℕ). IsWd v.log n id entry) (sym place) (seen_wd seat v d id entry at less wd) in
      let dec = seen_decl seat v d id entry at less wd in
      (c.0 ∙ ap (λ (n : ℕ). n + 1) place, ((i.victims seat v at h id entry dec.0 is own dec.1).tables table low (at_work seat v h at is t.0)).1 t.1.6))
      cut

  pub unlinked_cut : (d id entry table : ℕ) → table < 4 → IsReclaimed w.log w.begun w.returned d id entry → w.linked table entry ≡ false → IsCutAt views w.word table d
  unlinked_cut d id entry table low r off = by_limbo w.word.limbo refl where
    by_holder : (o : Option ℕ) → w.holder ≡ o → w.word.limbo ≡ false → IsCutAt views w.word table d
    by_holder None none out = let a = i.sweep.rests none out in let b = r.last in let c = r.kept in absurd (omega arith)
    by_holder (Some seat) some_seat out = let s = holder_seat key m w views i seat some_seat in let v = s.0 in let h = s.1 in let at = s.2 in let is = s.3 in
        let own = at_work seat v h at is out in let fit = i.cuts seat v at h is in
        let cut : (h.cut ≡ [] → ⊥) = (λ none. let a = fit.uncut own none in let b = r.last in let c = r.kept in let y : ⊥ = omega arith in y) in
        let c = fit.cut own cut in let place : h.place ≡ d = (let a = c.0 in let b = r.last in omega arith) in
        let less : d < length v.log = subst (λ (n : ℕ). n < length v.log) place c.3 in
        let own_wd : IsWd v.log h.place id entry = subst (λ (n : ℕ). IsWd v.log n id entry) (sym place) (seen_wd seat v d id entry at less r.withdraws) in
        let dec = seen_decl seat v d id entry at less r.withdraws in
        inr (out, (seat, v, h, at, is, place, ((i.victims seat v at h id entry dec.0 is own_wd dec.1).tables table low own).0 off))

    by_limbo : (b : Bool) → w.word.limbo ≡ b → IsCutAt views w.word table d
    by_limbo true on = inl (on, (let a = (i.sweep.limbo on).0 in let b = r.last in omega arith))
    by_limbo false out = by_holder w.holder refl out

  -- a declaration whose entry is not linked in a table is the one that is being reclaimed
  pub reclaimed_of : (id entry table : ℕ) → table < 4 → entry < key.entries → w.uses entry ≡ holds id → w.linked table entry ≡ false → (d : ℕ) × IsReclaimed w.log w.begun w.returned d id entry
  reclaimed_of id entry table tl el is off = dite (dec_le w.begun w.returned)
      (λ le. absurd (still (λ d e wd. let h = (i.uses.holding id entry el is).1 d e wd in omega arith)))
      (λ apart. let less : w.returned < w.begun = lt_of_not-le apart in let a = i.sweep.at_work less in let d = a.0 in let r = a.3 in
      dite (ℕ_discrete a.1 id)
      (λ same. (
        d,
        record {
          last = r.last;
          kept = r.kept;
          withdraws = (let wd : IsWd w.log d id a.2 = subst (λ (x : ℕ). IsWd w.log d x a.2) same r.withdraws in let dec = (i.uses.holding id entry el is).0 in
              subst (λ (e : ℕ). IsWd w.log d id e) (wd_entry key.carried w.log d id a.2 entry dec.0 i.key_part.opening i.log.lawful wd dec.1) wd);
        },
      ))
      (λ other. absurd (still (λ c e wd. let low = (i.uses.holding id entry el is).1 c e wd in let last = r.last in dite (dec_le (d + 1) c) (λ le. omega arith)
      (λ not. let before : c < d + 1 = lt_of_not-le not in dite (ℕ_discrete c d)
      (λ here. absurd (other (wd_same w.log d a.1 id a.2 e r.withdraws (subst (λ (n : ℕ). IsWd w.log n id e) here wd)).0))
      (λ away. absurd (a.4 c id e low (omega arith) wd))))))) where
        still : IsKeptUpTo w.log w.begun id → ⊥
        still kept = true≢false (sym (i.links.held table id entry tl el is kept) ∙ off)
