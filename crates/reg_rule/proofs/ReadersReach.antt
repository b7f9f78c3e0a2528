-- For readers: what may be written again is out of reach and out of use, by the rule.
use Rattle.std.proofs.Common.{◌≡◌, ℕ, ◌<◌, ◌≤◌, inr, ⊎_elim, false, true≢false, List, ◌++◌, length, length-append, take, Some, sym, ap, ◌∙◌, subst, arith}
use Rattle.iscc_header.specs.declared.unit.Unit64.{Unit64}
use Rattle.reg_words.specs.Memory.{NEXT}
use Rattle.reg_rule.specs.declared.view.Key.{Key}
use Rattle.reg_rule.specs.declared.view.Place.{Place}
use Rattle.reg_rule.specs.declared.view.View.{View}
use Rattle.reg_rule.specs.Log.{IsLiveIn, IsKeptUpTo}
use Rattle.reg_rule.specs.Seats.{ReliesOn}
use Rattle.reg_rule.specs.Chains.{Member}
use Rattle.reg_rule.specs.ReadersLog.{IsSeatOf}
use Rattle.reg_rule.specs.ReadersReach.{IsOutOfReach, IsOutOfUse, ReclamationStands}
use Rattle.reg_rule.specs.inner.World.{World, holds}
use Rattle.reg_rule.specs.inner.Sweeping.{IsReclaimed}
use Rattle.reg_rule.specs.inner.ChainParts.{next_in}
use Rattle.reg_rule.specs.inner.Walks.{IsLoose}
use Rattle.reg_rule.specs.inner.Rule.{Inv}
use Rattle.reg_rule.proofs.Shows.{declares_more, live_kept}
use Rattle.reg_rule.proofs.Once.{wd_declares, wd_once}
use Rattle.reg_rule.proofs.Floors.{front_above}
use Rattle.reg_rule.proofs.ReadersEntries.{ring_use}
use Rattle.reg_rule.proofs.ReadersChains.{the_chain}
use Rattle.reg_rule.proofs.Variants.{not_in_hand, not_free}

module _ (key : Key) (m : ℕ → ℕ → ℕ) (w : World) (views : List View) (i : Inv key m w views) where
  -- no unlinking has begun above a front on which a seat relies
  pub relied : (seat k : ℕ) (v : View) → IsSeatOf views seat v → ReliesOn v k → (w.begun ≤ k) × (k ≤ length v.log)
  relied seat k v at relies = (
    front_above key.sizes.callers w.accounts w.owner w.log w.word w.begun w.returned w.floor w.freed seat k v (i.owns seat v at) (i.fits_pin seat v at) (i.above_floor seat v at) i.floors relies,
    ((i.fits_pin seat v at).fronts k relies).2,
  )

  pub seen_inside : (seat : ℕ) (v : View) → IsSeatOf views seat v → length v.log ≤ length w.log
  seen_inside seat v at = let s = i.saw seat v at in subst (λ (l : List Place). length v.log ≤ length l) (sym s.1) (append_le v.log s.0) where
    append_le : {A : Type 0} (a b : List A) → length a ≤ length (a ++ b)
    append_le a b = let h = length-append a b in omega arith

  -- what is live at an open snapshot is with its entry, and its unlinking has not begun
  pub live_held : (seat k id entry : ℕ) (v : View) (unit : Unit64) → IsSeatOf views seat v → v.snapshot ≡ Some k → IsLiveIn key.carried (take k w.log) id unit entry
      → (w.uses entry ≡ holds id) × IsKeptUpTo w.log w.begun id
  live_held seat k id entry v unit at snap live = let r = relied seat k v at (inr snap) in let inside = seen_inside seat v at in
      let kept = live_kept key.carried w.log k id entry unit (omega arith) live in let order = i.sweep.order in let low = r.0 in
      (i.uses.held id entry unit (declares_more key.carried w.log k id entry unit live.declares) (λ d e wd. let h = kept d e wd in omega arith), λ d e wd. let h = kept d e wd in omega arith)

  -- the entry that is being reclaimed still has its declaration
  pub reclaimed_held : (d id entry : ℕ) → IsReclaimed w.log w.begun w.returned d id entry → w.uses entry ≡ holds id
  reclaimed_held d id entry r = let dec = wd_declares key.carried w.log d id entry i.log.lawful r.withdraws in let kept = r.kept in
      i.uses.held id entry dec.0 dec.1 (λ e x wd. let one = wd_once key.carried w.log d e id entry x i.log.lawful r.withdraws wd in omega arith)

  out_of_reach : (table entry : ℕ) → table < 4 → w.linked table entry ≡ false → ((id : ℕ) → w.uses entry ≡ holds id → ⊥) → IsOutOfReach key m views table entry
  out_of_reach table entry tl off none = record {
    unchained = λ bucket chain bl is there. let h = i.chains.inside table bucket entry (subst (Member entry) (the_chain key m w views i table bucket chain tl bl is) there) in true≢false (sym h.1 ∙ off);
    unwalked = λ seat v c at is table_is entry_is. ⊎_elim
        (λ (there : Member c.entry (w.chains c.table c.bucket)). let h = i.chains.inside c.table c.bucket c.entry there in true≢false (sym h.1 ∙ ((λ j. w.linked (table_is j) (entry_is j)) ∙ off)))
        (λ (loose : IsLoose key c w.log (next_in key.entries (m NEXT) c.table c.entry) (w.chains c.table c.bucket) (w.linked c.table) w.begun w.returned w.mark w.freed v.pin v.accounts).
        let r = loose.reclaimed in none r.1 (ap w.uses (sym entry_is) ∙ reclaimed_held r.0 r.1 c.entry r.2))
        (i.cursors seat v at c is).stands;
  }

  out_of_use : (entry : ℕ) → ((id : ℕ) → w.uses entry ≡ holds id → ⊥) → IsOutOfUse key views w.log entry
  out_of_use entry none seat k id v unit at snap live = none id (live_held seat k id entry v unit at snap live).0

  -- the sentence on reclamation
  pub reclamation_stands : ReclamationStands key m views w.log
  reclamation_stands = record {
    ring = λ entry j r. let u = ring_use key m w views i entry j r in let none = (λ (id : ℕ) (is : w.uses entry ≡ holds id). not_free j id (sym u.0 ∙ is)) in
        ((λ table tl. out_of_reach table entry tl (i.links.ring table entry j tl u.1 u.0) none), out_of_use entry none);
    unlinked = λ seat k table v h at there tl off. let f = i.hands seat v at k h there in out_of_reach table h.entry tl (f.tables table tl ∙ off) (λ id is. not_in_hand seat k id (sym f.use_is ∙ is));
    unused = λ seat k v h at there. let f = i.hands seat v at k h there in out_of_use h.entry (λ id is. not_in_hand seat k id (sym f.use_is ∙ is));
  }
