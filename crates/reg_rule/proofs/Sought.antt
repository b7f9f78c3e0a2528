-- The holder's notes of its way to the entry that it seeks (kinds 13 and 16).
use Rattle.std.proofs.Common.{◌≡◌, ℕ, ◌++◌, ◌<◌, ◌≤◌, ◌==◌, Bool, true, false, true≢false, is_some, List, ◌∷◌, set, Option, Some, sym, refl, ap, ◌∙◌, subst, arith}
use mathlib.Core.Option.{some}
use lib.ListN.{get_elem?}
use Rattle.iscc_header.specs.declared.unit.Unit64.{Unit64}
use Rattle.mih_plan.specs.Buckets.{bucket_of}
use Rattle.reg_words.specs.Memory.{NEXT}
use Rattle.reg_rule.specs.declared.view.Key.{Key}
use Rattle.reg_rule.specs.declared.view.Link.{Link}
use Rattle.reg_rule.specs.declared.view.Way.{Way}
use Rattle.reg_rule.specs.declared.view.Holding.{Holding}
use Rattle.reg_rule.specs.declared.view.View.{View}
use Rattle.reg_rule.specs.Log.{IsWd, Declares}
use Rattle.reg_rule.specs.Chains.{Member}
use Rattle.reg_rule.specs.Conditions.{IsSeeking}
use Rattle.reg_rule.specs.Moves.{did, on_holding, holder_did}
use Rattle.reg_rule.specs.inner.World.{World}
use Rattle.reg_rule.specs.inner.ChainParts.{after, next_in}
use Rattle.reg_rule.specs.inner.HolderParts.{VictimFits}
use Rattle.reg_rule.specs.inner.Rule.{Inv}
use Rattle.reg_rule.proofs.Shows.{at_inside}
use Rattle.reg_rule.proofs.Once.{wd_same, declares_once}
use Rattle.reg_rule.proofs.LoadsCode.{seen_in, declares_in, swept_held}
use Rattle.reg_rule.proofs.Fits.{fits_of}
use Rattle.reg_rule.proofs.Sets.{fits_set, count_fits}
use Rattle.reg_rule.proofs.Holder.{notes_of, noted_fits}

not_false : (b : Bool) → (b ≡ false → ⊥) → b ≡ true
not_false true n = refl
not_false false n = absurd (n refl)

not_true : (b : Bool) → (b ≡ true → ⊥) → b ≡ false
not_true true n = absurd (n refl)
not_true false n = refl

module _ (key : Key) (m : ℕ → ℕ → ℕ) (w : World) (views : List View) (id : ℕ) (v : View) (i : Inv key m w views) (at : get_elem? views id ≡ some v) (knows : v.key ≡ key)
    (table : ℕ) (small : table < 4) (h : Holding) (x entry : ℕ) (unit : Unit64) (seeks : IsSeeking table v h x entry unit) where
  wd : IsWd v.log h.place x entry
  wd = seeks.withdraws

  holds : v.holding ≡ Some h
  holds = seeks.holding

  one : is_some v.holding ≡ true
  one = ap is_some holds

  dec : Declares key.carried v.log x unit entry
  dec = subst (λ (k : Key). Declares k.carried v.log x unit entry) knows seeks.declares

  pub fits : VictimFits key (m NEXT) w.stamps w.chains w.linked w.returned h.word.limbo h.stamped h.place h.cut h.behind h.way x entry unit
  fits = i.victims id v at h x entry unit holds wd dec

  -- the entry that is sought is in its chain
  pub sought_there : Member entry (w.chains table (bucket_of unit.body table key.sizes.bits))
  sought_there =
      let linked : w.linked table entry ≡ true = not_false (w.linked table entry) (λ off. true≢false (sym ((fits.tables table small seeks.unmoved).0 off) ∙ seeks.uncut)) in
      let unpaid : h.paid ≡ false = not_true h.paid (λ paid. true≢false (sym ((i.gives id v at h holds).back paid).0 ∙ seeks.unmoved)) in
      let there = i.log.entries h.place _ (seen_in key m w views id v i at knows h.place _ wd) in
      let held = swept_held key m w views id v i at knows h x entry holds unpaid wd in
      let body = i.codes.bodies x entry unit held (declares_in key m w views id v i at knows x entry unit seeks.declares) in
      subst (λ (z : ℕ). Member entry (w.chains table (bucket_of z table key.sizes.bits))) body (i.chains.whole table entry small there linked)

  module _ (way : Option Way) (behind : Option Link) (kind : ℕ) (plain : (kind == 2) ≡ false)
      (is_way : (y : Way) → way ≡ Some y → Member y.entry (w.chains y.table (bucket_of unit.body y.table key.sizes.bits)) × ((rest : List ℕ) × (after y.entry (w.chains y.table (bucket_of unit.body y.table key.sizes.bits)) ≡ y.ahead ++ entry ∷ rest)))
      (is_behind : (l : Link) → behind ≡ Some l → w.returned ≤ h.place → next_in key.entries (m NEXT) l.table entry ≡ l.word) where
    abbrev h' : Holding
    h' = record h { way = way; behind = behind }

    abbrev u : View
    u = record v { holding = Some h'; made = did v kind }

    mine : VictimFits key (m NEXT) w.stamps w.chains w.linked w.returned h.word.limbo h.stamped h.place h.cut behind way x entry unit
    mine = record { dead = fits.dead; tables = fits.tables; behind = is_behind; way = is_way }

    only : (y e : ℕ) (un : Unit64) → IsWd v.log h.place y e → Declares key.carried v.log y un e → VictimFits key (m NEXT) w.stamps w.chains w.linked w.returned h.word.limbo h.stamped h.place h.cut behind way y e un
    only y e un wd' dec' =
        let same = wd_same v.log h.place x y entry e wd wd' in
        let unit_same : unit ≡ un = (declares_once key.carried v.log x entry e unit un i.key_part.opening dec (subst (λ (z : ℕ). Declares key.carried v.log z un e) (sym same.0) dec')).0 in
        let a : VictimFits key (m NEXT) w.stamps w.chains w.linked w.returned h.word.limbo h.stamped h.place h.cut behind way y entry unit = subst (λ (z : ℕ). VictimFits key (m NEXT) w.stamps w.chains w.linked w.returned h.word.limbo h.stamped h.place h.cut behind way z entry unit) same.0 mine in
        let b : VictimFits key (m NEXT) w.stamps w.chains w.linked w.returned h.word.limbo h.stamped h.place h.cut behind way y e unit = subst (λ (z : ℕ). VictimFits key (m NEXT) w.stamps w.chains w.linked w.returned h.word.limbo h.stamped h.place h.cut behind way y z unit) same.1 a in
        subst (VictimFits key (m NEXT) w.stamps w.chains w.linked w.returned h.word.limbo h.stamped h.place h.cut behind way y e) unit_same b

    noted_inv : Inv key m w (set views id u)
    noted_inv = let f = fits_of key m w views i id v at in let n = notes_of key m w id v h holds f in
        fits_set key m w views id v u i at refl refl (count_fits key m w id (record v { holding = Some h' }) kind plain (noted_fits key m w id v h h' holds record {
          at_word = n.at_word;
          idles = λ long. absurd (let low = at_inside v.log h.place _ wd in omega arith);
          scans = record { clear_of = n.scans.clear_of; free_of = n.scans.free_of };
          cuts = n.cuts;
          gives = n.gives;
          victims = only;
        } f))

    -- what the holder notes, given as a function
    pub sought_inv : (g : Holding → Holding) → g h ≡ h' → Inv key m w (set views id (holder_did g v kind))
    sought_inv g is = let e : Some h' ≡ on_holding g v.holding = sym (ap (on_holding g) holds ∙ ap Some is) in
        subst (λ (z : Option Holding). Inv key m w (set views id (record v { holding = z; made = did v kind }))) e noted_inv
