-- The looks at the pins, one by one.
use Rattle.std.proofs.Common.{◌≡◌, ℕ, ◌<◌, Bool, true, false, cond, List, [], length, sym, refl, ap, subst}
use Rattle.reg_rule.specs.declared.view.View.{View}
use Rattle.reg_rule.specs.Conditions.{MayLoadPin}
use Rattle.reg_rule.specs.Moves.{on_holding}
use Rattle.reg_sweep.specs.inner.Holders.{MayScan, scanned_to, found_free}

-- the next pin may be looked at
next_look : (b : Bool) (i freed clear place len : ℕ) (stamped paid : Bool) (cut : List ℕ) → cond b ((freed ≡ 0) × (paid ≡ false)) ((clear ≡ 0) × (stamped ≡ true) × (cut ≡ []) × (place < len))
    → cond b ((i ≡ cond {A = ℕ} b i freed) × (paid ≡ false)) ((i ≡ cond {A = ℕ} b clear i) × (stamped ≡ true) × (cut ≡ []) × (place < len))
next_look true i freed clear place len stamped paid cut p = (refl, p.1)
next_look false i freed clear place len stamped paid cut p = (refl, p.1, p.2, p.3)

pub may_look : (v x : View) (hazard i : ℕ) → MayScan hazard v → x ≡ found_free i i v → i < v.key.sizes.callers → MayLoadPin i x
may_look v x hazard i may is low = subst (MayLoadPin i) (sym is) (low, (scanned_to i may.h, ap (on_holding (scanned_to i)) may.holding, next_look may.h.word.limbo i may.h.freed may.h.clear may.h.place (length v.log) may.h.stamped may.h.paid may.h.cut may.begins))
