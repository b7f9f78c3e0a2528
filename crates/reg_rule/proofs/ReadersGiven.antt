-- For readers: which withdrawals were given back, by the word of the sweep and the views, and by the rule.
use Rattle.std.proofs.Common.{◌≡◌, ℕ, zero, suc, ◌+◌, ◌<◌, ◌≤◌, ◌||◌, ⊎_elim, Bool, true, false, true≢false, is_some, List, [], ◌∷◌, length, take, Option, Some, None, sym, refl, ap, ◌∙◌, lt_of_not-le, arith}
use mathlib.Core.Logic.{dite}
use native.Mathlib.Decide.{dec_le}
use mathlib.Core.Option.{some-injective, some-ne-none}
use Rattle.iscc_header.specs.declared.unit.Unit64.{Unit64}
use Rattle.reg_model.specs.Live.{withdrawals}
use Rattle.reg_words.specs.declared.word.SweepWord.{SweepWord}
use Rattle.reg_words.specs.Packing.{bit}
use Rattle.reg_rule.specs.declared.view.Key.{Key}
use Rattle.reg_rule.specs.declared.view.Holding.{Holding}
use Rattle.reg_rule.specs.declared.view.View.{View}
use Rattle.reg_rule.specs.Log.{At, updates, IsWd, IsDecl, Declares}
use Rattle.reg_rule.specs.ReadersLog.{IsSeatOf, HasDeclaration, is_any_paid, paid_of, given_back}
use Rattle.reg_rule.specs.inner.World.{World, holds}
use Rattle.reg_rule.specs.inner.Rule.{Inv}
use Rattle.reg_rule.proofs.Shows.{at_inside}
use Rattle.reg_rule.proofs.Refused.{none_between}

abbrev Paid : List View → Type 0
Paid views = (seat : ℕ) × (v : View) × (h : Holding) × IsSeatOf views seat v × (v.holding ≡ Some h) × (h.paid ≡ true)

paid_seat : (views : List View) → is_any_paid views ≡ true → Paid views
paid_seat [] e = absurd (true≢false (sym e))
paid_seat (v ∷ views) e = by_holding v.holding refl e (λ h. paid_seat views h) where
  later : Paid views → Paid (v ∷ views)
  later p = (suc p.0, p.1, p.2, p.3, p.4, p.5)

  by_paid : (h : Holding) → v.holding ≡ Some h → (b : Bool) → h.paid ≡ b → (b || is_any_paid views) ≡ true → (is_any_paid views ≡ true → Paid views) → Paid (v ∷ views)
  by_paid h is true p e more = (0, v, h, refl, is, p)
  by_paid h is false p e more = later (more e)

  by_holding : (o : Option Holding) → v.holding ≡ o → (paid_of o || is_any_paid views) ≡ true → (is_any_paid views ≡ true → Paid views) → Paid (v ∷ views)
  by_holding None is e more = later (more e)
  by_holding (Some h) is e more = by_paid h is h.paid refl e more

unpaid_seat : (views : List View) (seat : ℕ) (v : View) (h : Holding) → is_any_paid views ≡ false → IsSeatOf views seat v → v.holding ≡ Some h → h.paid ≡ false
unpaid_seat [] seat v h e at is = absurd (some-ne-none v (sym at))
unpaid_seat (x ∷ views) zero v h e at is =
    let same : x ≡ v = some-injective x v at in left (paid_of x.holding) (is_any_paid views) h.paid e (ap (λ (u : View). paid_of u.holding) same ∙ ap paid_of is) where
      left : (a b c : Bool) → (a || b) ≡ false → a ≡ c → c ≡ false
      left true b c e q = absurd (true≢false e)
      left false b c e q = sym q
unpaid_seat (x ∷ views) (suc seat) v h e at is = unpaid_seat views seat v h (right (paid_of x.holding) (is_any_paid views) e) at is where
  right : (a b : Bool) → (a || b) ≡ false → b ≡ false
  right true b e = absurd (true≢false e)
  right false b e = e

module _ (key : Key) (m : ℕ → ℕ → ℕ) (w : World) (views : List View) (i : Inv key m w views) where
  abbrev given : ℕ
  given = given_back w.word views

  paid_place : is_any_paid views ≡ true → w.returned ≡ w.word.place + 1
  paid_place e = let p = paid_seat views e in let b = (i.gives p.0 p.1 p.3 p.2 p.4).back p.5 in let f = i.at_word p.0 p.1 p.3 p.2 p.4 in
      let a = f.limbo b.0 in let c : w.word.place ≡ p.2.word.place = ap (λ (s : SweepWord). s.place) f.word_is in let d = b.1 in omega arith

  -- the seat that holds the sweep, with what it knows
  pub holder_seat : (id : ℕ) → w.holder ≡ Some id → (v : View) × (h : Holding) × IsSeatOf views id v × (v.holding ≡ Some h)
  holder_seat id is = let s = i.sweeper id is in (s.0, (of_some s.0.holding refl ((i.is_holder id s.0 s.1).1 is)).0, s.1, (of_some s.0.holding refl ((i.is_holder id s.0 s.1).1 is)).1) where
    of_some : (o : Option Holding) {q : Option Holding} → q ≡ o → is_some q ≡ true → (h : Holding) × (q ≡ Some h)
    of_some None is e = absurd (true≢false (sym e ∙ ap is_some is))
    of_some (Some h) is e = (h, is)

  unpaid_place : is_any_paid views ≡ false → w.word.limbo ≡ true → w.returned ≤ w.word.place
  unpaid_place e limbo = by_holder w.holder refl where
    by_holder : (o : Option ℕ) → w.holder ≡ o → w.returned ≤ w.word.place
    by_holder None is = i.sweep.waits is limbo
    by_holder (Some id) is = let s = holder_seat id is in let f = i.at_word id s.0 s.2 s.1 s.3 in
        let own : s.1.word.limbo ≡ true = ap (λ (x : SweepWord). x.limbo) (sym f.word_is) ∙ limbo in
        let low = (i.gives id s.0 s.2 s.1 s.3).kept (unpaid_seat views id s.0 s.1 e s.2 s.3) own in
        let a = f.limbo own in let c : w.word.place ≡ s.1.word.place = ap (λ (x : SweepWord). x.place) f.word_is in omega arith

  given_paid : is_any_paid views ≡ true → given ≡ w.word.place + 1
  given_paid e = ap (λ (b : Bool). w.word.place + bit b) e

  given_unpaid : is_any_paid views ≡ false → given ≡ w.word.place
  given_unpaid e = let h : given ≡ w.word.place + 0 = ap (λ (b : Bool). w.word.place + bit b) e in omega arith

  -- the two numbers agree on withdrawals
  pub below : (d id entry : ℕ) → IsWd w.log d id entry → d < w.returned → d < given
  below d id entry wd low = by_paid (is_any_paid views) refl where
    by_paid : (b : Bool) → is_any_paid views ≡ b → d < given
    by_paid true e = let a = paid_place e in let b = given_paid e in omega arith
    by_paid false e = let b = given_unpaid e in dite (dec_le w.word.place d)
        (λ le. let h = i.sweep.ahead d id entry le low wd in let c = unpaid_place e h.0 in let g = h.1 in absurd (omega arith))
        (λ apart. let less : d < w.word.place = lt_of_not-le apart in omega arith)

  pub above : (d id entry : ℕ) → IsWd w.log d id entry → w.returned ≤ d → given ≤ d
  above d id entry wd high = by_paid (is_any_paid views) refl where
    by_paid : (b : Bool) → is_any_paid views ≡ b → given ≤ d
    by_paid true e = let a = paid_place e in let b = given_paid e in omega arith
    by_paid false e = let b = given_unpaid e in dite (dec_le w.word.place d) (λ le. omega arith)
        (λ apart. let less : d < w.word.place = lt_of_not-le apart in absurd (i.sweep.passed d id entry high less wd))

  pub not_returned : (d id entry : ℕ) → IsWd w.log d id entry → given ≤ d → w.returned ≤ d
  not_returned d id entry wd high = dite (dec_le w.returned d) (λ le. le) (λ apart. let less : d < w.returned = lt_of_not-le apart in let h = below d id entry wd less in absurd (omega arith))

  pub returned_below : (d id entry : ℕ) → IsWd w.log d id entry → d < given → d < w.returned
  returned_below d id entry wd low = dite (dec_le w.returned d) (λ le. let h = above d id entry wd le in absurd (omega arith)) (λ apart. lt_of_not-le apart)

  -- and what was given back is in the log
  pub given_inside : given ≤ length w.log
  given_inside = by_paid (is_any_paid views) refl where
    by_paid : (b : Bool) → is_any_paid views ≡ b → given ≤ length w.log
    by_paid true e = let a = paid_place e in let b = given_paid e in let order = i.sweep.order in let seen = i.sweep.seen in omega arith
    by_paid false e = let b = given_unpaid e in let within = i.sweep.within in omega arith

  pub put_counts : withdrawals (updates (take w.returned w.log)) ≡ withdrawals (updates (take given w.log))
  put_counts = let a = none_between w.log w.returned given (λ d id entry le less wd. let h = above d id entry wd le in omega arith) in
      let b = none_between w.log given w.returned (λ d id entry le less wd. let h = below d id entry wd less in omega arith) in omega arith

  -- an entry has a declaration where the rule says so
  pub has_held : (entry id : ℕ) (unit : Unit64) → HasDeclaration key w.log given entry id unit → w.uses entry ≡ holds id
  has_held entry id unit h = i.uses.held id entry unit h.declared (λ d e wd. not_returned d id e wd (h.kept d e wd))

  pub held_has : (entry id : ℕ) → entry < key.entries → w.uses entry ≡ holds id → (unit : Unit64) × HasDeclaration key w.log given entry id unit
  held_has entry id low is = let h = i.uses.holding id entry low is in (h.0.0, record { declared = h.0.1; kept = λ d e wd. above d id e wd (h.1 d e wd) })

  pub declared_inside : (id entry : ℕ) (unit : Unit64) → Declares key.carried w.log id unit entry → entry < key.entries
  declared_inside id entry unit dec = ⊎_elim
      (λ (c : At key.carried.list entry (record { id = id; unit = unit })). let a = at_inside key.carried.list entry _ c in let b = i.key_part.room in let d = i.key_part.entries in omega arith)
      (λ (t : (n : ℕ) × (id ≡ key.carried.base + n) × IsDecl w.log n unit entry). i.log.entries t.0 _ t.2) dec
