-- Kind 3: a load of the code of an entry.
use Rattle.std.proofs.Common.{◌≡◌, ℕ, ◌+◌, ◌<◌, ◌≤◌, true, false, List, length, get_or, set, Option, Some, sym, refl, ap, ◌∙◌, subst, arith}
use Rattle.std.proofs.Math.Decide.{dec_lt}
use mathlib.Core.Logic.{dite}
use mathlib.Core.Option.{none, some}
use lib.ListN.{get_elem?}
use Rattle.atomic_table.specs.Table.{step, keeps, Allows}
use Rattle.atomic_table.proofs.Lists.{at_longer}
use Rattle.iscc_header.specs.declared.unit.Unit64.{Unit64}
use Rattle.reg_model.specs.declared.call.Call.{Call}
use Rattle.reg_model.specs.declared.call.Call.TheVariants as calls
use Rattle.reg_model.specs.declared.reply.Hit.{Hit}
use Rattle.reg_model.specs.declared.reply.Reply.{Reply}
use Rattle.reg_model.specs.declared.reply.Reply.TheVariants as replies
use Rattle.reg_words.specs.Memory.{CODE, start, mem}
use Rattle.reg_words.proofs.Memory.{mem-read}
use Rattle.reg_rule.specs.declared.told.Told.{Told}
use Rattle.reg_rule.specs.declared.told.Told.TheVariants.{Row as RowOf, Hits}
use Rattle.reg_rule.specs.declared.view.Key.{Key}
use Rattle.reg_rule.specs.declared.view.Place.{Place}
use Rattle.reg_rule.specs.declared.view.Holding.{Holding}
use Rattle.reg_rule.specs.declared.view.View.{View}
use Rattle.reg_rule.specs.Log.{At, IsWd, IsKeptUpTo, Declares}
use Rattle.reg_rule.specs.Seats.{ReliesOn}
use Rattle.reg_rule.specs.Conditions.{MayLoadCode}
use Rattle.reg_rule.specs.Moves.{next_row, replied, standing, with_hits, code_reply, with_step, coded}
use Rattle.reg_rule.specs.Steps.{CodeLoaded}
use Rattle.reg_rule.specs.inner.World.{holds, World}
use Rattle.reg_rule.specs.inner.Plays.{Sat, Stays, seated}
use Rattle.reg_rule.specs.inner.Rule.{Inv, Kept, sizes}
use Rattle.reg_rule.proofs.Counted.{set_at_own}
use Rattle.reg_rule.proofs.Once.{declares_longer}
use Rattle.reg_rule.proofs.Floors.{front_above}
use Rattle.reg_rule.proofs.StampsMoved.{held_still}
use Rattle.reg_rule.proofs.WordKept.{at_shorter}
use Rattle.reg_rule.proofs.Fronted.{set_twice}
use Rattle.reg_rule.proofs.RowsEnter.{length_grown}
use Rattle.reg_rule.proofs.Remembering.{grown_rest}
use Rattle.reg_rule.proofs.LooksTell.{look_told, tell_counted, code_decides}
use Rattle.reg_rule.proofs.Doors.{load_keeps}
use Rattle.reg_rule.proofs.Sets.{counted_inv}

-- a row or hits that are told leave these
pub look_stays : (decides : View → ℕ → Call → Option Reply) (told : Told) (v : View) (k : ℕ) (hits : List Hit) → Stays v (with_hits told hits (replied decides told v k))
look_stays decides (RowOf call) v k hits = record { live = refl; key = refl; sessions = length_grown v.accounts _; seen = omega arith; hand = refl; remembered = grown_rest v _ }
look_stays decides (Hits unit radius looked) v k hits = record { live = refl; key = refl; sessions = length_grown v.accounts (Some (next_row v (calls.Near unit radius) (standing v) (replies.Hits hits))); seen = omega arith; hand = refl; remembered = grown_rest v (Some (next_row v (calls.Near unit radius) (standing v) (replies.Hits hits))) }
look_stays decides told v k hits = record { live = refl; key = refl; sessions = refl; seen = omega arith; hand = refl; remembered = refl }

module _ (key : Key) (m : ℕ → ℕ → ℕ) (w : World) (views : List View) (id : ℕ) (v : View) (i : Inv key m w views) (at : get_elem? views id ≡ some v) (knows : v.key ≡ key) where
  pub seen_in : (n : ℕ) (p : Place) → At v.log n p → At w.log n p
  seen_in n p there = let s = i.saw id v at in subst (λ (l : List Place). At l n p) (sym s.1) (at_longer v.log s.0 n p there)

  pub declares_in : (x entry : ℕ) (unit : Unit64) → Declares v.key.carried v.log x unit entry → Declares key.carried w.log x unit entry
  declares_in x entry unit dec = let s = i.saw id v at in subst (λ (l : List Place). Declares key.carried l x unit entry) (sym s.1) (declares_longer key.carried v.log s.0 x entry unit (subst (λ (k : Key). Declares k.carried v.log x unit entry) knows dec))

  -- what is not withdrawn before a front on which the seat relies is in its entry
  pub relied_held : (x k entry : ℕ) (unit : Unit64) → ReliesOn v k → Declares v.key.carried v.log x unit entry → IsKeptUpTo v.log k x → w.uses entry ≡ holds x
  relied_held x k entry unit relies dec kept = let s = i.saw id v at in
      let above = front_above key.sizes.callers w.accounts w.owner w.log w.word w.begun w.returned w.floor w.freed id k v (i.owns id v at) (i.fits_pin id v at) (i.above_floor id v at) i.floors relies in
      let order = i.sweep.order in let low = ((i.fits_pin id v at).fronts k relies).2 in
      i.uses.held x entry unit (declares_in x entry unit dec) (λ d f wd. dite (dec_lt d (length v.log))
      (λ l. let a = kept d f (at_shorter v.log s.0 d _ l (subst (λ (z : List Place). IsWd z d x f) s.1 wd)) in omega arith)
      (λ g. omega arith))

  -- what is withdrawn at the holder's place was not given back, unless it was paid
  pub unreturned : (h : Holding) (x entry : ℕ) → v.holding ≡ Some h → h.paid ≡ false → IsWd w.log h.place x entry → w.returned ≤ h.place
  unreturned h x entry has unpaid wd = let o = i.at_word id v at h has in let g = i.gives id v at h has in let from = o.from in let place : w.word.place ≡ h.word.place = ap (λ z. z.place) o.word_is in
      dite (dec_lt h.place w.returned)
      (λ l. let a = i.sweep.ahead h.place x entry (omega arith) l wd in let b = g.kept unpaid (sym (ap (λ z. z.limbo) o.word_is) ∙ a.0) in omega arith)
      (λ n. omega arith)

  pub swept_held : (h : Holding) (x entry : ℕ) → v.holding ≡ Some h → h.paid ≡ false → IsWd v.log h.place x entry → w.uses entry ≡ holds x
  swept_held h x entry has unpaid wd = let there = seen_in h.place _ wd in held_still key m w views i h.place x entry there (unreturned h x entry has unpaid there)

pub loads_code : (key : Key) (slots id : ℕ) (me : Sat) (told : Told) (entry : ℕ) → MayLoadCode told entry me.0 → me.0.live ≡ true → 0 < length me.0.accounts
    → Allows (Kept key) slots id me (start (sizes key) CODE + entry) (λ x. x) (seated (CodeLoaded told entry) (step slots (start (sizes key) CODE + entry) 0 0 none) me)
loads_code key slots id me told entry may live one s k wide at small =
    let v : View = me.0 in let m : ℕ → ℕ → ℕ = mem (sizes key) s.words in let i = k.inv in let w : World = k.world in let knows : v.key ≡ key = i.knows id v at live in let a : ℕ = start (sizes key) CODE + entry in
    let room : entry < key.entries = subst (λ (z : Key). entry < z.entries) knows may.inside in
    let read : m CODE entry ≡ get_or s.words a 0 = mem-read (sizes key) s.words CODE entry room in
    let u : View = with_step v 3 in
    let r = look_told code_reply code_decides key m w (set s.views id u) id u told (counted_inv key m w s.views id v 3 refl at i) (set_at_own s.views id v u at) live one (tell_counted told v 3 may.telling) in
    let after : View = with_hits told r.0 (coded told v) in let stays = look_stays code_reply told u (standing v) r.0 in (
      after,
      keeps,
      tt,
      load_keeps key s k a id me after (record w { accounts = r.2.0 }) (subst (Inv key m (record w { accounts = r.2.0 })) (set_twice s.views id u after) r.2.1),
      (
        record {
          view = (r.0, r.1, refl);
          body = λ x n unit relies dec kept. sym read ∙ i.codes.bodies x entry unit (relied_held key m w s.views id v i at knows x n entry unit relies dec kept) (declares_in key m w s.views id v i at knows x entry unit dec);
          swept = λ h x unit has unpaid wd dec. sym read ∙ i.codes.bodies x entry unit (swept_held key m w s.views id v i at knows h x entry has unpaid wd) (declares_in key m w s.views id v i at knows x entry unit dec);
        },
        record { live = stays.live; key = stays.key; sessions = stays.sessions; seen = stays.seen; hand = stays.hand; remembered = stays.remembered },
        refl,
      ),
    )

-- the same at an address that the code has computed
pub loads_code_at : (key : Key) (slots id : ℕ) (me : Sat) (told : Told) (entry a : ℕ) → a ≡ start (sizes key) CODE + entry → MayLoadCode told entry me.0 → me.0.live ≡ true → 0 < length me.0.accounts
    → Allows (Kept key) slots id me a (λ x. x) (seated (CodeLoaded told entry) (step slots a 0 0 none) me)
loads_code_at key slots id me told entry a is may live one = subst (λ (z : ℕ). Allows (Kept key) slots id me z (λ x. x) (seated (CodeLoaded told entry) (step slots z 0 0 none) me)) (sym is) (loads_code key slots id me told entry may live one)
