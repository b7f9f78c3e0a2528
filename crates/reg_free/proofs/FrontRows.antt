-- Rows that are made where the front is found: counts, and points that were reached.
use Rattle.std.proofs.Common.{◌≡◌, ℕ, ◌+◌, ◌<◌, inl, inr, ⊎_elim, Bool, false, cond, nat_le, if◌then◌else◌, List, [], ◌∷◌, ◌++◌, length, length-append, take, Option, None, Some, refl, sym, ap, ◌∙◌, subst, arith}
use Rattle.std.specs.Option.{option_map}
use Rattle.std.proofs.Math.Seq.{take-length}
use Rattle.std.proofs.lemmas.List.{length-map}
use Rattle.atomic_table.specs.Seated.{TableId}
use Rattle.reg_model.specs.Desks.{Answered}
use Rattle.reg_model.specs.Live.{live}
use Rattle.reg_model.specs.Replies.{Replies}
use Rattle.reg_model.specs.Rows.{is_accepted}
use Rattle.reg_model.specs.declared.call.Call.{Call}
use Rattle.reg_model.specs.declared.call.Call.TheVariants.{Count as CountOf, After as AfterOf}
use Rattle.reg_model.specs.declared.reply.Reply.{Reply}
use Rattle.reg_model.specs.declared.reply.Reply.TheVariants.{Count as CountReply, Reached, Ahead}
use Rattle.reg_model.specs.declared.reply.Row.{Row}
use Rattle.reg_rule.specs.declared.told.Told.TheVariants.{Row as RowOf}
use Rattle.reg_rule.specs.declared.view.Account.{Account}
use Rattle.reg_rule.specs.declared.view.Holding.{Holding}
use Rattle.reg_rule.specs.declared.view.Key.{Key}
use Rattle.reg_rule.specs.declared.view.Place.{Place}
use Rattle.reg_rule.specs.declared.view.View.{View}
use Rattle.reg_rule.specs.Helping.{HasHelped}
use Rattle.reg_rule.specs.Log.{updates}
use Rattle.reg_rule.specs.Moves.{fronted, front_reply, grown, marked_at, next_row, point_or}
use Rattle.reg_rule.specs.Passes.{pass_view}
use Rattle.reg_rule.specs.Rounds.{IsWordsPass}
use Rattle.reg_commit.specs.Fronts.{FrontFound, walked_to}
use Rattle.reg_free.specs.Fit.{IsFit}
use Rattle.reg_free.proofs.Publishing.{adds_answer}

length_if : (accounts : List Account) (row : Option Row) → length (grown accounts row) ≡ length accounts
length_if accounts None = refl
length_if [] (Some row) = refl
length_if (a ∷ others) (Some row) = refl

-- a pass shows no snapshot where none is open
pub not_open : (v : View) → option_map (λ (n : ℕ). v.key.carried.base + n) v.snapshot ≡ None → v.snapshot ≡ None
not_open v none = by v.snapshot none where
  by : (s : Option ℕ) → option_map (λ (n : ℕ). v.key.carried.base + n) s ≡ None → s ≡ None
  by None e = refl
  by (Some n) e = absurd cc

module _ (v w : View) (place : ℕ) (call : Call) (f : FrontFound (RowOf call) v place w) (one : 0 < length v.accounts) (unopened : v.snapshot ≡ None) where
  abbrev here : View
  here = fronted (walked_to v f.places f.loads) place

  seen_log : w.log ≡ v.log ++ f.places
  seen_log = ap (λ (z : View). z.log) f.view

  pub seen_length : length w.log ≡ place
  seen_length = ap length seen_log ∙ (length-append v.log f.places ∙ sym f.front_is)

  -- the row that was decided there
  row_there : (r : Reply) → front_reply here place call ≡ Some r → w.accounts ≡ grown v.accounts (Some (next_row v call place r))
  row_there r decides = ap (λ (z : View). z.accounts) f.view
      ∙ (ap (λ (s : Option ℕ). grown v.accounts (option_map (next_row v call (point_or s place)) (front_reply here (point_or s place) call))) unopened
      ∙ ap (λ (x : Option Reply). grown v.accounts (option_map (next_row v call place) x)) decides)

  pub answered_there : (r : Reply) → front_reply here place call ≡ Some r → is_accepted (next_row v call place r) ≡ false → Replies v.key.sizes v.key.carried (updates w.log) call r
      → Answered v.key.sizes v.key.carried (pass_view v) (pass_view w) call (record { point = v.key.carried.base + place; reply = r })
  answered_there r decides quiet replies = let quiet_so : (if◌then◌else◌ {A = ℕ} (is_accepted (next_row v call place r)) 1 0) ≡ 0 = ap (λ (b : Bool). if◌then◌else◌ {A = ℕ} b 1 0) quiet in
      let long : length (updates w.log) ≡ length w.log = length-map w.log (λ (p : Place). p.update) in let at = seen_length in
      adds_answer v w call (record { point = v.key.carried.base + place; reply = r }) place one (ap (λ (z : View). z.key) f.view) (ap (λ (z : View). z.snapshot) f.view ∙ unopened) (row_there r decides)
      refl (let l = f.front_is in omega arith) (omega arith)
      (record {
        log = updates w.log;
        within = (let room = f.seen.room in omega arith);
        point = omega arith;
        reply = replies;
      })

  still_none : (h : Option Holding) → h ≡ None → marked_at h place ≡ None
  still_none h e = ap (λ (o : Option Holding). marked_at o place) e

  -- the pass is fit as it was
  pub fit_there : (words : TableId × Key) (id ud : TableId) → IsFit words (id, v) → IsWordsPass words (ud, w) → IsFit words (ud, w)
  fit_there words id ud fit own =
      let log = seen_log in let long = length-append v.log f.places in let total : length w.log ≡ length v.log + length f.places = ap length log ∙ long in
      let key : w.key ≡ v.key = ap (λ (z : View). z.key) f.view in let places : w.key.sizes.log ≡ v.key.sizes.log = ap (λ (k : Key). k.sizes.log) key in
      let snapshot : w.snapshot ≡ None = ap (λ (z : View). z.snapshot) f.view ∙ unopened in
      let helped : (n : ℕ) → HasHelped v n → HasHelped w n = (λ n. subst (λ (z : View). HasHelped v n → HasHelped z n) (sym f.view) (λ h. h)) in
      let end : length v.log ≡ v.key.sizes.log → length w.log ≡ w.key.sizes.log = (λ e. let room = f.seen.room in omega arith) in
      record {
        own = own;
        one = (let same : length w.accounts ≡ length v.accounts = ap (λ (z : View). length z.accounts) f.view ∙ length_if v.accounts (option_map (next_row v call (point_or v.snapshot place)) (front_reply here (point_or v.snapshot place) call)) in omega arith);
        unheld = ap (λ (z : View). z.holding) f.view ∙ still_none v.holding fit.unheld;
        unpinned = λ _. ap (λ (z : View). z.pin) f.view ∙ fit.unpinned unopened;
        opens = λ k is. absurd (no_snapshot k (sym snapshot ∙ is));
        helped = λ n is. let c = fit.helped n (sym (ap (λ (z : View). z.committed) f.view) ∙ is) in ((let a = c.0 in omega arith), helped (n + 1) c.1);
        alone = λ single. let before : v.key.sizes.callers ≡ 1 = sym (ap (λ (k : Key). k.sizes.callers) key) ∙ single in
            let none : length f.places ≡ 0 = ap length (f.alone before) in let same : length w.log ≡ length v.log = omega arith in
            ⊎_elim (λ h. inl (subst (HasHelped w) (sym same) (helped (length v.log) h))) (λ e. inr (end e)) (fit.alone before);
        hand = ⊎_elim (λ h. inl (ap (λ (z : View). z.hands) f.view ∙ h)) (λ e. inr (end e)) fit.hand;
      } where
        no_snapshot : (k : ℕ) → None ≡ Some k → ⊥
        no_snapshot k e = absurd cc

-- ---- counts

-- the reply to a count
pub counted : (v w : View) (place n : ℕ) (f : FrontFound (RowOf CountOf) v place w) → 0 < length v.accounts → v.snapshot ≡ None → n ≡ length (live v.key.carried (updates w.log))
    → Answered v.key.sizes v.key.carried (pass_view v) (pass_view w) CountOf (record { point = v.key.carried.base + place; reply = CountReply n })
counted v w place n f one unopened is =
    let log = ap (λ (z : View). z.log) f.view in
    let whole : take place (v.log ++ f.places) ≡ w.log = ap (λ (l : List Place). take place l) (sym log) ∙ (ap (λ (m : ℕ). take m w.log) (sym (seen_length v w place CountOf f one unopened)) ∙ take-length w.log) in
    answered_there v w place CountOf f one unopened (CountReply n) (ap (λ (l : List Place). Some (CountReply (length (live v.key.carried (updates l))))) whole ∙ ap (λ (m : ℕ). Some (CountReply m)) (sym is)) refl (ap CountReply is)

-- the reply to a point
pub reached : (v w : View) (place point : ℕ) (r : Reply) (f : FrontFound (RowOf (AfterOf point)) v place w) → 0 < length v.accounts → v.snapshot ≡ None
    → r ≡ cond (nat_le point (v.key.carried.base + place)) Reached Ahead
    → Answered v.key.sizes v.key.carried (pass_view v) (pass_view w) (AfterOf point) (record { point = v.key.carried.base + place; reply = r })
reached v w place point r f one unopened is =
    let at = seen_length v w place (AfterOf point) f one unopened in
    let long : length (updates w.log) ≡ place = length-map w.log (λ (p : Place). p.update) ∙ at in
    answered_there v w place (AfterOf point) f one unopened r (ap Some (sym is)) (by r) (is ∙ ap (λ (n : ℕ). cond (nat_le point (v.key.carried.base + n)) Reached Ahead) (sym long)) where
      by : (x : Reply) → is_accepted (next_row v (AfterOf point) place x) ≡ false
      by x = refl

-- ---- what the caller is told

-- an answer, by the key of the words, the pass that is left, and the point as it is reckoned
pub told_so : (key : Key) (v w x : View) (call : Call) (places point : ℕ) (r : Reply) → v.key ≡ key → x ≡ w → point ≡ key.carried.base + places
    → Answered v.key.sizes v.key.carried (pass_view v) (pass_view w) call (record { point = v.key.carried.base + places; reply = r }) → Answered key.sizes key.carried (pass_view v) (pass_view x) call (record { point = point; reply = r })
told_so key v w x call places point r own same at is =
    let base : v.key.carried.base ≡ key.carried.base = ap (λ (k : Key). k.carried.base) own in
    let there : v.key.carried.base + places ≡ point = omega arith in
    subst (λ (y : View). Answered key.sizes key.carried (pass_view v) (pass_view y) call (record { point = point; reply = r })) (sym same)
    (subst (λ (k : Key). Answered k.sizes k.carried (pass_view v) (pass_view w) call (record { point = point; reply = r })) own
    (subst (λ (n : ℕ). Answered v.key.sizes v.key.carried (pass_view v) (pass_view w) call (record { point = n; reply = r })) there is))
