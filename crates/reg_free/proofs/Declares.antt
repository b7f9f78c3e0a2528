-- A declaration, up to its entry.
use Rattle.std.proofs.Common.{◌≡◌, ◌≢◌, ℕ, ◌+◌, ◌<◌, ◌≤◌, ◌⊎◌, inl, inr, ⊎_elim, true, List, ◌++◌, length, length-append, append-nil, [], Option, None, Some, refl, sym, ap, ◌∙◌, subst, arith}
use Rattle.std.specs.Option.{option_map}
use Rattle.atomic_table.specs.Seated.{TableId}
use Rattle.iscc_header.specs.declared.unit.Unit64.{Unit64}
use Rattle.reg_model.specs.Desks.{HasNoSnapshot, Answered}
use Rattle.reg_model.specs.declared.call.Call.TheVariants.{Declare}
use Rattle.reg_model.specs.declared.reply.Answer.{Answer}
use Rattle.reg_model.specs.declared.reply.Reply.TheVariants.{Full}
use Rattle.reg_model.specs.declared.reply.FullCause.TheVariants.{Log}
use Rattle.reg_rule.specs.declared.told.Told.TheVariants.{Row as RowOf}
use Rattle.reg_rule.specs.declared.view.Key.{Key}
use Rattle.reg_rule.specs.declared.view.Place.{Place}
use Rattle.reg_rule.specs.declared.view.View.{View}
use Rattle.reg_rule.specs.Helping.{helped_up_to, HasHelped}
use Rattle.reg_rule.specs.Moves.{next_row}
use Rattle.reg_rule.specs.Passes.{pass_view, point_of}
use Rattle.reg_rule.specs.Rounds.{IsWordsPass}
use Rattle.reg_rule.specs.Steps.{SeenFits}
use Rattle.reg_commit.specs.Fronts.{FrontFound}
use Rattle.reg_free.specs.Fit.{IsFit}
use Rattle.reg_free.specs.inner.Between.{IsBetween, Rests}
use Rattle.reg_free.proofs.Publishing.{unmarked, length_grown, none_some, seen_length, full_row, no_row, full_answered}

is_unopened : (v : View) → HasNoSnapshot (pass_view v) → v.snapshot ≡ None
is_unopened v free = by v.snapshot free where
  by : (s : Option ℕ) → option_map (point_of v) s ≡ None → s ≡ None
  by None e = refl
  by (Some k) e = absurd (cc)

-- one caller has helped what it has seen, where nothing new was seen
alone_still : (helped later : Option ℕ) (log places whole : List Place) (most size : ℕ) → places ≡ [] → whole ≡ log ++ places → later ≡ helped → size ≡ most → (helped_up_to helped (length log) ≡ true) ⊎ (length log ≡ most)
    → (helped_up_to later (length whole) ≡ true) ⊎ (length whole ≡ size)
alone_still helped later log places whole most size none is same sized has =
    let log_is : whole ≡ log = is ∙ (ap (λ (l : List Place). log ++ l) none ∙ append-nil log) in
    ⊎_elim (λ (h : helped_up_to helped (length log) ≡ true). inl ((λ j. helped_up_to (same j) (length (log_is j))) ∙ h))
    (λ (h : length log ≡ most). inr (ap length log_is ∙ (h ∙ sym sized))) has

-- ---- the front

module _ (words : TableId × Key) (unit : Unit64) (place : ℕ) (old new : TableId × View) (fit : IsFit words old) (free : HasNoSnapshot (pass_view old.1)) (f : FrontFound (RowOf (Declare unit)) old.1 place new.1) (own : IsWordsPass words new) where
  unopened : old.1.snapshot ≡ None
  unopened = is_unopened old.1 free

  unpinned : new.1.pin ≡ 0
  unpinned = ap (λ (z : View). z.pin) f.view ∙ fit.unpinned unopened

  closed : new.1.snapshot ≡ None
  closed = ap (λ (z : View). z.snapshot) f.view ∙ unopened

  unheld : new.1.holding ≡ None
  unheld = ap (λ (z : View). z.holding) f.view ∙ (unmarked old.1.holding place fit.unheld ∙ fit.unheld)

  longer : length old.1.log ≤ length new.1.log
  longer = let a = seen_length old.1 new.1 unit place f unopened in let b = f.front_is in omega arith

  helped : (n : ℕ) → new.1.committed ≡ Some n → (n < length new.1.log) × HasHelped new.1 (n + 1)
  helped n last = let h = fit.helped n (sym (ap (λ (z : View). z.committed) f.view) ∙ last) in ((let a = h.0 in let b = longer in omega arith), ap (λ (z : View). helped_up_to z.helped (n + 1)) f.view ∙ h.1)

  key : new.1.key ≡ old.1.key
  key = ap (λ (z : View). z.key) f.view

  alone : new.1.key.sizes.callers ≡ 1 → HasHelped new.1 (length new.1.log) ⊎ (length new.1.log ≡ new.1.key.sizes.log)
  alone one =
      let lone : old.1.key.sizes.callers ≡ 1 = ap (λ (k : Key). k.sizes.callers) (sym key) ∙ one in
      alone_still old.1.helped new.1.helped old.1.log f.places new.1.log old.1.key.sizes.log new.1.key.sizes.log (f.alone lone) (ap (λ (z : View). z.log) f.view) (ap (λ (z : View). z.helped) f.view) (ap (λ (k : Key). k.sizes.log) key) (fit.alone lone)

  size : place ≡ words.1.sizes.log → place ≡ old.1.key.sizes.log
  size all = all ∙ ap (λ (k : Key). k.sizes.log) (sym fit.own.1)

  -- all places are filled
  pub answers_full : (answer : Answer) → place ≡ words.1.sizes.log → answer ≡ record { point = words.1.carried.base + words.1.sizes.log; reply = Full Log } → Answered words.1.sizes words.1.carried (pass_view old.1) (pass_view new.1) (Declare unit) answer
  answers_full answer all is =
      subst (λ (k : Key). Answered k.sizes k.carried (pass_view old.1) (pass_view new.1) (Declare unit) answer) fit.own.1
      (subst (λ (a : Answer). Answered old.1.key.sizes old.1.key.carried (pass_view old.1) (pass_view new.1) (Declare unit) a) (sym is_here)
      (full_answered old.1 new.1 unit place f unopened (size all) fit.one new.1 key closed refl refl)) where
        point : words.1.carried.base + words.1.sizes.log ≡ old.1.key.carried.base + place
        point = let a = ap (λ (k : Key). k.carried.base) fit.own.1 in let b = all in omega arith

        is_here : answer ≡ record { point = old.1.key.carried.base + place; reply = Full Log }
        is_here = is ∙ (λ j. record { point = point j; reply = Full Log })

  pub fit_full : place ≡ words.1.sizes.log → IsFit words new
  fit_full all = record {
    own = own;
    one = (let a = fit.one in let b = ap length (full_row old.1 new.1 unit place f unopened (size all)) in let c = length_grown old.1.accounts (next_row old.1 (Declare unit) place (Full Log)) in omega arith);
    unheld = unheld;
    unpinned = λ closed_so. unpinned;
    opens = λ k open_at. absurd (none_some new.1.snapshot k closed open_at);
    helped = helped;
    alone = alone;
    hand = inr (seen_length old.1 new.1 unit place f unopened ∙ (size all ∙ ap (λ (k : Key). k.sizes.log) (sym key)));
  }

  -- and else the call goes on
  pub goes_on : place ≢ words.1.sizes.log → Rests words new
  goes_on some = record {
    own = own;
    one = (let a = fit.one in let b = ap length (no_row old.1 new.1 unit place f unopened (λ e. some (e ∙ ap (λ (k : Key). k.sizes.log) fit.own.1))) in omega arith);
    unheld = unheld;
    unopened = closed;
    free = unpinned;
    helped = helped;
    alone = alone;
    seen = subst (λ (k : Key). SeenFits k new.1.log) (sym key) f.seen;
  }

-- the entry was taken, or the ring found empty
pub rests_on : (words : TableId × Key) (old new : TableId × View) → Rests words old → IsBetween old.1 new.1 → IsWordsPass words new → SeenFits new.1.key new.1.log → new.1.pin ≡ old.1.pin → Rests words new
rests_on words old new r b own seen pin = record {
  own = own;
  one = (let a = r.one in let e = ap length b.accounts in omega arith);
  unheld = b.holding ∙ r.unheld;
  unopened = b.snapshot ∙ r.unopened;
  free = pin ∙ r.free;
  helped = λ n last. (let h = r.helped n (sym b.committed ∙ last) in ((let a = h.0 in let e = ap length b.log in let l = length-append old.1.log b.places in omega arith), ap (λ (o : Option ℕ). helped_up_to o (n + 1)) b.helped ∙ h.1));
  alone = λ one. (let lone : old.1.key.sizes.callers ≡ 1 = ap (λ (k : Key). k.sizes.callers) (sym b.key) ∙ one in
      alone_still old.1.helped new.1.helped old.1.log b.places new.1.log old.1.key.sizes.log new.1.key.sizes.log (b.alone lone) b.log b.helped (ap (λ (k : Key). k.sizes.log) b.key) (r.alone lone));
  seen = seen;
}
