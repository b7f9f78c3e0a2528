-- The answer of a refusal for want of entries.
use Rattle.std.proofs.Common.{◌≡◌, ℕ, ◌+◌, ◌-◌, ◌<◌, ◌⊎◌, inl, List, [], ◌∷◌, ◌++◌, length, length-append, Option, None, Some, refl, sym, ap, ◌∙◌, subst, arith}
use Rattle.std.proofs.lemmas.List.{append-nil}
use Rattle.std.specs.Option.{option_map}
use Rattle.atomic_table.specs.Seated.{TableId}
use Rattle.iscc_header.specs.declared.unit.Unit64.{Unit64}
use Rattle.reg_model.specs.Desks.{Answered}
use Rattle.reg_model.specs.declared.call.Call.TheVariants.{Declare}
use Rattle.reg_model.specs.declared.reply.Reply.TheVariants.{Full}
use Rattle.reg_model.specs.declared.reply.FullCause.TheVariants.{Entries}
use Rattle.reg_model.specs.declared.reply.Row.{Row}
use Rattle.reg_model.specs.declared.update.Update.{Update}
use Rattle.reg_rule.specs.declared.view.Account.{Account}
use Rattle.reg_rule.specs.declared.view.Key.{Key}
use Rattle.reg_rule.specs.declared.view.Place.{Place}
use Rattle.reg_rule.specs.declared.view.View.{View}
use Rattle.reg_rule.specs.Log.{At}
use Rattle.reg_rule.specs.Helping.{HasHelped}
use Rattle.reg_rule.specs.Moves.{grown, head_number, head_rows, next_row, given_of, taken_at_empty}
use Rattle.reg_rule.specs.Passes.{pass_view, point_of}
use Rattle.reg_rule.specs.Rounds.{IsWordsPass}
use Rattle.reg_rule.specs.Steps.{IsServed}
use Rattle.reg_free.specs.Fit.{IsFit}
use Rattle.reg_free.specs.inner.Between.{Rests, IsRefused}
use Rattle.reg_free.specs.inner.Refusals.{HasRefused}

at_last : {A : Type 0} (l : List A) (x : A) → At (l ++ x ∷ []) (length l) x
at_last [] x = refl
at_last (y ∷ l) x = at_last l x

rows_grown : (accounts : List Account) (row : Row) → 0 < length accounts → head_rows (grown accounts (Some row)) ≡ head_rows accounts ++ row ∷ []
rows_grown [] row one = absurd (omega (arith, one))
rows_grown (a ∷ others) row one = refl

number_grown : (accounts : List Account) (row : Row) → head_number (grown accounts (Some row)) ≡ head_number accounts
number_grown [] row = refl
number_grown (a ∷ others) row = refl

length_grown : (accounts : List Account) (row : Row) → length (grown accounts (Some row)) ≡ length accounts
length_grown [] row = refl
length_grown (a ∷ others) row = refl

-- how many entries had been given back
pub given_then : (v : View) (taken : ℕ) → IsRefused taken v → given_of v ≡ (taken + length v.key.carried.list) - v.key.sizes.entries
given_then v taken r =
    let at : taken_at_empty v.empty ≡ taken = ap taken_at_empty r.empty.1 ∙ r.empty.2 in
    ap (λ (n : ℕ). (n + length v.key.carried.list) - v.key.sizes.entries) at

-- the refusal's row is its answer
pub refusal_answers : (v w : View) (unit : Unit64) (taken place : ℕ) → 0 < length v.accounts → v.snapshot ≡ None → IsRefused taken v → HasRefused unit v place w
    → Answered v.key.sizes v.key.carried (pass_view v) (pass_view w) (Declare unit) (record { point = v.key.carried.base + place; reply = Full (Entries ((taken + length v.key.carried.list) - v.key.sizes.entries)) })
refusal_answers v w unit taken place one unopened r h = subst (λ (n : ℕ). Answered v.key.sizes v.key.carried (pass_view v) (pass_view w) (Declare unit) (record { point = v.key.carried.base + place; reply = Full (Entries n) })) (given_then v taken r) answered where
  row : Row
  row = next_row v (Declare unit) place (Full (Entries (given_of v)))

  accounts : w.accounts ≡ grown v.accounts (Some row)
  accounts = ap (λ (z : View). z.accounts) h.view

  key : w.key ≡ v.key
  key = ap (λ (z : View). z.key) h.view

  rows : head_rows w.accounts ≡ head_rows v.accounts ++ row ∷ []
  rows = ap head_rows accounts ∙ rows_grown v.accounts row one

  served : IsServed v.key row
  served = subst (λ (k : Key). IsServed k row) key (h.rows (length (head_rows v.accounts)) row (subst (λ (l : List Row). At l (length (head_rows v.accounts)) row) (sym rows) (at_last (head_rows v.accounts) row)))

  base : w.key.carried.base ≡ v.key.carried.base
  base = ap (λ (k : Key). k.carried.base) key

  answered : Answered v.key.sizes v.key.carried (pass_view v) (pass_view w) (Declare unit) (record { point = v.key.carried.base + place; reply = Full (Entries (given_of v)) })
  answered = record {
    adds = record {
      number = ap head_number accounts ∙ number_grown v.accounts row;
      row = rows;
      served = record {
        log = served.log;
        after = record { limits = v.key.sizes; opening = v.key.carried; log = served.log ++ [] };
        serves = record {
          reply = served.reply;
          update = refl;
          point = (let at = served.point in let same = ap (λ (l : List Update). length l) (append-nil served.log) in omega arith);
          within = (let at = served.within in let same = ap (λ (l : List Update). length l) (append-nil served.log) in omega arith);
        };
      };
    };
    floor = (let low = h.floor in omega arith);
    accepted = λ e. cc;
    seen = (let high = h.upto in let b = base in omega arith);
    ended = ap (option_map (point_of w)) (ap (λ (z : View). z.snapshot) h.view ∙ unopened);
  }

-- with the numbers of the answer
pub refusal_told : (key : Key) (v w : View) (unit : Unit64) (taken place point given : ℕ) → v.key ≡ key → 0 < length v.accounts → v.snapshot ≡ None → IsRefused taken v → HasRefused unit v place w
    → point ≡ key.carried.base + place → given + key.sizes.entries ≡ taken + length key.carried.list
    → Answered key.sizes key.carried (pass_view v) (pass_view w) (Declare unit) (record { point = point; reply = Full (Entries given) })
refusal_told key v w unit taken place point given own one unopened r h at rest =
    let base : v.key.carried.base ≡ key.carried.base = ap (λ (k : Key). k.carried.base) own in
    let entries : v.key.sizes.entries ≡ key.sizes.entries = ap (λ (k : Key). k.sizes.entries) own in
    let list : length v.key.carried.list ≡ length key.carried.list = ap (λ (k : Key). length k.carried.list) own in
    let same_point : v.key.carried.base + place ≡ point = omega arith in
    let same_given : (taken + length v.key.carried.list) - v.key.sizes.entries ≡ given = omega arith in
    subst (λ (k : Key). Answered k.sizes k.carried (pass_view v) (pass_view w) (Declare unit) (record { point = point; reply = Full (Entries given) })) own
    (subst (λ (n : ℕ). Answered v.key.sizes v.key.carried (pass_view v) (pass_view w) (Declare unit) (record { point = point; reply = Full (Entries n) })) same_given
    (subst (λ (n : ℕ). Answered v.key.sizes v.key.carried (pass_view v) (pass_view w) (Declare unit) (record { point = n; reply = Full (Entries ((taken + length v.key.carried.list) - v.key.sizes.entries)) })) same_point
    (refusal_answers v w unit taken place one unopened r h)))

-- the pass is fit again
pub refusal_fits : (words : TableId × Key) (p q : TableId × View) (unit : Unit64) (place : ℕ) → Rests words p → p.1.hands ≡ [] → IsWordsPass words q → HasRefused unit p.1 place q.1 → IsFit words q
refusal_fits words p q unit place r none own h = record {
  own = own;
  one = (let a = r.one in let b = ap (λ (z : View). length z.accounts) h.view in let c = length_grown p.1.accounts (next_row p.1 (Declare unit) place (Full (Entries (given_of p.1)))) in omega arith);
  unheld = ap (λ (z : View). z.holding) h.view ∙ r.unheld;
  unpinned = λ e. ap (λ (z : View). z.pin) h.view ∙ r.free;
  opens = λ k e. absurd (opened q.1.snapshot k (ap (λ (z : View). z.snapshot) h.view ∙ r.unopened) e);
  helped = λ n e. (let have = r.helped n (sym (ap (λ (z : View). z.committed) h.view) ∙ e) in let low = have.0 in
      (longer n have.0, subst (λ (z : View). HasHelped z (n + 1)) (sym h.view) have.1));
  alone = λ one. (let single : p.1.key.sizes.callers ≡ 1 = sym (ap (λ (z : View). z.key.sizes.callers) h.view) ∙ one in
      subst (λ (z : View). HasHelped z (length z.log) ⊎ (length z.log ≡ z.key.sizes.log)) (sym h.view)
      (subst (λ (l : List Place). HasHelped p.1 (length l) ⊎ (length l ≡ p.1.key.sizes.log)) (sym (ap (λ (l : List Place). p.1.log ++ l) (h.alone single) ∙ append-nil p.1.log)) (r.alone single)));
  hand = inl (ap (λ (z : View). z.hands) h.view ∙ none);
} where
  opened : (o : Option ℕ) (k : ℕ) → o ≡ None → o ≡ Some k → ⊥
  opened o k a b = cc

  longer : (n : ℕ) → n < length p.1.log → n < length q.1.log
  longer n low = let long = ap (λ (z : View). length z.log) h.view in let more = length-append p.1.log h.places in omega arith
