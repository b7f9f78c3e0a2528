-- Taking the turn and giving it back keep the rule.
use Rattle.std.proofs.Common.{◌≡◌, ◌≢◌, ℕ, zero, suc, ◌+◌, ◌<◌, ◌≤◌, eqb, List, [], ◌∷◌, length, get_or, set, sym, ap, ◌∙◌, refl, subst, arith, true, false, Option, None, Some, length-set, get_or-set_same, length-append}
use mathlib.Core.Logic.{dite}
use mathlib.Core.Option.{none, some, some-injective, some-ne-none}
use native.Mathlib.Decide.{ℕ_discrete}
use lib.ListN.{get_elem?}
use Rattle.std.specs.Prelude.{slice_get, All}
use Rattle.std.specs.Option.{option_to_list}
use lib.Seq.{set-get_or}
use prog.Atomic.{either}
use Rattle.atomic_table.specs.Table.{State, step, keeps, takes, gives, stepped, Allows, rest}
use Rattle.atomic_table.proofs.Lists.{set_again, set_here, exchanged}
use Rattle.reg_model.specs.declared.update.Update.{Update}
use Rattle.reg_model.specs.declared.reply.Row.{Row}
use Rattle.reg_model.specs.Rows.{update_of, all_rows}
use Rattle.reg_model.specs.Accounts.{ShareLog, with_row}
use Rattle.reg_model.specs.Registry.{Registry, Serves}
use Rattle.reg_model.specs.Desks.{PassView, row_of}
use Rattle.reg_model.proofs.AccountSteps.{length_with, with_row-else, with_row-here}
use Rattle.reg_turn.specs.declared.view.Account.{Account}
use Rattle.reg_turn.specs.declared.view.Key.{Key}
use Rattle.reg_turn.specs.declared.view.View.{View}
use Rattle.reg_turn.specs.PlainRows.{IsPlainReply, IsPlainRow}
use Rattle.reg_turn.specs.inner.OneTurn.{Slot, at_log, Owned, Fits, Kept, head_number, head_rows}
use Rattle.reg_turn.specs.inner.Steps.{Sat, pass_of, holding, taken, ServedCall, grown, view_after, gave, Gives}
use Rattle.reg_turn.proofs.Views.{views_after}
use Rattle.reg_turn.proofs.ServedRows.{now_is, log_is, point_now, served_share, served_rows}

abbrev St : Type 0
St = State Slot View

in_range : {A : Type 0} (l : List A) (i : ℕ) (a : A) → get_elem? l i ≡ some a → i < length l
in_range [] i a e = absurd (some-ne-none a (sym e))
in_range (x ∷ xs) zero a e = omega arith
in_range (x ∷ xs) (suc i) a e = let h = in_range xs i a e in omega (arith, h)

-- ---- taking the turn

-- an exchange that finds another number changes nothing
unmoved : (key : Key) (s : St) (i id : ℕ) (me : Sat) → get_elem? s.views id ≡ some me.0 → Kept key s → Kept key (stepped s i (get_or s.words i 0) id me.1 me.0 keeps)
unmoved key s i id me at k = subst (λ (z : List ℕ × List View). Kept key record { words = z.0; homes = s.homes; views = z.1 }) (λ j. (sym (set-get_or s.words i 0) j, sym (set_again s.views id me.0 at) j)) k

took : (key : Key) (slots id : ℕ) (me : Sat) (s : St) (k : Kept key s) → length s.homes ≡ slots → get_elem? s.views id ≡ some me.0 → slots ≡ 1 → 0 < length me.0.accounts → get_or s.words 0 0 ≡ 0
    → Kept key (stepped s 0 1 id me.1 (holding me.0 k.log) (takes 0 (Some (at_log key k.log))))
took key slots id me s k one at single account free =
    let f = k.fits id me.0 at in
    let w : View = holding me.0 k.log in
    let now : get_or (set s.words 0 1) 0 0 ≡ 1 = get_or-set_same s.words 0 1 0 (omega (arith, k.wide)) in
    let busy : get_or (set s.words 0 1) 0 0 ≢ 0 = λ z. omega (arith, now, z) in
    record {
      log = k.log;
      accounts = k.accounts;
      owner = k.owner;
      holder = id;
      wide = length-set s.words 0 1 ∙ k.wide;
      rests = record { home = λ z. absurd (busy z); out = λ _. set_here s.homes 0 none (omega (arith, one, single)) };
      turn = λ _. record { view = w; at = set_here s.views id w (in_range s.views id me.0 at); holds = refl; account = account };
      shared = k.shared;
      plain = k.plain;
      callers = k.callers;
      fits = views_after (Fits key k.log k.accounts k.owner id (get_or (set s.words 0 1) 0 0)) s.views id w
          record { knows = f.knows; owns = f.owns; seen = f.seen; holding = λ _. (busy, refl, refl) }
          (λ j d ne e. let g = k.fits j d e in record { knows = g.knows; owns = g.owns; seen = g.seen; holding = λ h. absurd ((g.holding h).0 free) });
    }

pub takes_turn : (key : Key) (slots id : ℕ) (me : Sat) → slots ≡ 1 → me.0.live ≡ true → me.1 ≡ [] → 0 < length me.0.accounts
    → Allows (Kept key) slots id me 0 (λ n. either (eqb n 0) 1 n) (taken (step slots 0 0 1 none) me)
takes_turn key slots id me single live empty account s k one at small = dite (ℕ_discrete (get_or s.words 0 0) 0)
    (λ hit.
    let f = k.fits id me.0 at in
    let own : me.0.key ≡ key = f.knows live in
    let w : View = holding me.0 k.log in (
      w,
      takes 0 (Some (at_log key k.log)),
      k.rests.home hit,
      exchanged (get_or s.words 0 0) 0 1 (λ x. Kept key (stepped s 0 x id me.1 w (takes 0 (Some (at_log key k.log))))) (λ _. took key slots id me s k one at single account hit) (λ miss. absurd (miss hit)),
      (
        (λ _. (
          k.log,
          λ i. (w, (0, Some (at_log (sym own i) k.log)) ∷ empty i),
          subst (λ (x : Key). me.0.seen ≤ x.carried.base + length k.log) (sym own) f.seen,
        )),
        λ miss. absurd (miss hit),
      ),
    ))
    (λ miss. (
      me.0,
      keeps,
      tt,
      exchanged (get_or s.words 0 0) 0 1 (λ x. Kept key (stepped s 0 x id me.1 me.0 keeps)) (λ hit. absurd (miss hit)) (λ _. unmoved key s 0 id me at k),
      ((λ hit. absurd (miss hit)), λ _. refl),
    ))

-- ---- giving it back

-- what the log and the accounts of the rule become as a seat gives the turn back, with its view
record Becomes (key : Key) (s : St) (k : Kept key s) (id : ℕ) (w : View) (log : List Update) (accounts : List (List Row)) : Type 0 where
  pub longer : length k.log ≤ length log
  pub shared : ShareLog key.sizes key.carried log accounts
  pub plain : All (IsPlainRow key.sizes key.carried log) (all_rows accounts)
  pub many : length accounts ≡ length k.accounts
  -- the accounts of other seats stay
  pub others : (m : ℕ) → (k.owner m).0 ≢ id → slice_get accounts m ≡ slice_get k.accounts m
  pub rests : w.holds ≡ false
  pub knows : w.live ≡ true → w.key ≡ key
  pub owns : (i : ℕ) (a : Account) → get_elem? w.accounts i ≡ some a → Owned accounts k.owner id i a
  pub seen : w.seen ≤ key.carried.base + length log

returned : (key : Key) (s : St) (k : Kept key s) (id : ℕ) (w : View) (log : List Update) (accounts : List (List Row)) → Becomes key s k id w log accounts → length s.homes ≡ 1
    → k.holder ≡ id → Kept key (stepped s 0 0 id ((0, Some (at_log key log)) ∷ []) w gives)
returned key s k id w log accounts b one mine =
    let now : get_or (set s.words 0 0) 0 0 ≡ 0 = get_or-set_same s.words 0 0 0 (omega (arith, k.wide)) in
    record {
      log = log;
      accounts = accounts;
      owner = k.owner;
      holder = k.holder;
      wide = length-set s.words 0 0 ∙ k.wide;
      rests = record { home = λ _. set_here s.homes 0 (some (Some (at_log key log))) (omega (arith, one)); out = λ busy. absurd (busy now) };
      turn = λ busy. absurd (busy now);
      shared = b.shared;
      plain = b.plain;
      callers = b.many ∙ k.callers;
      fits = views_after (Fits key log accounts k.owner k.holder (get_or (set s.words 0 0) 0 0)) s.views id w
          record { knows = b.knows; owns = b.owns; seen = b.seen; holding = λ h. absurd (cc (h, b.rests)) }
          (λ j d ne e. let g = k.fits j d e in record {
            knows = g.knows;
            owns = λ i a there. let o = g.owns i a there in record {
              owner_is = o.owner_is;
              rows_are = b.others a.number (λ same. ne (ap (λ (z : ℕ × ℕ). z.0) (sym o.owner_is) ∙ same)) ∙ o.rows_are;
            };
            seen = omega (arith, g.seen, b.longer);
            holding = λ h. absurd (ne (sym (g.holding h).1 ∙ mine));
          });
    }

-- the seat that has the turn has an account
has_account : (key : Key) (s : St) (k : Kept key s) (id : ℕ) (v : View) → get_elem? s.views id ≡ some v → v.holds ≡ true → 0 < length v.accounts
has_account key s k id v at holds =
    let held = (k.fits id v at).holding holds in
    let h = k.turn held.0 in
    let same : some h.view ≡ some v = sym h.at ∙ (ap (get_elem? s.views) held.1 ∙ at) in
    subst (λ (x : View). 0 < length x.accounts) (some-injective _ _ same) h.account

head_owned : (accounts : List (List Row)) (owner : ℕ → ℕ × ℕ) (id : ℕ) (list : List Account) → 0 < length list → ((i : ℕ) (a : Account) → get_elem? list i ≡ some a → Owned accounts owner id i a)
    → (owner (head_number list) ≡ (id, 0)) × (slice_get accounts (head_number list) ≡ Some (head_rows list))
head_owned accounts owner id [] more owns = absurd (omega (arith, more))
head_owned accounts owner id (a ∷ list) more owns = let o = owns 0 a refl in (o.owner_is, o.rows_are)

grown_owned : (accounts : List (List Row)) (owner : ℕ → ℕ × ℕ) (id : ℕ) (list : List Account) (row : Row) → ((i : ℕ) (a : Account) → get_elem? list i ≡ some a → Owned accounts owner id i a)
    → (i : ℕ) (a : Account) → get_elem? (grown list row) i ≡ some a → Owned (with_row accounts (head_number list) row) owner id i a
grown_owned accounts owner id [] row owns i a at = absurd (some-ne-none a (sym at))
grown_owned accounts owner id (first ∷ list) row owns zero a at =
    let o = owns zero first refl in
    subst (λ (z : Account). Owned (with_row accounts first.number row) owner id 0 z) (some-injective _ _ at)
    record { owner_is = o.owner_is; rows_are = with_row-here accounts first.number first.rows row o.rows_are }
grown_owned accounts owner id (first ∷ list) row owns (suc i) a at =
    let o = owns (suc i) a at in
    let mine = owns zero first refl in
    record {
      owner_is = o.owner_is;
      rows_are = with_row-else accounts first.number a.number row (λ same. let places : suc i ≡ 0 = ap (λ (z : ℕ × ℕ). z.1) (sym o.owner_is ∙ (ap owner same ∙ mine.owner_is)) in omega (arith, places)) ∙ o.rows_are;
    }

-- the log and the accounts after a call that was served, or none
becomes : (key : Key) (s : St) (k : Kept key s) (id : ℕ) (v : View) (registry : Registry) (served : Option ServedCall) → get_elem? s.views id ≡ some v → v.live ≡ true → v.holds ≡ true → Gives v registry served
    → (log : List Update) × (accounts : List (List Row)) × (registry ≡ at_log key log) × Becomes key s k id (view_after v served) log accounts
becomes key s k id v registry None at live holds owed =
    let f = k.fits id v at in
    let held = f.holding holds in (
      k.log,
      k.accounts,
      owed ∙ (λ i. at_log (f.knows live i) (held.2 i)),
      record {
        longer = omega arith;
        shared = k.shared;
        plain = k.plain;
        many = refl;
        others = λ m other. refl;
        rests = refl;
        knows = f.knows;
        owns = f.owns;
        seen = f.seen;
      },
    )
becomes key s k id v registry (Some served) at live holds owed =
    let f = k.fits id v at in
    let held = f.holding holds in
    let pass : PassView = pass_of v in
    let here = head_owned k.accounts k.owner id v.accounts (has_account key s k id v at holds) f.owns in
    let serves : Serves (at_log key k.log) served.call served.answer registry = subst (λ (r : Registry). Serves r served.call served.answer registry) (λ i. at_log (f.knows live i) (held.2 i)) owed.0 in
    let plain : IsPlainReply (at_log key k.log) served.call served.answer.reply = subst (λ (r : Registry). IsPlainReply r served.call served.answer.reply) (λ i. at_log (f.knows live i) (held.2 i)) owed.1 in
    let is = now_is key.sizes key.carried k.log pass served.call served.answer registry serves in
    let log_then = log_is key.sizes key.carried k.log pass served.call served.answer registry serves in
    let point = point_now key.sizes key.carried k.log pass served.call served.answer registry serves in (
      registry.log,
      with_row k.accounts pass.number (row_of pass served.call served.answer),
      is ∙ ap (at_log key) (sym log_then),
      record {
        longer = omega (arith, ap length log_then, length-append k.log (option_to_list (update_of served.call served.answer.reply)));
        shared = served_share key.sizes key.carried k.log pass served.call served.answer registry serves k.accounts k.shared here.1;
        plain = served_rows key.sizes key.carried k.log pass served.call served.answer registry serves k.accounts k.plain plain;
        many = length_with k.accounts pass.number (row_of pass served.call served.answer);
        others = λ m other. with_row-else k.accounts pass.number m (row_of pass served.call served.answer) (λ same. other (ap (λ n. (k.owner n).0) same ∙ ap (λ (z : ℕ × ℕ). z.0) here.0));
        rests = refl;
        knows = f.knows;
        owns = grown_owned k.accounts k.owner id v.accounts (row_of pass served.call served.answer) f.owns;
        seen = omega (arith, point);
      },
    )

pub gives_turn : (key : Key) (slots id : ℕ) (me : Sat) (registry : Registry) (served : Option ServedCall) → slots ≡ 1 → me.1 ≡ (0, Some registry) ∷ [] → me.0.live ≡ true → me.0.holds ≡ true → Gives me.0 registry served
    → Allows (Kept key) slots id me 0 (λ _. 0) (λ _. gave served (step slots 0 0 0 none) me 0)
gives_turn key slots id me registry served single out live holds owed s k one at small =
    let b = becomes key s k id me.0 registry served at live holds owed in
    let w : View = view_after me.0 served in
    let held : me.1 ≡ (0, Some (at_log key b.0)) ∷ [] = out ∙ ap (λ (r : Registry). (0, Some r) ∷ []) b.2 in (
      w,
      gives,
      tt,
      subst (λ (c : List (ℕ × Slot)). Kept key (stepped s 0 0 id c w gives)) (sym held) (returned key s k id w b.0 b.1 b.3 (omega (arith, one, single)) ((k.fits id me.0 at).holding holds).1),
      (λ i. (w, rest (out i))),
    )

-- ---- the slot that a seat has

pub held_first : (l : List (ℕ × Slot)) (n : ℕ) (x : Slot) → l ≡ (n, x) ∷ [] → l ≡ (n, x) ∷ rest l
held_first l n x e = e ∙ ap (λ (z : List (ℕ × Slot)). (n, x) ∷ rest z) (sym e)
