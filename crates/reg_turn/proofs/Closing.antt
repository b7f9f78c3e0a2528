-- With the accounts of all sessions in one view, the registry is at home, and they stand in its log.
use Rattle.std.proofs.Common.{◌≡◌, ℕ, suc, ◌+◌, ◌<◌, false, not, List, [], ◌∷◌, map, length, get_or, Option, None, Some, refl, sym, ◌∙◌, ap, subst, arith}
use Rattle.std.specs.Prelude.{slice_get, find, All, AllPairs, ◌==◌, ◌||◌, if◌then◌else◌}
use Rattle.std.specs.List.{list_any, range_with_len}
use Rattle.std.specs.Option.{option_map}
use Rattle.std.proofs.lemmas.Option.{same_Some, slice_get_within}
use mathlib.Core.Logic.{dite}
use mathlib.Core.Option.{some, some-injective}
use native.Mathlib.Decide.{ℕ_discrete}
use lib.ListN.{get_elem?}
use Rattle.atomic_table.specs.Table.{State, Final, Seen}
use Rattle.reg_model.specs.declared.desk.CloseWhy.TheVariants.{Missing}
use Rattle.reg_model.specs.declared.reply.Row.{Row}
use Rattle.reg_model.specs.declared.update.Update.{Update}
use Rattle.reg_model.specs.Merge.{AreAccounts}
use Rattle.reg_model.specs.Rows.{all_rows, IsSeenBy}
use Rattle.reg_model.specs.Accounts.{ShareLog}
use Rattle.reg_model.specs.declared.desk.Closed.{Closed}
use Rattle.reg_model.specs.Live.{opening_after}
use Rattle.reg_model.specs.Registry.{Registry}
use Rattle.reg_model.specs.Laws.{MergeToLog}
use Rattle.reg_model.specs.Desks.{PassView, account_of, accounts_of, close_refusal, Closes}
use Rattle.reg_model.proofs.Merged.{accounts_merge}
use Rattle.reg_model.proofs.GivenPasses.{has_pass, at_mapped}
use Rattle.reg_turn.specs.declared.view.Account.{Account}
use Rattle.reg_turn.specs.declared.view.Key.{Key}
use Rattle.reg_turn.specs.declared.view.View.{View}
use Rattle.reg_turn.specs.Turns.{TurnPassView}
use Rattle.reg_turn.specs.PlainRows.{IsPlainRow}
use Rattle.reg_turn.specs.inner.OneTurn.{Slot, at_log, Kept, rows_of, by_number}
use Rattle.reg_turn.specs.inner.Steps.{Sat, account_in, sealing, sealed_accounts, Gathered}

-- ---- the passes that were given

abbrev pub views : List TurnPassView → List PassView
views passes = map (λ (pass : TurnPassView). pass.pass) passes

any_of : (passes : List TurnPassView) (n : ℕ) → list_any (λ (pass : TurnPassView). pass.pass.number == n) passes ≡ list_any (λ (pass : PassView). pass.number == n) (views passes)
any_of [] n = refl
any_of (p ∷ passes) n = ap (λ b. (p.pass.number == n) || b) (any_of passes n)

-- the least number that is missing, and why the round can't be closed
pub refusal_of : (callers many : ℕ) (now passes : List TurnPassView) (o : Option ℕ) → o ≡ find (λ n. not (list_any (λ (pass : TurnPassView). pass.pass.number == n) now)) (range_with_len 0 callers)
    → now ≡ passes → callers ≡ many → close_refusal many (views passes) ≡ option_map Missing o
refusal_of callers many now passes o is same_passes same_callers =
    (λ i. close_refusal (sym same_callers i) (views (sym same_passes i))) ∙ sym (ap (option_map Missing) (is ∙ (λ i. find (λ n. not (any_of now n i)) (range_with_len 0 callers))))

-- ---- the registry is at home

one_view : (s : State Slot View) (i j : ℕ) (v w : View) → get_elem? s.views i ≡ some v → get_elem? s.views j ≡ some w → i ≡ j → v ≡ w
one_view s i j v w at here same = some-injective v w (sym at ∙ (ap (get_elem? s.views) same ∙ here))

first_account : (list : List Account) → 0 < length list → (a : Account) × (get_elem? list 0 ≡ some a)
first_account [] more = absurd (omega (arith, more))
first_account (a ∷ list) more = (a, refl)

at_home : (key : Key) (s : State Slot View) (k : Kept key s) (id : ℕ) (v : View) (passes : List PassView) → get_elem? s.views id ≡ some v → v.holds ≡ false → v.accounts ≡ map account_in passes
    → close_refusal key.sizes.callers passes ≡ None → get_or s.words 0 0 ≡ 0
at_home key s k id v passes at quiet are all = dite (ℕ_discrete (get_or s.words 0 0) 0) (λ free. free) (λ busy.
    let h = k.turn busy in
    let b = first_account h.view.accounts h.account in
    let theirs = (k.fits k.holder h.view h.at).owns 0 b.0 b.1 in
    let low : b.0.number < key.sizes.callers = omega (arith, slice_get_within k.accounts b.0.number b.0.rows theirs.rows_are, k.callers) in
    let here = has_pass key.sizes.callers passes b.0.number all low in
    let mine = (k.fits id v at).owns here.place (account_in here.pass) (ap (λ (l : List Account). get_elem? l here.place) are ∙ at_mapped account_in passes here.place here.pass here.at) in
    let who : k.holder ≡ id = ap (λ (z : ℕ × ℕ). z.0) (sym theirs.owner_is ∙ (ap k.owner (sym here.number) ∙ mine.owner_is)) in
    let is : h.view ≡ v = one_view s k.holder id h.view v h.at at who in
    absurd (cc (h.holds, quiet, ap (λ (x : View). x.holds) is)))

-- ---- the accounts by number

tabulated : {X : Type 0} (l : List X) (f : ℕ → X) (a : ℕ) → ((n : ℕ) → n < length l → slice_get l n ≡ Some (f (a + n))) → l ≡ map f (range_with_len a (length l))
tabulated [] f a h = refl
tabulated (x ∷ l) f a h =
    let first : x ≡ f (a + 0) = same_Some x (f (a + 0)) (h 0 (omega arith)) in
    let here : x ≡ f a = first ∙ ap f (let same : a + 0 ≡ a = omega arith in same) in
    let rest = tabulated l f (a + 1) (λ n low. h (suc n) (omega (arith, low)) ∙ ap (λ k. Some (f k)) (let same : a + suc n ≡ a + 1 + n = omega arith in same)) in
    λ i. here i ∷ rest i

their_accounts : (key : Key) (s : State Slot View) (k : Kept key s) (id : ℕ) (v : View) (passes : List PassView) → get_elem? s.views id ≡ some v → v.accounts ≡ map account_in passes
    → close_refusal key.sizes.callers passes ≡ None → k.accounts ≡ accounts_of key.sizes.callers passes
their_accounts key s k id v passes at are all =
    tabulated k.accounts (account_of passes) 0
    (λ n low.
    let here = has_pass key.sizes.callers passes n all (omega (arith, low, k.callers)) in
    let mine = (k.fits id v at).owns here.place (account_in here.pass) (ap (λ (l : List Account). get_elem? l here.place) are ∙ at_mapped account_in passes here.place here.pass here.at) in
    ap (slice_get k.accounts) (sym here.number) ∙ (mine.rows_are ∙ (ap Some here.rows ∙ ap (λ m. Some (account_of passes m)) (let same : n ≡ 0 + n = omega arith in same))))
    ∙ ap (λ m. accounts_of m passes) k.callers

-- what comes out of the slot as the table is closed
pub record Ended (key : Key) (passes : List PassView) (slot : Slot) : Type 0 where
  pub log : List Update
  pub is : slot ≡ Some (at_log key log)
  pub shared : ShareLog key.sizes key.carried log (accounts_of key.sizes.callers passes)
  pub plain : All (IsPlainRow key.sizes key.carried log) (all_rows (accounts_of key.sizes.callers passes))

ends : (key : Key) (id : ℕ) (v : View) (passes : List PassView) (ws : List ℕ) (xs : List Slot) (slot : Slot) → Final (Seen (Kept key) id v) ws xs → v.holds ≡ false
    → v.accounts ≡ map account_in passes → close_refusal key.sizes.callers passes ≡ None → get_elem? xs 0 ≡ some slot → Ended key passes slot
ends key id v passes ws xs slot final quiet are all found =
    let s = final.0 in
    let k = final.1.0 in
    let at = final.1.1 in
    let home = (k.rests).home (at_home key s k id v passes at quiet are all) in
    let same = their_accounts key s k id v passes at are all in
    record {
      log = k.log;
      is = some-injective slot (Some (at_log key k.log)) (sym found ∙ final.4 0 (Some (at_log key k.log)) home);
      shared = subst (ShareLog key.sizes key.carried k.log) same k.shared;
      plain = subst (λ accounts. All (IsPlainRow key.sizes key.carried k.log) (all_rows accounts)) same k.plain;
    }

-- what the seal keeps
rows_same : (passes : List PassView) (n : ℕ) → rows_of (map account_in passes) n ≡ account_of passes n
rows_same [] n = refl
rows_same (p ∷ passes) n = ap (λ rows. if p.number == n then p.account else rows) (rows_same passes n)

sealed_are : (v : View) (passes : List PassView) (badges : List View) → v.accounts ≡ map account_in passes → badges ≡ sealing v ∷ [] → sealed_accounts badges ≡ accounts_of v.key.sizes.callers passes
sealed_are v passes badges are is =
    ap sealed_accounts is ∙ ap (by_number v.key.sizes.callers) are ∙ (λ i. map (λ n. rows_same passes n i) (range_with_len 0 v.key.sizes.callers))

-- ---- from the seat with all accounts

-- the table was closed with it, once a badge had been split off
pub came_out : (key : Key) (id : ℕ) (gathered left : Sat) (passes : List PassView) (ws : List ℕ) (xs : List Slot) (slot : Slot) → Gathered key passes gathered → left ≡ (gathered.0, gathered.1)
    → close_refusal key.sizes.callers passes ≡ None → Final (Seen (Kept key) id left.0) ws xs → get_elem? xs 0 ≡ some slot → Ended key passes slot
came_out key id gathered left passes ws xs slot g same all final found =
    let view : left.0 ≡ gathered.0 = ap (λ (z : Sat). z.0) same in
    ends key id left.0 passes ws xs slot final (ap (λ (v : View). v.holds) view ∙ g.rests) (ap (λ (v : View). v.accounts) view ∙ g.accounts) all found

pub sealed : (key : Key) (gathered part : Sat) (passes : List PassView) (badges : List View) → Gathered key passes gathered → part ≡ (sealing gathered.0, []) → badges ≡ part.0 ∷ []
    → sealed_accounts badges ≡ accounts_of key.sizes.callers passes
sealed key gathered part passes badges g split badge =
    sealed_are gathered.0 passes badges g.accounts (badge ∙ ap (λ (z : Sat). z.0 ∷ []) split) ∙ ap (λ (x : Key). accounts_of x.sizes.callers passes) g.knows

-- ---- the round that has ended

module _ (key : Key) (passes : List PassView) (slot : Slot) (plain : Registry) (closed : Closed) (accounts : List (List Row)) (ended : Ended key passes slot)
    (there_is : slot ≡ Some plain) (log : closed.log ≡ plain.log) (base : closed.base ≡ plain.opening.base) (carried : closed.carried ≡ opening_after plain.opening plain.log)
    (kept : accounts ≡ accounts_of key.sizes.callers passes) where
  plain_is : plain ≡ at_log key ended.log
  plain_is = same_Some plain (at_log key ended.log) (sym there_is ∙ ended.is)

  log_is : closed.log ≡ ended.log
  log_is = log ∙ ap (λ (r : Registry). r.log) plain_is

  pub closes : Closes key.sizes key.carried closed accounts
  closes = record {
    base = base ∙ ap (λ (r : Registry). r.opening.base) plain_is;
    numbered = subst AreAccounts (sym kept) ended.shared.numbered;
    seen = subst (All (AllPairs IsSeenBy)) (sym kept) ended.shared.seen;
    merge = subst (λ (z : List Update × List (List Row)). MergeToLog key.sizes key.carried z.0 z.1) (λ i. (sym log_is i, sym kept i))
        (accounts_merge key.sizes key.carried ended.log (accounts_of key.sizes.callers passes) ended.shared);
    carried = carried ∙ ap (λ (r : Registry). opening_after r.opening r.log) plain_is ∙ ap (opening_after key.carried) (sym log_is);
  }

  pub closes_plain : All (IsPlainRow key.sizes key.carried closed.log) (all_rows accounts)
  closes_plain = subst (λ (z : List Update × List (List Row)). All (IsPlainRow key.sizes key.carried z.0) (all_rows z.1)) (λ i. (sym log_is i, sym kept i)) ended.plain
