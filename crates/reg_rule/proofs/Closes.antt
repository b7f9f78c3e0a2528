-- With the accounts of all passes in one view, they share the log of the last words.
use Rattle.std.proofs.Common.{◌≡◌, ℕ, ◌+◌, ◌<◌, ◌≤◌, ◌^◌, ◌==◌, if◌then◌else◌, List, [], ◌∷◌, map, length, not, Option, None, sym, ap, ◌∙◌, refl, subst, arith}
use Rattle.std.specs.Prelude.{find, ◌||◌}
use Rattle.std.specs.List.{list_any, range_with_len}
use Rattle.std.specs.Option.{option_map}
use mathlib.Core.Option.{some-ne-none}
use lib.ListN.{get_elem?}
use Rattle.atomic_table.specs.Table.{Final, Seen}
use Rattle.atomic_table.specs.Seated.{TableId}
use Rattle.reg_model.specs.declared.desk.Closed.{Closed}
use Rattle.reg_model.specs.declared.desk.CloseWhy.TheVariants.{Missing}
use Rattle.reg_model.specs.Limits.{Limits}
use Rattle.reg_model.specs.declared.reply.Row.{Row}
use Rattle.reg_model.specs.declared.update.Update.{Update}
use Rattle.reg_model.specs.Accounts.{ShareLog}
use Rattle.reg_model.specs.Desks.{PassView, account_of, accounts_of, close_refusal, Closes}
use Rattle.reg_model.specs.Live.{live, opening_after}
use Rattle.reg_model.proofs.GivenPasses.{HasPass, has_pass, at_mapped}
use Rattle.reg_model.proofs.Merged.{accounts_merge}
use Rattle.reg_rule.specs.declared.view.Key.{Key}
use Rattle.reg_rule.specs.declared.view.Account.{Account}
use Rattle.reg_rule.specs.declared.view.View.{View}
use Rattle.reg_rule.specs.declared.view.Place.{Place}
use Rattle.reg_rule.specs.Log.{updates}
use Rattle.reg_rule.specs.Passes.{number_of, passes_shown}
use Rattle.reg_rule.specs.Seatings.{sealing}
use Rattle.reg_rule.specs.ReadersLog.{cells_of, IsLogOf}
use Rattle.reg_rule.specs.Readers.{WordsStand, EndsStanding}
use Rattle.reg_rule.specs.inner.World.{World}
use Rattle.reg_rule.specs.inner.SeatParts.{Owns}
use Rattle.reg_rule.specs.inner.Rule.{Kept}
use Rattle.reg_rule.specs.inner.Ending.{account_in, Gathered, rows_of, by_number, sealed_accounts}
use Rattle.reg_rule.specs.inner.Plays.{Sat}
use Rattle.reg_rule.proofs.AccountsShared.{by_session, by_session_same, shares, length_updates}
use Rattle.reg_rule.proofs.Balance.{live_fits}
use Rattle.reg_rule.proofs.Readers.{stands}

-- ---- the passes that were given

any_of : (passes : List (TableId × View)) (n : ℕ) → list_any (λ (p : TableId × View). number_of p.1 == n) passes ≡ list_any (λ (pass : PassView). pass.number == n) (passes_shown passes)
any_of [] n = refl
any_of (p ∷ passes) n = ap (λ b. (number_of p.1 == n) || b) (any_of passes n)

-- the least number that is missing, and why the round can't be closed
pub refusal_of : (callers many : ℕ) (now passes : List (TableId × View)) (o : Option ℕ) → o ≡ find (λ n. not (list_any (λ (p : TableId × View). number_of p.1 == n) now)) (range_with_len 0 callers)
    → now ≡ passes → callers ≡ many → close_refusal many (passes_shown passes) ≡ option_map Missing o
refusal_of callers many now passes o is same_passes same_callers =
    (λ i. close_refusal (sym same_callers i) (passes_shown (sym same_passes i))) ∙ sym (ap (option_map Missing) (is ∙ (λ i. find (λ n. not (any_of now n i)) (range_with_len 0 callers))))

-- where none is missing, there is a pass
pub some_pass : (callers : ℕ) (passes : List (TableId × View)) → 0 < callers → close_refusal callers (passes_shown passes) ≡ None → 0 < length passes
some_pass callers passes some all = there passes (has_pass callers (passes_shown passes) 0 all some)
  where
    there : (passes : List (TableId × View)) → HasPass (passes_shown passes) 0 → 0 < length passes
    there [] h = absurd (some-ne-none h.pass (sym h.at))
    there (p ∷ passes) h = omega arith

-- ---- the last words

-- the accounts of the rule are those of the passes
theirs : (key : Key) (w : World) (id : ℕ) (v : View) (passes : List PassView) → Owns key.sizes.callers w.accounts w.owner id v → v.accounts ≡ map account_in passes → close_refusal key.sizes.callers passes ≡ None
    → by_session key.sizes.callers w.accounts ≡ accounts_of key.sizes.callers passes
theirs key w id v passes owns are all = by_session_same key.sizes.callers w.accounts (account_of passes) (λ n low.
    let here = has_pass key.sizes.callers passes n all low in
    let mine = owns here.place (account_in here.pass) (ap (λ (l : List Account). get_elem? l here.place) are ∙ at_mapped account_in passes here.place here.pass here.at) in
    ap w.accounts (sym here.number) ∙ (mine.rows_are ∙ here.rows))

-- What the last words say once all passes were given.
pub record Ended (key : Key) (passes : List PassView) (words : List ℕ) : Type 0 where
  pub views : List View
  pub stand : WordsStand key (cells_of key words) views
  pub shared : ShareLog key.sizes key.carried (updates stand.log) (accounts_of key.sizes.callers passes)
  -- what the log leaves has room
  pub few : length (live key.carried (updates stand.log)) ≤ key.sizes.entries
  pub ids : key.carried.base + length (updates stand.log) ≤ 2 ^ 34

ends : (key : Key) (id : ℕ) (v : View) (passes : List PassView) (ws : List ℕ) (xs : List (Unit {0})) → Final (Seen (Kept key) id v) ws xs → v.accounts ≡ map account_in passes → close_refusal key.sizes.callers passes ≡ None
    → Ended key passes ws
ends key id v passes ws xs final are all =
    let s = final.0 in let k = final.1.0 in let at = final.1.1 in let w : World = k.world in
    subst (Ended key passes) final.2 record {
      views = s.views;
      stand = stands key (cells_of key s.words) w s.views k.inv;
      shared = subst (ShareLog key.sizes key.carried (updates w.log)) (theirs key w id v passes (k.inv.owns id v at) are all) (shares key w.log w.accounts k.inv.log.short k.inv.accounts);
      few = live_fits key _ _ w.log w.returned w.taken w.put _ k.inv.key_part k.inv.log.lawful k.inv.counts;
      ids = omega (arith, length_updates w.log, k.inv.log.short, k.inv.key_part.ids);
    }

-- the table was closed with the seat that had all accounts, once a seal had been split off
pub came_out : (key : Key) (id : ℕ) (gathered left : Sat) (passes : List PassView) (ws : List ℕ) (xs : List (Unit {0})) → Gathered key passes gathered → left ≡ (gathered.0, gathered.1) → close_refusal key.sizes.callers passes ≡ None
    → Final (Seen (Kept key) id left.0) ws xs → Ended key passes ws
came_out key id gathered left passes ws xs g same all final = ends key id left.0 passes ws xs final (ap (λ (z : Sat). z.0.accounts) same ∙ g.accounts) all

-- the log that was read off them is theirs
pub record Read (key : Key) (passes : List PassView) (words : List ℕ) (log : List Update) : Type 0 where
  pub ended : Ended key passes words
  pub is : log ≡ updates ended.stand.log

pub read_out : (key : Key) (sizes : Limits) (passes : List PassView) (words : List ℕ) (log : List Update) → Ended key passes words → sizes ≡ key.sizes → key.entries ≡ key.sizes.entries
    → ((k : Key) (places : List Place) → k.sizes ≡ sizes → k.entries ≡ sizes.entries → IsLogOf k (cells_of k words) places → log ≡ updates places) → Read key passes words log
read_out key sizes passes words log ended same entries reads = record {
  ended = ended;
  is = reads key ended.stand.log (sym same) (entries ∙ ap (λ (z : Limits). z.entries) (sym same)) ended.stand.log_stands.held;
}

-- what the seal keeps
rows_same : (passes : List PassView) (n : ℕ) → rows_of (map account_in passes) n ≡ account_of passes n
rows_same [] n = refl
rows_same (p ∷ passes) n = ap (λ rows. if p.number == n then p.account else rows) (rows_same passes n)

pub sealed : (key : Key) (gathered part : Sat) (passes : List PassView) (badges : List View) → Gathered key passes gathered → part ≡ (sealing gathered.0, []) → badges ≡ part.0 ∷ []
    → sealed_accounts badges ≡ accounts_of key.sizes.callers passes
sealed key gathered part passes badges g split badge =
    ap sealed_accounts (badge ∙ ap (λ (z : Sat). z.0 ∷ []) split) ∙ (ap (λ (x : Key). by_number x.sizes.callers gathered.0.accounts) g.knows ∙ (ap (by_number key.sizes.callers) g.accounts
    ∙ (λ i. map (λ n. rows_same passes n i) (range_with_len 0 key.sizes.callers))))

-- ---- the round that has ended

module _ (key : Key) (passes : List PassView) (words : List ℕ) (closed : Closed) (accounts : List (List Row)) (read : Read key passes words closed.log)
    (base : closed.base ≡ key.carried.base) (carried : closed.carried ≡ opening_after key.carried closed.log) (kept : accounts ≡ accounts_of key.sizes.callers passes) where
  shared : ShareLog key.sizes key.carried closed.log accounts
  shared = subst (λ (z : List Update × List (List Row)). ShareLog key.sizes key.carried z.0 z.1) (λ i. (sym read.is i, sym kept i)) read.ended.shared

  pub closes : Closes key.sizes key.carried closed accounts
  closes = record {
    base = base;
    numbered = shared.numbered;
    seen = shared.seen;
    merge = accounts_merge key.sizes key.carried closed.log accounts shared;
    carried = carried;
  }

  pub ends_standing : EndsStanding key closed.log accounts
  ends_standing = record { words = words; views = read.ended.views; stands = read.ended.stand; log_is = sym read.is; shared = shared }
